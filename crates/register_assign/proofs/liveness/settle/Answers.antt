use Rattle.std.proofs.Common.{arith}
use Rattle.register_assign.proofs.Marking.{settled}
use Rattle.register_assign.proofs.liveness.settle.Goals as goal

pub returns-then-not-changed : goal.returns-then-not-changed
returns-then-not-changed c =
    settled c.args.ops.now c.args.t c.loop-t.marks c.pass-changed.new.marks c.pass-changed.result (omega arith) c.pass-changed.ensures c.if-not-changed.true
