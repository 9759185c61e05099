use Rattle.std.proofs.Common.{arith, ◌∙◌}
use Rattle.armv6m_machine.proofs.Lists.{fault_step}
use Rattle.armv6m_machine.proofs.transfers.check_words.Goals as goal

pub loop-i-preserved : goal.loop-i-preserved
loop-i-preserved g c = fault_step g.M.Memory.memory c.args.memory.now c.args.store c.args.at c.loop-i.i c.args.count (omega arith) c.in_default.ensures ∙ c.loop-i.invariant
