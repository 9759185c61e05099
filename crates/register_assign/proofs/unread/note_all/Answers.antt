use Rattle.std.proofs.Common.{◌≡◌, List, length, subst, arith}
use Rattle.flat_ir.specs.declared.ops.Op.{Op}
use Rattle.flat_ir.specs.WellFormed.{temporaries}
use Rattle.register_assign.specs.Unread.{AreNoted, AreNotedAnew}
use Rattle.register_assign.proofs.Unreading.{noted_more}
use Rattle.register_assign.proofs.unread.note_all.Goals as goal

pub loop-t-preserved : goal.loop-t-preserved
loop-t-preserved c =
    noted_more c.args.function.now.ops c.loop-t.t c.loop-t.notes c.note.new.notes c.loop-t.invariant
    (subst (λ (q : List Op). AreNotedAnew q c.loop-t.t (length q) c.loop-t.notes c.note.new.notes) c.as_slice-ops.ensures c.note.ensures)

pub returns : goal.returns
returns c =
    let e : c.loop-t.t ≡ temporaries c.args.function.now = omega arith in
    subst (λ n. AreNoted c.args.function.now.ops n c.loop-t.notes) e c.loop-t.invariant
