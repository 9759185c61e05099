use Rattle.register_assign.specs.Unread.{AreNotedAnew}
use Rattle.register_assign.proofs.unread.note.Given as goal

abbrev pub invariant-loop-at : goal.invariant-loop-at
invariant-loop-at l = AreNotedAnew l.ops l.t l.at l.fn.notes l.notes
