use Rattle.register_assign.specs.Unread.{AreNoted}
use Rattle.register_assign.proofs.unread.note_all.Given as goal

abbrev pub invariant-loop-t : goal.invariant-loop-t
invariant-loop-t l = AreNoted l.function.ops l.t l.notes
