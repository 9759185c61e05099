use Rattle.sts_scope.proofs.Seeing.{IsUnderway, unseen}
use Rattle.sts_scope.proofs.lines.see.Given as goal

abbrev pub invariant-loop-next : goal.invariant-loop-next
invariant-loop-next l = IsUnderway l.classes l.initial.seen l.initial.order.items l.c l.seen l.order.items l.next

abbrev pub decreases-loop-next : goal.decreases-loop-next
decreases-loop-next l = unseen l.seen
