use Rattle.sts_scope.proofs.Puts.{IsPut}
use Rattle.sts_scope.proofs.lines.put_members.Given as goal

abbrev pub invariant-loop-x : goal.invariant-loop-x
invariant-loop-x l =
    (goal.iterator-loop-x).can_next l.x-iterator × (goal.iterator-loop-x).is_finite l.x-iterator × IsPut l.fn.own.entries l.x-iterator.iter l.fn.base l.made
