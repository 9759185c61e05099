use Rattle.std.proofs.Common.{◌≡◌, ◌++◌, drop}
use Rattle.type_derive.proofs.locals.lent.Given as goal

abbrev pub invariant-loop-k : goal.invariant-loop-k
invariant-loop-k l = l.all.items ++ drop l.k l.around ≡ l.around
