use Rattle.std.proofs.Common.{◌≡◌, ◌++◌, drop}
use Rattle.sts_syntax.specs.Views.{declarations}
use Rattle.sts_scope.specs.Numbers as number
use Rattle.typed_numbers.proofs.routine_numbers.add_globals.Given as goal

-- what is added, and what is left to add, is the whole
abbrev pub invariant-loop-global : goal.invariant-loop-global
invariant-loop-global l = l.routines ++ number.global_places (declarations (drop l._global-index l.each)) ≡ l.initial.routines ++ number.global_places (declarations l.each)
