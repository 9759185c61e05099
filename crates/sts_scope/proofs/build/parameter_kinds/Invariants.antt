use Rattle.std.proofs.Common.{◌≡◌, ◌++◌, drop}
use Rattle.sts_syntax.specs.Views.{parameters}
use Rattle.sts_scope.specs.Values.{value_at}
use Rattle.sts_scope.specs.Entries as entry
use Rattle.sts_scope.proofs.build.parameter_kinds.Given as goal

abbrev pub invariant-loop-i : goal.invariant-loop-i
invariant-loop-i l =
    l.kinds ++ entry.parameter_kinds (value_at l.classes.values.items) (parameters (drop l.i l.params)) ≡ entry.parameter_kinds (value_at l.classes.values.items) (parameters l.params)
