use Rattle.std.proofs.Common.{◌≡◌, drop}
use Rattle.sts_syntax.specs.Views.{parameters}
use Rattle.sts_scope.specs.Values.{value_at}
use Rattle.type_derive.specs.Nodes as node
use Rattle.type_check.proofs.bounds.check_parameter_types.Given as goal

abbrev pub invariant-loop-i : goal.invariant-loop-i
invariant-loop-i l =
    node.parameter_types_failure (value_at l.classes.values.items) (parameters (drop l.i l.params)) ≡ node.parameter_types_failure (value_at l.classes.values.items) (parameters l.params)
