use Rattle.std.proofs.Common.{◌≡◌, ◌++◌, drop}
use Rattle.sts_syntax.specs.Views.{parameters}
use Rattle.sts_scope.specs.Values.{value_at}
use Rattle.type_derive.specs.Returns.{parameter_locals}
use Rattle.type_derive.proofs.beginnings.add_parameters.Given as goal

abbrev pub invariant-loop-i : goal.invariant-loop-i
invariant-loop-i l =
    record l.locals { own = l.locals.own ++ parameter_locals (value_at l.classes.values.items) (parameters (drop l.i l.params)) }
    ≡ record l.fn.locals { own = l.fn.locals.own ++ parameter_locals (value_at l.classes.values.items) (parameters l.params) }
