use Rattle.std.proofs.Common.{◌≡◌, ◌++◌, drop}
use Rattle.sts_syntax.specs.Views.{declarations}
use Rattle.sts_scope.specs.Values.{value_at}
use Rattle.type_derive.specs.Derived as derived
use Rattle.derived_types.specs.Origins.{sources}
use Rattle.derived_types.proofs.origins.add_globals.Given as goal

abbrev pub invariant-loop-i : goal.invariant-loop-i
invariant-loop-i l =
    sources l.origins.items ++ derived.global_sources (value_at l.classes.values.items) (declarations (drop l.i l.each))
    ≡ sources l.initial.origins.items ++ derived.global_sources (value_at l.classes.values.items) (declarations l.each)
