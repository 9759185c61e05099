use Rattle.std.proofs.Common.{◌≡◌, ◌++◌, drop}
use Rattle.sts_syntax.specs.Programs.{class_members}
use Rattle.sts_scope.specs.Values.{value_at}
use Rattle.type_derive.specs.Derived as derived
use Rattle.derived_types.specs.Origins.{sources}
use Rattle.derived_types.proofs.origins.add_members.Given as goal

abbrev pub invariant-loop-i : goal.invariant-loop-i
invariant-loop-i l =
    sources l.origins.items ++ derived.member_sources (value_at l.classes.values.items) l.class (class_members (drop l.i l.members))
    ≡ sources l.initial.origins.items ++ derived.member_sources (value_at l.classes.values.items) l.class (class_members l.members)
