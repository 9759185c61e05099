-- The rules of declarations, over what the code knows.
use Rattle.std.specs.Prelude.{ℕ, Option, List}
use Rattle.sts_scope.specs.declared.kinds.StaticType.{StaticType}
use Rattle.sts_scope.specs.declared.known.Known.{Known}
use Rattle.sts_scope.specs.Values.{value_at}
use Rattle.type_derive.specs.Derived.{rule}
use Rattle.derived_types.specs.declared.rules.Rules.{Rules}
use Rattle.derived_types.specs.Origins.{sources}

-- the type that the rule of each declaration gives, from a table of types
abbrev pub rule_by : Rules → Known → List (Option StaticType) → ℕ → Option StaticType
rule_by r k = rule r.tables.now (value_at r.classes.now.values.items) k (sources r.origins.now)
