use Rattle.std.proofs.Common.{◌≡◌, ℕ, subst}
use Rattle.std.specs.Prelude.{IfOk, nat_lt}
use Rattle.type_derive.specs.Scopes.{naming}
use Rattle.type_derive.specs.Derived.{follows}
use Rattle.derived_types.specs.Origins.{source}
use Rattle.derived_types.proofs.Ruled.{rule_none, rule_some}
use Rattle.derived_types.proofs.solving.derive.Goals as goal

pub returns-then-d-origins : goal.returns-then-d-origins
returns-then-d-origins c =
    subst (λ o. IfOk c.follow.result (λ kind. kind ≡ o))
    (rule_some c.args.context.now.tables.now (naming c.args.context.now) c.args.context.now.known.now c.args.origins.now c.args.d c.index-origins-d.result c.if-d-origins.true c.index-origins-d.is)
    (subst (λ (l : ℕ). IfOk c.follow.result (λ kind. kind ≡ follows (naming c.args.context.now) c.args.context.now.tables.now c.args.context.now.known.now (nat_lt c.args.d l) (source c.index-origins-d.result))) c.library.ensures c.follow.ensures)

pub returns-else-d-origins : goal.returns-else-d-origins
returns-else-d-origins c = rule_none c.args.context.now.tables.now (naming c.args.context.now) c.args.context.now.known.now c.args.origins.now c.args.d c.if-d-origins.false
