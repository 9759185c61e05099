use Rattle.std.proofs.Common.{sym, ap, ◌∙◌, subst}
use Rattle.std.specs.Prelude.{true}
use Rattle.sts_scope.specs.declared.known.Known.{Known}
use Rattle.sts_scope.specs.Values.{value_at}
use Rattle.type_derive.specs.Derived.{rule}
use Rattle.derived_types.specs.Origins.{sources}
use Rattle.derived_types.specs.Underway.{Moves}
use Rattle.type_derive.proofs.Laws.{none_if}
use Rattle.derived_types.proofs.Least.{said_one}
use Rattle.derived_types.proofs.Ruled.{monotone, known_at}
use Rattle.derived_types.proofs.solving.advance.Goals as goal

pub returns-in-Some-clause-moves : goal.returns-in-Some-clause-moves
returns-in-Some-clause-moves c =
    let t = c.args.rules.now.tables.now in
    let f = value_at c.args.rules.now.classes.now.values.items in
    let k = c.args.known.now in
    let s = sources c.args.rules.now.origins.now in
    let hollow = sym (c.kind_at.ensures ∙ known_at k c.args.d) ∙ none_if c.kind_at.result c.is_some.result c.is_some.ensures c.if-is_some.false in
    subst (λ zs. Moves (rule t f k s) k.kinds zs true) (sym (ap (λ (z : Known). z.kinds) c.set_kind.ensures))
    (said_one (rule t f k s) k.kinds c.args.d c.in-Some.kind (monotone t f k s) c.requires.within hollow (sym c.in_ok-derive.ensures ∙ c.in-Some.is) c.requires.underway)
