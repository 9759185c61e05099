use Rattle.std.proofs.Common.{◌≡◌, ◌++◌, sym, ap, ◌∙◌, subst}
use Rattle.std.specs.Prelude.{OnOk}
use Rattle.sts_syntax.specs.Views.{declarations, form_statement}
use Rattle.sts_syntax.proofs.Laws.{let_statement}
use Rattle.sts_scope.specs.Values.{value_at}
use Rattle.type_derive.specs.Derived as derived
use Rattle.derived_types.specs.Origins.{sources}
use Rattle.derived_types.proofs.origins.add_main.Goals as goal

pub returns-in-Let : goal.returns-in-Let
returns-in-Let c =
    let f = value_at c.args.classes.now.values.items in
    let s = c.args.s.now in
    let is = ap (form_statement s.at) c.in-Let.is ∙ let_statement s.at c.in-Let.fixed c.in-Let.each in
    subst (λ x. OnOk c.add_globals.result (sources c.add_globals.new.origins.items ≡ sources c.args.origins.now.items ++ x))
    (ap (λ xs. derived.global_sources f (declarations xs)) c.as_slice.ensures ∙ sym (ap (derived.main_sources f) is)) c.add_globals.ensures
