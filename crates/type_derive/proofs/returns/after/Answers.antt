use Rattle.std.proofs.Common.{◌≡◌, sym, ap, ◌∙◌, subst}
use Rattle.std.specs.Prelude.{OnOk}
use Rattle.sts_syntax.specs.Views.{declarations, form_statement}
use Rattle.sts_syntax.proofs.Laws.{let_statement}
use Rattle.type_derive.specs.Scopes.{naming, place}
use Rattle.type_derive.specs.Returns as given
use Rattle.type_derive.proofs.returns.after.Goals as goal

pub returns-in-Let : goal.returns-in-Let
returns-in-Let c =
    let s = c.args.context.now.tables.now in
    let f = naming c.args.context.now in
    let k = c.args.context.now.known.now in
    let p = place c.args.scope.now in
    let is = ap (form_statement c.args.s.now.at) c.in-Let.is ∙ let_statement c.args.s.now.at c.in-Let.fixed c.in-Let.each in
    subst (λ x. OnOk c.declare_all.result (place c.declare_all.new.scope ≡ x))
    (ap (λ xs. given.all_declared s f k p c.in-Let.fixed (declarations xs)) c.as_slice.ensures ∙ sym (ap (given.after s f k p) is))
    c.declare_all.ensures
