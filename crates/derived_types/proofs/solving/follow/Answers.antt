use Rattle.std.proofs.Common.{sym, ap, ◌∙◌}
use Rattle.sts_syntax.specs.Views.{statements}
use Rattle.type_derive.specs.Scopes.{naming}
use Rattle.type_derive.specs.Derived.{follows}
use Rattle.derived_types.specs.Origins.{source}
use Rattle.type_derive.specs.Returns as given
use Rattle.derived_types.proofs.solving.follow.Goals as goal

pub returns-in_ok-returned-in-Returns : goal.returns-in_ok-returned-in-Returns
returns-in_ok-returned-in-Returns c =
    let t = c.args.context.now.tables.now in
    let f = naming c.args.context.now in
    let k = c.args.context.now.known.now in
    let all = statements c.in-Returns.all.now in
    c.answered.ensures ∙ ap given.answered (c.in_ok-returned-in-Returns.ensures.value ∙ ap (λ q. given.all_returned t f k q all) c.in_ok-scope-in-Returns.ensures)
    ∙ sym (ap (λ o. follows f t k c.args.library (source o)) c.in-Returns.is)
