use Rattle.std.proofs.Common.{◌≡◌, sym, ap, ◌∙◌, subst}
use Rattle.std.specs.Prelude.{IfOk}
use Rattle.sts_scope.specs.Failures.{Finds}
use Rattle.sts_scope.specs.Rules.{name_kind}
use Rattle.type_derive.specs.Scopes.{place}
use Rattle.type_check.specs.Seen.{plain, own_name}
use Rattle.type_check.proofs.Placed.{name_is}
use Rattle.type_check.proofs.nodes.name_seen.Goals as goal

pub returns-clause-found : goal.returns-clause-found
returns-clause-found c =
    let z = c.args.context.now in
    let p = place c.args.scope.now in
    subst (Finds c.found_seen.result) (ap (λ f. own_name z.tables.now z.known.now p c.args.role f c.args.at) c.name_found-found.ensures ∙ sym (name_is z p c.args.role c.args.at c.args.x)) c.found_seen.ensures.found

pub returns-clause-seen : goal.returns-clause-seen
returns-clause-seen c =
    let z = c.args.context.now in
    let p = place c.args.scope.now in
    subst (λ f. IfOk c.found_seen.result (λ s. s ≡ plain (name_kind z.known.now p f))) c.name_found-found.ensures c.found_seen.ensures.seen
