use Rattle.std.proofs.Common.{◌≡◌, [], sym, ap, ◌∙◌, subst}
use Rattle.sts_base.specs.declared.refused.Code.TheVariants.{Mismatch}
use Rattle.sts_syntax.specs.Views.{trees}
use Rattle.sts_scope.specs.Failures.{Finds, ◌then◌, unless}
use Rattle.sts_scope.specs.Rules.{maker_takes_of}
use Rattle.type_derive.specs.Scopes.{place, naming}
use Rattle.type_check.specs.Seen.{fit_all, kinds_given}
use Rattle.type_check.proofs.Texts.{super_is}
use Rattle.type_check.proofs.passes.check_super.Goals as goal

pub returns : goal.returns
returns c =
    let z = c.args.context.now in
    let t = z.tables.now in
    let k = z.known.now in
    let p = place c.args.scope.now in
    let args = trees c.args.args.now in
    let takes = maker_takes_of k.classes c.args.b in
    let kinds = c.as_slice.ensures ∙ c.in_ok-kinds.ensures.kinds in
    let given = c.maker_takes.ensures in
    let go : c.all_go.result ≡ fit_all k.classes (kinds_given t k p [] args) takes =
    c.all_go.ensures ∙ ap (λ os. fit_all k.classes os c.maker_takes.result.now) kinds ∙ ap (λ ts. fit_all k.classes (kinds_given t k p [] args) ts) given in
    subst (Finds c.unless.result)
    (sym (super_is t (naming z) k p c.args.at c.args.b args
    ∙ ap (λ o. o then unless (fit_all k.classes (kinds_given t k p [] args) takes) Mismatch c.args.at) c.in_ok-kinds.ensures.found ∙ ap (λ y. unless y Mismatch c.args.at) (sym go)))
    c.unless.ensures
