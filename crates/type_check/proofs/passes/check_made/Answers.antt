use Rattle.std.proofs.Common.{List, drop, sym, ap, ◌∙◌, subst}
use Rattle.sts_syntax.specs.declared.trees.Stmt.{Stmt}
use Rattle.sts_syntax.specs.Views.{trees, statement, statements}
use Rattle.sts_scope.specs.Failures.{Finds, ◌then◌}
use Rattle.type_derive.specs.Passes.{made_failure}
use Rattle.type_derive.specs.Scopes.{place, naming}
use Rattle.type_check.specs.Contexts.{statements_failure}
use Rattle.type_check.specs.Texts.{super_failure, unmade_failure}
use Rattle.type_check.proofs.Texts.{made_without, made_with, statements_first, rest_is}
use Rattle.type_check.proofs.passes.check_made.Goals as goal

pub returns-in-None : goal.returns-in-None
returns-in-None c =
    let z = c.args.context.now in
    let t = z.tables.now in
    let k = z.known.now in
    let p = place c.args.scope.now in
    let all = c.args.all.now in
    let first = statements_first all c.first-item.result c.in-len1-up.len_at_least c.first-item.is in
    let e = ap (made_failure t (naming z) k p c.args.at c.args.b) first
    ∙ made_without t (naming z) k p c.args.at c.args.b (statement c.first-item.result) (statements (drop 1 all)) (sym c.in-None.ensures)
    ∙ ap (unmade_failure t (naming z) k p c.args.at) (sym first) in
    subst (Finds c.check_unmade-in-None.result) (sym e) c.check_unmade-in-None.ensures

pub returns-in-Some : goal.returns-in-Some
returns-in-Some c =
    let z = c.args.context.now in
    let t = z.tables.now in
    let k = z.known.now in
    let p = place c.args.scope.now in
    let all = c.args.all.now in
    let first = statements_first all c.first-item.result c.in-len1-up.len_at_least c.first-item.is in
    let h = c.in-Some.head in
    let e = ap (made_failure t (naming z) k p c.args.at c.args.b) first
    ∙ made_with t (naming z) k p c.args.at c.args.b (statement c.first-item.result) (statements (drop 1 all)) (record { at = h.at; args = trees h.args.now }) (sym c.in-Some.ensures)
    ∙ ap (λ (xs : List Stmt). super_failure t (naming z) k p h.at c.args.b (trees h.args.now) then statements_failure z p (statements xs)) (sym (rest_is all)) in
    subst (Finds c.check_headed.result) (sym e) c.check_headed.ensures
