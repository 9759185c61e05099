use Rattle.std.proofs.Common.{sym, ap, ◌∙◌, subst}
use Rattle.sts_syntax.specs.Views.{declarations, form_statement}
use Rattle.sts_syntax.proofs.Laws.{let_statement}
use Rattle.sts_scope.specs.Failures.{Finds}
use Rattle.type_derive.specs.Passes.{main_failure, globals_failure}
use Rattle.type_derive.specs.Scopes.{naming}
use Rattle.type_check.proofs.passes.check_main.Goals as goal

pub returns-in-Let : goal.returns-in-Let
returns-in-Let c =
    let z = c.args.context.now in
    let s = c.args.s.now in
    let is = ap (form_statement s.at) c.in-Let.is ∙ let_statement s.at c.in-Let.fixed c.in-Let.each in
    subst (Finds c.check_globals.result)
    (ap (λ xs. globals_failure z.tables.now (naming z) z.known.now (declarations xs)) c.as_slice.ensures ∙ sym (ap (main_failure z.tables.now (naming z) z.known.now) is)) c.check_globals.ensures
