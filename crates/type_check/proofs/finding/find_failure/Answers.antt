use Rattle.std.proofs.Common.{sym, subst, arith}
use Rattle.std.proofs.lemmas.Grind.{common_steps}
use Rattle.sts_syntax.specs.Programs.{top_levels}
use Rattle.sts_scope.specs.Values.{value_at}
use Rattle.text_headings.specs.Standing.{IsTextAt}
use Rattle.type_check.proofs.finding.find_failure.Goals as goal

pub check_all_overrides-requires : goal.check_all_overrides-requires
check_all_overrides-requires c =
    let d = c.args.declared.now in
    let names = value_at d.classes.values.items in
    subst (λ n. IsTextAt names d.known.entries n (top_levels c.as_slice-items.result.now)) (sym c.library-first.ensures)
    (subst (λ xs. IsTextAt names d.known.entries d.known.library (top_levels xs)) (sym c.as_slice-items.ensures) c.requires.declared)

pub check_nodes-requires : goal.check_nodes-requires
check_nodes-requires c =
    let d = c.args.declared.now in
    let names = value_at d.classes.values.items in
    subst (λ n. IsTextAt names d.known.entries n (top_levels c.as_slice-items.result.now)) (sym c.library-first.ensures)
    (subst (λ xs. IsTextAt names d.known.entries d.known.library (top_levels xs)) (sym c.as_slice-items.ensures) c.requires.declared)

pub returns-in_err-check_all_overrides : goal.returns-in_err-check_all_overrides
returns-in_err-check_all_overrides c =
    let s = c.requires.first_class in
    grind (arith, common_steps, s)

pub returns : goal.returns
returns c =
    let s = c.requires.first_class in
    grind (arith, common_steps, s)
