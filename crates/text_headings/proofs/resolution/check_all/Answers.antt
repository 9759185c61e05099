use Rattle.std.proofs.Common.{sym, subst, arith}
use Rattle.std.proofs.lemmas.Grind.{common_steps}
use Rattle.sts_syntax.specs.Programs.{top_levels}
use Rattle.sts_scope.specs.Values.{value_at}
use Rattle.text_headings.specs.Standing.{IsTextAt}
use Rattle.text_headings.proofs.resolution.check_all.Goals as goal

pub check_headings-requires : goal.check_headings-requires
check_headings-requires c =
    let d = c.args.declared.now in
    let names = value_at d.classes.values.items in
    subst (λ n. IsTextAt names d.known.entries n (top_levels c.as_slice.result.now)) (sym c.library.ensures)
    (subst (λ xs. IsTextAt names d.known.entries d.known.library (top_levels xs)) (sym c.as_slice.ensures) c.requires.stands.declared)

pub returns : goal.returns
returns c =
    let s = c.requires.stands.first_class in
    grind (arith, common_steps, s)
