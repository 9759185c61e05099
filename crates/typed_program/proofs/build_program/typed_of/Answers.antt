use Rattle.std.proofs.Common.{List, sym, subst, arith}
use Rattle.sts_syntax.specs.declared.units.Item.{Item}
use Rattle.sts_syntax.specs.Programs.{program, top_levels}
use Rattle.text_sizes.proofs.Laws.{routines_numbered}
use Rattle.typed_program.specs.Few.{AreFew}
use Rattle.typed_program.proofs.build_program.typed_of.Goals as goal

pub numbering-requires : goal.numbering-requires
numbering-requires c = record { few = omega (arith, c.requires.few.numbers, routines_numbered (program c.args.library.now), routines_numbered (program c.args.text.now)) }

pub build_planned-requires-clause-both : goal.build_planned-requires-clause-both
build_planned-requires-clause-both c =
    let library = sym c.as_slice-library.ensures in
    let text = sym c.as_slice-text.ensures in
    subst (λ (xs : List Item). AreFew (top_levels c.as_slice-library.result.now) (top_levels xs)) text
    (subst (λ (xs : List Item). AreFew (top_levels xs) (top_levels c.args.text.now.items)) library c.requires.few)
