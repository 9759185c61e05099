use Rattle.std.proofs.Common.{◌≡◌, ◌++◌, length, map, []}
use Rattle.view_forms.specs.Parts.{lines_in}
use Rattle.view_forms.specs.Rows.{rows_from, text_of_rows}
use Rattle.transcript_view.proofs.text.viewed.Given as goal

abbrev pub invariant-loop-left : goal.invariant-loop-left
invariant-loop-left l = l.out.items ++ text_of_rows (rows_from l.notes l.below l.most (map (λ it. it.now) l.waiting.items) (lines_in l.left)) ≡ text_of_rows (rows_from l.notes l.below l.most [] (lines_in l.input))

abbrev pub decreases-loop-left : goal.decreases-loop-left
decreases-loop-left l = length l.left
