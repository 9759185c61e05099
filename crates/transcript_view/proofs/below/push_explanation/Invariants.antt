use Rattle.std.proofs.Common.{◌≡◌, ◌++◌, length, map}
use Rattle.view_forms.specs.Parts.{lines_in}
use Rattle.view_forms.specs.Rows.{text_of_rows}
use Rattle.view_forms.specs.Below.{marked}
use Rattle.transcript_view.proofs.below.push_explanation.Given as goal

abbrev pub invariant-loop-left : goal.invariant-loop-left
invariant-loop-left l = l.out.items ++ text_of_rows (map marked (lines_in l.left)) ≡ l.fn.out.items ++ text_of_rows (map marked (lines_in l.text))

abbrev pub decreases-loop-left : goal.decreases-loop-left
decreases-loop-left l = length l.left
