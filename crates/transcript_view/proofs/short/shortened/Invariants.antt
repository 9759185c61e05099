use Rattle.std.proofs.Common.{◌≡◌, ◌++◌, length}
use Rattle.view_forms.specs.Parts.{lines_in}
use Rattle.view_forms.specs.Rows.{text_of_rows}
use Rattle.view_forms.specs.Short.{short_lines}
use Rattle.transcript_view.proofs.short.shortened.Given as goal

abbrev pub invariant-loop-left : goal.invariant-loop-left
invariant-loop-left l = l.out.items ++ text_of_rows (short_lines (lines_in l.left)) ≡ text_of_rows (short_lines (lines_in l.input))

abbrev pub decreases-loop-left : goal.decreases-loop-left
decreases-loop-left l = length l.left
