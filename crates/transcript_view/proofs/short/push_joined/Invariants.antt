use Rattle.std.proofs.Common.{◌≡◌, ◌++◌, length}
use Rattle.view_forms.specs.Parts.{lines_in}
use Rattle.view_forms.specs.Rows.{text_of_rows}
use Rattle.view_forms.specs.Short.{texts_joined_from}
use Rattle.transcript_view.proofs.short.push_joined.Given as goal

abbrev pub invariant-loop-left : goal.invariant-loop-left
invariant-loop-left l = l.out.items ++ text_of_rows (texts_joined_from l.gathered.items (lines_in l.left)) ≡ l.fn.out.items ++ text_of_rows (texts_joined_from l.fn.gathered.items (lines_in l.text))

abbrev pub decreases-loop-left : goal.decreases-loop-left
decreases-loop-left l = length l.left
