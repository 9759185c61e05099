use Rattle.std.proofs.Common.{◌≡◌, ◌++◌, length}
use Rattle.view_forms.specs.Shown.{shown_text}
use Rattle.transcript_view.proofs.shown.push_shown_text.Given as goal

abbrev pub invariant-loop-left : goal.invariant-loop-left
invariant-loop-left l = l.out.items ++ shown_text l.left ≡ l.fn.out.items ++ shown_text l.text

abbrev pub decreases-loop-left : goal.decreases-loop-left
decreases-loop-left l = length l.left
