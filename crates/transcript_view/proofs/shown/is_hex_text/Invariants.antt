use Rattle.std.proofs.Common.{◌≡◌, length}
use Rattle.view_forms.specs.Pictures.{is_hex_text}
use Rattle.transcript_view.proofs.shown.is_hex_text.Given as goal

abbrev pub invariant-loop-left : goal.invariant-loop-left
invariant-loop-left l = is_hex_text l.left ≡ is_hex_text l.digits

abbrev pub decreases-loop-left : goal.decreases-loop-left
decreases-loop-left l = length l.left
