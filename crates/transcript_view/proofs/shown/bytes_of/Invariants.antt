use Rattle.std.proofs.Common.{◌≡◌, ◌++◌, length, true}
use Rattle.view_forms.specs.Shown.{bytes_of_hex}
use Rattle.view_forms.specs.Pictures.{is_hex_text}
use Rattle.transcript_view.proofs.shown.bytes_of.Given as goal

abbrev pub invariant-loop-left : goal.invariant-loop-left
invariant-loop-left l = (l.bytes.items ++ bytes_of_hex l.left ≡ bytes_of_hex l.digits) × (is_hex_text l.left ≡ true)

abbrev pub decreases-loop-left : goal.decreases-loop-left
decreases-loop-left l = length l.left
