use Rattle.std.proofs.Common.{◌≡◌, map, take, unwrap_or}
use Rattle.hex_image.proofs.flash.image_of.Given as goal

abbrev pub invariant-loop-cell : goal.invariant-loop-cell
invariant-loop-cell l = l.image.items ≡ map (λ cell. unwrap_or cell 0xFF) (take l.cell-index l.flash)
