use Rattle.std.proofs.Common.{◌≡◌, ◌+◌, drop, nat_le}
use Rattle.std.specs.List.{list_any}
use Rattle.hex_image.specs.Image.{cells_from}
use Rattle.hex_image.specs.Spells.{flash_size}
use Rattle.hex_image.proofs.flash.passes_flash.Given as goal

abbrev pub invariant-loop-i : goal.invariant-loop-i
invariant-loop-i l =
    list_any (λ cell. nat_le flash_size cell.at) (cells_from l.base (l.offset + l.i) (drop l.i l.bytes))
    ≡ list_any (λ cell. nat_le flash_size cell.at) (cells_from l.base l.offset l.bytes)
