use Rattle.std.proofs.Common.{◌≡◌, ◌+◌, drop}
use Rattle.std.specs.Prelude.{is_some}
use Rattle.std.specs.List.{list_any}
use Rattle.hex_image.specs.Image.{cells_from}
use Rattle.hex_image.specs.Reading.{cell_at}
use Rattle.hex_image.proofs.flash.meets_given.Given as goal

abbrev pub invariant-loop-i : goal.invariant-loop-i
invariant-loop-i l =
    list_any (λ cell. is_some (cell_at l.flash cell.at)) (cells_from l.base (l.offset + l.i) (drop l.i l.bytes))
    ≡ list_any (λ cell. is_some (cell_at l.flash cell.at)) (cells_from l.base l.offset l.bytes)
