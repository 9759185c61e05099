use Rattle.std.proofs.Common.{◌≡◌, ◌+◌, drop, fold}
use Rattle.hex_image.specs.Image.{cells_from}
use Rattle.hex_image.specs.Reading.{put}
use Rattle.hex_image.proofs.flash.put_bytes.Given as goal

abbrev pub invariant-loop-i : goal.invariant-loop-i
invariant-loop-i l =
    fold put l.flash.items (cells_from l.base (l.offset + l.i) (drop l.i l.bytes))
    ≡ fold put l.fn.flash.items (cells_from l.base l.offset l.bytes)
