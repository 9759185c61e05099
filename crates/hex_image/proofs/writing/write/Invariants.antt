use Rattle.std.proofs.Common.{◌≡◌}
use Rattle.std.specs.List.{flat_map, range_with_len}
use Rattle.hex_image.specs.Writing.{row_lines}
use Rattle.hex_image.proofs.writing.write.Given as goal

abbrev pub invariant-loop-k : goal.invariant-loop-k
invariant-loop-k l = l.out.items ≡ flat_map (row_lines l.image) (range_with_len 0 l.k)
