use Rattle.std.proofs.Common.{◌≡◌, length}
use Rattle.hex_image.specs.Records.{full_lines}
use Rattle.hex_image.specs.Reading.{behind_lines}
use Rattle.hex_image.specs.Reader.{seen}
use Rattle.hex_image.proofs.reading.take_lines.Given as goal

abbrev pub invariant-loop-rest : goal.invariant-loop-rest
invariant-loop-rest l =
    behind_lines (seen l.reader) (full_lines l.rest) ≡ behind_lines (seen l.fn.reader) (full_lines l.text)

abbrev pub decreases-loop-rest : goal.decreases-loop-rest
decreases-loop-rest l = length l.rest
