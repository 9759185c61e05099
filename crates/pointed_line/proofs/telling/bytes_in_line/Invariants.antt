use Rattle.std.proofs.Common.{◌≡◌, ◌+◌, drop, not}
use Rattle.std.specs.List.{prefix_len}
use Rattle.around_place.specs.Words.{breaks_line}
use Rattle.pointed_line.proofs.telling.bytes_in_line.Given as goal

abbrev pub invariant-loop-byte : goal.invariant-loop-byte
invariant-loop-byte l = (l.count ≡ l.byte-index) × (l.count + prefix_len (λ byte. not (breaks_line byte)) (drop l.byte-index l.text) ≡ prefix_len (λ byte. not (breaks_line byte)) l.text)
