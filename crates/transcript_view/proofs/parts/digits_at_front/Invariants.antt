use Rattle.std.proofs.Common.{◌≡◌, ◌+◌, drop}
use Rattle.std.specs.List.{prefix_len}
use Rattle.std.specs.Char.{is_ascii_digit}
use Rattle.transcript_view.proofs.parts.digits_at_front.Given as goal

abbrev pub invariant-loop-byte : goal.invariant-loop-byte
invariant-loop-byte l = (l.count ≡ l.byte-index) × (l.count + prefix_len is_ascii_digit (drop l.byte-index l.line) ≡ prefix_len is_ascii_digit l.line)
