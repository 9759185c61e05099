use Rattle.std.proofs.Common.{◌≡◌, ◌*◌, take}
use Rattle.board_world.specs.Transcript.{hex_text}
use Rattle.board_outside.proofs.lines.write_digits.Given as goal

-- the digits of the bytes so far are written
abbrev pub invariant-loop-i : goal.invariant-loop-i
invariant-loop-i l = take (2 * l.i) l.digits ≡ hex_text (take l.i l.fn.bytes)
