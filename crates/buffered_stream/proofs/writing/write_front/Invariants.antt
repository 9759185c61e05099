use Rattle.std.proofs.Common.{◌≤◌, length, take}
use Rattle.std.specs.Io.KnownBytes.{Appends}
use Rattle.buffered_stream.proofs.writing.write_front.Given as goal

-- so many bytes of the piece were written
abbrev pub invariant-writing : goal.invariant-writing
invariant-writing g l = (l.done ≤ length l.piece) × Appends (g.W.Write.contents l.initial.writer) (g.W.Write.contents l.writer) (take l.done l.piece)
