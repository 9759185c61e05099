use Rattle.std.proofs.Common.{◌≡◌, length}
use Rattle.std.specs.Io.KnownBytes.{Keeps}
use Rattle.tool_folder.proofs.reading.read_piece.Given as goal

-- the piece has its length, and nothing was read
abbrev pub invariant-reading : goal.invariant-reading
invariant-reading g l = (length l.piece ≡ length l.fn.piece) × Keeps (g.F.Read.remaining l.fn.file) (g.F.Read.remaining l.file)
