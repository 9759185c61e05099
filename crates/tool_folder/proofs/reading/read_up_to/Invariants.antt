use Rattle.std.proofs.Common.{◌≡◌, ◌≤◌, ◌+◌, length}
use Rattle.std.specs.Io.KnownBytes.{Consumes}
use Rattle.tool_folder.proofs.reading.read_up_to.Given as goal

-- what was read is gathered, and is no more than one byte past the limit
abbrev pub invariant-reading : goal.invariant-reading
invariant-reading g l =
    (length l.piece ≡ 4096) × (length l.whole.items ≤ l.limit + 1) × Consumes (g.F.Read.remaining l.fn.file) (g.F.Read.remaining l.file) l.whole.items
