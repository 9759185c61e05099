use Rattle.std.proofs.Common.{◌≡◌, ◌+◌, ◌*◌, drop, length}
use Rattle.thumb_layout.specs.Cells.{with_cells}
use Rattle.thumb_layout.specs.Writing.{entry_words}
use Rattle.thumb_layout.proofs.laid.Laid.put_words.Given as goal

-- what is written, and what is left to write, is the whole
abbrev pub invariant-loop-entry : goal.invariant-loop-entry
invariant-loop-entry l =
    (with_cells l.self (entry_words (drop l.entry-index l.waiting)) ≡ with_cells l.initial.self (entry_words l.waiting))
    × (length l.self.bytes ≡ length l.initial.self.bytes + 4 * l.entry-index)
