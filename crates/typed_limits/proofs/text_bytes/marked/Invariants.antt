use Rattle.std.proofs.Common.{◌≡◌, ℕ, ◌<◌, false, length, drop}
use Rattle.std.specs.Prelude.{◌||◌, slice_index_or}
use Rattle.sts_syntax.specs.Nodes.{is_among}
use Rattle.typed_limits.proofs.text_bytes.marked.Given as goal

-- what is marked, and what is left to mark, is the whole
abbrev pub invariant-loop-text : goal.invariant-loop-text
invariant-loop-text l = (length l.marks.items ≡ l.count) × ((i : ℕ) → i < l.count → (is_among (drop l.text-index l.used) i || slice_index_or l.marks.items i false) ≡ is_among l.used i)
