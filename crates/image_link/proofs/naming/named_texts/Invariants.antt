use Rattle.std.proofs.Common.{◌≡◌, ℕ, ◌<◌, false, length, drop}
use Rattle.std.specs.Prelude.{◌||◌, slice_index_or}
use Rattle.image_link.specs.Image.{is_named}
use Rattle.image_link.proofs.naming.named_texts.Given as goal

-- what is marked, and what is left to mark, is the whole
abbrev pub invariant-loop-code : goal.invariant-loop-code
invariant-loop-code l = (length l.marks.items ≡ l.count) × ((i : ℕ) → i < l.count → (is_named (drop l.code-index l.laid) i || slice_index_or l.marks.items i false) ≡ is_named l.laid i)
