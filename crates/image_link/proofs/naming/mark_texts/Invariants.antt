use Rattle.std.proofs.Common.{◌≡◌, ℕ, ◌<◌, false, length, drop}
use Rattle.std.specs.Prelude.{◌||◌, slice_index_or}
use Rattle.image_link.proofs.Written.{names_text}
use Rattle.image_link.proofs.naming.mark_texts.Given as goal

-- what is marked, and what is left to mark, is the whole
abbrev pub invariant-loop-fix : goal.invariant-loop-fix
invariant-loop-fix l =
    (length l.marks ≡ length l.initial.marks)
    × ((i : ℕ) → i < length l.initial.marks → (names_text i (drop l.fix-index l.fixes) || slice_index_or l.marks i false) ≡ (names_text i l.fixes || slice_index_or l.initial.marks i false))
