-- When pieces stand in a flash, and what it is that they mean their effects there.
use Rattle.std.specs.Prelude.{◌≡◌, ℕ, ◌+◌, ◌%◌, ◌<◌, ◌≤◌, List, length, true, Some, slice_get}
use Rattle.thumb_code.specs.declared.register_file.Registers.{Registers}
use Rattle.thumb_code.specs.Map.{is_base, flash_end}
use Rattle.thumb_code.specs.Run.{Executor}
use Rattle.thumb_code.specs.Step.{Fetched}
use Rattle.thumb_layout.specs.declared.pieces.What.{What}
use Rattle.thumb_layout.specs.declared.pieces.Piece.{Piece}
use Rattle.thumb_layout.specs.declared.pieces.Piece.TheVariants.{Label, Go}
use Rattle.thumb_layout.specs.Pieces.{Places, goes_on}
use Rattle.thumb_layout.specs.Soundness.{IsSound, HasWords}
use Rattle.thumb_layout.specs.Cells.{laid}
use Rattle.thumb_layout.specs.Holds.{cost, Means}
use Rattle.thumb_layout.specs.Flash.{HasCode}

-- A flash has the laid code of sound pieces from a multiple of 4 on, with what was open in it: the functions' addresses, and the words for what is named.
pub record StandInFlash (flash : List ℕ) (base stack_base : ℕ) (entry : ℕ → ℕ) (word_of : What → ℕ)
    (xs : List Piece) : Type 0 where
  pub sound : IsSound xs
  pub words : HasWords xs
  pub stack : is_base stack_base ≡ true
  pub whole : base % 4 ≡ 0
  pub room : base + length (laid xs).bytes ≤ flash_end
  pub code : HasCode flash base entry word_of (laid xs)

-- Pieces mean their effects, at their places, at the states of a memory that belong to SP.
pub record MeanTheirEffects {S : Type 0} (over : Executor S) (Belongs : ℕ → S → Type 0) (fetch : ℕ → Fetched)
    (p : Places) (xs : List Piece) : Type 0 where
  -- from a piece's place the machine comes, in fewer instructions than the piece costs, which change no memory and ask for nothing, to one whose step is the piece's effect
  pub each : (i : ℕ) (x : Piece) → slice_get xs i ≡ Some x → 0 < cost x → (s : Registers) (t : S) → s.pc ≡ p.at i
      → Belongs s.sp t → Means over fetch p i x s t
  -- a label takes no instruction
  pub labels : (i label : ℕ) → slice_get xs i ≡ Some (Label label) → p.at (i + 1) ≡ p.at i
  -- behind a piece that goes on stands the next one
  pub next : (i : ℕ) (x : Piece) → slice_get xs i ≡ Some x → goes_on x ≡ true → p.behind i ≡ p.at (i + 1)
  -- a branch goes to the place of its label
  pub targets : (i cond label : ℕ) → slice_get xs i ≡ Some (Go cond label)
      → slice_get xs (p.label label) ≡ Some (Label label)
