-- Pieces of at least one instruction that leave a word in a register, and else only in scratch registers.
use Rattle.std.specs.Prelude.{◌≡◌, ℕ, ◌+◌, ◌<◌, ◌≤◌, List, length, slice_index}
use Rattle.thumb_code.specs.declared.register_file.Registers.{Registers}
use Rattle.thumb_code.specs.Step.{Fetched}
use Rattle.bank_model.specs.Bank.{Bank}
use Rattle.thumb_layout.specs.declared.pieces.Piece.{Piece}
use Rattle.thumb_layout.specs.Pieces.{Places}
use Rattle.placed_frames.proofs.Laws.{View, At}
use Rattle.emit_simulation.proofs.Laid.{Comes}
use Rattle.emit_simulation.proofs.Starts.{StandAt}

-- A word stands in a register. Of r4 to r7 the others are as they were, and so is the bank.
pub record StandsIn (register word : ℕ) (before after : View) : Type 0 where
  pub low : length after.low ≡ 13
  pub word_is : slice_index after.low register ≡ word
  pub others : (i : ℕ) → 4 ≤ i → i < 8 → (i ≡ register → ⊥) → slice_index after.low i ≡ slice_index before.low i
  pub words : after.words ≡ before.words

pub record Leaving (fetch : ℕ → Fetched) (flash : List ℕ) (p : Places) (pieces : List Piece) (b : Bank) (free : List ℕ)
    (xs : List Piece) (v : View)
    (register word most i : ℕ) (s : Registers) : Type 0 where
  pub seen : View
  pub result : StandsIn register word v seen
  pub globals : seen.globals ≡ v.globals
  pub arena : seen.arena ≡ v.arena
  pub comes : Comes fetch p 1 most i (i + length xs) v seen s b free

-- wherever they stand, and whatever is in the scratch registers
abbrev pub AllLeave : (ℕ → Fetched) → List ℕ → Places → List Piece → Bank → List ℕ → List Piece → View
    → (register word most : ℕ) → Type 0
AllLeave fetch flash p pieces b free xs v register word most =
    (i : ℕ) (s : Registers) → StandAt pieces i xs → At flash s.sp b → length v.words ≡ length b.words
    → Leaving fetch flash p pieces b free xs v register word most i s
