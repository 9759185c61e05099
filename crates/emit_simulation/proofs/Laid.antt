-- Pieces that stand in flash do their effects over a fiber's bank. And what straight pieces do to what a fiber sees.
use Rattle.std.specs.Prelude.{◌≡◌, ℕ, ◌+◌, ◌%◌, ◌^◌, ◌<◌, List, [], ◌∷◌, length, true, if◌then◌else◌, Some, slice_get, slice_set, slice_index}
use Rattle.thumb_code.specs.declared.instructions.Instr.{Instr}
use Rattle.thumb_code.specs.declared.register_file.Registers.{Registers}
use Rattle.thumb_code.specs.Map.{flash_byte}
use Rattle.thumb_code.specs.Step.{Fetched}
use Rattle.thumb_code.specs.Run.{Executor, over_moving}
use Rattle.bank_model.specs.Bank.{Bank, bank_memory, bank_move}
use Rattle.thumb_layout.specs.declared.pieces.What.{What}
use Rattle.thumb_layout.specs.declared.pieces.Piece.{Piece}
use Rattle.thumb_layout.specs.declared.pieces.Piece.TheVariants.{Plain, Label, Go, CallTo, Number, Address}
use Rattle.thumb_layout.specs.Pieces.{Places, is_small, goes_on, goes_on_instr}
use Rattle.thumb_layout.specs.Holds.{cost, Means}
use Rattle.thumb_layout.proofs.Laws.{ComesSilently}
use Rattle.thumb_code.specs.Arithmetic.{nz}
use Rattle.placed_frames.specs.Places.{Store}
use Rattle.placed_frames.proofs.Laws.{View, with_low, registers_of, bank_of, Alters, At}

-- a fiber's memory: its bank, and the free words
abbrev pub Fm : Type 0
Fm = Bank × List ℕ

abbrev pub over : Executor Fm
over = over_moving bank_memory bank_move

-- the flags behind a number's load
abbrev pub loaded_flags : ℕ → ℕ → ℕ
loaded_flags flags n = if is_small n then nz flags n else flags

-- a flash is made of bytes
abbrev pub AreBytes : List ℕ → Type 0
AreBytes flash = (k : ℕ) → flash_byte flash k < 256

-- an address of an instruction
abbrev pub IsEven : ℕ → Type 0
IsEven a = (a % 2 ≡ 0) × (a + 1 < 2 ^ 32)

-- The pieces stand at these places: each does its effect, a label takes nothing, where a piece goes on the next one is entered behind it, and a
-- label that is gone to is where it stands.
pub record Laid (fetch : ℕ → Fetched) (flash : List ℕ) (p : Places) (pieces : List Piece) : Type 0 where
  pub each : (i : ℕ) (x : Piece) → slice_get pieces i ≡ Some x → 0 < cost x → (s : Registers) (t : Fm) → s.pc ≡ p.at i
      → At flash s.sp t.0
      → Means over fetch p i x s t
  pub label : (i l : ℕ) → slice_get pieces i ≡ Some (Label l) → p.at i ≡ p.at (i + 1)
  pub next : (i : ℕ) (x : Piece) → slice_get pieces i ≡ Some x → goes_on x ≡ true → p.behind i ≡ p.at (i + 1)
  pub labels : (i c l j : ℕ) → slice_get pieces i ≡ Some (Go c l) → slice_get pieces j ≡ Some (Label l) → p.label l ≡ j
  pub behind_call : (i f : ℕ) → slice_get pieces i ≡ Some (CallTo f) → IsEven (p.behind i)
  pub behind_plain : (i : ℕ) (x : Instr) → slice_get pieces i ≡ Some (Plain x) → IsEven (p.behind i)

-- what a straight piece does
pub data Flows (flash : List ℕ) (p : Places) : Piece → View → View → Type 0 where
  OfInstr : (x : Instr) (v v' : View) → goes_on_instr x ≡ true → Alters flash x v v' → Flows flash p (Plain x) v v'
  OfLabel : (l : ℕ) (v : View) → Flows flash p (Label l) v v
  OfNumber : (rd n : ℕ) (v : View)
      → Flows flash p (Number rd n) v (record v { low = slice_set v.low rd n; flags = loaded_flags v.flags n })
  OfAddress : (rd : ℕ) (w : What) (v : View) → Flows flash p (Address rd w) v (with_low rd (p.word_of w) v)

abbrev pub AllFlow : List ℕ → Places → List Piece → View → View → Type 0
AllFlow flash p [] v v' = v ≡ v'
AllFlow flash p (x ∷ xs) v v' = (m : View) × Flows flash p x v m × AllFlow flash p xs m v'

abbrev pub step_of : Piece → ℕ
step_of (Label l) = 0
step_of _ = 1

abbrev pub steps_of : List Piece → ℕ
steps_of [] = 0
steps_of (x ∷ xs) = step_of x + steps_of xs

-- r4 to r7 and the bank, as frames have them
abbrev pub store_of : View → Store
store_of v = record {
  kept = slice_index v.low 4 ∷ (slice_index v.low 5 ∷ (slice_index v.low 6 ∷ (slice_index v.low 7 ∷ [])));
  words = v.words;
}

-- From piece i to piece j, where what is seen goes from v to v'. Only LR may change beside.
pub record Comes (fetch : ℕ → Fetched) (p : Places) (least most i j : ℕ) (v v' : View) (s : Registers) (b : Bank)
    (free : List ℕ) : Type 0 where
  pub link : ℕ
  pub long : length v'.words ≡ length b.words
  pub reach : ComesSilently over fetch least most (registers_of v (p.at i) s) (bank_of v b, free)
      (registers_of v' (p.at j) (record s { lr = link }))
      (bank_of v' b, free)
