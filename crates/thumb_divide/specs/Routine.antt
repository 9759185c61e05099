-- The routine's instructions, its bytes, and a flash that has it. R0 is the dividend and R1 the divisor, both with sign; it leaves the
-- quotient in R0 and the remainder in R1. It uses R2, R3 and R12 beside them, pushes nothing and calls nothing.
use Rattle.std.specs.Prelude.{◌≡◌, ℕ, zero, suc, ◌+◌, ◌*◌, ◌/◌, ◌%◌, ◌≤◌, List, [], ◌∷◌, ◌++◌, map, pos, negsuc, slice_get, Some}
use Rattle.thumb_code.specs.declared.instructions.Instr.{Instr}
use Rattle.thumb_code.specs.declared.instructions.Instr.TheVariants.{LslImm, LsrImm, CmpImm, MovImm, Rsb, AddImm8, MovHigh, Adc, CmpReg, SubReg, SubImm8, BCond, B, Bx}
use Rattle.thumb_code.specs.Map.{flash_end, flash_half}
use Rattle.thumb_code.specs.Step.{Fetched, Found}
use Rattle.thumb_code.specs.Table.{spelling}

-- The magnitudes are divided by shifting and subtracting, from the quotient's highest bit on: R0 has the quotient's bits so far, R2 what is
-- left of the dividend. R12 tells the signs: 2 for a dividend and 1 for a divisor below 0.
abbrev pub signs : List Instr
signs =
    CmpImm 1 0 ∷ BCond 1 (pos 2) ∷ MovImm 0 0 ∷ Bx 14  -- 0: by 0 both are 0
    ∷ MovImm 3 0 ∷ CmpImm 0 0 ∷ BCond 5 (pos 2) ∷ Rsb 0 0 ∷ MovImm 3 2  -- 4: the dividend's magnitude
    ∷ CmpImm 1 0 ∷ BCond 5 (pos 2) ∷ Rsb 1 1 ∷ AddImm8 3 1  -- 9: the divisor's
    ∷ MovHigh 12 3 ∷ MovHigh 2 0 ∷ MovImm 0 0 ∷ []  -- 13: all is left, and no bit of the quotient is there

-- The quotient has at most so many bits: to the round of the highest of them.
abbrev pub skip_to : ℕ → ℕ → List Instr
skip_to bits offset = LsrImm 3 2 bits ∷ CmpReg 3 1 ∷ BCond 3 (pos offset) ∷ []

abbrev pub skips : List Instr
skips = skip_to 1 204 ++ (skip_to 4 162 ++ (skip_to 8 108 ++ (skip_to 12 54 ++ (skip_to 16 0 ++ (B (pos 206) ∷ [])))))

-- One bit of the quotient, that of 2^place: whether the divisor times 2^place is at most what is left; it is then taken away.
abbrev pub round_above : ℕ → List Instr
round_above place = LsrImm 3 2 place ∷ CmpReg 3 1 ∷ BCond 3 (pos 2) ∷ LslImm 3 1 place ∷ SubReg 2 2 3 ∷ Adc 0 0 ∷ []

-- so many rounds, down to that of 2^lowest
abbrev pub rounds_above : ℕ → ℕ → List Instr
rounds_above zero lowest = []
rounds_above (suc more) lowest = round_above (more + lowest) ++ rounds_above more lowest

-- the lowest bit
abbrev pub last_round : List Instr
last_round = CmpReg 2 1 ∷ BCond 3 (pos 0) ∷ SubReg 2 2 1 ∷ Adc 0 0 ∷ []

abbrev pub signs_again : List Instr
signs_again =
    MovHigh 3 12 ∷ CmpImm 3 2 ∷ BCond 3 (pos 0) ∷ Rsb 2 2  -- the remainder has the dividend's sign
    ∷ SubImm8 3 1 ∷ CmpImm 3 2 ∷ BCond 2 (pos 0) ∷ Rsb 0 0  -- the quotient is below 0 where one of the two was
    ∷ MovHigh 1 2 ∷ Bx 14 ∷ []

-- The rounds of the 16 higher bits come last, with a branch back to the others.
abbrev pub routine : List Instr
routine = signs ++ (skips ++ (rounds_above 15 1 ++ (last_round ++ (signs_again ++ (rounds_above 16 16 ++ (B (negsuc 403) ∷ []))))))

-- its halfwords: each instruction is one
abbrev pub routine_halfwords : List ℕ
routine_halfwords = map spelling routine

-- halfwords as bytes, the low one first
abbrev pub bytes_of : List ℕ → List ℕ
bytes_of [] = []
bytes_of (h ∷ hs) = h % 256 ∷ h / 256 ∷ bytes_of hs

abbrev pub routine_bytes : List ℕ
routine_bytes = bytes_of routine_halfwords

-- how many bytes that is, and how many instructions a division takes at most
abbrev pub routine_length : ℕ
routine_length = 466

abbrev pub most_instructions : ℕ
most_instructions = 231

-- A flash has the routine at an even address.
pub record HasRoutine (flash : List ℕ) (at : ℕ) : Type 0 where
  pub even : at % 2 ≡ 0
  pub inside : at + routine_length ≤ flash_end
  pub halfwords : (i h : ℕ) → slice_get routine_halfwords i ≡ Some h → flash_half flash (at + 2 * i) ≡ h

-- Its instructions are fetched from an address on.
pub record HoldsRoutine (fetch : ℕ → Fetched) (at : ℕ) : Type 0 where
  pub each : (i : ℕ) (x : Instr) → slice_get routine i ≡ Some x → fetch (at + 2 * i) ≡ Found x (at + (2 * i + 2))
  pub low : at + routine_length ≤ flash_end
