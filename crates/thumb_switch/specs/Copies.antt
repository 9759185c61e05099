-- What the routine does.
use Rattle.std.specs.Prelude.{◌≡◌, ◌≢◌, ℕ, zero, suc, ◌+◌, ◌*◌, ◌%◌, ◌<◌, ◌⊎◌, ◌==◌, length, true, false}
use Rattle.thumb_code.specs.declared.register_file.Registers.{Registers}
use Rattle.thumb_code.specs.Forms.{Access}
use Rattle.thumb_code.specs.Step.{On}
use Rattle.thumb_switch.specs.Routine.{routine_steps}
use Rattle.thumb_switch.specs.Space.{Space, back_at, in_stack, in_record, space_load, step_in, called, switched}

abbrev pub whole : ℕ → Access
whole at = record { at = at; bytes = 4 }

-- the word at an address
abbrev pub word_at : Space → ℕ → ℕ
word_at t at = space_load t (whole at)

-- A word of the stack region or of the record begins there.
pub record IsPlace (t : Space) (at : ℕ) : Type 0 where
  pub aligned : at % 4 ≡ 0
  pub there : (in_stack at ≡ true) ⊎ ((in_stack at ≡ false) × (in_record (length t.words) at ≡ true))
  pub low : at < back_at

-- So many words from one address on, and from another on, which don't overlap.
pub record AreRanges (t : Space) (source target count : ℕ) : Type 0 where
  pub sources : (i : ℕ) → i < count → IsPlace t (source + 4 * i)
  pub targets : (i : ℕ) → i < count → IsPlace t (target + 4 * i)
  pub apart : (i j : ℕ) → i < count → j < count → source + 4 * i ≢ target + 4 * j

-- The words are copied, and all other words stay.
pub record AreCopied (source target count : ℕ) (t u : Space) : Type 0 where
  pub code : u.code ≡ t.code
  pub stack : length u.stack ≡ length t.stack
  pub words : length u.words ≡ length t.words
  pub there : (i : ℕ) → i < count → word_at u (target + 4 * i) ≡ word_at t (source + 4 * i)
  pub elsewhere : (b : ℕ) → IsPlace t b → ((j : ℕ) → j < count → b ≢ target + 4 * j) → word_at u b ≡ word_at t b

-- One instruction is executed: it stands before back_at, doesn't fault, and asks for no service.
pub record ExecutesOne (t : Space) (r : Registers) (u : Space) (q : Registers) : Type 0 where
  pub goes : step_in t r ≡ On q u
  pub before : (r.pc == back_at) ≡ false

-- so many are, one after another
abbrev pub Pass : ℕ → Space → Registers → Space → Registers → Type 0
Pass zero t r u q = (t ≡ u) × (r ≡ q)
Pass (suc n) t r u q = (v : Space) × (m : Registers) × ExecutesOne t r v m × Pass n v m u q

-- The routine's execution: from its call to its return no instruction faults, and behind it the words are copied.
pub record Copies (source target count : ℕ) (t : Space) : Type 0 where
  pub steps : ℕ
  pub left : Space
  pub registers : Registers
  pub executes : switched source target count t ≡ (steps, left)
  pub pass : Pass steps t (called source target count) left registers
  pub returns : registers.pc ≡ back_at
  pub exact : steps ≡ routine_steps count
  pub copied : AreCopied source target count t left
