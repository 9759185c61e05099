-- What a call of the routine does.
use Rattle.std.specs.Prelude.{◌≡◌, ℕ, ◌-◌, ◌^◌, ◌<◌, true, length}
use Rattle.std.specs.Int.{cast_signed, cast_unsigned, w32}
use Rattle.thumb_code.specs.declared.register_file.Registers.{Registers}
use Rattle.thumb_code.specs.RegisterFile.{low, is_odd}
use Rattle.thumb_code.specs.Step.{Fetched}
use Rattle.thumb_code.specs.Run.{Executor}
use Rattle.bank_model.specs.AllServices.{quotient, remainder}
use Rattle.thumb_divide.specs.Routine.{most_instructions}
use Rattle.thumb_divide.specs.Steady.{Within}

-- How a call begins: at the routine's entry, with a return address that is a code address, and words in R0 and R1.
pub record Called (sp at : ℕ) (s : Registers) : Type 0 where
  pub pc : s.pc ≡ at
  pub sp_is : s.sp ≡ sp
  pub returns : is_odd s.lr ≡ true
  pub registers : length s.r ≡ 13
  pub dividend : low s 0 < 2 ^ 32
  pub divisor : low s 1 < 2 ^ 32

-- How it ends: behind the call, with the quotient in R0 and the remainder in R1, both as words of 32 bits. R4 to R11, SP and LR are as they were.
pub record Divided (s q : Registers) : Type 0 where
  pub pc : q.pc ≡ s.lr - 1
  pub sp_is : q.sp ≡ s.sp
  pub link : q.lr ≡ s.lr
  pub registers : length q.r ≡ 13
  pub quotient_is : low q 0 ≡ cast_unsigned w32 (quotient (cast_signed w32 (low s 0)) (cast_signed w32 (low s 1)))
  pub remainder_is : low q 1 ≡ cast_unsigned w32 (remainder (cast_signed w32 (low s 0)) (cast_signed w32 (low s 1)))
  pub words : (low q 0 < 2 ^ 32) × (low q 1 < 2 ^ 32)
  pub keeps : (k : ℕ) → 3 < k → k < 12 → low q k ≡ low s k

-- Each call divides, in at most so many instructions, none of which touches memory.
abbrev pub Divides : {S : Type 0} → Executor S → (ℕ → Fetched) → S → ℕ → ℕ → Type 0
Divides over fetch t sp at =
    (s : Registers) → Called sp at s → (q : Registers) × Within over fetch t most_instructions s q × Divided s q
