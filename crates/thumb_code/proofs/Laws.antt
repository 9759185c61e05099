-- The laws that other crates cite. Beside those below: an effect over a memory that refines another does the same
-- (refined), and so does a run (runs_follow); SP stays a multiple of 4 (aligned_sp); where a service is asked for, PC alone has changed,
-- by an instruction over any memory (asks_only) and by a step (step_asks_only); a store into one RAM keeps the base (store_keeps_base).
use Rattle.std.proofs.Common.{Bool, List, if◌then◌else◌, ◌≡◌, ℕ, ◌+◌, ◌/◌, ◌%◌, ◌<◌, Some, refl, arith, true, false, inl, inr}
use Rattle.std.proofs.lemmas.Bool.Decides.{nat_tests}
use Rattle.thumb_code.specs.declared.instructions.Instr.{Instr}
use Rattle.thumb_code.specs.Table.{IsSpelling, half, Fits}
use Rattle.thumb_code.specs.Table.{is_two}
use Rattle.thumb_code.specs.Reading.{is_wide, reading_of}
use Rattle.thumb_code.specs.RegisterFile.{is_odd}
use Rattle.thumb_code.specs.Faults.{stack_range}
use Rattle.thumb_code.specs.Effect.{Effect}
use Rattle.thumb_code.specs.Memory.{Memory, Executed, Done, Asked, Stopped, after_move, accessed, execute, execute_moving}
use Rattle.thumb_code.specs.Map.{is_base, flash_half}
use Rattle.thumb_code.specs.Step.{Found, fetched, behind, is_in_flash}
use Rattle.thumb_code.proofs.Spelled.{one_or_two, starts_long, starts_short, narrow_only, wide_only}
pub use Rattle.thumb_code.proofs.Asking.{asks_only, step_asks_only}
pub use Rattle.thumb_code.proofs.Refine.{refined}
pub use Rattle.thumb_code.proofs.TakenWords.{over, Refines}
pub use Rattle.thumb_code.proofs.Runs.{aligned_sp, runs_follow}
pub use Rattle.thumb_code.proofs.Stores.{store_keeps_base}

-- the first halfword tells whether the instruction is two
pub is_wide-spelled : (i : Instr) (f s : ℕ) → Fits i → IsSpelling (half i) f s → is_wide f ≡ is_two (half i)
is_wide-spelled i f s h e = elim (one_or_two (half i) f s e) [
  | inl q ↦ rw q (grind (arith, nat_tests, starts_short i f h q))
  | inr q ↦ rw q (grind (arith, nat_tests, starts_long i f s h q))
]

-- what is spelled is read, as one halfword or two
pub reading_of-spelled : (i : Instr) (f s : ℕ) → Fits i → IsSpelling (half i) f s → reading_of f s ≡ Some i
reading_of-spelled i f s h e = elim (one_or_two (half i) f s e) [
  | inl q ↦ (let p : f / 2048 < 29 = starts_short i f h q in let t : is_wide f ≡ false = grind (arith, nat_tests) in rw t (narrow_only i f s p h e))
  | inr q ↦ (let p : 28 < f / 2048 = starts_long i f s h q in let t : is_wide f ≡ true = grind (arith, nat_tests) in rw t (wide_only i f s p h e))
]

-- an instruction that stands at an even PC, both halfwords in flash, is found there
pub fetched-spelled : (flash : List ℕ) (base pc : ℕ) (i : Instr) → is_base base ≡ true → pc % 2 ≡ 0 → is_in_flash flash pc ≡ true
    → Fits i → IsSpelling (half i) (flash_half flash pc) (flash_half flash (pc + 2))
    → fetched flash base pc ≡ Found i (behind pc (is_two (half i)))
fetched-spelled flash base pc i b p q h e =
    let o : is_odd pc ≡ false = grind (arith, nat_tests) in
    let w : is_wide (flash_half flash pc) ≡ is_two (half i) = is_wide-spelled i _ _ h e in
    let r : reading_of (flash_half flash pc) (flash_half flash (pc + 2)) ≡ Some i = reading_of-spelled i _ _ h e in
    rw (b, o, q, r, w) refl

-- over a memory that doesn't heed where SP goes, nothing is added
still : {S : Type 0} (x : Executed S) → after_move (λ t n. t) x ≡ x
still (Done r t) = refl
still (Asked n r t) = refl
still (Stopped k) = refl

still_if : {S : Type 0} (b : Bool) (x y : Executed S) → (if b then after_move (λ t n. t) x else y) ≡ (if b then x else y)
still_if true x y = still x
still_if false x y = refl

pub execute_moving-still : {S : Type 0} (m : Memory S) (t : S) (sp : ℕ) (e : Effect) → execute_moving m (λ t n. t) t sp e ≡ execute m t e
execute_moving-still m t sp e = still_if (m.has_sp t e.sp) (accessed m t e) (Stopped stack_range)
