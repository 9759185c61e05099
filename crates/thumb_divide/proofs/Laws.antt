-- The laws that other crates cite: what the routine does over any memory that reads a flash which has it.
use Rattle.std.proofs.Common.{◌≡◌, ℕ, zero, suc, ◌-◌, ◌/◌, ◌≤◌, List, true, false, nat_lt, min, refl, sym, ap, ◌∙◌, subst, arith}
use Rattle.thumb_code.specs.declared.register_file.Registers.{Registers}
use Rattle.thumb_code.specs.Forms.{ends, Goes}
use Rattle.thumb_code.specs.Map.{stack_at, is_base}
use Rattle.thumb_code.specs.Step.{Fetched, fetched}
use Rattle.thumb_code.specs.Run.{Executor, Still, runs, from_step, over_moving}
use Rattle.thumb_layout.specs.Holds.{Reads, Silent}
use Rattle.thumb_layout.proofs.Laws.{ComesSilently}
use Rattle.bank_model.specs.Bank.{Bank, bank_sp, bank_memory, bank_move}
use Rattle.thumb_divide.specs.Routine.{HasRoutine}
use Rattle.thumb_divide.proofs.Loop.{IsQuiet}
use Rattle.thumb_divide.specs.Steady.{Steps, Within}
use Rattle.thumb_divide.specs.Divides.{Divides}
use Rattle.thumb_divide.specs.Banked.{IsInRegion}
use Rattle.thumb_divide.proofs.Whole.{divides}
use Rattle.thumb_divide.proofs.Reading.{routine_stands}
pub use Rattle.thumb_divide.proofs.Reading.{routine_stands, bytes_have_routine}

-- a memory that reads a flash is quiet at each SP that is its own
pub reads_quiet : {S : Type 0} (over : Executor S) (flash : List ℕ) (At : ℕ → S → Type 0) → Reads over flash At → (sp : ℕ) (t : S) → At sp t → IsQuiet over t sp
reads_quiet over flash At reads sp t here r q e f = reads.same r q t (ends q.sp (Goes q)) (e ∙ sym f) ∙ reads.goes q.pc q t (subst (λ n. At n t) (sym f) here)

-- The routine divides over every memory that reads a flash which has it, wherever that is.
pub routine_divides : {S : Type 0} (over : Executor S) (flash : List ℕ) (At : ℕ → S → Type 0) → Reads over flash At → (base at : ℕ) → is_base base ≡ true → HasRoutine flash at
    → (sp : ℕ) (t : S) → At sp t → Divides over (fetched flash base) t sp at
routine_divides over flash At reads base at b has sp t here = divides over (fetched flash base) t sp at (reads_quiet over flash At reads sp t here) (routine_stands flash base at b has)

-- steps that leave the memory are silent instructions
pub steps_silent : {S : Type 0} (over : Executor S) (fetch : ℕ → Fetched) (t : S) (n : ℕ) (r q : Registers) → Steps over fetch t n r q → Silent over fetch n r t q t
steps_silent over fetch t zero r q e = ap (λ x. Still x t) e
steps_silent over fetch t (suc n) r q (m, first, others) = ap (from_step (runs over fetch n) n) first ∙ steps_silent over fetch t n m q others

-- the same as a run of silent instructions
pub within_reaches : {S : Type 0} (over : Executor S) (fetch : ℕ → Fetched) (t : S) (most : ℕ) (r q : Registers) → Within over fetch t most r q → ComesSilently over fetch 0 most r t q t
within_reaches over fetch t most r q w = record { count = w.count; some = omega arith; few = w.few; silent = steps_silent over fetch t w.count r q w.steps }

no : (x y : ℕ) → y ≤ x → nat_lt x y ≡ false
no x y l = grind arith

still : (b : Bank) (free : List ℕ) → bank_move (b, free) (bank_sp b) ≡ (b, free)
still b free =
    let r = no (bank_sp b) (bank_sp b) (omega arith) in
    let k : (bank_sp b - bank_sp b) / 4 ≡ 0 = omega arith in
    rw r (rw k refl)

-- a fiber's bank is quiet
pub quiet_bank : (b : Bank) (free : List ℕ) → IsInRegion b → IsQuiet (over_moving bank_memory bank_move) (b, free) (bank_sp b)
quiet_bank b free h r q e f =
    let l = h.low in
    let x = no q.sp stack_at (omega arith) in
    let y = no b.base q.sp (omega arith) in
    let m : min r.sp q.sp ≡ bank_sp b = omega arith in
    let s = still b free in
    rw x (rw y (rw m (rw s (rw f (rw s refl)))))

-- The routine divides over a fiber's bank.
pub divides_on_a_bank : (flash : List ℕ) (b : Bank) (free : List ℕ) (base at : ℕ) → is_base base ≡ true → IsInRegion b → HasRoutine flash at
    → Divides (over_moving bank_memory bank_move) (fetched flash base) (b, free) (bank_sp b) at
divides_on_a_bank flash b free base at e region has =
    divides (over_moving bank_memory bank_move) (fetched flash base) (b, free) (bank_sp b) at (quiet_bank b free region) (routine_stands flash base at e has)
