-- What is kept of an image beside its bytes.
use Rattle.std.proofs.Common.{◌≡◌, ℕ, zero, suc, ◌+◌, ◌*◌, List, [], ◌∷◌, ◌++◌, length, Bool, true, Option, None, refl, arith, get_or}
use Rattle.thumb_code.specs.declared.instructions.Instr.{Instr}
use Rattle.thumb_code.specs.Map.{is_base, ram_end}
use Rattle.thumb_code.specs.Step.{fetched}
use Rattle.armv6m_machine.specs.Steps.{IsSlot, AreSlots}

-- One more, behind the last.
pub slots_more : (flash : List ℕ) (at : ℕ) (xs : List (Option (Instr × Bool))) (x : Option (Instr × Bool)) → AreSlots flash at xs → IsSlot flash (at + 2 * length xs) x → AreSlots flash at (xs ++ x ∷ [])
slots_more flash at [] x h s = let e : at + 2 * 0 ≡ at = omega arith in (rw e at s, tt)
slots_more flash at (y ∷ ys) x h s =
    let e : at + 2 * suc (length ys) ≡ at + 2 + 2 * length ys = omega arith in
    (h.0, slots_more flash (at + 2) ys x h.1 (rw e at s))

-- What the one at a place tells.
pub slot_at : (flash : List ℕ) (at : ℕ) (xs : List (Option (Instr × Bool))) (k : ℕ) → AreSlots flash at xs → IsSlot flash (at + 2 * k) (get_or xs k None)
slot_at flash at [] k h = tt
slot_at flash at (y ∷ ys) zero h = let e : at + 2 * 0 ≡ at = omega arith in rw e h.0
slot_at flash at (y ∷ ys) (suc k) h =
    let e : at + 2 * suc k ≡ at + 2 + 2 * k = omega arith in
    rw e (slot_at flash (at + 2) ys k h.1)

-- What is fetched hangs on the base only as far as it is one.
pub over_any_base : (flash : List ℕ) (base pc : ℕ) → is_base base ≡ true → fetched flash base pc ≡ fetched flash ram_end pc
over_any_base flash base pc h = rw h refl
