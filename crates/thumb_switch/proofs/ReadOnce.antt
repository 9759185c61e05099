-- What was read once tells what is fetched.
use Rattle.std.proofs.Common.{◌≡◌, ℕ, zero, suc, ◌*◌, ◌/◌, ◌%◌, ◌<◌, List, length, replicate, Bool, true, false, nat_eq, Option, Some, None, refl, sym, subst, arith, slice_index_or, slice_set}
use Rattle.std.proofs.lemmas.Bool.Decides.{nat_tests}
use Rattle.std.proofs.lemmas.List.{get_or-set_same, get_or-set_other}
use Rattle.thumb_code.specs.declared.instructions.Instr.{Instr}
use Rattle.thumb_code.specs.Table.{Fits}
use Rattle.thumb_code.specs.Step.{Found, behind}
use Rattle.thumb_switch.specs.Space.{fetched_in}
use Rattle.thumb_switch.specs.Desk.{on_desk}
use Rattle.thumb_switch.specs.ReadOnce.{TellsFetch, AreRead}
use Rattle.thumb_switch.specs.declared.desk.Desk.{Desk}

-- slots that nothing was read into tell nothing
pub nones_tell : (code : List ℕ) (n : ℕ) → AreRead code (replicate n None)
nones_tell code n place = by_slot (slice_index_or (replicate n None) place None) (none_at n place)
  where
    none_at : (n place : ℕ) → slice_index_or (replicate n (let x : Option (Instr × Bool) = None in x)) place None ≡ None
    none_at zero place = refl
    none_at (suc n) zero = refl
    none_at (suc n) (suc place) = none_at n place

    by_slot : (o : Option (Instr × Bool)) → o ≡ None → TellsFetch code (2 * place) o
    by_slot o e = subst (TellsFetch code (2 * place)) (sym e) tt

-- one more slot
pub one_read : (code : List ℕ) (slots : List (Option (Instr × Bool))) (k : ℕ) (slot : Option (Instr × Bool)) → k < length slots → AreRead code slots → TellsFetch code (2 * k) slot → AreRead code (slice_set slots k slot)
one_read code slots k slot l all tells place = by_test (nat_eq place k) refl
  where
    by_test : (b : Bool) → nat_eq place k ≡ b → TellsFetch code (2 * place) (slice_index_or (slice_set slots k slot) place None)
    by_test true e =
        let is : k ≡ place = grind (arith, nat_tests) in
        subst (λ j. TellsFetch code (2 * j) (slice_index_or (slice_set slots k slot) j None)) is (subst (TellsFetch code (2 * k)) (sym (get_or-set_same slots k slot None l)) tells)
    by_test false e =
        let not : place ≡ k → ⊥ = grind (arith, nat_tests) in
        subst (TellsFetch code (2 * place)) (sym (get_or-set_other slots k place slot None not)) (all place)

-- what a slot tells of a desk
pub slot_found : (d : Desk) (slots : List (Option (Instr × Bool))) (pc : ℕ) (x : Instr × Bool) → AreRead d.code.now slots → pc % 2 ≡ 0 → slice_index_or slots (pc / 2) None ≡ Some x
    → (fetched_in (on_desk d) pc ≡ Found x.0 (behind pc x.1)) × Fits x.0
slot_found d slots pc x all even is =
    let at : 2 * (pc / 2) ≡ pc = omega arith in
    let tells : TellsFetch d.code.now (2 * (pc / 2)) (Some x) = subst (TellsFetch d.code.now (2 * (pc / 2))) is (all (pc / 2)) in
    (subst (λ n. fetched_in (on_desk d) n ≡ Found x.0 (behind n x.1)) at (tells.0 d.runtime.now.machine.memory.stack (on_desk d).words), tells.1)
