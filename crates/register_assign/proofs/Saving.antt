-- A function saves each register in which a temporary of its stands, and no more than four.
use Rattle.std.proofs.Common.{zero, suc, ◌≡◌, ℕ, ◌<◌, ◌≤◌, Bool, true, false, nat_eq, max, refl, sym, subst, arith}
use Rattle.flat_ir.specs.declared.ops.Function.{Function}
use Rattle.flat_ir.specs.WellFormed.{temporaries}
use Rattle.register_assign.specs.declared.places.Place.{Place}
use Rattle.register_assign.specs.declared.places.Place.TheVariants.{Reg, Slot, Incoming}
use Rattle.register_assign.specs.Sound.{IsWithin}
use Rattle.register_assign.specs.Saving.{registers_to, registers_of_first, saves}

last_or_before : (place : ℕ → Place) (n t : ℕ) → t < suc n → (t < n → registers_to (place t) ≤ registers_of_first place n)
    → (b : Bool) → nat_eq t n ≡ b → registers_to (place t) ≤ max (registers_of_first place n) (registers_to (place n))
last_or_before place n t l h true e =
    let z : t ≡ n = grind arith in
    subst (λ m. registers_to (place m) ≤ max (registers_of_first place n) (registers_to (place n))) (sym z) (omega arith)
last_or_before place n t l h false e = let i : t < n = grind arith in let j = h i in omega arith

each_of_first : (place : ℕ → Place) (n t : ℕ) → t < n → registers_to (place t) ≤ registers_of_first place n
each_of_first place zero t l = omega arith
each_of_first place (suc n) t l = last_or_before place n t l (each_of_first place n t) (nat_eq t n) refl

-- a temporary's register is saved
pub saves_each : (f : Function) (place : ℕ → Place) (t : ℕ) → t < temporaries f → registers_to (place t) ≤ saves f place
saves_each f place t l = each_of_first place (temporaries f) t l

at_most_four : (f : Function) (p : Place) → IsWithin f p → registers_to p ≤ 4
at_most_four f (Reg r) w = let a = w.1 in omega arith
at_most_four f (Slot j) w = omega arith
at_most_four f (Incoming j) w = omega arith

few_of_first : (f : Function) (place : ℕ → Place) (n : ℕ) → ((t : ℕ) → t < n → IsWithin f (place t)) → registers_of_first place n ≤ 4
few_of_first f place zero h = omega arith
few_of_first f place (suc n) h =
    let a = few_of_first f place n (λ t l. h t (omega arith)) in
    let b = at_most_four f (place n) (h n (omega arith)) in
    omega arith

-- there are four
pub saves_few : (f : Function) (place : ℕ → Place) → ((t : ℕ) → t < temporaries f → IsWithin f (place t)) → saves f place ≤ 4
saves_few f place h = few_of_first f place (temporaries f) h
