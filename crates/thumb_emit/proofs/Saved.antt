-- Which registers a function saves, told by its temporaries.
use Rattle.std.proofs.Common.{zero, suc, ◌≡◌, ℕ, ◌+◌, ◌-◌, ◌<◌, ◌≤◌, Bool, true, false, nat_lt, max, refl, ap, arith}
use Rattle.std.proofs.lemmas.Bool.Decides.{nat_tests}
use Rattle.flat_ir.specs.declared.ops.Function.{Function}
use Rattle.flat_ir.specs.WellFormed.{temporaries}
use Rattle.register_assign.specs.declared.places.Place.{Place}
use Rattle.register_assign.specs.declared.places.Place.TheVariants.{Reg, Slot, Incoming}
use Rattle.register_assign.specs.Saving.{registers_to, registers_of_first, saves}
use Rattle.register_assign.proofs.Laws.{saves_each}

pub register_saved : (f : Function) (place : ℕ → Place) (t r : ℕ) → t < temporaries f → place t ≡ Reg r → r < 4 + saves f place
register_saved f place t r l e = let a = saves_each f place t l in let b : registers_to (place t) ≡ r - 3 = ap registers_to e in omega arith

-- the register that counts as so many is r4 and as many behind it, less one
register_counted : (p : Place) (n : ℕ) → registers_to p ≡ n + 1 → p ≡ Reg (4 + n)
register_counted (Reg r) n e = let z : r ≡ 4 + n = omega arith in ap Reg z
register_counted (Slot j) n e = absurd (omega arith)
register_counted (Incoming j) n e = absurd (omega arith)

-- the highest of the first n temporaries' is one's of them
highest_by : (place : ℕ → Place) (n k : ℕ) → max (registers_of_first place n) (registers_to (place n)) ≡ k + 1
    → (registers_of_first place n ≡ k + 1 → (t : ℕ) × (t < n) × (place t ≡ Reg (4 + k)))
    → (b : Bool) → nat_lt (registers_of_first place n) (registers_to (place n)) ≡ b → (t : ℕ) × (t < suc n) × (place t ≡ Reg (4 + k))
highest_by place n k e h true q =
    let l : registers_of_first place n < registers_to (place n) = grind (arith, nat_tests) in
    (n, omega arith, register_counted (place n) k (omega arith))
highest_by place n k e h false q =
    let l : registers_to (place n) ≤ registers_of_first place n = grind (arith, nat_tests) in
    let x = h (omega arith) in
    let i = x.1 in
    (x.0, omega arith, x.2)

highest_of : (place : ℕ → Place) (n k : ℕ) → registers_of_first place n ≡ k + 1 → (t : ℕ) × (t < n) × (place t ≡ Reg (4 + k))
highest_of place zero k e = absurd (omega arith)
highest_of place (suc n) k e =
    highest_by place n k e (highest_of place n k) (nat_lt (registers_of_first place n) (registers_to (place n))) refl

pub highest_used : (f : Function) (place : ℕ → Place) (k : ℕ) → saves f place ≡ k + 1 → (t : ℕ) × (t < temporaries f) × (place t ≡ Reg (4 + k))
highest_used f place k e = highest_of place (temporaries f) k e
