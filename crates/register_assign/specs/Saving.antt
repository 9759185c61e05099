-- Which of r4 to r7 a function saves for its caller.
use Rattle.std.specs.Prelude.{ℕ, zero, suc, ◌-◌, max}
use Rattle.flat_ir.specs.declared.ops.Function.{Function}
use Rattle.flat_ir.specs.WellFormed.{temporaries}
use Rattle.register_assign.specs.declared.places.Place.{Place}
use Rattle.register_assign.specs.declared.places.Place.TheVariants.{Reg, Slot, Incoming}

-- how many registers there are from r4 up to a place's
abbrev pub registers_to : Place → ℕ
registers_to (Reg r) = r - 3
registers_to (Slot j) = 0
registers_to (Incoming j) = 0

-- and up to the highest of those in which the first n temporaries stand
abbrev pub registers_of_first : (ℕ → Place) → ℕ → ℕ
registers_of_first place zero = 0
registers_of_first place (suc n) = max (registers_of_first place n) (registers_to (place n))

-- So many registers a function saves, from r4 on: up to the highest in which a temporary of its stands.
abbrev pub saves : Function → (ℕ → Place) → ℕ
saves f place = registers_of_first place (temporaries f)
