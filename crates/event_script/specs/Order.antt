-- Lists in the order of a number.
use Rattle.std.specs.Prelude.{ℕ, Bool, false, ◌||◌, nat_lt, List, [], ◌∷◌}

-- whether some item's number is below that of the one before; the first has this one before it
abbrev pub falls_by : {X : Type 0} → (X → ℕ) → ℕ → List X → Bool
falls_by number before [] = false
falls_by number before (x ∷ xs) = nat_lt (number x) before || falls_by number (number x) xs
