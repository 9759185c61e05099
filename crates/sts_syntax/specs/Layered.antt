-- A function applied many times.
use Rattle.std.specs.Prelude.{ℕ, zero, suc}

-- what a function gives of what it gives, so many times
abbrev pub layered : {X : Type 0} → (X → X) → ℕ → X → X
layered f zero x = x
layered f (suc n) x = f (layered f n x)
