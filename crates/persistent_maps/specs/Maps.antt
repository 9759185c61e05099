-- A map from numbers to numbers that shares its parts with others.
use Rattle.std.specs.Prelude.{ℕ, zero, suc, ◌/◌, ◌%◌, ◌==◌, Option, None, if◌then◌else◌}
use Rattle.persistent_maps.specs.declared.maps.PersistentMap.{PersistentMap, Empty, Full'}

-- the value of a number among that of 0, those of the numbers behind even ones, and those of the numbers behind odd ones
abbrev pub value_among : Option ℕ → (ℕ → Option ℕ) → (ℕ → Option ℕ) → ℕ → Option ℕ
value_among value even odd zero = value
value_among value even odd (suc k) = if k % 2 == 0 then even (k / 2) else odd (k / 2)

-- the value of a number in a map
abbrev pub value_in : PersistentMap → ℕ → Option ℕ
value_in Empty x = None
value_in (Full' p value even odd) x = value_among value (λ k. value_in even k) (λ k. value_in odd k) x
