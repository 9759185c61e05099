-- On the way to the least table: nothing is said too early, and what is said stays.
use Rattle.std.specs.Prelude.{◌≡◌, ◌<◌, ◌+◌, ℕ, Bool, true, false, Option, Some, None, List, [], ◌∷◌, length}
use Rattle.sts_scope.specs.declared.kinds.StaticType.{StaticType}
use Rattle.sts_scope.specs.declared.known.Known.{Known}
use Rattle.type_derive.specs.Derived.{Less, Within, Solves, at}

pub record IsUnderway (rule : List (Option StaticType) → ℕ → Option StaticType)
    (kinds : List (Option StaticType)) : Type 0 where
  pub below : (others : List (Option StaticType)) → length others ≡ length kinds → Solves rule others
      → Within kinds others
  pub kept : (d : ℕ) → d < length kinds → Less (at kinds d) (rule kinds d)

-- the rules of the first n declarations give nothing new
abbrev pub IsStill : (List (Option StaticType) → ℕ → Option StaticType) → List (Option StaticType) → ℕ → Type 0
IsStill rule kinds n = (d : ℕ) → d < n → at kinds d ≡ None → rule kinds d ≡ None

-- how many have no type
abbrev pub holes : List (Option StaticType) → ℕ
holes [] = 0
holes (None ∷ xs) = holes xs + 1
holes (Some t ∷ xs) = holes xs

-- one table, and one behind it in which something was said, or nothing
pub record Moves (rule : List (Option StaticType) → ℕ → Option StaticType) (old new : List (Option StaticType))
    (said : Bool) : Type 0 where
  pub underway : IsUnderway rule new
  pub len : length new ≡ length old
  pub fewer : said ≡ true → holes new < holes old
  pub idle : said ≡ false → new ≡ old

-- the same declarations, where types may differ
abbrev pub Keeps : Known → Known → Type 0
Keeps old new = new ≡ record old { kinds = new.kinds }
