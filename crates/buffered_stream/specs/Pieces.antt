-- What calls leave of a piece.
use Rattle.std.specs.Prelude.{◌≡◌, ◌++◌, ℕ, List, Option, take}
use Rattle.std.specs.Io.KnownBytes.{Appends}

-- known bytes grow by the front of a piece
abbrev pub AppendsFront : Option (List ℕ) → Option (List ℕ) → List ℕ → Type 0
AppendsFront old new piece = (n : ℕ) × Appends old new (take n piece)

-- the text ends with these bytes
abbrev pub IsSuffix : List ℕ → List ℕ → Type 0
IsSuffix bytes text = (front : List ℕ) × (front ++ bytes ≡ text)
