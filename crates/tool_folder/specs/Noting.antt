-- The names that a folder was asked for.
use Rattle.std.specs.Prelude.{◌≡◌, ◌⊎◌, ◌++◌, ◌∷◌, [], ℕ, List, map, string_bytes}
use Rattle.std.specs.declared.string.String.{String}
use Rattle.std.specs.declared.alloc.Global.{Global}

-- the texts of names
abbrev pub names_in : List (String Global) → List (List ℕ)
names_in names = map string_bytes names

-- A fetch noted the name behind those before it; or, where `lacking` says that there was no memory, none.
abbrev pub HasNoted : (asked asked' : List (List ℕ)) → (name : List ℕ) → (lacking : Type 0) → Type 0
HasNoted asked asked' name lacking = (asked' ≡ asked ++ name ∷ []) ⊎ (lacking × (asked' ≡ asked))
