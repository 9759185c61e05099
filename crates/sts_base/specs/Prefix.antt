-- Beginnings of lists.
use Rattle.std.specs.Prelude.{◌≡◌, ◌++◌, List}

-- one list begins another
abbrev pub IsPrefix : {X : Type 0} → List X → List X → Type 0
IsPrefix {X} part whole = (rest : List X) × (part ++ rest ≡ whole)
