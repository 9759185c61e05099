-- What is read of a reader, by what it has left before and after it, where it tells.
use Rattle.std.specs.Prelude.{◌≡◌, ◌≤◌, ◌++◌, ℕ, List, length, Option}
use Rattle.std.specs.Io.KnownBytes.{Consumes}

-- how often a read is tried that is interrupted each time: no contract counts that, as no reader tells of it
abbrev pub most_tries : ℕ
most_tries = 1048576

-- at most so many bytes were read
abbrev pub ReadsUpTo : ℕ → Option (List ℕ) → Option (List ℕ) → Type 0
ReadsUpTo most left left' = (bytes : List ℕ) × Consumes left left' bytes × (length bytes ≤ most)

-- so many bytes were read, and stand behind what was gathered before
abbrev pub Gathers : Option (List ℕ) → Option (List ℕ) → ℕ → (gathered gathered' : List ℕ) → Type 0
Gathers left left' count gathered gathered' =
    (bytes : List ℕ) × Consumes left left' bytes × (length bytes ≡ count) × (gathered' ≡ gathered ++ bytes)
