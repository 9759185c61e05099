-- Tables of byte strings.
use Rattle.std.specs.Prelude.{◌≡◌, ℕ, List, Some, slice_get}

-- Equal spellings have equal numbers: no string stands at two places of the table.
abbrev pub IsDistinct : List (List ℕ) → Type 0
IsDistinct strings =
    (i j : ℕ) (string : List ℕ) → slice_get strings i ≡ Some string → slice_get strings j ≡ Some string → i ≡ j
