-- Lines of a text.
use Rattle.std.specs.Prelude.{◌≡◌, ◌-◌, ℕ, List, length, Some, slice_get}

-- the text's last byte is a line's end
abbrev pub EndsLine : List ℕ → Type 0
EndsLine text = slice_get text (length text - 1) ≡ Some 10
