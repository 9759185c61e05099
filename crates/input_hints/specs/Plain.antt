-- What a terminal prints as it is.
use Rattle.std.specs.Prelude.{ℕ, nat_lt, nat_le, Bool, ◌&&◌, IsTrue, List}
use Rattle.std.specs.List.{list_all}

-- the bytes that ASCII prints, from the space to the tilde
abbrev pub is_printed : ℕ → Bool
is_printed byte = nat_le 32 byte && nat_lt byte 127

abbrev pub IsPlain : List ℕ → Type 0
IsPlain bytes = IsTrue (list_all is_printed bytes)

-- what is added to such bytes is of them too
abbrev pub StaysPlain : List ℕ → List ℕ → Type 0
StaysPlain old new = IsPlain old → IsPlain new
