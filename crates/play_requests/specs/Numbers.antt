-- Numbers in a path.
use Rattle.std.specs.Prelude.{◌≤◌, ◌&&◌, nat_le, ℕ, Bool, List, length, if◌then◌else◌, Option, Some, None}
use Rattle.std.specs.Char.{is_ascii_digit}
use Rattle.std.specs.List.{list_all}
use Rattle.std.specs.Str.Parse.{digits_value}

-- one to eight decimal digits
abbrev pub is_path_number : List ℕ → Bool
is_path_number word = nat_le 1 (length word) && nat_le (length word) 8 && list_all is_ascii_digit word

-- the number that they write
abbrev pub path_number : List ℕ → Option ℕ
path_number word = if is_path_number word then Some (digits_value 10 word) else None

-- the budgets that may be asked for
abbrev pub IsAllowed : ℕ → Type 0
IsAllowed budget = (1 ≤ budget) × (budget ≤ 50000000)
