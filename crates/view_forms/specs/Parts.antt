-- The parts of a line of a transcript: its lead, which is the moment, of a class's line behind the board's number, and what is told behind that.
use Rattle.std.specs.Prelude.{ℕ, ◌+◌, ◌-◌, ◌==◌, bytes_eq, nat_le, Bool, ◌&&◌, if◌then◌else◌, List, [], ◌∷◌, length, get_or, take, drop}
use Rattle.std.specs.List.{prefix_len}
use Rattle.std.specs.Char.{is_ascii_digit}

-- the lines of a text: what stands before each LF, and what stands behind the last, where that isn't empty
abbrev pub before_lines : ℕ → List (List ℕ) → List (List ℕ)
before_lines b [] = (b ∷ []) ∷ []
before_lines b (l ∷ ls) = (b ∷ l) ∷ ls

abbrev pub lines_in : List ℕ → List (List ℕ)
lines_in [] = []
lines_in (b ∷ bs) = if b == 10 then [] ∷ lines_in bs else before_lines b (lines_in bs)

-- how many bytes the word at the front has, where it is a number of one to ten digits with a space behind it; else 0
abbrev pub number_size : List ℕ → ℕ
number_size line =
    let n = prefix_len is_ascii_digit line in if nat_le 1 n && (nat_le n 10 && (get_or line n 0 == 32)) then n else 0

-- the same of the lead: one such number, or two of which the first has one digit
abbrev pub lead_size : List ℕ → ℕ
lead_size line =
    if number_size line == 1 then (if number_size (drop 2 line) == 0 then 1 else number_size (drop 2 line) + 2)
    else number_size line

abbrev pub line_lead : List ℕ → List ℕ
line_lead line = take (lead_size line) line

-- what stands behind the lead and its space: the whole line where there is no lead
abbrev pub told_of : List ℕ → List ℕ
told_of line = if lead_size line == 0 then line else drop (lead_size line + 1) line

-- whether a list of bytes begins by another, or ends by it
abbrev pub begins_by : (text bytes : List ℕ) → Bool
begins_by text bytes = bytes_eq (take (length text) bytes) text

abbrev pub ends_by : (text bytes : List ℕ) → Bool
ends_by text bytes = bytes_eq (drop (length bytes - length text) bytes) text
