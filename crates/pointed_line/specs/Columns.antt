-- How a terminal shows a text whose tabs go on to the next multiple of eight columns. `behind` is how many columns behind such a stop a character stands.
use Rattle.std.specs.Prelude.{ℕ, ◌+◌, ◌-◌, ◌%◌, ◌==◌, ◌&&◌, nat_le, Bool, false, not, if◌then◌else◌, List, [], ◌∷◌, ◌++◌, length, flat_map, replicate, encode_utf8, Option, Some, None}
use Rattle.unicode_width.specs.Width.{char_width}
use Rattle.view_forms.specs.Shown.{hex_pair, stands_as_digits}

abbrev pub stop : ℕ
stop = 8

-- what isn't ASCII and stands by its digits in a text for people, except the mark of what is no UTF-8
abbrev pub is_unseen : ℕ → Bool
is_unseen character = nat_le 128 character && (not (character == 0xFFFD) && stands_as_digits character)

-- the bytes of a character, each as \x and its two hexadecimal digits
abbrev pub byte_digits : ℕ → List ℕ
byte_digits byte = 92 ∷ (120 ∷ hex_pair byte)

abbrev pub in_digits : ℕ → List ℕ
in_digits character = flat_map byte_digits (encode_utf8 character)

-- a character that has columns as it is, a control character by its digits
abbrev pub in_place : Option ℕ → ℕ → List ℕ
in_place None character = in_digits character
in_place (Some width) character = encode_utf8 character

abbrev pub width_in_place : Option ℕ → ℕ → ℕ
width_in_place None character = length (in_digits character)
width_in_place (Some width) character = width

-- a character as it is shown: a tab as spaces up to the next stop, a control character and a hidden one by its digits, every other one as it is
abbrev pub as_shown : (behind character : ℕ) → List ℕ
as_shown behind character =
    if character == 9 then replicate (stop - behind) 32
    else if is_unseen character then in_digits character else in_place (char_width false character) character

-- its columns: of spaces and digits as many as they are, of every other character those that Unicode gives it
abbrev pub columns : (behind character : ℕ) → ℕ
columns behind character =
    if character == 9 then stop - behind
    else if is_unseen character then length (in_digits character)
    else width_in_place (char_width false character) character

-- how far behind a stop the next character stands
abbrev pub behind_it : (behind character : ℕ) → ℕ
behind_it behind character = (behind + columns behind character) % stop

-- as many spaces as it has columns
abbrev pub blank_at : (behind character : ℕ) → List ℕ
blank_at behind character = replicate (columns behind character) 32

-- characters one behind the other, each written by where it stands
unfoldable pub written_from : (ℕ → ℕ → List ℕ) → ℕ → List ℕ → List ℕ
written_from write behind [] = []
written_from write behind (character ∷ characters) =
    write behind character ++ written_from write (behind_it behind character) characters
