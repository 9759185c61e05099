-- How bytes stand in a text for people: what a terminal prints stands as it is, every other byte as \x and its two hexadecimal digits.
use Rattle.std.specs.Prelude.{ℕ, zero, suc, ◌+◌, ◌-◌, ◌*◌, ◌/◌, ◌%◌, ◌==◌, nat_lt, nat_le, Bool, false, not, ◌&&◌, ◌||◌, if◌then◌else◌, List, [], ◌∷◌, ◌++◌, get_or, flat_map}
use Rattle.std.specs.Fmt.{digit_glyph}

-- what ASCII prints, but for the quotation mark and the backslash
abbrev pub is_shown_plain : ℕ → Bool
is_shown_plain b = nat_le 32 b && (nat_lt b 127 && not (b == 34 || b == 92))

-- the two hexadecimal digits of a byte, in lower case
abbrev pub hex_pair : ℕ → List ℕ
hex_pair b = digit_glyph false (b / 16) ∷ (digit_glyph false (b % 16) ∷ [])

abbrev pub shown_byte : ℕ → List ℕ
shown_byte b = if is_shown_plain b then b ∷ [] else 92 ∷ (120 ∷ hex_pair b)

abbrev pub shown_bytes : List ℕ → List ℕ
shown_bytes = flat_map shown_byte

-- a byte of a character of two to four bytes, behind the first
abbrev pub is_tail : ℕ → Bool
is_tail b = nat_le 128 b && nat_lt b 192

-- the characters of two, three and four bytes
abbrev pub value_of_two : (a b : ℕ) → ℕ
value_of_two a b = 64 * (a - 192) + (b - 128)

abbrev pub value_of_three : (a b c : ℕ) → ℕ
value_of_three a b c = 4096 * (a - 224) + (64 * (b - 128) + (c - 128))

abbrev pub value_of_four : (a b c d : ℕ) → ℕ
value_of_four a b c d = 262144 * (a - 240) + (4096 * (b - 128) + (64 * (c - 128) + (d - 128)))

abbrev pub is_between : (low high c : ℕ) → Bool
is_between low high c = nat_le low c && nat_le c high

-- characters that aren't shown: controls, signs of width zero, ends of lines, marks of direction, surrogates, tags
abbrev pub stands_as_digits : ℕ → Bool
stands_as_digits c =
    is_between 0 159 c || ((c == 173) || ((c == 1564) || ((c == 6158) || (is_between 8203 8207 c
    || (is_between 8232 8238 c || (is_between 8288 8303 c || (is_between 55296 57343 c || ((c == 65279)
    || (is_between 65529 65535 c || is_between 917504 921599 c)))))))))

-- how many bytes a character has that begins a text, needs more than one byte, and is shown; else 0
abbrev pub is_two_bytes : (a b : ℕ) → Bool
is_two_bytes a b = is_between 192 223 a && (is_tail b && not (stands_as_digits (value_of_two a b)))

abbrev pub is_three_bytes : (a b c : ℕ) → Bool
is_three_bytes a b c =
    is_between 224 239 a && (is_tail b && (is_tail c && (nat_le 2048 (value_of_three a b c) && not (stands_as_digits (value_of_three a b c)))))

abbrev pub is_four_bytes : (a b c d : ℕ) → Bool
is_four_bytes a b c d =
    is_between 240 247 a && (is_tail b && (is_tail c && (is_tail d && (is_between 65536 1114111 (value_of_four a b c d)
    && not (stands_as_digits (value_of_four a b c d))))))

abbrev pub seen_size : List ℕ → ℕ
seen_size text =
    if is_two_bytes (get_or text 0 0) (get_or text 1 0) then 2
    else (if is_three_bytes (get_or text 0 0) (get_or text 1 0) (get_or text 2 0) then 3
    else (if is_four_bytes (get_or text 0 0) (get_or text 1 0) (get_or text 2 0) (get_or text 3 0) then 4 else 0))

-- a text for people, behind so many bytes of a character that has begun: such characters stand as they are
abbrev pub shown_from : ℕ → List ℕ → List ℕ
shown_from n [] = []
shown_from zero (b ∷ bs) =
    if nat_lt 0 (seen_size (b ∷ bs)) then b ∷ shown_from (seen_size (b ∷ bs) - 1) bs else shown_byte b ++ shown_from 0 bs
shown_from (suc n) (b ∷ bs) = b ∷ shown_from n bs

abbrev pub shown_text : List ℕ → List ℕ
shown_text = shown_from 0

-- the value of a hexadecimal digit in lower case
abbrev pub nibble : ℕ → ℕ
nibble d = if nat_lt d 58 then d - 48 else d - 87

-- the bytes of a text of such digits, two for each
abbrev pub bytes_of_hex : List ℕ → List ℕ
bytes_of_hex (h ∷ l ∷ rest) = (16 * nibble h + nibble l) ∷ bytes_of_hex rest
bytes_of_hex _ = []
