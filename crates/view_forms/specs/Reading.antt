-- How the lines of a transcript are read from its view as a text. The view's rows are its lines; a row that begins with a space is of pictures side by side, or of an explanation.
use Rattle.std.specs.Prelude.{ℕ, zero, suc, ◌+◌, ◌*◌, ◌/◌, ◌==◌, nat_lt, Bool, if◌then◌else◌, List, [], ◌∷◌, ◌++◌, length, get_or, take, drop, flat_map, codes}
use Rattle.std.specs.List.{list_any}
use Rattle.std.specs.Char.{is_ascii_digit}
use Rattle.view_forms.specs.Shown.{nibble, hex_pair}
use Rattle.view_forms.specs.Parts.{lines_in}
use Rattle.view_forms.specs.Pictures.{picture_columns}

abbrev pub is_byte : ℕ → Bool
is_byte b = nat_lt b 256

-- the bytes of a text as people see it: a backslash, an x and two digits are one byte, everything else is itself
abbrev pub unshown : List ℕ → List ℕ
unshown [] = []
unshown (b ∷ []) = b ∷ []
unshown (b ∷ (c ∷ [])) = b ∷ (c ∷ [])
unshown (b ∷ (c ∷ (d ∷ []))) = b ∷ (c ∷ (d ∷ []))
unshown (b ∷ (x ∷ (h ∷ (l ∷ rest)))) =
    if b == 92 then (16 * nibble h + nibble l) ∷ unshown rest else b ∷ unshown (x ∷ (h ∷ (l ∷ rest)))

-- what stands before the first such byte, and what stands behind it
abbrev pub before_byte : ℕ → List ℕ → List ℕ
before_byte c [] = []
before_byte c (b ∷ bs) = if b == c then [] else b ∷ before_byte c bs

abbrev pub behind_byte : ℕ → List ℕ → List ℕ
behind_byte c [] = []
behind_byte c (b ∷ bs) = if b == c then bs else behind_byte c bs

abbrev pub has_byte : ℕ → List ℕ → Bool
has_byte c = list_any (λ b. b == c)

-- a row without what is said behind a tab: between quotation marks stand bytes, which the line has as digits
abbrev pub line_told : List ℕ → List ℕ
line_told row =
    if has_byte 34 row then before_byte 34 row ++ flat_map hex_pair (unshown (before_byte 34 (behind_byte 34 row)))
    else unshown row

abbrev pub line_of_row : List ℕ → List ℕ
line_of_row row = line_told (before_byte 9 row)

abbrev pub without_spaces : List ℕ → List ℕ
without_spaces [] = []
without_spaces (b ∷ bs) = if b == 32 then without_spaces bs else b ∷ bs

-- the lights of a row of squares, of which each has two
abbrev pub light_of_byte : ℕ → List ℕ
light_of_byte b = if b == 150 then 35 ∷ [] else (if b == 183 then 46 ∷ [] else [])

abbrev pub halved : List ℕ → List ℕ
halved [] = []
halved (x ∷ []) = []
halved (x ∷ (y ∷ rest)) = x ∷ halved rest

abbrev pub lights_in : List ℕ → List ℕ
lights_in row = halved (flat_map light_of_byte row)

-- the lines of so many pictures side by side, by the heading over them and the lights of their five rows
abbrev pub pictures_read : ℕ → List ℕ → (a b c d e : List ℕ) → List (List ℕ)
pictures_read zero over a b c d e = []
pictures_read (suc n) over a b c d e =
    (without_spaces (take picture_columns over) ++ (codes " display "
    ++ (take 5 a ++ (47 ∷ (take 5 b ++ (47 ∷ (take 5 c ++ (47 ∷ (take 5 d ++ (47 ∷ take 5 e))))))))))
    ∷ pictures_read n (drop picture_columns over) (drop 5 a) (drop 5 b) (drop 5 c) (drop 5 d) (drop 5 e)

abbrev pub light_row : ℕ → List (List ℕ) → List ℕ
light_row r rows = lights_in (get_or rows r [])

abbrev pub pictures_under : List ℕ → List (List ℕ) → List (List ℕ)
pictures_under over rows =
    pictures_read (length (light_row 0 rows) / 5) over (light_row 0 rows) (light_row 1 rows) (light_row 2 rows)
    (light_row 3 rows) (light_row 4 rows)

-- the lines of a row before others: of a heading, which has a digit behind its spaces, those of the pictures under it; of squares none, since the heading has told, and of an explanation none
abbrev pub lines_of_row : List ℕ → List (List ℕ) → List (List ℕ)
lines_of_row row rows =
    if get_or row 0 0 == 32
    then (if is_ascii_digit (get_or (without_spaces row) 0 0) then pictures_under row rows else [])
    else line_of_row row ∷ []

abbrev pub rows_read : List (List ℕ) → List (List ℕ)
rows_read [] = []
rows_read (row ∷ rows) = lines_of_row row rows ++ rows_read rows

-- the lines of a view
abbrev pub lines_read : List ℕ → List (List ℕ)
lines_read text = rows_read (lines_in text)
