-- Lines that show a picture or a text, and how they stand in a view.
use Rattle.std.specs.Prelude.{ℕ, ◌-◌, ◌*◌, ◌==◌, nat_lt, nat_le, Bool, true, false, ◌&&◌, ◌||◌, if◌then◌else◌, List, [], ◌∷◌, ◌++◌, length, get_or, take, drop, replicate, flat_map, codes}
use Rattle.std.specs.List.{list_all}
use Rattle.view_forms.specs.Shown.{shown_text, bytes_of_hex}
use Rattle.view_forms.specs.Parts.{lead_size, line_lead, told_of, begins_by}

-- a light of a picture: # is lit and . is dark
abbrev pub is_light : ℕ → Bool
is_light b = b == 35 || b == 46

abbrev pub is_light_row : List ℕ → Bool
is_light_row row = (length row == 5) && list_all is_light row

-- row r of a picture, from 0
abbrev pub picture_row : ℕ → List ℕ → List ℕ
picture_row r picture = take 5 (drop (6 * r) picture)

-- five rows of five lights, joined by slashes
abbrev pub is_picture : List ℕ → Bool
is_picture p = (length p == 29)
    && ((is_light_row (picture_row 0 p) && ((get_or p 5 0 == 47)
    && (is_light_row (picture_row 1 p) && (get_or p 11 0 == 47))))
    && (is_light_row (picture_row 2 p) && ((get_or p 17 0 == 47)
    && (is_light_row (picture_row 3 p) && ((get_or p 23 0 == 47) && is_light_row (picture_row 4 p))))))

-- a line that shows a picture: behind its lead the word display and the picture
abbrev pub shows_picture : List ℕ → Bool
shows_picture line =
    nat_lt 0 (lead_size line) && (begins_by (codes "display ") (told_of line) && is_picture (drop 8 (told_of line)))

abbrev pub picture_of : List ℕ → List ℕ
picture_of line = drop 8 (told_of line)

-- a line that tells of bytes at the serial port: behind its lead the word serial and two hexadecimal digits for each byte
abbrev pub is_low_hex : ℕ → Bool
is_low_hex b = (nat_le 48 b && nat_le b 57) || (nat_le 97 b && nat_le b 102)

abbrev pub is_hex_text : List ℕ → Bool
is_hex_text (h ∷ l ∷ rest) = is_low_hex h && (is_low_hex l && is_hex_text rest)
is_hex_text [] = true
is_hex_text (h ∷ []) = false

abbrev pub shows_text : List ℕ → Bool
shows_text line =
    nat_lt 0 (lead_size line) && (begins_by (codes "serial ") (told_of line) && is_hex_text (drop 7 (told_of line)))

abbrev pub text_of_serial : List ℕ → List ℕ
text_of_serial line = bytes_of_hex (drop 7 (told_of line))

-- such a line with its bytes as people see them, between quotation marks
abbrev pub text_row : List ℕ → List ℕ
text_row line = line_lead line ++ (codes " serial \"" ++ (shown_text (text_of_serial line) ++ codes "\""))

-- two squares for a light: full ones where it is lit, else two dots
abbrev pub squares : ℕ → List ℕ
squares light =
    if light == 35 then 226 ∷ (150 ∷ (136 ∷ (226 ∷ (150 ∷ (136 ∷ []))))) else 194 ∷ (183 ∷ (194 ∷ (183 ∷ [])))

-- the columns of a picture with what is before it
abbrev pub picture_columns : ℕ
picture_columns = 13

-- a text at the right end of such columns
abbrev pub at_right : List ℕ → List ℕ
at_right text = replicate (picture_columns - length text) 32 ++ text

-- over pictures side by side stand their leads
abbrev pub heading : List (List ℕ) → List ℕ
heading lines = flat_map (λ line. at_right (line_lead line)) lines ++ codes " ms"

-- and below that their rows
abbrev pub squares_cell : ℕ → List ℕ → List ℕ
squares_cell r line = codes "   " ++ flat_map squares (picture_row r (picture_of line))

abbrev pub squares_row : ℕ → List (List ℕ) → List ℕ
squares_row r lines = flat_map (squares_cell r) lines

-- the rows of pictures side by side, of which there are some
abbrev pub picture_rows_of : List (List ℕ) → List (List ℕ)
picture_rows_of lines =
    heading lines ∷ (squares_row 0
    lines ∷ (squares_row 1 lines ∷ (squares_row 2 lines ∷ (squares_row 3 lines ∷ (squares_row 4 lines ∷ [])))))

abbrev pub picture_rows : List (List ℕ) → List (List ℕ)
picture_rows [] = []
picture_rows (l ∷ ls) = picture_rows_of (l ∷ ls)
