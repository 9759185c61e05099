-- The view of a transcript as a text: a row for each line, with those of its explanation below, and for pictures side by side a row of their moments and five of their lights.
use Rattle.std.specs.Prelude.{ℕ, ◌+◌, ◌/◌, ◌==◌, nat_lt, max, if◌then◌else◌, List, [], ◌∷◌, ◌++◌, length, map, get_or, drop, flat_map, codes, Option, Some, None}
use Rattle.view_forms.specs.Shown.{shown_bytes}
use Rattle.view_forms.specs.Parts.{lines_in, told_of}
use Rattle.view_forms.specs.Pictures.{shows_picture, shows_text, text_row, picture_columns, picture_rows}
use Rattle.view_forms.specs.Notes.{note_said}
use Rattle.view_forms.specs.Below.{explanation_of, marked}
use Rattle.view_forms.specs.declared.notes.Note.{Note}
use Rattle.view_forms.specs.declared.below.Below.{Below}

-- a line as people see its bytes; a space at its front is written out, since rows that begin with one are those of pictures
abbrev pub literal : List ℕ → List ℕ
literal line = if get_or line 0 0 == 32 then codes "\\x20" ++ shown_bytes (drop 1 line) else shown_bytes line

-- the rows of a line that shows neither a picture nor a text: with what is said of it, or above the text that explains it
abbrev pub told_rows : List Note → List ℕ → Option (List ℕ) → List (List ℕ)
told_rows notes line None = (literal line ++ note_said notes (told_of line)) ∷ []
told_rows notes line (Some text) = literal line ∷ map marked (lines_in text)

-- the rows of a line that shows no picture
abbrev pub line_rows : List Note → List Below → List ℕ → List (List ℕ)
line_rows notes below line =
    if shows_text line then text_row line ∷ [] else told_rows notes line (explanation_of below line)

-- the rows of lines behind pictures that wait: so many stand side by side at most, and none waits past a line without a picture
abbrev pub rows_from : List Note → List Below → ℕ → List (List ℕ) → List (List ℕ) → List (List ℕ)
rows_from notes below most waiting [] = picture_rows waiting
rows_from notes below most waiting (l ∷ ls) =
    if shows_picture l
    then (if nat_lt (length waiting + 1) most then rows_from notes below most (waiting ++ l ∷ []) ls
    else picture_rows (waiting ++ l ∷ []) ++ rows_from notes below most [] ls)
    else picture_rows waiting ++ (line_rows notes below l ++ rows_from notes below most [] ls)

-- rows as a text, each with its line's end
abbrev pub text_of_rows : List (List ℕ) → List ℕ
text_of_rows rows = flat_map (λ row. row ++ 10 ∷ []) rows

-- the view by a table of what is said of lines, and one of what stands below some, for a terminal that is that many columns wide
abbrev pub text_view : List Note → List Below → (width : ℕ) → (input : List ℕ) → List ℕ
text_view notes below width input =
    text_of_rows (rows_from notes below (max (width / picture_columns) 1) [] (lines_in input))
