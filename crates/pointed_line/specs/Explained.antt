-- What is told of a place of a text: a sentence, the place's line, a caret under the place, and an example.
use Rattle.std.specs.Prelude.{ℕ, ◌+◌, ◌-◌, not, List, [], ◌∷◌, ◌++◌, drop, slice_range, chars, codes, decimal, Option, Some, None}
use Rattle.std.specs.List.{prefix_len}
use Rattle.std.specs.Str.Lossy.{utf8_lossy}
use Rattle.around_place.specs.declared.explaining.Explanation.{Explanation}
use Rattle.around_place.specs.Words.{breaks_line}
use Rattle.near_names.specs.declared.meaning.Meant.{Meant}
use Rattle.pointed_line.specs.Columns.{written_from, as_shown, blank_at}

-- how many bytes of a text stand before its first line break
abbrev pub bytes_in_line : List ℕ → ℕ
bytes_in_line = prefix_len (λ byte. not (breaks_line byte))

-- what stands in a line before a place of that column, and the whole line, up to its end
abbrev pub front_of : List ℕ → (at column : ℕ) → List ℕ
front_of text at column = slice_range text (at - (column - 1)) at

abbrev pub place_line : List ℕ → (at column : ℕ) → List ℕ
place_line text at column = slice_range text (at - (column - 1)) (at + bytes_in_line (drop at text))

-- the line of a place as a terminal shows it, and a caret below it, behind as many columns as what stands before the place has
abbrev pub pointed : List ℕ → (at column : ℕ) → List ℕ
pointed text at column =
    codes "    " ++ (written_from as_shown 0 (chars (utf8_lossy (place_line text at column)))
    ++ (codes "\n    " ++ (written_from blank_at 0 (chars (utf8_lossy (front_of text at column))) ++ codes "^\n")))

-- where the bracket stands that a sentence speaks of
abbrev pub opened_at : (line column : ℕ) → List ℕ
opened_at line column =
    codes " It is opened in line " ++ (decimal line ++ (codes ", column " ++ (decimal column ++ codes ".")))

abbrev pub opened_words : Option (ℕ × ℕ) → List ℕ
opened_words None = []
opened_words (Some place) = opened_at place.0 place.1

abbrev pub example_line : List ℕ → List ℕ
example_line [] = []
example_line (byte ∷ bytes) = codes "for example: " ++ ((byte ∷ bytes) ++ codes "\n")

-- the whole, each part on lines of its own
abbrev pub explained_text : Explanation → List ℕ → (at column : ℕ) → List ℕ
explained_text said text at column =
    said.sentence.now
    ++ (opened_words said.opened ++ (codes "\n" ++ (pointed text at column ++ example_line said.example.now)))

-- bytes of a text as a terminal shows them
abbrev pub shown_in_line : List ℕ → List ℕ
shown_in_line bytes = written_from as_shown 0 (chars (utf8_lossy bytes))

-- that a word isn't there, and what is meant
abbrev pub meant_words : Meant → List ℕ
meant_words meant =
    codes "`" ++ (shown_in_line meant.word.now ++ (codes "` isn't there; did you mean `"
    ++ (meant.front.now ++ (shown_in_line meant.name.now ++ codes "`?\n"))))

-- what is told of a word that may be meant as another: this, and the place's line
abbrev pub meant_text : Meant → List ℕ → (at column : ℕ) → List ℕ
meant_text meant text at column = meant_words meant ++ pointed text at column
