-- What is said of a line, by a table whose rows have the beginning and the end of what the line tells, between which signs of numbers stand.
use Rattle.std.specs.Prelude.{ℕ, ◌-◌, ◌==◌, nat_le, Bool, not, ◌&&◌, ◌||◌, if◌then◌else◌, List, [], ◌∷◌, length, take, drop}
use Rattle.std.specs.List.{list_all}
use Rattle.view_forms.specs.declared.notes.Note.{Note}
use Rattle.view_forms.specs.Parts.{begins_by, ends_by}

-- what numbers are written with: hexadecimal digits in lower case, and spaces between
abbrev pub is_number_sign : ℕ → Bool
is_number_sign b = (b == 32) || ((nat_le 48 b && nat_le b 57) || (nat_le 97 b && nat_le b 102))

-- a sentence is one line
abbrev pub is_sentence : List ℕ → Bool
is_sentence = list_all (λ b. not (b == 10))

-- a row fits what a line tells where that begins and ends as it says, numbers stand between, and what it says is a sentence
abbrev pub fits_note : Note → List ℕ → Bool
fits_note note told =
    begins_by note.begins.now told
    && (is_sentence note.says.now && (let rest = drop (length note.begins.now) told in
    ends_by note.ends.now rest && list_all is_number_sign (take (length rest - length note.ends.now) rest)))

-- what the first row says that fits, behind a tab; nothing where none does
abbrev pub note_said : List Note → List ℕ → List ℕ
note_said [] told = []
note_said (note ∷ notes) told = if fits_note note told then 9 ∷ note.says.now else note_said notes told
