-- What stands below a line, by a table of lines and texts that explain them.
use Rattle.std.specs.Prelude.{ℕ, bytes_eq, if◌then◌else◌, List, [], ◌∷◌, ◌++◌, codes, Option, Some, None}
use Rattle.view_forms.specs.declared.below.Below.{Below}

-- the text that explains a line: that of the first entry which is of it
abbrev pub explanation_of : List Below → List ℕ → Option (List ℕ)
explanation_of [] line = None
explanation_of (it ∷ below) line = if bytes_eq it.line.now line then Some it.text.now else explanation_of below line

-- the row of a line of it, behind a space and a mark
abbrev pub marked : List ℕ → List ℕ
marked line = codes "  | " ++ line
