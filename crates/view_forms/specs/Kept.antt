-- What a short view keeps of a transcript: every byte of its serial texts, and every line but for those that it
-- counts.
use Rattle.std.specs.Prelude.{◌≡◌, ◌<◌, ℕ, if◌then◌else◌, List, [], ◌∷◌, ◌++◌, length, drop, flat_map, codes}
use Rattle.std.specs.List.{AllByRecursion}
use Rattle.view_forms.specs.Parts.{line_lead, told_of}
use Rattle.view_forms.specs.Pictures.{shows_text}
use Rattle.view_forms.specs.Short.{left_out}

-- a line for each byte of a text, at the text's moment
abbrev pub bytes_apart : (lead digits : List ℕ) → List (List ℕ)
bytes_apart lead (h ∷ (l ∷ rest)) = (lead ++ (codes " serial " ++ (h ∷ (l ∷ [])))) ∷ bytes_apart lead rest
bytes_apart lead _ = []

-- lines whose serial texts are taken apart to their bytes
abbrev pub line_apart : List ℕ → List (List ℕ)
line_apart line = if shows_text line then bytes_apart (line_lead line) (drop 7 (told_of line)) else line ∷ []

abbrev pub texts_apart : List (List ℕ) → List (List ℕ)
texts_apart = flat_map line_apart

-- All lines of a whole, in their order, but that one line, which tells a moment and a count, may be in place of so many
-- lines of that moment.
pub data IsShortOf : (short whole : List (List ℕ)) → Type 0 where
  nothing : IsShortOf [] []
  kept : (line : List ℕ) (short whole : List (List ℕ)) → IsShortOf short whole → IsShortOf (line ∷ short) (line ∷ whole)
  counted : (lead : List ℕ) (gone short whole : List (List ℕ)) → 0 < length gone
      → AllByRecursion (λ line. line_lead line ≡ lead) gone → IsShortOf short whole
      → IsShortOf (left_out lead (length gone) ∷ short) (gone ++ whole)
