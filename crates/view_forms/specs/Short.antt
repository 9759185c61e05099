-- What a short view has of a long transcript: serial texts joined to their lines, and of a moment with many lines the first and the last.
use Rattle.std.specs.Prelude.{ℕ, ◌-◌, bytes_eq, nat_lt, nat_le, Bool, not, ◌&&◌, if◌then◌else◌, List, [], ◌∷◌, ◌++◌, length, get_or, take, drop, flat_map, codes, decimal}
use Rattle.view_forms.specs.Parts.{lead_size, line_lead, told_of, ends_by}
use Rattle.view_forms.specs.Pictures.{shows_text}

-- lines that have the same lead are of one moment
abbrev pub is_same_moment : (a b : List ℕ) → Bool
is_same_moment a b = nat_lt 0 (lead_size a) && bytes_eq (line_lead a) (line_lead b)

-- a text goes on in the next line where both are of one moment, no line of text ends between, and the line isn't long
abbrev pub text_goes_on : (a b : List ℕ) → Bool
text_goes_on a b =
    nat_lt (length a) 500
    && (is_same_moment a b && (not (ends_by (codes "0a") a) && (shows_text a && shows_text b)))

-- a line and those after it, texts joined
abbrev pub texts_joined_from : List ℕ → List (List ℕ) → List (List ℕ)
texts_joined_from a [] = a ∷ []
texts_joined_from a (b ∷ lines) =
    if text_goes_on a b then texts_joined_from (a ++ drop 7 (told_of b)) lines else a ∷ texts_joined_from b lines

abbrev pub texts_joined : List (List ℕ) → List (List ℕ)
texts_joined [] = []
texts_joined (a ∷ lines) = texts_joined_from a lines

-- lines by their moments, where some of the first moment were found before
abbrev pub moments_from : List (List ℕ) → List (List ℕ) → List (List (List ℕ))
moments_from found [] = found ∷ []
moments_from found (b ∷ lines) =
    if is_same_moment (get_or found 0 []) b then moments_from (found ++ b ∷ []) lines
    else found ∷ moments_from (b ∷ []) lines

abbrev pub moments : List (List ℕ) → List (List (List ℕ))
moments [] = []
moments (a ∷ lines) = moments_from (a ∷ []) lines

-- the line that says how many of a moment are left out
abbrev pub left_out : (lead : List ℕ) → (count : ℕ) → List ℕ
left_out lead count = lead ++ (codes " left out " ++ decimal count)

-- of a moment with more than 40 lines stand the first ten and the last ten, and between them how many were left out
abbrev pub short_moment : List (List ℕ) → List (List ℕ)
short_moment lines =
    if nat_le (length lines) 40 then lines
    else take 10 lines ++ (left_out (line_lead (get_or lines 0 [])) (length lines - 20) ∷ drop (length lines - 10) lines)

abbrev pub short_lines : List (List ℕ) → List (List ℕ)
short_lines lines = flat_map short_moment (moments lines)
