-- The view of a transcript as a page, and how the transcript is read from it.
use Rattle.std.specs.Prelude.{ℕ, ◌==◌, Bool, not, ◌&&◌, ◌||◌, if◌then◌else◌, List, [], ◌∷◌, ◌++◌, length, drop, flat_map}
use Rattle.view_forms.specs.Shown.{is_shown_plain, hex_pair}
use Rattle.view_forms.specs.Reading.{unshown, before_byte}

-- a sign of markup: < > & " '
abbrev pub is_markup : ℕ → Bool
is_markup b = (b == 60) || ((b == 62) || ((b == 38) || ((b == 34) || (b == 39))))

-- a byte that stands in a page as it is: a line feed, and what a terminal prints too, but for markup; every other byte stands as in a text for people
abbrev pub stays_in_page : ℕ → Bool
stays_in_page b = (b == 10) || (is_shown_plain b && not (is_markup b))

abbrev pub page_byte : ℕ → List ℕ
page_byte b = if stays_in_page b then b ∷ [] else 92 ∷ (120 ∷ hex_pair b)

abbrev pub page_text : List ℕ → List ℕ
page_text = flat_map page_byte

-- a page: what stands before the transcript, the transcript, and what stands behind it, which is markup
abbrev pub page_view : (head tail : List ℕ) → List ℕ → List ℕ
page_view head tail input = head ++ (page_text input ++ tail)

-- the transcript of a page with that head: what stands behind it, up to the next markup
abbrev pub transcript_read : List ℕ → List ℕ → List ℕ
transcript_read head page = unshown (before_byte 60 (drop (length head) page))
