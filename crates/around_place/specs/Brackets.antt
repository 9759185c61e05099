-- The bracket that is open at the end of a text.
use Rattle.std.specs.Prelude.{ℕ, ◌+◌, ◌-◌, ◌==◌, ◌&&◌, ◌||◌, Bool, false, List, [], ◌∷◌, if◌then◌else◌, Option, Some, None}
use Rattle.around_place.specs.Words.{from_word, behind_word}

-- a word opens a bracket: ( [ {
abbrev pub opens_bracket : List ℕ → Bool
opens_bracket [] = false
opens_bracket (byte ∷ rest) = (byte == 40) || ((byte == 91) || (byte == 123))

-- a word closes a bracket: ) ] }
abbrev pub closes_bracket : List ℕ → Bool
closes_bracket [] = false
closes_bracket (byte ∷ rest) = (byte == 41) || ((byte == 93) || (byte == 125))

-- How many brackets are open behind a word. A closing bracket closes the latest one that is open, of whatever kind, and does nothing where none is.
abbrev pub open_behind_word : ℕ → List ℕ → ℕ
open_behind_word count word = if opens_bracket word then count + 1 else if closes_bracket word then count - 1 else count

-- how many are open behind words
unfoldable pub open_count : ℕ → List (List ℕ) → ℕ
open_count count [] = count
open_count count (word ∷ words) = open_count (open_behind_word count word) words

-- the text behind its first word, where it begins with one
abbrev pub behind_first_word : List ℕ → List ℕ
behind_first_word [] = []
behind_first_word (first ∷ rest) = behind_word first rest

-- The text from the latest bracket on right behind which so many are open, where the words of the text stand behind so many; or what was found before them.
unfoldable pub latest_open : ℕ → ℕ → List ℕ → List (List ℕ) → Option (List ℕ) → Option (List ℕ)
latest_open all count text [] found = found
latest_open all count text (word ∷ words) found =
    latest_open all (open_behind_word count word) (behind_first_word (from_word text)) words
    (if opens_bracket word && (open_behind_word count word == all) then Some (from_word text) else found)

-- The text from the innermost_bracket open bracket on: the latest one right behind which as many are open as at the end.
abbrev pub innermost_bracket : List ℕ → List (List ℕ) → Option (List ℕ)
innermost_bracket text words = latest_open (open_count 0 words) 0 text words None
