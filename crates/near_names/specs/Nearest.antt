-- Which of some names a word may be meant as.
use Rattle.std.specs.Prelude.{ℕ, ◌==◌, ◌&&◌, ◌||◌, not, nat_eq, Bool, false, List, [], ◌∷◌, map, if◌then◌else◌, Option, Some, None}
use Rattle.std.specs.Cmp.Lexicographic.{pointwise}
use Rattle.std.specs.Char.{to_ascii_lowercase}

-- two words are the same, letter by letter
abbrev pub is_same_word : List ℕ → List ℕ → Bool
is_same_word = pointwise nat_eq

-- two words have the same letters, and not all in the same case
abbrev pub in_other_case : List ℕ → List ℕ → Bool
in_other_case word name = is_same_word (map to_ascii_lowercase word) (map to_ascii_lowercase name) && not (is_same_word word name)

-- a word is another with one letter more: its first one, or one after a letter that both begin with
unfoldable pub has_one_more : List ℕ → List ℕ → Bool
has_one_more [] short = false
has_one_more (letter ∷ long) [] = is_same_word long []
has_one_more (letter ∷ long) (first ∷ short) = is_same_word long (first ∷ short) || ((letter == first) && has_one_more long short)

-- a word is another with one letter other: its first one, or one after a letter that both begin with
unfoldable pub has_one_other : List ℕ → List ℕ → Bool
has_one_other [] name = false
has_one_other (letter ∷ word) [] = false
has_one_other (letter ∷ word) (first ∷ name) = if letter == first then has_one_other word name else is_same_word word name

-- after two letters come these two exchanged, and then the same
abbrev pub begin_exchanged : ℕ → ℕ → List ℕ → List ℕ → Bool
begin_exchanged a c [] name = false
begin_exchanged a c (b ∷ word) [] = false
begin_exchanged a c (b ∷ word) (d ∷ name) = (a == d) && ((b == c) && is_same_word word name)

-- a word is another with two neighbours exchanged: the first two, or two after a letter that both begin with
unfoldable pub has_two_exchanged : List ℕ → List ℕ → Bool
has_two_exchanged [] name = false
has_two_exchanged (a ∷ word) [] = false
has_two_exchanged (a ∷ word) (c ∷ name) = if a == c then has_two_exchanged word name else begin_exchanged a c word name

-- one letter more, less or other, or two exchanged
abbrev pub has_one_change : List ℕ → List ℕ → Bool
has_one_change word name =
    (has_one_more word name || has_one_more name word) || (has_one_other word name || has_two_exchanged word name)

-- the first name that passes a test
unfoldable pub first_that : (List ℕ → Bool) → List (List ℕ) → Option (List ℕ)
first_that test [] = None
first_that test (name ∷ names) = if test name then Some name else first_that test names

abbrev pub first_or : Option (List ℕ) → Option (List ℕ) → Option (List ℕ)
first_or None other = other
first_or (Some name) other = Some name

-- The nearest name: the first in another case, else the first with one change.
abbrev pub nearest : List ℕ → List (List ℕ) → Option (List ℕ)
nearest word names = first_or (first_that (in_other_case word) names) (first_that (has_one_change word) names)
