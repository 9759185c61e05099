-- What a row asks of the text around a place, and which row is told.
use Rattle.std.specs.Prelude.{◌≡◌, ◌≢◌, ◌⊎◌, ℕ, ◌-◌, ◌==◌, ◌&&◌, ◌||◌, nat_lt, not, Bool, true, IsTrue, List, [], ◌∷◌, length, map, slice_index, Contains, Option, Some, None}
use Rattle.std.specs.Char.{is_ascii_digit, to_ascii_lowercase}
use Rattle.around_place.specs.declared.row.Around.{Around}
use Rattle.around_place.specs.declared.row.Inside.{Inside}
use Rattle.around_place.specs.declared.row.Inside.TheVariants.{Anything, Bracket, Unclosed, Nothing}
use Rattle.around_place.specs.declared.row.Row.{Row}
use Rattle.around_place.specs.declared.row.Test.{Test}
use Rattle.around_place.specs.declared.row.Test.TheVariants.{Is, Like, Name, Number, Text, Open, Sign, Foreign, With, Any}
use Rattle.around_place.specs.Words.{AreItsWords, opens_text, is_sign, in_a_name, beyond_ascii}

-- the byte with which a word begins
abbrev pub first_byte : List ℕ → ℕ
first_byte [] = 0
first_byte (byte ∷ rest) = byte

-- a text in quotes that its quote doesn't close
abbrev pub is_unclosed_text : List ℕ → Bool
is_unclosed_text word =
    opens_text (first_byte word)
    && (nat_lt (length word) 2 || not (slice_index word (length word - 1) == first_byte word))

-- a word is as asked
abbrev pub WordIsAsked : Test → List ℕ → Type 0
WordIsAsked (Is wanted) word = word ≡ wanted.now
WordIsAsked (Like wanted) word = map to_ascii_lowercase word ≡ map to_ascii_lowercase wanted.now
WordIsAsked Name word = IsTrue (in_a_name (first_byte word) && not (is_ascii_digit (first_byte word)))
WordIsAsked Number word = IsTrue (is_ascii_digit (first_byte word))
WordIsAsked Text word = IsTrue (opens_text (first_byte word))
WordIsAsked Open word = IsTrue (is_unclosed_text word)
WordIsAsked Sign word = IsTrue (is_sign (first_byte word))
WordIsAsked Foreign word = IsTrue (beyond_ascii (first_byte word))
WordIsAsked (With byte) word = Contains word byte
WordIsAsked Any word = Unit {0}

-- the first words are as asked, one by one, and there are no more of them where they are to be the whole
abbrev pub BeginsAsAsked : List Test → Bool → List (List ℕ) → Type 0
BeginsAsAsked [] whole words = IsTrue whole → words ≡ []
BeginsAsAsked (asked ∷ tests) whole [] = ⊥
BeginsAsAsked (asked ∷ tests) whole (word ∷ words) = WordIsAsked asked word × BeginsAsAsked tests whole words

-- the last words are as asked, one by one
abbrev pub EndsAsAsked : List Test → List (List ℕ) → Type 0
EndsAsAsked tests [] = BeginsAsAsked tests true []
EndsAsAsked tests (word ∷ words) = BeginsAsAsked tests true (word ∷ words) ⊎ EndsAsAsked tests words

-- the innermost_bracket bracket that is open is as asked
abbrev pub BracketIsAsked : Inside → Option ℕ → Type 0
BracketIsAsked Anything found = Unit {0}
BracketIsAsked (Bracket byte) found = found ≡ Some byte
BracketIsAsked (Unclosed byte) found = found ≡ Some byte
BracketIsAsked Nothing found = found ≡ None

-- What stands around a place: the words of its line up to it, all words before it, those from it on, and the bracket that is open there.
pub record Surroundings : Type 0 where
  pub line : List (List ℕ)
  pub before : List (List ℕ)
  pub behind : List (List ℕ)
  pub bracket : Option ℕ

-- the texts around a place have these words
pub record HasTheseWords (around : Around) (seen : Surroundings) : Type 0 where
  pub line : AreItsWords around.line.now seen.line
  pub before : AreItsWords around.before.now seen.before
  pub behind : AreItsWords around.at.now seen.behind
  pub bracket : around.bracket ≡ seen.bracket

-- what a row asks for stands around a place
pub record RowFits (row : Row) (seen : Surroundings) : Type 0 where
  pub bracket : BracketIsAsked row.inside seen.bracket
  pub behind : BeginsAsAsked row.at.now row.last seen.behind
  pub line : BeginsAsAsked row.line.now row.alone seen.line
  pub before : EndsAsAsked row.before.now seen.before

-- the first row that fits, or none where none does
abbrev pub IsFirstFit : List Row → Surroundings → Option Row → Type 0
IsFirstFit [] seen found = found ≡ None
IsFirstFit (row ∷ rows) seen found =
    (RowFits row seen × (found ≡ Some row)) ⊎ ((RowFits row seen → ⊥) × IsFirstFit rows seen found)

-- the same over tables, one behind the other
abbrev pub IsFirstOf : List (List Row) → Surroundings → Option Row → Type 0
IsFirstOf [] seen found = found ≡ None
IsFirstOf (table ∷ tables) seen found =
    ((found ≢ None) × IsFirstFit table seen found) ⊎ (IsFirstFit table seen None × IsFirstOf tables seen found)
