-- What the refusal of a text at a place means.
use Rattle.std.specs.Prelude.{◌≡◌, ℕ, ◌-◌, ◌≤◌, ◌⊎◌, List, take, drop, length, slice_range, Option, Some, None}
use Rattle.std.specs.Option.{option_map, MatchOption}
use Rattle.sts_base.specs.Places.{IsPlace}
use Rattle.around_place.specs.declared.explaining.Explanation.{Explanation}
use Rattle.around_place.specs.declared.row.Inside.{Inside}
use Rattle.around_place.specs.declared.row.Inside.TheVariants.{Unclosed}
use Rattle.around_place.specs.declared.row.Row.{Row}
use Rattle.around_place.specs.Brackets.{innermost_bracket}
use Rattle.around_place.specs.Rows.{Surroundings, IsFirstOf, first_byte}
use Rattle.around_place.specs.Words.{AreItsWords}

-- What stands around a place of a text, whose line begins so many bytes before it as its column tells: the words of the line up to it, those before it and from it on, and the innermost_bracket bracket that is open there.
pub record StandsAround (text : List ℕ) (at column : ℕ) (seen : Surroundings) : Type 0 where
  pub line : AreItsWords (slice_range text (at - (column - 1)) at) seen.line
  pub before : AreItsWords (take at text) seen.before
  pub behind : AreItsWords (drop at text) seen.behind
  pub bracket : seen.bracket ≡ option_map first_byte (innermost_bracket (take at text) seen.before)

-- the line and the column of a bracket from which a text stands up to a place; none is told past 4294967294 bytes
abbrev pub IsBracketPlace : List ℕ → ℕ → Option (List ℕ) → Option (ℕ × ℕ) → Type 0
IsBracketPlace text at None opened = opened ≡ None
IsBracketPlace text at (Some rest) opened =
    MatchOption opened (4294967295 ≤ at - length rest) (λ place. IsPlace text (at - length rest) place.0 place.1)

-- a row that speaks of the bracket tells its place, and another tells none
abbrev pub opened_as : Inside → Option (ℕ × ℕ) → Option (ℕ × ℕ)
opened_as (Unclosed byte) place = place
opened_as _ place = None

-- what is told where a row fits: its sentence, its example, and the bracket
pub record IsSaidBy (row : Row) (text : List ℕ) (at : ℕ) (bracket : Option (List ℕ)) (said : Explanation) : Type 0 where
  pub sentence : said.sentence ≡ row.sentence
  pub example : said.example ≡ row.example
  pub place : Option (ℕ × ℕ)
  pub stands : IsBracketPlace text at bracket place
  pub opened : said.opened ≡ opened_as row.inside place

-- what is told, by a row or where none fits
abbrev pub IsSaid : Option Row → Explanation → List ℕ → ℕ → Option (List ℕ) → Explanation → Type 0
IsSaid None other text at bracket said = said ≡ other
IsSaid (Some row) other text at bracket said = IsSaidBy row text at bracket said

-- The explanation of a place of a text by tables: by the first row that fits what stands around the place, else another.
abbrev pub Explains : List (List Row) → Explanation → List ℕ → ℕ → ℕ → Explanation → Type 0
Explains tables other text at column said =
    (seen : Surroundings) → StandsAround text at column seen → (found : Option Row)
    × (IsFirstOf tables seen found × IsSaid found other text at (innermost_bracket (take at text) seen.before) said)

-- a place of that line and column, or the text's end where it has none
abbrev pub IsFound : List ℕ → ℕ → ℕ → ℕ → Type 0
IsFound text line column at =
    ((at ≤ length text) × IsPlace text at line column)
    ⊎ ((at ≡ length text) × ((other : ℕ) → other ≤ length text → IsPlace text other line column → ⊥))
