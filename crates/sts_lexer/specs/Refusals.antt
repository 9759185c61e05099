-- The texts that have no tokens: the first place that is at fault, and the code.
use Rattle.std.specs.Prelude.{◌≡◌, ℕ, ◌<◌, ◌≤◌, List, length, slice_index, if◌then◌else◌}
use Rattle.std.specs.Char.{is_ascii_digit}
use Rattle.std.specs.Str.{IsUtf8, IsValidUpTo}
use Rattle.sts_base.specs.declared.tables.Tables.{Tables}
use Rattle.sts_base.specs.declared.refused.Code.{Code}
use Rattle.sts_base.specs.declared.refused.Code.TheVariants as code
use Rattle.sts_base.specs.declared.refused.Refused.{Refused}
use Rattle.sts_base.specs.declared.refused.Refused.TheVariants as refused
use Rattle.sts_lexer.specs.Bytes.{most_bytes, is_quote}
use Rattle.sts_lexer.specs.Spaces.{IsSpace, IsGap, start_of}
use Rattle.sts_lexer.specs.Lexemes.{Lexeme, Spells}
use Rattle.sts_lexer.specs.Tokens.{AreTokens}
use Rattle.sts_lexer.specs.declared.token.Token.{Token}

-- the code for a place where no token can be read, by the byte that stands there: a quote opens a text that is not
-- whole or has another escape, and a digit a number that is none
abbrev pub cause : ℕ → Code
cause byte =
    if is_quote byte then code.BadText
    else (if is_ascii_digit byte then code.BadNumber
    else code.BadCharacter)

-- At this place neither white space nor a comment begins, nor a token, and the text isn't at its end: an unclosed
-- comment is neither.
pub record IsStuck (text : List ℕ) (at : ℕ) : Type 0 where
  pub here : at < length text
  pub no_space : (j : ℕ) → IsSpace text at j → ⊥
  pub no_lexeme : (lexeme : Lexeme) (j : ℕ) → Spells text lexeme at j → ⊥

-- The first place where no token can be read, behind tokens up to i (by whatever tables), white space and comments.
pub record Stops (text : List ℕ) (why : Code) (at : ℕ) : Type 0 where
  pub tables : Tables
  pub front : List Token
  pub i : ℕ
  pub read : AreTokens tables text (start_of text) front i
  pub places : List ℕ
  pub gap : IsGap text i places at
  pub stuck : IsStuck text at
  pub by : why ≡ cause (slice_index text at)

-- A text has no tokens, for this reason at this place: first its length is tried, then its UTF-8, whose place is the
-- first byte of the ill-formed sequence, and then its tokens.
abbrev pub IsRefusal : List ℕ → Code → ℕ → Type 0
IsRefusal text code.TextTooLong at = (most_bytes < length text) × (at ≡ 0)
IsRefusal text code.NotUtf8 at = (length text ≤ most_bytes) × IsValidUpTo text at
IsRefusal text why at = (length text ≤ most_bytes) × IsUtf8 text × Stops text why at

-- what `tokens` answers in place of tokens; want of memory has no cause
abbrev pub RefusesBytes : List ℕ → Refused → Type 0
RefusesBytes text (refused.Program why at) = IsRefusal text why at
RefusesBytes text refused.NoMemory = Unit {0}
