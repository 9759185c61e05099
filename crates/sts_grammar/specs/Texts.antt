-- Which program a text spells, by its tokens, and why it spells none.
use Rattle.std.specs.Prelude.{◌≡◌, ◌⊎◌, ℕ, List, [], Some, slice_get}
use Rattle.sts_base.specs.Distinct.{IsDistinct}
use Rattle.sts_base.specs.declared.refused.Code.{Code}
use Rattle.sts_base.specs.declared.refused.Code.TheVariants.{Syntax, TooDeep}
use Rattle.sts_base.specs.declared.tables.Tables.{Tables}
use Rattle.sts_lexer.specs.declared.token.Token.{Token}
use Rattle.sts_lexer.specs.Tokens.{IsTokenization}
use Rattle.sts_lexer.specs.Uses.{NumbersInOrder}
use Rattle.sts_lexer.specs.Refusals.{IsRefusal}
use Rattle.sts_syntax.specs.Programs.{Program}
use Rattle.sts_grammar.specs.Source.{Source}
use Rattle.sts_grammar.specs.Units.{IsProgram}
use Rattle.sts_grammar.specs.Deep.{NoneDeep, IsFirstDeep}

-- tokens with the names of their tables
abbrev pub source : List Token → Tables → Source
source tokens tables = record { tokens = tokens; names = tables.names }

-- the tokens spell no program within the nesting
abbrev pub NoProgram : Source → Type 0
NoProgram s = (program : Program) → ¬ (IsProgram s program)

-- a token begins at this place of the text
pub record BeginsToken (tokens : List Token) (place : ℕ) : Type 0 where
  pub at : ℕ
  pub token : Token
  pub is : slice_get tokens at ≡ Some token
  pub begins : place ≡ token.span.from

-- Why tokens are refused: at some token too many brackets are open, and the place is that of the first such token; or they spell
-- no program, and the place is that of some token.
abbrev pub RefusesSource : Source → Code → ℕ → Type 0
RefusesSource s TooDeep place = IsFirstDeep s.tokens place
RefusesSource s Syntax place = NoneDeep s.tokens × NoProgram s × BeginsToken s.tokens place
RefusesSource s other place = ⊥

-- tables without an entry
abbrev pub no_entries : Tables
no_entries = record { names = []; texts = [] }

-- These are the tokens of a text by tables of its own, which number its distinct names and texts in the order in which they first appear.
pub record HasTokens (text : List ℕ) (tables : Tables) (tokens : List Token) : Type 0 where
  pub tokenization : IsTokenization tables text tokens
  pub names : IsDistinct tables.names
  pub texts : IsDistinct tables.texts
  pub in_order : NumbersInOrder no_entries tables tokens

-- A text spells a program: its tokens do, within the nesting, and nowhere too many brackets are open.
pub record SpellsProgram (text : List ℕ) : Type 0 where
  pub tables : Tables
  pub tokens : List Token
  pub read : HasTokens text tables tokens
  pub shallow : NoneDeep tokens
  pub program : Program
  pub spelled : IsProgram (source tokens tables) program

-- The tokens of a text spell no program, for this reason at this place: too many brackets are open at a token, the first such, or
-- no program within the nesting has these tokens.
pub record RefusesTokens (text : List ℕ) (code : Code) (at : ℕ) : Type 0 where
  pub tables : Tables
  pub tokens : List Token
  pub read : HasTokens text tables tokens
  pub why : RefusesSource (source tokens tables) code at

-- A text spells no program, for this reason at this place: it has no tokens, or these spell none.
abbrev pub SpellsNone : List ℕ → Code → ℕ → Type 0
SpellsNone text code at = IsRefusal text code at ⊎ RefusesTokens text code at
