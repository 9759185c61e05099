-- When a text is accepted, and as which program; and why one isn't.
use Rattle.std.specs.Prelude.{◌⊎◌, ℕ, List}
use Rattle.sts_base.specs.Distinct.{IsDistinct}
use Rattle.sts_base.specs.declared.refused.Code.{Code}
use Rattle.sts_base.specs.declared.refused.Refused.{Refused}
use Rattle.sts_base.specs.declared.refused.Refused.TheVariants as why
use Rattle.sts_base.specs.declared.tables.Tables.{Tables}
use Rattle.sts_lexer.specs.declared.token.Token.{Token}
use Rattle.sts_lexer.specs.Tokens.{IsTokenization}
use Rattle.sts_lexer.specs.Uses.{NumbersInOrder}
use Rattle.sts_lexer.specs.Tables.{Extends}
use Rattle.sts_lexer.specs.Refusals.{IsRefusal}
use Rattle.sts_syntax.specs.Programs.{Program}
use Rattle.sts_syntax.specs.TypedTrees.{TypedProgram}
use Rattle.sts_grammar.specs.Deep.{NoneDeep}
use Rattle.sts_grammar.specs.Texts.{source, no_entries}
use Rattle.sts_grammar.specs.Texts as grammar
use Rattle.sts_grammar.specs.Units.{IsProgram}
use Rattle.sts_prelude.specs.Spelled.{IsLibraryTree}
use Rattle.typed_program.specs.ElaboratedTexts.{BecomesProgram, FailsBy}

-- The tree of the library of the board's interface, and the tokens of a text behind it: the tables have the library's names and texts first, and then those that the text
-- adds, each numbered in the order in which it first appears.
pub record ReadsText (text : List ℕ) (tables : Tables) (library : Program) (tokens : List Token) : Type 0 where
  pub first : Tables
  pub library_is : IsLibraryTree no_entries first library
  pub tokenization : IsTokenization tables text tokens
  pub in_order : NumbersInOrder first tables tokens
  pub names : Extends first.names tables.names
  pub texts : Extends first.texts tables.texts
  pub names_distinct : IsDistinct tables.names
  pub texts_distinct : IsDistinct tables.texts

-- A text is accepted: its tokens spell a program, within the nesting, and by names and types that becomes this typed program, after the library.
pub record Accepts (text : List ℕ) (tables : Tables) (P : TypedProgram) : Type 0 where
  pub library : Program
  pub tokens : List Token
  pub read : ReadsText text tables library tokens
  pub shallow : NoneDeep tokens
  pub program : Program
  pub spelled : IsProgram (source tokens tables) program
  pub accepted : BecomesProgram tables library program P

-- At a token of a text too many brackets are open, and this is the place of the first such one; or its tokens spell no program, and this is the place of some token.
pub record TokensAreRefused (text : List ℕ) (code : Code) (at : ℕ) : Type 0 where
  pub tables : Tables
  pub library : Program
  pub tokens : List Token
  pub read : ReadsText text tables library tokens
  pub refused : grammar.RefusesSource (source tokens tables) code at

-- The program that they spell has this first failure of names, types and limits.
pub record RefusesProgram (text : List ℕ) (code : Code) (at : ℕ) : Type 0 where
  pub tables : Tables
  pub library : Program
  pub tokens : List Token
  pub read : ReadsText text tables library tokens
  pub shallow : NoneDeep tokens
  pub program : Program
  pub spelled : IsProgram (source tokens tables) program
  pub refused : FailsBy tables library program (record { code = code; at = at })

-- A text is refused: it has no tokens; or they are refused; or the program that they spell has a failure.
abbrev pub IsRefusedFor : List ℕ → Code → ℕ → Type 0
IsRefusedFor text code at = IsRefusal text code at ⊎ (TokensAreRefused text code at ⊎ RefusesProgram text code at)

-- why a text is refused; want of memory has no cause
abbrev pub RefusesText : List ℕ → Refused → Type 0
RefusesText text (why.Program code at) = IsRefusedFor text code at
RefusesText text why.NoMemory = Unit {0}
