-- What holds of tokens whoever reads them.
use Rattle.std.specs.Prelude.{◌≡◌, ◌⊎◌, ℕ, List}
use Rattle.sts_base.specs.Distinct.{IsDistinct}
use Rattle.sts_base.specs.declared.tables.Tables.{Tables}
use Rattle.sts_base.specs.declared.refused.Code.{Code}
use Rattle.sts_lexer.specs.Tables.{Extends}
use Rattle.sts_lexer.specs.Tokens.{IsTokenization}
use Rattle.sts_lexer.specs.Refusals.{IsRefusal}
use Rattle.sts_lexer.specs.Uses.{NumbersInOrder}
use Rattle.sts_lexer.specs.declared.token.Token.{Token}

-- A text is read in one way: it has one list of tokens by given tables of distinct strings, or one refusal, and
-- never both.
pub record OneReading : Type 0 where
  pub tokens : (tables : Tables) (text : List ℕ) (all all' : List Token) → IsDistinct tables.names
      → IsDistinct tables.texts
      → IsTokenization tables text all → IsTokenization tables text all' → all ≡ all'
  pub either : (tables : Tables) (text : List ℕ) (all : List Token) (why : Code) (at : ℕ)
      → IsTokenization tables text all → IsRefusal text why at → ⊥
  pub refusal : (text : List ℕ) (why why' : Code) (at at' : ℕ) → IsRefusal text why at → IsRefusal text why' at'
      → (why ≡ why') × (at ≡ at')

-- Tokens stay tokens of their text when the tables grow at their ends.
pub record SpellingsStay : Type 0 where
  pub tokens : (tables tables' : Tables) (text : List ℕ) (all : List Token) → Extends tables.names tables'.names
      → Extends tables.texts tables'.texts → IsTokenization tables text all → IsTokenization tables' text all

-- The tokens of a text that is read over old tables, and the tables behind it.
pub record IsRead (old : Tables) (text : List ℕ) (new : Tables) (all : List Token) : Type 0 where
  pub tokens : IsTokenization new text all
  pub names : IsDistinct new.names
  pub texts : IsDistinct new.texts
  pub more_names : Extends old.names new.names
  pub more_texts : Extends old.texts new.texts
  pub in_order : NumbersInOrder old new all

-- A text that is read over given tables has one list of tokens and leaves one pair of tables.
pub record OneNumbering : Type 0 where
  pub one : (old new new' : Tables) (text : List ℕ) (all all' : List Token) → IsRead old text new all
      → IsRead old text new' all'
      → (new ≡ new') × (all ≡ all')

-- A text that is read over tables of distinct strings has tokens, or there is a reason and a place for which it has none.
abbrev pub SomeReading : Type 0
SomeReading = (old : Tables) (text : List ℕ) → IsDistinct old.names → IsDistinct old.texts
    → ((new : Tables) × (all : List Token) × IsRead old text new all)
    ⊎ ((why : Code) × (at : ℕ) × IsRefusal text why at)
