-- The library of the prelude is as the law of accepted texts asks.
use Rattle.std.specs.Prelude.{◌≡◌, ◌≤◌, ◌<◌, ℕ, Option, List, [], ◌∷◌, ◌++◌, take, codes, IsSome}
use Rattle.sts_base.specs.declared.tables.Tables.{Tables}
use Rattle.sts_base.specs.Distinct.{IsDistinct}
use Rattle.sts_lexer.specs.Tokens.{IsTokenization}
use Rattle.sts_lexer.specs.declared.token.Token.{Token}
use Rattle.sts_syntax.specs.BoardTable.{library_size}
use Rattle.sts_syntax.specs.Programs.{Program}
use Rattle.sts_syntax.specs.Weights.{routines_weight}
use Rattle.sts_scope.specs.declared.kinds.StaticType.{StaticType}
use Rattle.sts_scope.specs.Rules.{kind_at}
use Rattle.type_derive.specs.Derived.{known, AreDerived}
use Rattle.typed_laws.specs.inner.FilledTexts.{filled_program}
use Rattle.typed_laws.specs.Libraries.{IsLibrary}
use Rattle.sts_grammar.specs.Texts.{no_entries}
use Rattle.sts_prelude.specs.Library.{library}
use Rattle.sts_prelude.specs.Spelled as spelled
use Rattle.sts_prelude.specs.declared.text.TheConstants.{LIBRARY}

-- the names of the library's text in the order in which they first appear, and its one text
abbrev pub first : Tables
first = record {
  names =
      codes "function" ∷ codes "$showLeds" ∷ codes "f" ∷ codes "number" ∷ codes "void" ∷ codes "$show" ∷ codes "basic"
      ∷ codes "pause" ∷ codes "$showNumber" ∷ codes "n" ∷ codes "let" ∷ codes "i" ∷ codes "g" ∷ codes "$numberGlyph"
      ∷ codes "while" ∷ codes "$showString" ∷ codes "s" ∷ codes "string" ∷ codes "$textGlyph" ∷ codes "$writeLine"
      ∷ codes "serial" ∷ codes "writeString" ∷ codes "$abs" ∷ codes "return"
      ∷ codes "$min" ∷ codes "a" ∷ codes "b" ∷ codes "$max" ∷ [];
  texts = (13 ∷ 10 ∷ []) ∷ [];
}

-- The library's functions stand before any text: where its names and its text are the first of the tables, it is a library as the law of accepted texts asks.
abbrev pub PreludeIsLibrary : Type 0
PreludeIsLibrary =
    (tokens : List Token) (names texts : List (List ℕ)) (text : Program) (kinds : List (Option StaticType))
    → IsDistinct first.names → IsDistinct first.texts
    → IsTokenization first LIBRARY.now tokens
    → AreDerived (record { names = first.names ++ names; texts = first.texts ++ texts }) (library tokens) text kinds
    → IsLibrary (record { names = first.names ++ names; texts = first.texts ++ texts }) (library tokens) text kinds

-- Where no entry stood before the library, it leaves these tables, and its tree is the one that its tokens spell.
abbrev pub LibraryLeavesFirst : Type 0
LibraryLeavesFirst =
    (new : Tables) (program : Program) → IsDistinct new.names → IsDistinct new.texts
    → spelled.IsLibraryTree no_entries new program
    → (new ≡ first) × (tokens : List Token) × IsTokenization first LIBRARY.now tokens × (program ≡ library tokens)

-- The library's functions have types.
abbrev pub LibraryFunctionsHaveTypes : Type 0
LibraryFunctionsHaveTypes =
    (tokens : List Token) (names texts : List (List ℕ)) (text : Program) (kinds : List (Option StaticType))
    → IsDistinct first.names → IsDistinct first.texts
    → IsTokenization first LIBRARY.now tokens
    → AreDerived (record { names = first.names ++ names; texts = first.texts ++ texts }) (library tokens) text kinds
    → (d : ℕ) → d < (known (library tokens) text kinds).library → IsSome (kind_at (known (library tokens) text kinds) d)

-- The library's typed functions, which stand first in each program, weigh at most 600.
abbrev pub TypedLibraryIsLight : Type 0
TypedLibraryIsLight =
    (tokens : List Token) (names texts : List (List ℕ)) (text : Program) (kinds : List (Option StaticType))
    → IsDistinct first.names → IsDistinct first.texts
    → IsTokenization first LIBRARY.now tokens
    → AreDerived (record { names = first.names ++ names; texts = first.texts ++ texts }) (library tokens) text kinds
    → routines_weight (take library_size (filled_program (record { names = first.names ++ names; texts = first.texts ++ texts })
    (library tokens) text kinds).functions) ≤ 600

-- Where no entry stood before, the library's text has tokens that spell a tree, and its names and its text are distinct.
pub record LibraryIsRead : Type 0 where
  pub names : IsDistinct first.names
  pub texts : IsDistinct first.texts
  pub program : Program
  pub read : spelled.IsLibraryTree no_entries first program
