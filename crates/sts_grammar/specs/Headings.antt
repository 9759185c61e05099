-- Types and parameters as they are written.
use Rattle.std.specs.Prelude.{◌≡◌, ◌≢◌, ℕ, ◌+◌, false, List, [], ◌∷◌, Option, Some, None, slice_get}
use lib.Chars.{codes}
use Rattle.sts_lexer.specs.declared.marks.Mark.TheVariants as m
use Rattle.sts_lexer.specs.declared.words.Word.TheVariants as w
use Rattle.sts_syntax.specs.Annotations.{Annotation, Number, Boolean, Text, Nothing, Named, ListOf}
use Rattle.sts_syntax.specs.Trees.{Parameter}
use Rattle.sts_grammar.specs.Source.{Source, broken, place, IsMark, IsWord, IsName, IsSpelled}

-- The type that one name spells: `number`, `boolean`, `string`, or by another name.
abbrev pub IsTypeName : Source → Annotation → ℕ → Type 0
IsTypeName s Number i = IsSpelled s i (codes "number")
IsTypeName s Boolean i = IsSpelled s i (codes "boolean")
IsTypeName s Text i = IsSpelled s i (codes "string")
IsTypeName s (Named at name) i =
    (at ≡ place s i) × IsName s i name ×
    (slice_get s.names name ≢ Some (codes "number")) ×
    (slice_get s.names name ≢ Some (codes "boolean")) ×
    (slice_get s.names name ≢ Some (codes "string"))
IsTypeName s _ i = ⊥

-- A type from one token up to another: a name, and any number of `[]`, where no line break stands before a `[`.
abbrev pub IsType : Source → Annotation → ℕ → ℕ → Type 0
IsType s (ListOf item) i j =
    (k : ℕ) × IsType s item i k × IsMark s k m.OpenBracket × (broken s k ≡ false) × IsMark s (k + 1) m.CloseBracket
    × (j ≡ k + 2)
IsType s annotation i j = IsTypeName s annotation i × (j ≡ i + 1)

-- A result's type: a type, or `void`.
abbrev pub IsResult : Source → Annotation → ℕ → ℕ → Type 0
IsResult s Nothing i j = IsWord s i w.Void × (j ≡ i + 1)
IsResult s annotation i j = IsType s annotation i j

-- `:` and a type, where one is written
abbrev pub HasType : Source → Option Annotation → ℕ → ℕ → Type 0
HasType s None i j = i ≡ j
HasType s (Some annotation) i j = IsMark s i m.Colon × IsType s annotation (i + 1) j

-- `:` and a result's type, where one is written
abbrev pub HasResult : Source → Option Annotation → ℕ → ℕ → Type 0
HasResult s None i j = i ≡ j
HasResult s (Some annotation) i j = IsMark s i m.Colon × IsResult s annotation (i + 1) j

-- a parameter, whose place is its name's
abbrev pub IsParameter : Source → Parameter → ℕ → ℕ → Type 0
IsParameter s p i j = (p.at ≡ place s i) × IsName s i p.name × HasType s p.shape (i + 1) j

-- further parameters, each behind a comma, and the `)`
abbrev pub MoreParameters : Source → List Parameter → ℕ → ℕ → Type 0
MoreParameters s [] i j = IsMark s i m.CloseParenthesis × (j ≡ i + 1)
MoreParameters s (p ∷ rest) i j = (k : ℕ) × IsMark s i m.Comma × IsParameter s p (i + 1) k × MoreParameters s rest k j

-- the parameters behind a `(`, and the `)`
abbrev pub AreParameters : Source → List Parameter → ℕ → ℕ → Type 0
AreParameters s [] i j = IsMark s i m.CloseParenthesis × (j ≡ i + 1)
AreParameters s (p ∷ rest) i j = (k : ℕ) × IsParameter s p i k × MoreParameters s rest k j

-- Behind the `)` before i an arrow goes on: `=>`, perhaps behind a result's type.
abbrev pub IsArrowBehind : Source → ℕ → Type 0
IsArrowBehind s i = (gives : Option Annotation) × (j : ℕ) × HasResult s gives i j × IsMark s j m.Arrow
