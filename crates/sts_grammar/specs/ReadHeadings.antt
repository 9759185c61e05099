-- Reading types and parameters. Readers begin at a token's number, and none of these calls another that calls it.
use Rattle.std.specs.Prelude.{ℕ, zero, suc, ◌+◌, Bool, true, false, ◌&&◌, not, if◌then◌else◌, List, [], ◌∷◌, ◌++◌, Option, Some, None, slice_get, length}
use lib.Chars.{codes}
use Rattle.sts_lexer.specs.declared.token.TokenKind.{TokenKind}
use Rattle.sts_syntax.specs.Annotations.{Annotation, Number, Boolean, Text, Nothing, Named, ListOf}
use Rattle.sts_syntax.specs.Trees.{Parameter}
use Rattle.sts_lexer.specs.declared.marks.Mark.TheVariants as m
use Rattle.sts_lexer.specs.declared.words.Word.TheVariants as w
use Rattle.sts_grammar.specs.Source.{Source, kind, broken, place, is_mark, is_word}
use Rattle.sts_grammar.specs.Found.{Found, ◌>>=◌, when, name_of, has_bytes}

-- the type that the entry of a name spells; `named` is that of another name
abbrev pub type_of_entry : (entry : Option (List ℕ)) (named : Annotation) → Annotation
type_of_entry entry named =
    if has_bytes entry (codes "number") then Number
    else (if has_bytes entry (codes "boolean") then Boolean
    else (if has_bytes entry (codes "string") then Text
    else named))

-- the type that the name at i spells
abbrev pub type_named : Source → (name i : ℕ) → Annotation
type_named s name i = type_of_entry (slice_get s.names name) (Named (place s i) name)

-- `[]` stands at i, and no line break before it
abbrev pub is_pair : Source → ℕ → Bool
is_pair s i = is_mark m.OpenBracket (kind s i) && (not (broken s i) && is_mark m.CloseBracket (kind s (i + 1)))

-- A type that ends at i, with the `[]` behind it: at most n of them.
unfoldable pub wrap_type : Source → (n : ℕ) → Annotation → ℕ → Annotation × ℕ
wrap_type s zero annotation i = (annotation, i)
wrap_type s (suc n) annotation i = if is_pair s i then wrap_type s n (ListOf annotation) (i + 2) else (annotation, i)

-- a type
unfoldable pub read_type : Source → ℕ → Found Annotation
read_type s i = name_of (kind s i) >>= λ name. Some (wrap_type s (length s.tokens) (type_named s name i) (i + 1))

-- a result's type
unfoldable pub read_result : Source → ℕ → Found Annotation
read_result s i = if is_word w.Void (kind s i) then Some (Nothing, i + 1) else read_type s i

-- what `read` finds behind a `:`, where one stands
abbrev pub optional_by : (ℕ → Found Annotation) → (at_colon : Bool) → ℕ → Found (Option Annotation)
optional_by read true i = read (i + 1) >>= λ t. Some (Some t.0, t.1)
optional_by read false i = Some (None, i)

-- `:` and a type, where one is written
unfoldable pub read_optional_type : Source → ℕ → Found (Option Annotation)
read_optional_type s i = optional_by (read_type s) (is_mark m.Colon (kind s i)) i

-- `:` and a result's type, where one is written
unfoldable pub read_optional_result : Source → ℕ → Found (Option Annotation)
read_optional_result s i = optional_by (read_result s) (is_mark m.Colon (kind s i)) i

-- a parameter
unfoldable pub read_parameter : Source → ℕ → Found Parameter
read_parameter s i =
    name_of (kind s i) >>= λ name. read_optional_type s (i + 1)
    >>= λ t. Some (record { at = place s i; name = name; shape = t.0 }, t.1)

-- what stands behind parameters at i: `)`, or a comma and further ones, which `read` reads
abbrev pub parameters_rest : (read : List Parameter → ℕ → Found (List Parameter)) → (all : List Parameter) → ℕ
    → TokenKind → Found (List Parameter)
parameters_rest read all i kind =
    if is_mark m.CloseParenthesis kind then Some (all, i + 1) else when (is_mark m.Comma kind) (read all (i + 1))

-- further parameters behind these: at most n, and the `)`
unfoldable pub read_more_parameters : Source → (n : ℕ) → (all : List Parameter) → ℕ → Found (List Parameter)
read_more_parameters s zero all i = None
read_more_parameters s (suc n) all i =
    read_parameter s i >>= λ p. parameters_rest (read_more_parameters s n) (all ++ p.0 ∷ []) p.1 (kind s p.1)

-- the parameters behind a `(`, and the `)`
unfoldable pub read_parameters : Source → ℕ → Found (List Parameter)
read_parameters s i =
    if is_mark m.CloseParenthesis (kind s i) then Some ([], i + 1) else read_more_parameters s (length s.tokens) [] i

-- Parameters in parentheses, and a result's type where one is written.
unfoldable pub read_heading : Source → ℕ → Found (List Parameter × Option Annotation)
read_heading s i =
    when (is_mark m.OpenParenthesis (kind s i))
    (read_parameters s (i + 1) >>= λ p. read_optional_result s p.1 >>= λ g. Some ((p.0, g.0), g.1))

-- the same of an arrow, with its `=>`
unfoldable pub read_arrow_heading : Source → ℕ → Found (List Parameter × Option Annotation)
read_arrow_heading s i = read_heading s i >>= λ h. when (is_mark m.Arrow (kind s h.1)) (Some (h.0, h.1 + 1))

abbrev pub is_found : {A : Type 0} → Option A → Bool
is_found None = false
is_found (Some x) = true

-- the parameters of an arrow begin at i
unfoldable pub begins_arrow : Source → ℕ → Bool
begins_arrow s i = is_found (read_arrow_heading s i)

-- `=>` stands at i, perhaps behind a result's type
unfoldable pub is_arrow_behind : Source → ℕ → Bool
is_arrow_behind s i = is_found (read_optional_result s i >>= λ g. when (is_mark m.Arrow (kind s g.1)) (Some g))
