-- What a reader gives, and what one token gives it.
use Rattle.std.specs.Prelude.{ℕ, Bool, true, false, if◌then◌else◌, List, Option, Some, None, slice_get}
use lib.Chars.{codes}
use Rattle.std.specs.Str.{bytes_eq}
use Rattle.sts_lexer.specs.declared.marks.Mark.TheVariants as m
use Rattle.sts_lexer.specs.declared.words.Word.TheVariants as w
use Rattle.sts_lexer.specs.declared.token.TokenKind.{TokenKind}
use Rattle.sts_lexer.specs.declared.token.TokenKind.TheVariants as k
use Rattle.sts_grammar.specs.Source.{Source, kind, is_mark}

-- what is read, and the number of the token behind it; None where nothing of that sort stands there
abbrev pub Found : Type 0 → Type 0
Found A = Option (A × ℕ)

-- one reading behind another
infixl 10 ◌>>=◌
abbrev pub ◌>>=◌ : {A B : Type 0} → Option A → (A → Option B) → Option B
None >>= f = None
(Some x) >>= f = f x

-- read on only where the test holds
abbrev pub when : {A : Type 0} → Bool → Option A → Option A
when test read = if test then read else None

abbrev pub name_of : TokenKind → Option ℕ
name_of (k.Name name) = Some name
name_of other = None

-- the name of a member: any name or reserved word
abbrev pub member_name_of : TokenKind → Option ℕ
member_name_of (k.Name name) = Some name
member_name_of (k.Word word name) = Some name
member_name_of other = None

-- `let` gives false and `const` true
abbrev pub let_of : TokenKind → Option Bool
let_of (k.Word w.Let name) = Some false
let_of (k.Word w.Const name) = Some true
let_of other = None

-- the mark that closes a list: `]` where it is square, or else `)`
abbrev pub closes : (square : Bool) → TokenKind → Bool
closes true kind = is_mark m.CloseBracket kind
closes false kind = is_mark m.CloseParenthesis kind

-- a table's entry has these bytes
abbrev pub has_bytes : Option (List ℕ) → List ℕ → Bool
has_bytes None bytes = false
has_bytes (Some entry) bytes = bytes_eq entry bytes

-- the name `of`
abbrev pub is_of : Source → TokenKind → Bool
is_of s (k.Name name) = has_bytes (slice_get s.names name) (codes "of")
is_of s other = false
