-- Tokens with their names, as the grammar sees them.
use Rattle.std.specs.Prelude.{◌≡◌, ℕ, Bool, false, List, Option, Some, None, slice_get, ◌⊎◌}
use denote.Enum.Bare.{sameb}
use Rattle.sts_lexer.specs.contracts.marks.Mark.{the_type as mark_type}
use Rattle.sts_lexer.specs.contracts.words.Word.{the_type as word_type}
use Rattle.sts_lexer.specs.declared.marks.Mark.{Mark}
use Rattle.sts_lexer.specs.declared.words.Word.{Word}
use Rattle.sts_lexer.specs.declared.token.TokenKind.{TokenKind}
use Rattle.sts_lexer.specs.declared.token.TokenKind.TheVariants as k
use Rattle.sts_lexer.specs.declared.token.Token.{Token}

-- the tokens of a text, of which the last is Finish, and the spellings of its names
pub record Source : Type 0 where
  pub tokens : List Token
  pub names : List (List ℕ)

abbrev pub kind_of : Option Token → TokenKind
kind_of None = k.Finish
kind_of (Some t) = t.kind

abbrev pub broken_of : Option Token → Bool
broken_of None = false
broken_of (Some t) = t.broken

abbrev pub place_of : Option Token → ℕ
place_of None = 0
place_of (Some t) = t.span.from

-- the kind of the token with a number, Finish past the end
abbrev pub kind : Source → ℕ → TokenKind
kind s i = kind_of (slice_get s.tokens i)

-- a line break stands before it
abbrev pub broken : Source → ℕ → Bool
broken s i = broken_of (slice_get s.tokens i)

-- its place in the text
abbrev pub place : Source → ℕ → ℕ
place s i = place_of (slice_get s.tokens i)

abbrev pub IsMark : Source → ℕ → Mark → Type 0
IsMark s i mark = kind s i ≡ k.Mark mark

abbrev pub IsWord : Source → ℕ → Word → Type 0
IsWord s i word = (entry : ℕ) × (kind s i ≡ k.Word word entry)

-- the test of a token for a mark
abbrev pub is_mark : Mark → TokenKind → Bool
is_mark mark (k.Mark other) = sameb mark_type other mark
is_mark mark other = false

-- the test of a token for a reserved word
abbrev pub is_word : Word → TokenKind → Bool
is_word word (k.Word other name) = sameb word_type other word
is_word word other = false

abbrev pub IsName : Source → ℕ → ℕ → Type 0
IsName s i name = kind s i ≡ k.Name name

-- a member's name: any name or reserved word
abbrev pub IsMemberName : Source → ℕ → ℕ → Type 0
IsMemberName s i name = IsName s i name ⊎ ((word : Word) × (kind s i ≡ k.Word word name))

-- a name with this spelling
abbrev pub IsSpelled : Source → ℕ → List ℕ → Type 0
IsSpelled s i bytes = (name : ℕ) × IsName s i name × (slice_get s.names name ≡ Some bytes)
