-- The tokens of a text.
use Rattle.std.specs.Prelude.{◌≡◌, ◌≢◌, ◌↔◌, ℕ, ◌≤◌, List, [], ◌∷◌, ◌++◌, length, slice_get, Some, IsTrue}
use Rattle.std.specs.Str.{IsUtf8}
use Rattle.sts_base.specs.Int32.{to_int32}
use Rattle.sts_base.specs.declared.tables.Tables.{Tables}
use Rattle.sts_lexer.specs.Bytes.{most_bytes, is_break, SomeByte}
use Rattle.sts_lexer.specs.Spaces.{IsGap, start_of}
use Rattle.sts_lexer.specs.Lexemes.{Lexeme, name, number, quoted, mark, Spells, IsLongest}
use Rattle.sts_lexer.specs.Words.{word_bytes}
use Rattle.sts_lexer.specs.declared.token.TokenKind.{TokenKind}
use Rattle.sts_lexer.specs.declared.token.TokenKind.TheVariants as kinds
use Rattle.sts_lexer.specs.declared.token.Token.{Token}
use Rattle.sts_lexer.specs.declared.words.Word.{Word}

-- The kind of a token for a lexeme: a number goes through ToInt32, and names, reserved words and texts are given by
-- the number of their entry in the tables.
abbrev pub IsKindOf : Tables → Lexeme → TokenKind → Type 0
IsKindOf tables (name bytes) (kinds.Name entry) =
    (slice_get tables.names entry ≡ Some bytes) × ((word : Word) → bytes ≢ word_bytes word)
IsKindOf tables (name bytes) (kinds.Word word entry) =
    (slice_get tables.names entry ≡ Some bytes) × (bytes ≡ word_bytes word)
IsKindOf tables (number value) (kinds.Num int) = int ≡ to_int32 value
IsKindOf tables (quoted value) (kinds.Text entry) = slice_get tables.texts entry ≡ Some value
IsKindOf tables (mark which) (kinds.Mark this) = this ≡ which
IsKindOf tables lexeme kind = ⊥

-- The longest lexeme at i ends at j, and a token for it has this kind.
pub record Reads (tables : Tables) (text : List ℕ) (i : ℕ) (kind : TokenKind) (j : ℕ) : Type 0 where
  pub lexeme : Lexeme
  pub spelled : Spells text lexeme i j
  pub longest : IsLongest text i j
  pub is : IsKindOf tables lexeme kind

-- The token that stands next from i on, behind white space and comments: the longest lexeme there. It is broken if
-- a line break is among what stands before it; a comment that holds one is one (ECMA-262, section 12.4).
pub record IsNext (tables : Tables) (text : List ℕ) (i : ℕ) (token : Token) : Type 0 where
  pub places : List ℕ
  pub gap : IsGap text i places token.span.from
  pub broken : IsTrue token.broken ↔ SomeByte is_break text i token.span.from
  pub reads : Reads tables text token.span.from token.kind token.span.upto

-- Tokens stand from i up to j, one behind the other.
abbrev pub AreTokens : Tables → List ℕ → ℕ → List Token → ℕ → Type 0
AreTokens tables text i [] j = i ≡ j
AreTokens tables text i (token ∷ rest) j = IsNext tables text i token × AreTokens tables text token.span.upto rest j

-- The token that stands for the end of the text: nothing but white space and comments is left from i on.
pub record IsFinish (text : List ℕ) (i : ℕ) (token : Token) : Type 0 where
  pub kind : token.kind ≡ kinds.Finish
  pub from : token.span.from ≡ length text
  pub upto : token.span.upto ≡ length text
  pub places : List ℕ
  pub gap : IsGap text i places (length text)
  pub broken : IsTrue token.broken ↔ SomeByte is_break text i (length text)

-- All tokens of a text. The text is UTF-8, and not too long.
pub record IsTokenization (tables : Tables) (text : List ℕ) (all : List Token) : Type 0 where
  pub short : length text ≤ most_bytes
  pub utf8 : IsUtf8 text
  pub front : List Token
  pub stop : ℕ
  pub read : AreTokens tables text (start_of text) front stop
  pub finish : Token
  pub ends : IsFinish text stop finish
  pub all_is : all ≡ front ++ finish ∷ []
