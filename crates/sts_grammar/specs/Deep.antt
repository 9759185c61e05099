-- Which tokens stand in too many brackets.
use Rattle.std.specs.Prelude.{◌≡◌, ℕ, ◌<◌, ◌≤◌, List, length, Some, slice_get}
use Rattle.sts_lexer.specs.declared.token.Token.{Token}
use Rattle.sts_grammar.specs.Limits.{most_open}
use Rattle.sts_grammar.specs.Brackets.{open_at}

-- in none of the tokens before n too many are open
abbrev pub NoneDeepBefore : List Token → ℕ → Type 0
NoneDeepBefore tokens n = (i : ℕ) → i < n → open_at tokens i ≤ most_open

-- at no token too many brackets are open
abbrev pub NoneDeep : List Token → Type 0
NoneDeep tokens = NoneDeepBefore tokens (length tokens)

-- The first token at which too many brackets are open begins at this place of the text.
pub record IsFirstDeep (tokens : List Token) (place : ℕ) : Type 0 where
  pub at : ℕ
  pub token : Token
  pub is : slice_get tokens at ≡ Some token
  pub deep : most_open < open_at tokens at
  pub first : NoneDeepBefore tokens at
  pub begins : place ≡ token.span.from
