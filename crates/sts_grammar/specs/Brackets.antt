-- Brackets that are open.
use Rattle.std.specs.Prelude.{ℕ, ◌+◌, ◌-◌, List, [], ◌∷◌, take}
use Rattle.sts_lexer.specs.declared.marks.Mark.TheVariants as m
use Rattle.sts_lexer.specs.declared.token.TokenKind.{TokenKind}
use Rattle.sts_lexer.specs.declared.token.TokenKind.TheVariants as k
use Rattle.sts_lexer.specs.declared.token.Token.{Token}

-- How many brackets are open behind a token before which n were. A closing one closes the latest that is open, of whatever kind,
-- and does nothing where none is.
abbrev pub open_behind : ℕ → TokenKind → ℕ
open_behind n (k.Mark m.OpenParenthesis) = n + 1
open_behind n (k.Mark m.OpenBracket) = n + 1
open_behind n (k.Mark m.OpenBrace) = n + 1
open_behind n (k.Mark m.CloseParenthesis) = n - 1
open_behind n (k.Mark m.CloseBracket) = n - 1
open_behind n (k.Mark m.CloseBrace) = n - 1
open_behind n other = n

-- how many are open behind these tokens, where n were before them
abbrev pub open_after : ℕ → List Token → ℕ
open_after n [] = n
open_after n (t ∷ rest) = open_after (open_behind n t.kind) rest

-- how many brackets of these tokens are open at the token i, itself included
abbrev pub open_at : List Token → ℕ → ℕ
open_at tokens i = open_after 0 (take (i + 1) tokens)
