-- Which tokens may be the last of an expression.
use Rattle.std.specs.Prelude.{Bool, true, false}
use Rattle.sts_lexer.specs.declared.marks.Mark.TheVariants as m
use Rattle.sts_lexer.specs.declared.token.TokenKind.{TokenKind}
use Rattle.sts_lexer.specs.declared.token.TokenKind.TheVariants as k

-- Numbers, texts, names and reserved words, closing brackets, `++` and `--`.
abbrev pub may_be_last : TokenKind → Bool
may_be_last (k.Num value) = true
may_be_last (k.Text text) = true
may_be_last (k.Name name) = true
may_be_last (k.Word word name) = true
may_be_last (k.Mark m.CloseParenthesis) = true
may_be_last (k.Mark m.CloseBracket) = true
may_be_last (k.Mark m.CloseBrace) = true
may_be_last (k.Mark m.PlusPlus) = true
may_be_last (k.Mark m.MinusMinus) = true
may_be_last other = false
