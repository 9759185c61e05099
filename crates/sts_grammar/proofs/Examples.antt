-- Worked readings by the grammar.
use Rattle.std.proofs.Common.{ℕ, ◌+◌, [], ◌∷◌, refl, arith, inr}
use Rattle.std.specs.Prelude.{true, false, None, pos}
use Rattle.sts_lexer.specs.declared.marks.Mark.TheVariants as m
use Rattle.sts_lexer.specs.declared.token.TokenKind.{TokenKind}
use Rattle.sts_lexer.specs.declared.token.TokenKind.TheVariants as k
use Rattle.sts_lexer.specs.declared.token.Token.{Token}
use Rattle.sts_syntax.specs.Trees.{Name, Binary, Bump, Handler, Plain, Does, done}
use Rattle.sts_grammar.specs.Source.{Source}
use Rattle.sts_grammar.specs.Spells.{IsExpression, IsStatement}

abbrev token : TokenKind → ℕ → Token
token kind at = record { kind = kind; span = record { from = at; upto = at + 1 }; broken = false }

-- `a + b * c`
abbrev source : Source
source = record { tokens = token (k.Name 0) 0 ∷ token (k.Mark m.Plus) 2 ∷ token (k.Name 1) 4 ∷ token (k.Mark m.Star) 6 ∷ token (k.Name 2) 8 ∷ token k.Finish 9 ∷ []; names = [] }

sum : IsExpression source (Binary 0 13 (Name 0 0) (Binary 4 15 (Name 4 1) (Name 8 2))) 0 5
sum = (
  0,
  (
    1,
    m.Plus,
    refl,
    (0, (refl, refl, refl), λ h. omega arith),
    refl,
    refl,
    (
      0,
      (3, m.Star, refl, (0, (refl, refl, refl), λ h. omega arith), refl, refl, (0, (refl, refl, refl), λ h. omega arith)),
      λ h. omega arith,
    ),
  ),
  λ h. omega arith,
)

abbrev token_behind_break : TokenKind → ℕ → Token
token_behind_break kind at = record { kind = kind; span = record { from = at; upto = at + 1 }; broken = true }

-- `x`, a line break, `++y`
abbrev two_lines : Source
two_lines = record { tokens = token (k.Name 0) 0 ∷ token_behind_break (k.Mark m.PlusPlus) 2 ∷ token (k.Name 1) 4 ∷ token k.Finish 5 ∷ []; names = [] }

first_line : IsStatement two_lines false false (Plain 0 (Name 0 0)) 0 1
first_line =
    (1, refl, record { no_block = λ h. cc; no_function = λ h. let e = h.1 in cc; no_class = λ h. let e = h.1 in cc }, (0, (refl, refl, refl), λ h. omega arith), inr (refl, refl))

second_line : IsExpression two_lines (Bump 2 (Name 4 1) (pos 1) false) 1 3
second_line = (0, (m.PlusPlus, refl, refl, refl, tt, (0, (refl, refl, refl), λ h. omega arith)), λ h. omega arith)

-- `() => { }`
abbrev arrow : Source
arrow = record { tokens = token (k.Mark m.OpenParenthesis) 0 ∷ token (k.Mark m.CloseParenthesis) 1 ∷ token (k.Mark m.Arrow) 3 ∷ token (k.Mark m.OpenBrace) 6 ∷ token (k.Mark m.CloseBrace) 8 ∷ token k.Finish 9 ∷ []; names = [] }

empty_arrow : IsExpression arrow (Handler 0 (Does 0 [] None done true)) 0 5
empty_arrow = (0, (refl, (refl, (2, 2, 3, refl, (refl, refl), refl, (refl, refl), refl, (refl, refl)))), λ h. omega arith)
