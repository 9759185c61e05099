-- The last token of an expression.
use Rattle.std.proofs.Common.{◌≡◌, ℕ, zero, suc, ◌+◌, ◌-◌, refl, ap, ◌∙◌, arith, inl, inr}
use Rattle.std.specs.Prelude.{ℤ, Bool, true, false, Some, None}
use Rattle.sts_lexer.specs.declared.marks.Mark.{Mark}
use Rattle.sts_lexer.specs.declared.marks.Mark.TheVariants as m
use Rattle.sts_lexer.specs.declared.words.Word.TheVariants as w
use Rattle.sts_lexer.specs.declared.token.TokenKind.{TokenKind}
use Rattle.sts_lexer.specs.declared.token.TokenKind.TheVariants as k
use Rattle.sts_syntax.specs.Trees.{Tree, Num, Text, Truth, Null, This, Name, Unary, Binary, Both, Either, Choice, Set, Bump, Member, Item, Call, SuperCall, Make, Items, Handler, Trees, none, more, Statements, done, also, Does}
use Rattle.sts_grammar.specs.Source.{Source, kind, IsMemberName}
use Rattle.sts_grammar.specs.Operators.{bump_by}
use Rattle.sts_grammar.specs.Operands.{Stands, IsWrapped, IsOperand}
use Rattle.sts_grammar.specs.Spells.{IsBare, AreListed, AreFurther, InBlock}
use Rattle.parse_expr.specs.Lasts.{may_be_last}

kind_last : (s : Source) (i j : ℕ) (t : TokenKind) → kind s i ≡ t → j ≡ i + 1 → may_be_last t ≡ true → may_be_last (kind s (j - 1)) ≡ true
kind_last s i j t e q h = let back : j - 1 ≡ i = omega arith in ap (λ n. may_be_last (kind s n)) back ∙ ap may_be_last e ∙ h

bump_last : (mark : Mark) (by : ℤ) → bump_by mark ≡ Some by → may_be_last (k.Mark mark) ≡ true
bump_last m.PlusPlus by h = refl
bump_last m.MinusMinus by h = refl
bump_last mark by h = cc

member_last : (s : Source) (i j name : ℕ) → IsMemberName s i name → j ≡ i + 1 → may_be_last (kind s (j - 1)) ≡ true
member_last s i j name (inl h) e = kind_last s i j (k.Name name) h e refl
member_last s i j name (inr h) e = kind_last s i j (k.Word h.0 name) h.1 e refl

further_last : (s : Source) (all : Trees) (close : Mark) → may_be_last (k.Mark close) ≡ true → (i j : ℕ) → AreFurther s all close i j → may_be_last (kind s (j - 1)) ≡ true
further_last s none close c i j h = kind_last s i j (k.Mark close) h.0 h.1 c
further_last s (more a rest) close c i j h = further_last s rest close c h.0 j h.3

listed_last : (s : Source) (all : Trees) (close : Mark) → may_be_last (k.Mark close) ≡ true → (i j : ℕ) → AreListed s all close i j → may_be_last (kind s (j - 1)) ≡ true
listed_last s none close c i j h = kind_last s i j (k.Mark close) h.0 h.1 c
listed_last s (more a rest) close c i j h = further_last s rest close c h.0 j h.2

block_last : (s : Source) (f l : Bool) (all : Statements) (i j : ℕ) → InBlock s f l all i j → may_be_last (kind s (j - 1)) ≡ true
block_last s f l done i j h = kind_last s i j (k.Mark m.CloseBrace) h.0 h.1 refl
block_last s f l (also a rest) i j h = block_last s f l rest h.0 j h.2

wrapped_last : (s : Source) (p : ℕ) (P : Stands) → ((i j : ℕ) → P i j → may_be_last (kind s (j - 1)) ≡ true) → (i j : ℕ) → IsWrapped s p P i j → may_be_last (kind s (j - 1)) ≡ true
wrapped_last s zero P last i j h = last i j h
wrapped_last s (suc p) P last i j h = kind_last s h.0 j (k.Mark m.CloseParenthesis) h.3 h.4 refl

bare_last : (s : Source) (e : Tree) (i j : ℕ) → IsBare s e i j → may_be_last (kind s (j - 1)) ≡ true
bare_last s (Num at value) i j h = kind_last s i j (k.Num value) h.1 h.2 refl
bare_last s (Text at text) i j h = kind_last s i j (k.Text text) h.1 h.2 refl
bare_last s (Truth at true) i j h = kind_last s i j (k.Word w.True h.1.0) h.1.1 h.2 refl
bare_last s (Truth at false) i j h = kind_last s i j (k.Word w.False h.1.0) h.1.1 h.2 refl
bare_last s (Null at) i j h = kind_last s i j (k.Word w.Null h.1.0) h.1.1 h.2 refl
bare_last s (This at) i j h = kind_last s i j (k.Word w.This h.1.0) h.1.1 h.2 refl
bare_last s (Name at name) i j h = kind_last s i j (k.Name name) h.1 h.2 refl
bare_last s (Unary at op a) i j h = wrapped_last s h.4.0 (IsBare s a) (bare_last s a) (i + 1) j h.4.1
bare_last s (Binary at op a b) i j h = wrapped_last s h.6.0 (IsBare s b) (bare_last s b) (h.0 + 1) j h.6.1
bare_last s (Both at a b) i j h = wrapped_last s h.4.0 (IsBare s b) (bare_last s b) (h.0 + 1) j h.4.1
bare_last s (Either at a b) i j h = wrapped_last s h.4.0 (IsBare s b) (bare_last s b) (h.0 + 1) j h.4.1
bare_last s (Choice at c a b) i j h = wrapped_last s h.7.0 (IsBare s b) (bare_last s b) (h.1 + 1) j h.7.1
bare_last s (Set at op x a) i j h = wrapped_last s h.7.0 (IsBare s a) (bare_last s a) (h.0 + 1) j h.7.1
bare_last s (Bump at x by false) i j h = wrapped_last s h.5.0 (IsBare s x) (bare_last s x) (i + 1) j h.5.1
bare_last s (Bump at x by true) i j h = kind_last s h.0 j (k.Mark h.1) h.5 h.8 (bump_last h.1 by h.6)
bare_last s (Member at a name) i j h = member_last s (h.0 + 1) j name h.4 (omega (arith, h.5))
bare_last s (Item at a b) i j h = kind_last s h.1 j (k.Mark m.CloseBracket) h.6 h.7 refl
bare_last s (Call at a args) i j h = listed_last s args m.CloseParenthesis refl (h.0 + 1) j h.4
bare_last s (SuperCall at None args) i j h = listed_last s args m.CloseParenthesis refl (i + 2) j h.3
bare_last s (SuperCall at (Some method) args) i j h = listed_last s args m.CloseParenthesis refl (i + 4) j h.5
bare_last s (Make at class args) i j h = listed_last s args m.CloseParenthesis refl (i + 3) j h.4
bare_last s (Items at items) i j h = listed_last s items m.CloseBracket refl (i + 1) j h.2
bare_last s (Handler at (Does at' params gives all true)) i j h = block_last s true false all (h.1.1.2 + 1) j h.1.1.8
bare_last s (Handler at (Does at' params gives all false)) i j h = block_last s true false all (h.1.2.2 + 1) j h.1.2.8

pub operand_last : (s : Source) (l : ℕ) (e : Tree) (i j : ℕ) → IsOperand s l e (IsBare s e) i j → may_be_last (kind s (j - 1)) ≡ true
operand_last s l e i j h = wrapped_last s h.0 (IsBare s e) (bare_last s e) i j h.1
