-- Operands: how tightly a tree holds together, and what stands in parentheses.
use Rattle.std.specs.Prelude.{◌≡◌, ℕ, zero, suc, ◌+◌, ◌≤◌, Bool, true, false, Option, List}
use Rattle.sts_lexer.specs.declared.marks.Mark.TheVariants as m
use Rattle.sts_lexer.specs.declared.words.Word.TheVariants as w
use Rattle.sts_syntax.specs.Annotations.{Annotation}
use Rattle.sts_syntax.specs.Trees.{Parameter, Tree, Name, Unary, Binary, Both, Either, Choice, Set, Bump, Member, Item}
use Rattle.sts_grammar.specs.Precedence.{assignment_level, either_level, both_level, prefix_level, postfix_level, primary_level}
use Rattle.sts_grammar.specs.Source.{Source, IsMark, IsWord}
use Rattle.sts_grammar.specs.Operators.{infix_level}
use Rattle.sts_grammar.specs.Headings.{HasResult, AreParameters, IsArrowBehind}

-- what stands from a token up to another
abbrev pub Stands : Type 1
Stands = ℕ → ℕ → Type 0

-- how tightly a tree holds together when it stands without parentheses; an arrow does so as an operand does, other than in ECMA-262
abbrev pub level : Tree → ℕ
level (Set at op x a) = assignment_level
level (Choice at c a b) = assignment_level
level (Either at a b) = either_level
level (Both at a b) = both_level
level (Binary at op a b) = infix_level op
level (Unary at op a) = prefix_level
level (Bump at x by false) = prefix_level
level (Bump at x by true) = postfix_level
level e = primary_level

-- what can be assigned to: a name, a member or an item
abbrev pub IsTarget : Tree → Type 0
IsTarget (Name at x) = Unit {0}
IsTarget (Member at a x) = Unit {0}
IsTarget (Item at a b) = Unit {0}
IsTarget e = ⊥

-- p pairs of parentheses and what they hold; behind their `)` goes no arrow
abbrev pub IsWrapped : Source → ℕ → Stands → Stands
IsWrapped s zero Held i j = Held i j
IsWrapped s (suc p) Held i j =
    (n : ℕ) × IsMark s i m.OpenParenthesis × IsWrapped s p Held (i + 1) n × IsMark s n m.CloseParenthesis × (j ≡ n + 1)
    × ¬ (IsArrowBehind s j)

-- an operand of at least level l: in parentheses, or one that holds as tightly without
abbrev pub IsOperand : Source → ℕ → Tree → Stands → Stands
IsOperand s l e Bare i j = (p : ℕ) × IsWrapped s p Bare i j × (p ≡ 0 → l ≤ level e)

-- `let` or `const`
abbrev pub IsLet : Source → Bool → ℕ → Type 0
IsLet s false i = IsWord s i w.Let
IsLet s true i = IsWord s i w.Const

-- `=>`, where a routine is an arrow; a line break may stand before it, other than in ECMA-262 (15.3)
abbrev pub HasArrow : Source → Bool → Stands
HasArrow s false i j = i ≡ j
HasArrow s true i j = IsMark s i m.Arrow × (j ≡ i + 1)

-- Parameters in parentheses, the result's type, `=>` for an arrow, and a block, whose statements and `}` stand as `Held` says.
abbrev pub IsRoutine : Source → List Parameter → (gives : Option Annotation) → (arrow : Bool) → (Held : Stands) → Stands
IsRoutine s params gives arrow Held i j =
    (n o p : ℕ) × IsMark s i m.OpenParenthesis × AreParameters s params (i + 1) n × HasResult s gives n o ×
    HasArrow s arrow o p × IsMark s p m.OpenBrace × Held (p + 1) j

-- An expression as a statement doesn't begin like a block, a function or a class.
pub record BeginsPlain (s : Source) (i : ℕ) : Type 0 where
  pub no_block : ¬ (IsMark s i m.OpenBrace)
  pub no_function : ¬ (IsWord s i w.Function)
  pub no_class : ¬ (IsWord s i w.Class)
