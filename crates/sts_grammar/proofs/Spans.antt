-- What is spelled takes at least one token, and lies within the tokens.
use Rattle.std.proofs.Common.{◌≡◌, ◌≢◌, ℕ, zero, suc, ◌+◌, ◌<◌, ◌≤◌, List, [], ◌∷◌, length, sym, ap, ◌∙◌, arith, inl, inr}
use Rattle.std.specs.Prelude.{Bool, true, false, Option, Some, None, ◌⊎◌}
use Rattle.std.proofs.lemmas.Option.{slice_get_past}
use Rattle.std.proofs.lemmas.Bool.{cases_lt}
use Rattle.sts_lexer.specs.declared.marks.Mark.{Mark}
use Rattle.sts_lexer.specs.declared.marks.Mark.TheVariants as m
use Rattle.sts_lexer.specs.declared.words.Word.{Word}
use Rattle.sts_lexer.specs.declared.words.Word.TheVariants as w
use Rattle.sts_lexer.specs.declared.token.TokenKind.{TokenKind}
use Rattle.sts_lexer.specs.declared.token.TokenKind.TheVariants as k
use Rattle.sts_syntax.specs.Annotations.{Annotation, Number, Boolean, Nothing, Named, ListOf}
use Rattle.sts_syntax.specs.Annotations as annotations
use Rattle.sts_syntax.specs.Trees.{Parameter, Tree, Num, Text, Truth, Null, This, Name, Unary, Binary, Both, Either, Choice, Set, Bump, Member, Item, Call, SuperCall, Make, Items, Handler, Trees, none, more, OptionalTree, absent, present, Statement, Block, Let, IfOnly, IfElse, While, DoWhile, For, ForOf, Return, Break, Continue, Plain, Empty, Statements, done, also, OptionalStatement, omitted, written, Declaration, Declare, Declarations, ended, next, Routine, Does}
use Rattle.sts_grammar.specs.Source.{Source, kind, kind_of, IsMark, IsWord, IsName, IsMemberName}
use Rattle.sts_grammar.specs.Operators.{infix_level}
use Rattle.sts_grammar.specs.Headings.{IsTypeName, IsType, IsResult, HasType, HasResult, IsParameter, MoreParameters, AreParameters}
use Rattle.sts_grammar.specs.Ends.{Ends}
use Rattle.sts_grammar.specs.Operands.{Stands, IsWrapped, IsOperand, IsLet, HasArrow, IsRoutine}
use Rattle.sts_grammar.specs.Spells.{IsBare, AreListed, AreFurther, IsOptional, IsHandler, IsStatement, IsReturned, IsFirst, AreDeclared, IsDeclared, IsInitialised, InBlock}

-- from i up to j stands at least one token, and all of them are tokens of the source
pub record Within (s : Source) (i j : ℕ) : Type 0 where
  pub less : i < j
  pub inside : j ≤ length s.tokens

-- the same of what may be left out
pub record Reaches (s : Source) (i j : ℕ) : Type 0 where
  pub less : i ≤ j
  pub inside : i ≤ length s.tokens → j ≤ length s.tokens

-- a number with a kind other than Finish is that of a token
pub kind_in : (s : Source) (i : ℕ) (t : TokenKind) → kind s i ≡ t → t ≢ k.Finish → i < length s.tokens
kind_in s i t e ne =
    elim (cases_lt i (length s.tokens)) [
      | inl h ↦ h
      | inr h ↦ absurd (ne (sym e ∙ ap kind_of (slice_get_past s.tokens i h)))
    ]

pub mark_in : (s : Source) (i : ℕ) (mark : Mark) → IsMark s i mark → i < length s.tokens
mark_in s i mark h = kind_in s i (k.Mark mark) h (λ e. cc)

pub word_in : (s : Source) (i : ℕ) (word : Word) → IsWord s i word → i < length s.tokens
word_in s i word h = kind_in s i (k.Word word h.0) h.1 (λ e. cc)

pub name_in : (s : Source) (i name : ℕ) → IsName s i name → i < length s.tokens
name_in s i name h = kind_in s i (k.Name name) h (λ e. cc)

pub member_in : (s : Source) (i name : ℕ) → IsMemberName s i name → i < length s.tokens
member_in s i name (inl h) = name_in s i name h
member_in s i name (inr h) = kind_in s i (k.Word h.0 name) h.1 (λ e. cc)

pub let_in : (s : Source) (fixed : Bool) (i : ℕ) → IsLet s fixed i → i < length s.tokens
let_in s false i h = word_in s i w.Let h
let_in s true i h = word_in s i w.Const h

type_name_in : (s : Source) (annotation : Annotation) (i : ℕ) → IsTypeName s annotation i → i < length s.tokens
type_name_in s Number i h = name_in s i h.0 h.1
type_name_in s Boolean i h = name_in s i h.0 h.1
type_name_in s annotations.Text i h = name_in s i h.0 h.1
type_name_in s (Named at name) i h = name_in s i name h.1
type_name_in s Nothing i h = absurd h
type_name_in s (ListOf item) i h = absurd h

pub type_spans : (s : Source) (annotation : Annotation) (i j : ℕ) → IsType s annotation i j → Within s i j
type_spans s (ListOf item) i j h =
    let before : Within s i h.0 = type_spans s item i h.0 h.1 in
    let e : j ≡ h.0 + 2 = h.5 in
    record { less = omega arith; inside = omega (arith, mark_in s (h.0 + 1) m.CloseBracket h.4) }
type_spans s Number i j h = let e : j ≡ i + 1 = h.1 in record { less = omega arith; inside = omega (arith, type_name_in s Number i h.0) }
type_spans s Boolean i j h = let e : j ≡ i + 1 = h.1 in record { less = omega arith; inside = omega (arith, type_name_in s Boolean i h.0) }
type_spans s annotations.Text i j h = let e : j ≡ i + 1 = h.1 in record { less = omega arith; inside = omega (arith, type_name_in s annotations.Text i h.0) }
type_spans s (Named at name) i j h = let e : j ≡ i + 1 = h.1 in record { less = omega arith; inside = omega (arith, type_name_in s (Named at name) i h.0) }
type_spans s Nothing i j h = absurd h.0

pub result_spans : (s : Source) (annotation : Annotation) (i j : ℕ) → IsResult s annotation i j → Within s i j
result_spans s Nothing i j h = let e : j ≡ i + 1 = h.1 in record { less = omega arith; inside = omega (arith, word_in s i w.Void h.0) }
result_spans s Number i j h = type_spans s Number i j h
result_spans s Boolean i j h = type_spans s Boolean i j h
result_spans s annotations.Text i j h = type_spans s annotations.Text i j h
result_spans s (Named at name) i j h = type_spans s (Named at name) i j h
result_spans s (ListOf item) i j h = type_spans s (ListOf item) i j h

pub has_type_spans : (s : Source) (shape : Option Annotation) (i j : ℕ) → HasType s shape i j → Reaches s i j
has_type_spans s None i j h = record { less = omega (arith, h); inside = λ le. omega (arith, h) }
has_type_spans s (Some annotation) i j h =
    let of : Within s (i + 1) j = type_spans s annotation (i + 1) j h.1 in record { less = omega arith; inside = λ le. of.inside }

pub has_result_spans : (s : Source) (gives : Option Annotation) (i j : ℕ) → HasResult s gives i j → Reaches s i j
has_result_spans s None i j h = record { less = omega (arith, h); inside = λ le. omega (arith, h) }
has_result_spans s (Some annotation) i j h =
    let of : Within s (i + 1) j = result_spans s annotation (i + 1) j h.1 in record { less = omega arith; inside = λ le. of.inside }

pub parameter_spans : (s : Source) (p : Parameter) (i j : ℕ) → IsParameter s p i j → Within s i j
parameter_spans s p i j h =
    let of : Reaches s (i + 1) j = has_type_spans s p.shape (i + 1) j h.2 in
    record { less = omega arith; inside = of.inside (omega (arith, name_in s i p.name h.1)) }

pub more_parameters_spans : (s : Source) (all : List Parameter) (i j : ℕ) → MoreParameters s all i j → Within s i j
more_parameters_spans s [] i j h = record { less = omega (arith, h.1); inside = omega (arith, h.1, mark_in s i m.CloseParenthesis h.0) }
more_parameters_spans s (p ∷ rest) i j h =
    let a : Within s (i + 1) h.0 = parameter_spans s p (i + 1) h.0 h.2 in
    let b : Within s h.0 j = more_parameters_spans s rest h.0 j h.3 in
    record { less = omega arith; inside = b.inside }

pub parameters_spans : (s : Source) (all : List Parameter) (i j : ℕ) → AreParameters s all i j → Within s i j
parameters_spans s [] i j h = record { less = omega (arith, h.1); inside = omega (arith, h.1, mark_in s i m.CloseParenthesis h.0) }
parameters_spans s (p ∷ rest) i j h =
    let a : Within s i h.0 = parameter_spans s p i h.0 h.1 in
    let b : Within s h.0 j = more_parameters_spans s rest h.0 j h.2 in
    record { less = omega arith; inside = b.inside }

pub wrapped_spans : (s : Source) (p : ℕ) (P : Stands) → ((i j : ℕ) → P i j → Within s i j) → (i j : ℕ) → IsWrapped s p P i j → Within s i j
wrapped_spans s zero P spans i j h = spans i j h
wrapped_spans s (suc p) P spans i j h =
    let in_it : Within s (i + 1) h.0 = wrapped_spans s p P spans (i + 1) h.0 h.2 in
    let e : j ≡ h.0 + 1 = h.4 in
    record { less = omega arith; inside = omega (arith, mark_in s h.0 m.CloseParenthesis h.3) }

pub operand_spans : (s : Source) (l : ℕ) (e : Tree) (P : Stands) → ((i j : ℕ) → P i j → Within s i j) → (i j : ℕ) → IsOperand s l e P i j → Within s i j
operand_spans s l e P spans i j h = wrapped_spans s h.0 P spans i j h.1

pub ends_spans : (s : Source) (goes_on : Bool) (i j : ℕ) → Ends s goes_on i j → Reaches s i j
ends_spans s goes_on i j (inl h) = record { less = omega (arith, h.1); inside = λ le. omega (arith, h.1, mark_in s i m.Semicolon h.0) }
ends_spans s goes_on i j (inr h) = record { less = omega (arith, h.1); inside = λ le. omega (arith, h.1) }

-- behind one token, what may be left out
token_then : (s : Source) (i j : ℕ) → i < length s.tokens → Reaches s (i + 1) j → Within s i j
token_then s i j h r = record { less = omega (arith, r.less); inside = r.inside (omega arith) }

within_then : (s : Source) (i n j : ℕ) → Within s i n → Reaches s n j → Within s i j
within_then s i n j a r = record { less = omega (arith, a.less, r.less); inside = r.inside a.inside }

-- one or more tokens up to n, and further ones up to j
before : (s : Source) (i n j : ℕ) → i ≤ n → Within s n j → Within s i j
before s i n j le h = record { less = omega (arith, h.less); inside = h.inside }

one : (s : Source) (i j : ℕ) → i < length s.tokens → j ≡ i + 1 → Within s i j
one s i j h e = record { less = omega arith; inside = omega arith }

up_to : (s : Source) (i n j : ℕ) → i ≤ n → n < length s.tokens → j ≡ n + 1 → Within s i j
up_to s i n j le h e = record { less = omega arith; inside = omega arith }

arrow_le : (s : Source) (arrow : Bool) (i j : ℕ) → HasArrow s arrow i j → i ≤ j
arrow_le s false i j h = omega (arith, h)
arrow_le s true i j h = omega (arith, h.1)

pub routine_spans : (s : Source) (params : List Parameter) (gives : Option Annotation) (arrow : Bool) (P : Stands) → ((i j : ℕ) → P i j → Within s i j) → (i j : ℕ) → IsRoutine s params gives arrow P i j → Within s i j
routine_spans s params gives arrow P spans i j h =
    let a : Within s (i + 1) h.0 = parameters_spans s params (i + 1) h.0 h.4 in
    let b : Reaches s h.0 h.1 = has_result_spans s gives h.0 h.1 h.5 in
    let c : h.1 ≤ h.2 = arrow_le s arrow h.1 h.2 h.6 in
    before s i (h.2 + 1) j (omega (arith, a.less, b.less)) (spans (h.2 + 1) j h.8)

do_spans : (s : Source) (i o j : ℕ) → i < o → o < length s.tokens → ((IsMark s (o + 1) m.Semicolon × (j ≡ o + 2)) ⊎ (¬ (IsMark s (o + 1) m.Semicolon) × (j ≡ o + 1))) → Within s i j
do_spans s i o j less h (inl e) = record { less = omega (arith, e.1); inside = omega (arith, e.1, mark_in s (o + 1) m.Semicolon e.0) }
do_spans s i o j less h (inr e) = record { less = omega (arith, e.1); inside = omega (arith, e.1) }

mutual
  pub bare_spans : (s : Source) (e : Tree) (i j : ℕ) → IsBare s e i j → Within s i j
  bare_spans s (Num at value) i j h = one s i j (kind_in s i (k.Num value) h.1 (λ e. cc)) h.2
  bare_spans s (Text at text) i j h = one s i j (kind_in s i (k.Text text) h.1 (λ e. cc)) h.2
  bare_spans s (Truth at true) i j h = one s i j (word_in s i w.True h.1) h.2
  bare_spans s (Truth at false) i j h = one s i j (word_in s i w.False h.1) h.2
  bare_spans s (Null at) i j h = one s i j (word_in s i w.Null h.1) h.2
  bare_spans s (This at) i j h = one s i j (word_in s i w.This h.1) h.2
  bare_spans s (Name at name) i j h = one s i j (name_in s i name h.1) h.2
  bare_spans s (Unary at op a) i j h =
      before s i (i + 1) j (omega arith) (operand_spans s 12 a (IsBare s a) (bare_spans s a) (i + 1) j h.4)
  bare_spans s (Binary at op a b) i j h =
      let x : Within s i h.0 = operand_spans s (infix_level op) a (IsBare s a) (bare_spans s a) i h.0 h.3 in
      before s i (h.0 + 1) j (omega (arith, x.less)) (operand_spans s (infix_level op + 1) b (IsBare s b) (bare_spans s b) (h.0 + 1) j h.6)
  bare_spans s (Both at a b) i j h =
      let x : Within s i h.0 = operand_spans s 3 a (IsBare s a) (bare_spans s a) i h.0 h.2 in
      before s i (h.0 + 1) j (omega (arith, x.less)) (operand_spans s 4 b (IsBare s b) (bare_spans s b) (h.0 + 1) j h.4)
  bare_spans s (Either at a b) i j h =
      let x : Within s i h.0 = operand_spans s 2 a (IsBare s a) (bare_spans s a) i h.0 h.2 in
      before s i (h.0 + 1) j (omega (arith, x.less)) (operand_spans s 3 b (IsBare s b) (bare_spans s b) (h.0 + 1) j h.4)
  bare_spans s (Choice at c a b) i j h =
      let x : Within s i h.0 = operand_spans s 2 c (IsBare s c) (bare_spans s c) i h.0 h.3 in
      let y : Within s (h.0 + 1) h.1 = operand_spans s 1 a (IsBare s a) (bare_spans s a) (h.0 + 1) h.1 h.5 in
      before s i (h.1 + 1) j (omega (arith, x.less, y.less)) (operand_spans s 1 b (IsBare s b) (bare_spans s b) (h.1 + 1) j h.7)
  bare_spans s (Set at op x a) i j h =
      let y : Within s i h.0 = operand_spans s 14 x (IsBare s x) (bare_spans s x) i h.0 h.4 in
      before s i (h.0 + 1) j (omega (arith, y.less)) (operand_spans s 1 a (IsBare s a) (bare_spans s a) (h.0 + 1) j h.7)
  bare_spans s (Bump at x by false) i j h =
      before s i (i + 1) j (omega arith) (operand_spans s 12 x (IsBare s x) (bare_spans s x) (i + 1) j h.5)
  bare_spans s (Bump at x by true) i j h =
      let y : Within s i h.0 = operand_spans s 14 x (IsBare s x) (bare_spans s x) i h.0 h.4 in
      up_to s i h.0 j (omega (arith, y.less)) (mark_in s h.0 h.1 h.5) h.8
  bare_spans s (Member at a name) i j h =
      let x : Within s i h.0 = operand_spans s 14 a (IsBare s a) (bare_spans s a) i h.0 h.2 in
      up_to s i (h.0 + 1) j (omega (arith, x.less)) (member_in s (h.0 + 1) name h.4) (omega (arith, h.5))
  bare_spans s (Item at a b) i j h =
      let x : Within s i h.0 = operand_spans s 14 a (IsBare s a) (bare_spans s a) i h.0 h.3 in
      let y : Within s (h.0 + 1) h.1 = operand_spans s 1 b (IsBare s b) (bare_spans s b) (h.0 + 1) h.1 h.5 in
      up_to s i h.1 j (omega (arith, x.less, y.less)) (mark_in s h.1 m.CloseBracket h.6) h.7
  bare_spans s (Call at a args) i j h =
      let x : Within s i h.0 = operand_spans s 14 a (IsBare s a) (bare_spans s a) i h.0 h.2 in
      before s i (h.0 + 1) j (omega (arith, x.less)) (listed_spans s args m.CloseParenthesis (h.0 + 1) j h.4)
  bare_spans s (SuperCall at None args) i j h =
      before s i (i + 2) j (omega arith) (listed_spans s args m.CloseParenthesis (i + 2) j h.3)
  bare_spans s (SuperCall at (Some method) args) i j h =
      before s i (i + 4) j (omega arith) (listed_spans s args m.CloseParenthesis (i + 4) j h.5)
  bare_spans s (Make at class args) i j h =
      before s i (i + 3) j (omega arith) (listed_spans s args m.CloseParenthesis (i + 3) j h.4)
  bare_spans s (Items at items) i j h = before s i (i + 1) j (omega arith) (listed_spans s items m.CloseBracket (i + 1) j h.2)
  bare_spans s (Handler at handler) i j h = handler_spans s handler i j h.1

  pub listed_spans : (s : Source) (all : Trees) (close : Mark) (i j : ℕ) → AreListed s all close i j → Within s i j
  listed_spans s none close i j h = one s i j (mark_in s i close h.0) h.1
  listed_spans s (more a rest) close i j h =
      let x : Within s i h.0 = operand_spans s 1 a (IsBare s a) (bare_spans s a) i h.0 h.1 in
      before s i h.0 j (omega (arith, x.less)) (further_spans s rest close h.0 j h.2)

  pub further_spans : (s : Source) (all : Trees) (close : Mark) (i j : ℕ) → AreFurther s all close i j → Within s i j
  further_spans s none close i j h = one s i j (mark_in s i close h.0) h.1
  further_spans s (more a rest) close i j h =
      let x : Within s (i + 1) h.0 = operand_spans s 1 a (IsBare s a) (bare_spans s a) (i + 1) h.0 h.2 in
      before s i h.0 j (omega (arith, x.less)) (further_spans s rest close h.0 j h.3)

  pub optional_spans : (s : Source) (a : OptionalTree) (i j : ℕ) → IsOptional s a i j → Reaches s i j
  optional_spans s absent i j h = record { less = omega (arith, h); inside = λ le. omega (arith, h) }
  optional_spans s (present a) i j h =
      let x : Within s i j = operand_spans s 1 a (IsBare s a) (bare_spans s a) i j h in
      record { less = omega (arith, x.less); inside = λ le. x.inside }

  pub handler_spans : (s : Source) (handler : Routine) (i j : ℕ) → IsHandler s handler i j → Within s i j
  handler_spans s (Does at params gives all true) i j h =
      routine_spans s params gives true (InBlock s true false all) (block_spans s true false all) i j h.1
  handler_spans s (Does at params gives all false) i j h =
      before s i (i + 1) j (omega arith) (routine_spans s params gives false (InBlock s true false all) (block_spans s true false all) (i + 1) j h.2)

  pub statement_spans : (s : Source) (f l : Bool) (a : Statement) (i j : ℕ) → IsStatement s f l a i j → Within s i j
  statement_spans s f l (Block at all) i j h = before s i (i + 1) j (omega arith) (block_spans s f l all (i + 1) j h.2)
  statement_spans s f l (Let at fixed each) i j h =
      let x : Within s (i + 1) h.0 = declared_spans s fixed each (i + 1) h.0 h.3 in
      before s i (i + 1) j (omega arith) (within_then s (i + 1) h.0 j x (ends_spans s _ h.0 j h.4))
  statement_spans s f l (IfOnly at c a) i j h =
      let x : Within s (i + 2) h.0 = operand_spans s 1 c (IsBare s c) (bare_spans s c) (i + 2) h.0 h.4 in
      before s i (h.0 + 1) j (omega (arith, x.less)) (statement_spans s f l a (h.0 + 1) j h.6)
  statement_spans s f l (IfElse at c a b) i j h =
      let x : Within s (i + 2) h.0 = operand_spans s 1 c (IsBare s c) (bare_spans s c) (i + 2) h.0 h.5 in
      let y : Within s (h.0 + 1) h.1 = statement_spans s f l a (h.0 + 1) h.1 h.7 in
      before s i (h.1 + 1) j (omega (arith, x.less, y.less)) (statement_spans s f l b (h.1 + 1) j h.9)
  statement_spans s f l (While at c a) i j h =
      let x : Within s (i + 2) h.0 = operand_spans s 1 c (IsBare s c) (bare_spans s c) (i + 2) h.0 h.4 in
      before s i (h.0 + 1) j (omega (arith, x.less)) (statement_spans s f true a (h.0 + 1) j h.6)
  statement_spans s f l (DoWhile at a c) i j h =
      let x : Within s (i + 1) h.0 = statement_spans s f true a (i + 1) h.0 h.4 in
      let y : Within s (h.0 + 2) h.1 = operand_spans s 1 c (IsBare s c) (bare_spans s c) (h.0 + 2) h.1 h.7 in
      do_spans s i h.1 j (omega (arith, x.less, y.less)) (mark_in s h.1 m.CloseParenthesis h.8) h.9
  statement_spans s f l (For at first c step a) i j h =
      let x : Reaches s (i + 2) h.0 = first_spans s first (i + 2) h.0 h.6 in
      let y : Reaches s (h.0 + 1) h.1 = optional_spans s c (h.0 + 1) h.1 h.8 in
      let z : Reaches s (h.1 + 1) h.2 = optional_spans s step (h.1 + 1) h.2 h.10 in
      before s i (h.2 + 1) j (omega (arith, x.less, y.less, z.less)) (statement_spans s f true a (h.2 + 1) j h.12)
  statement_spans s f l (ForOf at fixed name list a) i j h =
      let x : Within s (i + 5) h.0 = operand_spans s 1 list (IsBare s list) (bare_spans s list) (i + 5) h.0 h.7 in
      before s i (h.0 + 1) j (omega (arith, x.less)) (statement_spans s f true a (h.0 + 1) j h.9)
  statement_spans s f l (Return at value) i j h = token_then s i j (word_in s i w.Return h.2) (returned_spans s value (i + 1) j h.3)
  statement_spans s f l (Break at) i j h = token_then s i j (word_in s i w.Break h.2) (ends_spans s false (i + 1) j h.3)
  statement_spans s f l (Continue at) i j h = token_then s i j (word_in s i w.Continue h.2) (ends_spans s false (i + 1) j h.3)
  statement_spans s f l (Plain at a) i j h =
      within_then s i h.0 j (operand_spans s 1 a (IsBare s a) (bare_spans s a) i h.0 h.3) (ends_spans s _ h.0 j h.4)
  statement_spans s f l (Empty at) i j h = one s i j (mark_in s i m.Semicolon h.1) h.2

  returned_spans : (s : Source) (value : OptionalTree) (i j : ℕ) → IsReturned s value i j → Reaches s i j
  returned_spans s absent i j h = ends_spans s false i j h
  returned_spans s (present a) i j h =
      let x : Within s i j = within_then s i h.0 j (operand_spans s 1 a (IsBare s a) (bare_spans s a) i h.0 h.2) (ends_spans s _ h.0 j h.3) in
      record { less = omega (arith, x.less); inside = λ le. x.inside }

  first_spans : (s : Source) (first : OptionalStatement) (i j : ℕ) → IsFirst s first i j → Reaches s i j
  first_spans s omitted i j h = record { less = omega (arith, h); inside = λ le. omega (arith, h) }
  first_spans s (written (Let at fixed each)) i j h =
      let x : Within s (i + 1) j = declared_spans s fixed each (i + 1) j h.2 in
      record { less = omega (arith, x.less); inside = λ le. x.inside }
  first_spans s (written (Plain at a)) i j h =
      let x : Within s i j = operand_spans s 1 a (IsBare s a) (bare_spans s a) i j h.1 in
      record { less = omega (arith, x.less); inside = λ le. x.inside }
  first_spans s (written a) i j h = absurd h

  declared_spans : (s : Source) (fixed : Bool) (each : Declarations) (i j : ℕ) → AreDeclared s fixed each i j → Within s i j
  declared_spans s fixed ended i j h = absurd h
  declared_spans s fixed (next a ended) i j h = declaration_spans s fixed a i j h
  declared_spans s fixed (next a (next b rest)) i j h =
      let x : Within s i h.0 = declaration_spans s fixed a i h.0 h.1 in
      before s i (h.0 + 1) j (omega (arith, x.less)) (declared_spans s fixed (next b rest) (h.0 + 1) j h.3)

  pub declaration_spans : (s : Source) (fixed : Bool) (a : Declaration) (i j : ℕ) → IsDeclared s fixed a i j → Within s i j
  declaration_spans s fixed (Declare at name shape first) i j h =
      let x : Reaches s (i + 1) h.0 = has_type_spans s shape (i + 1) h.0 h.3 in
      let y : Reaches s h.0 j = initialised_spans s fixed first h.0 j h.4 in
      token_then s i j (name_in s i name h.2) (record { less = omega (arith, x.less, y.less); inside = λ le. y.inside (x.inside le) })

  initialised_spans : (s : Source) (fixed : Bool) (first : OptionalTree) (i j : ℕ) → IsInitialised s fixed first i j → Reaches s i j
  initialised_spans s fixed absent i j h = record { less = omega (arith, h.1); inside = λ le. omega (arith, h.1) }
  initialised_spans s fixed (present a) i j h =
      let x : Within s (i + 1) j = operand_spans s 1 a (IsBare s a) (bare_spans s a) (i + 1) j h.1 in
      record { less = omega (arith, x.less); inside = λ le. x.inside }

  pub block_spans : (s : Source) (f l : Bool) (all : Statements) (i j : ℕ) → InBlock s f l all i j → Within s i j
  block_spans s f l done i j h = one s i j (mark_in s i m.CloseBrace h.0) h.1
  block_spans s f l (also a rest) i j h =
      let x : Within s i h.0 = statement_spans s f l a i h.0 h.1 in
      before s i h.0 j (omega (arith, x.less)) (block_spans s f l rest h.0 j h.2)
