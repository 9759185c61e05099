-- Expressions and statements that tokens spell are formed, by cases on the tree.
use Rattle.std.proofs.Common.{◌≡◌, ℕ, zero, suc, ◌+◌, ℤ, Bool, true, false, Some, None, Option, List, inl, inr}
use Rattle.sts_lexer.specs.declared.marks.Mark.{Mark}
use Rattle.sts_lexer.specs.declared.marks.Mark.TheVariants as m
use Rattle.sts_lexer.specs.declared.token.TokenKind.TheVariants as k
use Rattle.sts_syntax.specs.TypeRules.{IsOne}
use Rattle.sts_syntax.specs.Annotations.{Annotation}
use Rattle.sts_syntax.specs.Trees.{Parameter, Tree, Num, Text, Truth, Null, This, Name, Unary, Binary, Both, Either, Choice, Set, Bump, Member, Item, Call, SuperCall, Make, Items, Handler, Trees, none, more, OptionalTree, absent, present, Statement, Block, Let, IfOnly, IfElse, While, DoWhile, For, ForOf, Return, Break, Continue, Plain, Empty, OptionalStatement, omitted, written, Statements, done, also, Declaration, Declare, Declarations, ended, next, Routine, Does}
use Rattle.sts_grammar.specs.Precedence.{assignment_level, either_level, both_level, prefix_level, primary_level}
use Rattle.sts_grammar.specs.Source.{Source, kind}
use Rattle.sts_grammar.specs.Operators.{infix_level, bump_by}
use Rattle.sts_grammar.specs.Operands.{Stands, IsWrapped, IsOperand, IsRoutine}
use Rattle.sts_grammar.specs.Spells.{IsBare, AreListed, AreFurther, IsOptional, IsHandler, IsStatement, IsReturned, IsFirst, AreDeclared, IsDeclared, IsInitialised, InBlock}
use Rattle.typed_laws.specs.Formed.{TreeHas, TreesHave, OptionHas, BodyHas, DeclarationHas, DeclarationsHave, StatementHas, FirstHas, StatementsHave}

-- what stands in parentheses stands in them somewhere
unwrapped : (s : Source) (p : ℕ) (Held : Stands) (F : Type 0) → ((i j : ℕ) → Held i j → F) → (i j : ℕ) → IsWrapped s p Held i j → F
unwrapped s zero Held F f i j h = f i j h
unwrapped s (suc p) Held F f i j h = unwrapped s p Held F f (i + 1) h.0 h.2

operand : (s : Source) (l : ℕ) (e : Tree) (F : Type 0) → ((i j : ℕ) → IsBare s e i j → F) → (i j : ℕ) → IsOperand s l e (IsBare s e) i j → F
operand s l e F f i j h = unwrapped s h.0 (IsBare s e) F f i j h.1

pub routine : (s : Source) (params : List Parameter) (gives : Option Annotation) (arrow : Bool) (Held : Stands) (F : Type 0) → ((i j : ℕ) → Held i j → F) → (i j : ℕ) → IsRoutine s params gives arrow Held i j → F
routine s params gives arrow Held F f i j h = f (h.2 + 1) j h.8

by_one : (mark : Mark) (by : ℤ) → bump_by mark ≡ Some by → IsOne by
by_one m.PlusPlus by h = inl cc
by_one m.MinusMinus by h = inr cc
by_one _ by h = cc

-- so is every number among the tokens, and every text
abbrev pub HasNumbers : (ℤ → Type 0) → Source → Type 0
HasNumbers IsNumber s = (i : ℕ) (n : ℤ) → kind s i ≡ k.Num n → IsNumber n

abbrev pub HasTexts : (ℕ → Type 0) → Source → Type 0
HasTexts IsText s = (i x : ℕ) → kind s i ≡ k.Text x → IsText x

module _ (IsNumber : ℤ → Type 0) (IsText : ℕ → Type 0) (s : Source) (numbers : HasNumbers IsNumber s) (texts : HasTexts IsText s) where
  mutual
    pub bare : (e : Tree) (i j : ℕ) → IsBare s e i j → TreeHas IsNumber IsText e
    bare (Num at n) i j h = numbers i n h.1
    bare (Text at n) i j h = texts i n h.1
    bare (Truth at b) i j h = tt
    bare (Null at) i j h = tt
    bare (This at) i j h = tt
    bare (Name at x) i j h = tt
    bare (Unary at op a) i j h = operand s prefix_level a (TreeHas IsNumber IsText a) (bare a) (i + 1) j h.4
    bare (Binary at op a b) i j h = (operand s (infix_level op) a (TreeHas IsNumber IsText a) (bare a) i h.0 h.3, operand s (infix_level op + 1) b (TreeHas IsNumber IsText b) (bare b) (h.0 + 1) j h.6)
    bare (Both at a b) i j h = (operand s both_level a (TreeHas IsNumber IsText a) (bare a) i h.0 h.2, operand s (both_level + 1) b (TreeHas IsNumber IsText b) (bare b) (h.0 + 1) j h.4)
    bare (Either at a b) i j h = (operand s either_level a (TreeHas IsNumber IsText a) (bare a) i h.0 h.2, operand s (either_level + 1) b (TreeHas IsNumber IsText b) (bare b) (h.0 + 1) j h.4)
    bare (Choice at c a b) i j h = (
      operand s (assignment_level + 1) c (TreeHas IsNumber IsText c) (bare c) i h.0 h.3,
      operand s assignment_level a (TreeHas IsNumber IsText a) (bare a) (h.0 + 1) h.1 h.5,
      operand s assignment_level b (TreeHas IsNumber IsText b) (bare b) (h.1 + 1) j h.7,
    )
    bare (Set at op x a) i j h = (operand s primary_level x (TreeHas IsNumber IsText x) (bare x) i h.0 h.4, operand s assignment_level a (TreeHas IsNumber IsText a) (bare a) (h.0 + 1) j h.7)
    bare (Bump at x by false) i j h = (operand s prefix_level x (TreeHas IsNumber IsText x) (bare x) (i + 1) j h.5, by_one h.0 by h.3)
    bare (Bump at x by true) i j h = (operand s primary_level x (TreeHas IsNumber IsText x) (bare x) i h.0 h.4, by_one h.1 by h.6)
    bare (Member at a x) i j h = operand s primary_level a (TreeHas IsNumber IsText a) (bare a) i h.0 h.2
    bare (Item at a b) i j h = (operand s primary_level a (TreeHas IsNumber IsText a) (bare a) i h.0 h.3, operand s assignment_level b (TreeHas IsNumber IsText b) (bare b) (h.0 + 1) h.1 h.5)
    bare (Call at a args) i j h = (operand s primary_level a (TreeHas IsNumber IsText a) (bare a) i h.0 h.2, listed args m.CloseParenthesis (h.0 + 1) j h.4)
    bare (SuperCall at None args) i j h = listed args m.CloseParenthesis (i + 2) j h.3
    bare (SuperCall at (Some x) args) i j h = listed args m.CloseParenthesis (i + 4) j h.5
    bare (Make at x args) i j h = listed args m.CloseParenthesis (i + 3) j h.4
    bare (Items at items) i j h = listed items m.CloseBracket (i + 1) j h.2
    bare (Handler at body) i j h = handler body i j h.1

    listed : (all : Trees) (close : Mark) (i j : ℕ) → AreListed s all close i j → TreesHave IsNumber IsText all
    listed none close i j h = tt
    listed (more a rest) close i j h = (operand s assignment_level a (TreeHas IsNumber IsText a) (bare a) i h.0 h.1, further rest close h.0 j h.2)

    further : (all : Trees) (close : Mark) (i j : ℕ) → AreFurther s all close i j → TreesHave IsNumber IsText all
    further none close i j h = tt
    further (more a rest) close i j h = (operand s assignment_level a (TreeHas IsNumber IsText a) (bare a) (i + 1) h.0 h.2, further rest close h.0 j h.3)

    optional : (e : OptionalTree) (i j : ℕ) → IsOptional s e i j → OptionHas IsNumber IsText e
    optional absent i j h = tt
    optional (present a) i j h = operand s assignment_level a (TreeHas IsNumber IsText a) (bare a) i j h

    handler : (body : Routine) (i j : ℕ) → IsHandler s body i j → BodyHas IsNumber IsText body
    handler (Does at params gives all true) i j h = routine s params gives true (InBlock s true false all) (StatementsHave IsNumber IsText false all) (block true false all) i j h.1
    handler (Does at params gives all false) i j h = routine s params gives false (InBlock s true false all) (StatementsHave IsNumber IsText false all) (block true false all) (i + 1) j h.2

    pub statement : (f l : Bool) (a : Statement) (i j : ℕ) → IsStatement s f l a i j → StatementHas IsNumber IsText l a
    statement f l (Block at all) i j h = block f l all (i + 1) j h.2
    statement f l (Let at fixed each) i j h = declared fixed each (i + 1) h.0 h.3
    statement f l (IfOnly at c a) i j h = (operand s assignment_level c (TreeHas IsNumber IsText c) (bare c) (i + 2) h.0 h.4, statement f l a (h.0 + 1) j h.6)
    statement f l (IfElse at c a b) i j h = (operand s assignment_level c (TreeHas IsNumber IsText c) (bare c) (i + 2) h.0 h.5, statement f l a (h.0 + 1) h.1 h.7, statement f l b (h.1 + 1) j h.9)
    statement f l (While at c a) i j h = (operand s assignment_level c (TreeHas IsNumber IsText c) (bare c) (i + 2) h.0 h.4, statement f true a (h.0 + 1) j h.6)
    statement f l (DoWhile at a c) i j h = (statement f true a (i + 1) h.0 h.4, operand s assignment_level c (TreeHas IsNumber IsText c) (bare c) (h.0 + 2) h.1 h.7)
    statement f l (For at first c step a) i j h = (first_of first (i + 2) h.0 h.6, optional c (h.0 + 1) h.1 h.8, optional step (h.1 + 1) h.2 h.10, statement f true a (h.2 + 1) j h.12)
    statement f l (ForOf at fixed x list a) i j h = (operand s assignment_level list (TreeHas IsNumber IsText list) (bare list) (i + 5) h.0 h.7, statement f true a (h.0 + 1) j h.9)
    statement f l (Return at value) i j h = returned value (i + 1) j h.3
    statement f l (Break at) i j h = h.1
    statement f l (Continue at) i j h = h.1
    statement f l (Plain at a) i j h = operand s assignment_level a (TreeHas IsNumber IsText a) (bare a) i h.0 h.3
    statement f l (Empty at) i j h = tt

    returned : (e : OptionalTree) (i j : ℕ) → IsReturned s e i j → OptionHas IsNumber IsText e
    returned absent i j h = tt
    returned (present a) i j h = operand s assignment_level a (TreeHas IsNumber IsText a) (bare a) i h.0 h.2

    first_of : (first : OptionalStatement) (i j : ℕ) → IsFirst s first i j → FirstHas IsNumber IsText first
    first_of omitted i j h = tt
    first_of (written (Let at fixed each)) i j h = (tt, declared fixed each (i + 1) j h.2)
    first_of (written (Plain at a)) i j h = (tt, operand s assignment_level a (TreeHas IsNumber IsText a) (bare a) i j h.1)
    first_of (written (Block at all)) i j h = absurd h
    first_of (written (IfOnly at c a)) i j h = absurd h
    first_of (written (IfElse at c a b)) i j h = absurd h
    first_of (written (While at c a)) i j h = absurd h
    first_of (written (DoWhile at a c)) i j h = absurd h
    first_of (written (For at first c step a)) i j h = absurd h
    first_of (written (ForOf at fixed x list a)) i j h = absurd h
    first_of (written (Return at value)) i j h = absurd h
    first_of (written (Break at)) i j h = absurd h
    first_of (written (Continue at)) i j h = absurd h
    first_of (written (Empty at)) i j h = absurd h

    declared : (fixed : Bool) (each : Declarations) (i j : ℕ) → AreDeclared s fixed each i j → DeclarationsHave IsNumber IsText each
    declared fixed ended i j h = absurd h
    declared fixed (next a ended) i j h = (declaration fixed a i j h, tt)
    declared fixed (next a (next b rest)) i j h = (declaration fixed a i h.0 h.1, declared fixed (next b rest) (h.0 + 1) j h.3)

    declaration : (fixed : Bool) (a : Declaration) (i j : ℕ) → IsDeclared s fixed a i j → DeclarationHas IsNumber IsText a
    declaration fixed (Declare at x shape first) i j h = initialised fixed first h.0 j h.4

    pub initialised : (fixed : Bool) (first : OptionalTree) (i j : ℕ) → IsInitialised s fixed first i j → OptionHas IsNumber IsText first
    initialised fixed absent i j h = tt
    initialised fixed (present a) i j h = operand s assignment_level a (TreeHas IsNumber IsText a) (bare a) (i + 1) j h.1

    pub block : (f l : Bool) (all : Statements) (i j : ℕ) → InBlock s f l all i j → StatementsHave IsNumber IsText l all
    block f l done i j h = tt
    block f l (also a rest) i j h = (statement f l a i h.0 h.1, block f l rest h.0 j h.2)
