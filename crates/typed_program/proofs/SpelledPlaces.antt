-- The places of a tree that tokens spell are those of tokens, by cases on the tree.
use Rattle.std.proofs.Common.{◌≡◌, ℕ, zero, suc, ◌+◌, Bool, true, false, Some, None, Option, List, [], ◌∷◌, sym, subst}
use Rattle.sts_lexer.specs.declared.marks.Mark.{Mark}
use Rattle.sts_lexer.specs.declared.marks.Mark.TheVariants as m
use Rattle.sts_syntax.specs.Annotations.{Annotation, Number, Boolean, Nothing, Named, ListOf}
use Rattle.sts_syntax.specs.Annotations as annotations
use Rattle.sts_syntax.specs.Trees.{Parameter, Tree, Num, Text, Truth, Null, This, Name, Unary, Binary, Both, Either, Choice, Set, Bump, Member, Item, Call, SuperCall, Make, Items, Handler, Trees, none, more, OptionalTree, absent, present, Statement, Block, Let, IfOnly, IfElse, While, DoWhile, For, ForOf, Return, Break, Continue, Plain, Empty, OptionalStatement, omitted, written, Statements, done, also, Declaration, Declare, Declarations, ended, next, Routine, Does}
use Rattle.sts_syntax.specs.Programs.{ClassMember, Field, Method, Constructor, TopLevel, Class, Function, Main, Program}
use Rattle.sts_grammar.specs.Precedence.{assignment_level, either_level, both_level, prefix_level, primary_level}
use Rattle.sts_grammar.specs.Source.{Source, place}
use Rattle.sts_grammar.specs.Operators.{infix_level}
use Rattle.sts_grammar.specs.Headings.{IsType, IsResult, HasType, HasResult, MoreParameters, AreParameters}
use Rattle.sts_grammar.specs.Operands.{Stands, IsWrapped, IsOperand, IsRoutine}
use Rattle.sts_grammar.specs.Spells.{IsBare, AreListed, AreFurther, IsOptional, IsHandler, IsStatement, IsReturned, IsFirst, AreDeclared, IsDeclared, IsInitialised, InBlock}
use Rattle.sts_grammar.specs.Units.{IsMember, AreMembers, HasBase, IsPart, AreParts}
use Rattle.typed_program.proofs.NodePlaces.{AnnotationAt, WrittenAt, ParametersAt, TreeAt, TreesAt, OptionAt, RoutineAt, DeclarationAt, DeclarationsAt, StatementAt, FirstAt, StatementsAt, MemberAt, MembersAt, ItemAt, ProgramAt}

-- what stands in parentheses stands in them somewhere
unwrapped : (s : Source) (p : ℕ) (Held : Stands) (F : Type 0) → ((i j : ℕ) → Held i j → F) → (i j : ℕ) → IsWrapped s p Held i j → F
unwrapped s zero Held F f i j h = f i j h
unwrapped s (suc p) Held F f i j h = unwrapped s p Held F f (i + 1) h.0 h.2

operand : (s : Source) (l : ℕ) (e : Tree) (F : Type 0) → ((i j : ℕ) → IsBare s e i j → F) → (i j : ℕ) → IsOperand s l e (IsBare s e) i j → F
operand s l e F f i j h = unwrapped s h.0 (IsBare s e) F f i j h.1

module _ (P : ℕ → Type 0) (s : Source) (places : (i : ℕ) → P (place s i)) (start : P 0) where
  at_place : (at i : ℕ) → at ≡ place s i → P at
  at_place at i e = subst P (sym e) (places i)

  annotation : (a : Annotation) (i j : ℕ) → IsType s a i j → AnnotationAt P a
  annotation Number i j h = tt
  annotation Boolean i j h = tt
  annotation annotations.Text i j h = tt
  annotation Nothing i j h = tt
  annotation (Named at x) i j h = at_place at i h.0.0
  annotation (ListOf item) i j h = annotation item i h.0 h.1

  result : (a : Annotation) (i j : ℕ) → IsResult s a i j → AnnotationAt P a
  result Number i j h = tt
  result Boolean i j h = tt
  result annotations.Text i j h = tt
  result Nothing i j h = tt
  result (Named at x) i j h = annotation (Named at x) i j h
  result (ListOf item) i j h = annotation (ListOf item) i j h

  typed : (shape : Option Annotation) (i j : ℕ) → HasType s shape i j → WrittenAt P shape
  typed None i j h = tt
  typed (Some a) i j h = annotation a (i + 1) j h.1

  resulting : (gives : Option Annotation) (i j : ℕ) → HasResult s gives i j → WrittenAt P gives
  resulting None i j h = tt
  resulting (Some a) i j h = result a (i + 1) j h.1

  more_parameters : (params : List Parameter) (i j : ℕ) → MoreParameters s params i j → ParametersAt P params
  more_parameters [] i j h = tt
  more_parameters (p ∷ rest) i j h = (at_place p.at (i + 1) h.2.0, typed p.shape (i + 1 + 1) h.0 h.2.2, more_parameters rest h.0 j h.3)

  parameters : (params : List Parameter) (i j : ℕ) → AreParameters s params i j → ParametersAt P params
  parameters [] i j h = tt
  parameters (p ∷ rest) i j h = (at_place p.at i h.1.0, typed p.shape (i + 1) h.0 h.1.2, more_parameters rest h.0 j h.2)

  routine : (at : ℕ) (params : List Parameter) (gives : Option Annotation) (arrow : Bool) (all : Statements) (Held : Stands) → P at → ((i j : ℕ) → Held i j → StatementsAt P all)
      → (i j : ℕ) → IsRoutine s params gives arrow Held i j → RoutineAt P (Does at params gives all arrow)
  routine at params gives arrow all Held here f i j h = (here, parameters params (i + 1) h.0 h.4, resulting gives h.0 h.1 h.5, f (h.2 + 1) j h.8)

  mutual
    bare : (e : Tree) (i j : ℕ) → IsBare s e i j → TreeAt P e
    bare (Num at n) i j h = at_place at i h.0
    bare (Text at n) i j h = at_place at i h.0
    bare (Truth at true) i j h = at_place at i h.0
    bare (Truth at false) i j h = at_place at i h.0
    bare (Null at) i j h = at_place at i h.0
    bare (This at) i j h = at_place at i h.0
    bare (Name at x) i j h = at_place at i h.0
    bare (Unary at op a) i j h = (at_place at i h.1, operand s prefix_level a (TreeAt P a) (bare a) (i + 1) j h.4)
    bare (Binary at op a b) i j h = (at_place at i h.2, operand s (infix_level op) a (TreeAt P a) (bare a) i h.0 h.3, operand s (infix_level op + 1) b (TreeAt P b) (bare b) (h.0 + 1) j h.6)
    bare (Both at a b) i j h = (at_place at i h.1, operand s both_level a (TreeAt P a) (bare a) i h.0 h.2, operand s (both_level + 1) b (TreeAt P b) (bare b) (h.0 + 1) j h.4)
    bare (Either at a b) i j h = (at_place at i h.1, operand s either_level a (TreeAt P a) (bare a) i h.0 h.2, operand s (either_level + 1) b (TreeAt P b) (bare b) (h.0 + 1) j h.4)
    bare (Choice at c a b) i j h = (
      at_place at i h.2,
      operand s (assignment_level + 1) c (TreeAt P c) (bare c) i h.0 h.3,
      operand s assignment_level a (TreeAt P a) (bare a) (h.0 + 1) h.1 h.5,
      operand s assignment_level b (TreeAt P b) (bare b) (h.1 + 1) j h.7,
    )
    bare (Set at op x a) i j h = (at_place at i h.2, operand s primary_level x (TreeAt P x) (bare x) i h.0 h.4, operand s assignment_level a (TreeAt P a) (bare a) (h.0 + 1) j h.7)
    bare (Bump at x by false) i j h = (at_place at i h.1, operand s prefix_level x (TreeAt P x) (bare x) (i + 1) j h.5)
    bare (Bump at x by true) i j h = (at_place at i h.2, operand s primary_level x (TreeAt P x) (bare x) i h.0 h.4)
    bare (Member at a x) i j h = (at_place at i h.1, operand s primary_level a (TreeAt P a) (bare a) i h.0 h.2)
    bare (Item at a b) i j h = (at_place at i h.2, operand s primary_level a (TreeAt P a) (bare a) i h.0 h.3, operand s assignment_level b (TreeAt P b) (bare b) (h.0 + 1) h.1 h.5)
    bare (Call at a args) i j h = (at_place at i h.1, operand s primary_level a (TreeAt P a) (bare a) i h.0 h.2, listed args m.CloseParenthesis (h.0 + 1) j h.4)
    bare (SuperCall at None args) i j h = (at_place at i h.0, listed args m.CloseParenthesis (i + 2) j h.3)
    bare (SuperCall at (Some x) args) i j h = (at_place at i h.0, listed args m.CloseParenthesis (i + 4) j h.5)
    bare (Make at x args) i j h = (at_place at i h.0, listed args m.CloseParenthesis (i + 3) j h.4)
    bare (Items at items) i j h = (at_place at i h.0, listed items m.CloseBracket (i + 1) j h.2)
    bare (Handler at body) i j h = (at_place at i h.0, handler body i j h.1)

    listed : (all : Trees) (close : Mark) (i j : ℕ) → AreListed s all close i j → TreesAt P all
    listed none close i j h = tt
    listed (more a rest) close i j h = (operand s assignment_level a (TreeAt P a) (bare a) i h.0 h.1, further rest close h.0 j h.2)

    further : (all : Trees) (close : Mark) (i j : ℕ) → AreFurther s all close i j → TreesAt P all
    further none close i j h = tt
    further (more a rest) close i j h = (operand s assignment_level a (TreeAt P a) (bare a) (i + 1) h.0 h.2, further rest close h.0 j h.3)

    optional : (e : OptionalTree) (i j : ℕ) → IsOptional s e i j → OptionAt P e
    optional absent i j h = tt
    optional (present a) i j h = operand s assignment_level a (TreeAt P a) (bare a) i j h

    handler : (body : Routine) (i j : ℕ) → IsHandler s body i j → RoutineAt P body
    handler (Does at params gives all true) i j h = routine at params gives true all (InBlock s true false all) (at_place at i h.0) (block true false all) i j h.1
    handler (Does at params gives all false) i j h = routine at params gives false all (InBlock s true false all) (at_place at i h.0) (block true false all) (i + 1) j h.2

    statement : (f l : Bool) (a : Statement) (i j : ℕ) → IsStatement s f l a i j → StatementAt P a
    statement f l (Block at all) i j h = (at_place at i h.0, block f l all (i + 1) j h.2)
    statement f l (Let at fixed each) i j h = (at_place at i h.1, declared fixed each (i + 1) h.0 h.3)
    statement f l (IfOnly at c a) i j h = (at_place at i h.1, operand s assignment_level c (TreeAt P c) (bare c) (i + 2) h.0 h.4, statement f l a (h.0 + 1) j h.6)
    statement f l (IfElse at c a b) i j h = (
      at_place at i h.2,
      operand s assignment_level c (TreeAt P c) (bare c) (i + 2) h.0 h.5,
      statement f l a (h.0 + 1) h.1 h.7,
      statement f l b (h.1 + 1) j h.9,
    )
    statement f l (While at c a) i j h = (at_place at i h.1, operand s assignment_level c (TreeAt P c) (bare c) (i + 2) h.0 h.4, statement f true a (h.0 + 1) j h.6)
    statement f l (DoWhile at a c) i j h = (at_place at i h.2, statement f true a (i + 1) h.0 h.4, operand s assignment_level c (TreeAt P c) (bare c) (h.0 + 2) h.1 h.7)
    statement f l (For at first c step a) i j h = (
      at_place at i h.3,
      first_of first (i + 2) h.0 h.6,
      optional c (h.0 + 1) h.1 h.8,
      optional step (h.1 + 1) h.2 h.10,
      statement f true a (h.2 + 1) j h.12,
    )
    statement f l (ForOf at fixed x list a) i j h = (at_place at i h.1, operand s assignment_level list (TreeAt P list) (bare list) (i + 5) h.0 h.7, statement f true a (h.0 + 1) j h.9)
    statement f l (Return at value) i j h = (at_place at i h.0, returned value (i + 1) j h.3)
    statement f l (Break at) i j h = at_place at i h.0
    statement f l (Continue at) i j h = at_place at i h.0
    statement f l (Plain at a) i j h = (at_place at i h.1, operand s assignment_level a (TreeAt P a) (bare a) i h.0 h.3)
    statement f l (Empty at) i j h = at_place at i h.0

    returned : (e : OptionalTree) (i j : ℕ) → IsReturned s e i j → OptionAt P e
    returned absent i j h = tt
    returned (present a) i j h = operand s assignment_level a (TreeAt P a) (bare a) i h.0 h.2

    first_of : (first : OptionalStatement) (i j : ℕ) → IsFirst s first i j → FirstAt P first
    first_of omitted i j h = tt
    first_of (written (Let at fixed each)) i j h = (at_place at i h.0, declared fixed each (i + 1) j h.2)
    first_of (written (Plain at a)) i j h = (at_place at i h.0, operand s assignment_level a (TreeAt P a) (bare a) i j h.1)
    first_of (written (Block at all)) i j h = absurd h
    first_of (written (IfOnly at c a)) i j h = absurd h
    first_of (written (IfElse at c a b)) i j h = absurd h
    first_of (written (While at c a)) i j h = absurd h
    first_of (written (DoWhile at a c)) i j h = absurd h
    first_of (written (For at first c step a)) i j h = absurd h
    first_of (written (ForOf at fixed x list a)) i j h = absurd h
    first_of (written (Return at value)) i j h = absurd h
    first_of (written (Break at)) i j h = absurd h
    first_of (written (Continue at)) i j h = absurd h
    first_of (written (Empty at)) i j h = absurd h

    declared : (fixed : Bool) (each : Declarations) (i j : ℕ) → AreDeclared s fixed each i j → DeclarationsAt P each
    declared fixed ended i j h = absurd h
    declared fixed (next a ended) i j h = (declaration fixed a i j h, tt)
    declared fixed (next a (next b rest)) i j h = (declaration fixed a i h.0 h.1, declared fixed (next b rest) (h.0 + 1) j h.3)

    declaration : (fixed : Bool) (a : Declaration) (i j : ℕ) → IsDeclared s fixed a i j → DeclarationAt P a
    declaration fixed (Declare at x shape first) i j h = (at_place at i h.1, typed shape (i + 1) h.0 h.3, initialised fixed first h.0 j h.4)

    initialised : (fixed : Bool) (first : OptionalTree) (i j : ℕ) → IsInitialised s fixed first i j → OptionAt P first
    initialised fixed absent i j h = tt
    initialised fixed (present a) i j h = operand s assignment_level a (TreeAt P a) (bare a) (i + 1) j h.1

    block : (f l : Bool) (all : Statements) (i j : ℕ) → InBlock s f l all i j → StatementsAt P all
    block f l done i j h = tt
    block f l (also a rest) i j h = (statement f l a i h.0 h.1, block f l rest h.0 j h.2)

  member : (a : ClassMember) (i j : ℕ) → IsMember s a i j → MemberAt P a
  member (Field (Declare at x shape first)) i j h = (at_place at h.0 h.4, typed shape (h.0 + 1) h.1 h.6, initialised false first h.1 h.2 h.7)
  member (Method x (Does at params gives all true)) i j h = absurd h
  member (Method x (Does at params gives all false)) i j h = routine at params gives false all (InBlock s true false all) (at_place at h.0 h.2) (block true false all) (h.0 + 1) j h.5
  member (Constructor (Does at params None all false)) i j h = routine at params None false all (InBlock s true false all) (at_place at h.0 h.2) (block true false all) (h.0 + 1) j h.4
  member (Constructor (Does at params None all true)) i j h = absurd h
  member (Constructor (Does at params (Some g) all arrow)) i j h = absurd h

  members : (all : List ClassMember) (i j : ℕ) → AreMembers s all i j → MembersAt P all
  members [] i j h = tt
  members (a ∷ rest) i j h = (member a h.0 h.1 h.3, members rest h.1 j h.4)

  base : (b : Option ℕ) (base_at i j : ℕ) → HasBase s b base_at i j → P base_at
  base None base_at i j h = subst P (sym h.0) start
  base (Some x) base_at i j h = at_place base_at (i + 1) h.2

  part : (a : TopLevel) (i j : ℕ) → IsPart s a i j → ItemAt P a
  part (Class at x b base_at all) i j h = (at_place at (i + 1) h.2, base b base_at (i + 2) h.0 h.4, members all (h.0 + 1) j h.6)
  part (Function x (Does at params gives all true)) i j h = absurd h
  part (Function x (Does at params gives all false)) i j h = routine at params gives false all (InBlock s true false all) (at_place at (i + 1) h.1) (block true false all) (i + 2) j h.3
  part (Main a) i j h = statement false false a i j h

  pub parts : (all : Program) (i : ℕ) → AreParts s all i → ProgramAt P all
  parts [] i h = tt
  parts (a ∷ rest) i h = (part a i h.0 h.1, parts rest h.0 h.2)
