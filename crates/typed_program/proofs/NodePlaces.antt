-- All places of a tree are such.
use Rattle.std.proofs.Common.{ℕ, Some, None, List, [], ◌∷◌}
use Rattle.std.specs.Prelude.{Option}
use Rattle.sts_syntax.specs.Annotations.{Annotation, Number, Boolean, Nothing, Named, ListOf}
use Rattle.sts_syntax.specs.Annotations as annotations
use Rattle.sts_syntax.specs.Trees.{Parameter, Tree, Num, Text, Truth, Null, This, Name, Unary, Binary, Both, Either, Choice, Set, Bump, Member, Item, Call, SuperCall, Make, Items, Handler, Trees, none, more, OptionalTree, absent, present, Statement, Block, Let, IfOnly, IfElse, While, DoWhile, For, ForOf, Return, Break, Continue, Plain, Empty, Statements, done, also, OptionalStatement, omitted, written, Declaration, Declare, Declarations, ended, next, Routine, Does}
use Rattle.sts_syntax.specs.Programs.{ClassMember, Field, Method, Constructor, TopLevel, Class, Function, Main, Program}

module _ (P : ℕ → Type 0) where
  abbrev pub AnnotationAt : Annotation → Type 0
  AnnotationAt Number = Unit {0}
  AnnotationAt Boolean = Unit {0}
  AnnotationAt annotations.Text = Unit {0}
  AnnotationAt Nothing = Unit {0}
  AnnotationAt (Named at x) = P at
  AnnotationAt (ListOf item) = AnnotationAt item

  abbrev pub WrittenAt : Option Annotation → Type 0
  WrittenAt None = Unit {0}
  WrittenAt (Some a) = AnnotationAt a

  abbrev pub ParametersAt : List Parameter → Type 0
  ParametersAt [] = Unit {0}
  ParametersAt (p ∷ rest) = P p.at × WrittenAt p.shape × ParametersAt rest

  abbrev mutual
    pub TreeAt : Tree → Type 0
    TreeAt (Num at n) = P at
    TreeAt (Text at n) = P at
    TreeAt (Truth at b) = P at
    TreeAt (Null at) = P at
    TreeAt (This at) = P at
    TreeAt (Name at x) = P at
    TreeAt (Unary at op a) = P at × TreeAt a
    TreeAt (Binary at op a b) = P at × TreeAt a × TreeAt b
    TreeAt (Both at a b) = P at × TreeAt a × TreeAt b
    TreeAt (Either at a b) = P at × TreeAt a × TreeAt b
    TreeAt (Choice at c a b) = P at × TreeAt c × TreeAt a × TreeAt b
    TreeAt (Set at op x e) = P at × TreeAt x × TreeAt e
    TreeAt (Bump at x by late) = P at × TreeAt x
    TreeAt (Member at a m) = P at × TreeAt a
    TreeAt (Item at a i) = P at × TreeAt a × TreeAt i
    TreeAt (Call at f args) = P at × TreeAt f × TreesAt args
    TreeAt (SuperCall at m args) = P at × TreesAt args
    TreeAt (Make at x args) = P at × TreesAt args
    TreeAt (Items at items) = P at × TreesAt items
    TreeAt (Handler at body) = P at × RoutineAt body

    pub TreesAt : Trees → Type 0
    TreesAt none = Unit {0}
    TreesAt (more e rest) = TreeAt e × TreesAt rest

    pub OptionAt : OptionalTree → Type 0
    OptionAt absent = Unit {0}
    OptionAt (present e) = TreeAt e

    pub RoutineAt : Routine → Type 0
    RoutineAt (Does at params gives all arrow) = P at × ParametersAt params × WrittenAt gives × StatementsAt all

    pub DeclarationAt : Declaration → Type 0
    DeclarationAt (Declare at x shape first) = P at × WrittenAt shape × OptionAt first

    pub DeclarationsAt : Declarations → Type 0
    DeclarationsAt ended = Unit {0}
    DeclarationsAt (next a rest) = DeclarationAt a × DeclarationsAt rest

    pub StatementAt : Statement → Type 0
    StatementAt (Block at all) = P at × StatementsAt all
    StatementAt (Let at fixed each) = P at × DeclarationsAt each
    StatementAt (IfOnly at test a) = P at × TreeAt test × StatementAt a
    StatementAt (IfElse at test a b) = P at × TreeAt test × StatementAt a × StatementAt b
    StatementAt (While at test a) = P at × TreeAt test × StatementAt a
    StatementAt (DoWhile at a test) = P at × StatementAt a × TreeAt test
    StatementAt (For at first test step a) = P at × FirstAt first × OptionAt test × OptionAt step × StatementAt a
    StatementAt (ForOf at fixed x list a) = P at × TreeAt list × StatementAt a
    StatementAt (Return at value) = P at × OptionAt value
    StatementAt (Break at) = P at
    StatementAt (Continue at) = P at
    StatementAt (Plain at e) = P at × TreeAt e
    StatementAt (Empty at) = P at

    pub FirstAt : OptionalStatement → Type 0
    FirstAt omitted = Unit {0}
    FirstAt (written a) = StatementAt a

    pub StatementsAt : Statements → Type 0
    StatementsAt done = Unit {0}
    StatementsAt (also a rest) = StatementAt a × StatementsAt rest

  abbrev pub MemberAt : ClassMember → Type 0
  MemberAt (Field a) = DeclarationAt a
  MemberAt (Method x r) = RoutineAt r
  MemberAt (Constructor r) = RoutineAt r

  abbrev pub MembersAt : List ClassMember → Type 0
  MembersAt [] = Unit {0}
  MembersAt (m ∷ rest) = MemberAt m × MembersAt rest

  abbrev pub ItemAt : TopLevel → Type 0
  ItemAt (Class at x base base_at members) = P at × P base_at × MembersAt members
  ItemAt (Function x r) = RoutineAt r
  ItemAt (Main a) = StatementAt a

  abbrev pub ProgramAt : Program → Type 0
  ProgramAt [] = Unit {0}
  ProgramAt (i ∷ rest) = ItemAt i × ProgramAt rest
