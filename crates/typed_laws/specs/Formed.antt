-- What the grammar says of a tree beside its form: `++` and `--` by one, `break` and `continue` in loops, a declaration or an expression first in the
-- head of a `for`; and numbers and texts of which something is said, as that numbers have 32 bits.
use Rattle.std.specs.Prelude.{◌≡◌, ℕ, ◌<◌, ℤ, Bool, true, false, List, [], ◌∷◌}
use Rattle.sts_syntax.specs.TypeRules.{is_int32, IsOne}
use Rattle.sts_syntax.specs.Trees.{Tree, Num, Text, Unary, Binary, Both, Either, Choice, Set, Bump, Member, Item, Call, SuperCall, Make, Items, Handler, Trees, none, more, OptionalTree, absent, present, Statement, Block, Let, IfOnly, IfElse, While, DoWhile, For, ForOf, Return, Break, Continue, Plain, Empty, Statements, done, also, OptionalStatement, omitted, written, Declaration, Declare, Declarations, ended, next, Routine, Does}
use Rattle.sts_syntax.specs.Programs.{ClassMember, Field, Method, Constructor, TopLevel, Class, Function, Main, Program}

abbrev pub IsOpening : Statement → Type 0
IsOpening (Let at fixed each) = Unit {0}
IsOpening (Plain at a) = Unit {0}
IsOpening _ = ⊥

module _ (IsNumber : ℤ → Type 0) (IsText : ℕ → Type 0) where
  abbrev mutual
    pub TreeHas : Tree → Type 0
    TreeHas (Num at n) = IsNumber n
    TreeHas (Text at n) = IsText n
    TreeHas (Unary at op a) = TreeHas a
    TreeHas (Binary at op a b) = TreeHas a × TreeHas b
    TreeHas (Both at a b) = TreeHas a × TreeHas b
    TreeHas (Either at a b) = TreeHas a × TreeHas b
    TreeHas (Choice at c a b) = TreeHas c × TreeHas a × TreeHas b
    TreeHas (Set at op x e) = TreeHas x × TreeHas e
    TreeHas (Bump at x by late) = TreeHas x × IsOne by
    TreeHas (Member at a m) = TreeHas a
    TreeHas (Item at a i) = TreeHas a × TreeHas i
    TreeHas (Call at f args) = TreeHas f × TreesHave args
    TreeHas (SuperCall at m args) = TreesHave args
    TreeHas (Make at x args) = TreesHave args
    TreeHas (Items at items) = TreesHave items
    TreeHas (Handler at body) = BodyHas body
    TreeHas _ = Unit {0}

    pub TreesHave : Trees → Type 0
    TreesHave none = Unit {0}
    TreesHave (more e rest) = TreeHas e × TreesHave rest

    pub OptionHas : OptionalTree → Type 0
    OptionHas absent = Unit {0}
    OptionHas (present e) = TreeHas e

    pub BodyHas : Routine → Type 0
    BodyHas (Does at params gives all arrow) = StatementsHave false all

    pub DeclarationHas : Declaration → Type 0
    DeclarationHas (Declare at x shape first) = OptionHas first

    pub DeclarationsHave : Declarations → Type 0
    DeclarationsHave ended = Unit {0}
    DeclarationsHave (next a rest) = DeclarationHas a × DeclarationsHave rest

    -- a statement, around which a loop of the same function stands or not
    pub StatementHas : Bool → Statement → Type 0
    StatementHas looped (Block at all) = StatementsHave looped all
    StatementHas looped (Let at fixed each) = DeclarationsHave each
    StatementHas looped (IfOnly at test a) = TreeHas test × StatementHas looped a
    StatementHas looped (IfElse at test a b) = TreeHas test × StatementHas looped a × StatementHas looped b
    StatementHas looped (While at test a) = TreeHas test × StatementHas true a
    StatementHas looped (DoWhile at a test) = StatementHas true a × TreeHas test
    StatementHas looped (For at first test step a) =
        FirstHas first × OptionHas test × OptionHas step × StatementHas true a
    StatementHas looped (ForOf at fixed x list a) = TreeHas list × StatementHas true a
    StatementHas looped (Return at value) = OptionHas value
    StatementHas looped (Break at) = looped ≡ true
    StatementHas looped (Continue at) = looped ≡ true
    StatementHas looped (Plain at e) = TreeHas e
    StatementHas looped (Empty at) = Unit {0}

    pub FirstHas : OptionalStatement → Type 0
    FirstHas omitted = Unit {0}
    FirstHas (written a) = IsOpening a × StatementHas false a

    pub StatementsHave : Bool → Statements → Type 0
    StatementsHave looped done = Unit {0}
    StatementsHave looped (also a rest) = StatementHas looped a × StatementsHave looped rest

  -- a whole text
  abbrev pub MemberHas : ClassMember → Type 0
  MemberHas (Field a) = DeclarationHas a
  MemberHas (Method x r) = BodyHas r
  MemberHas (Constructor r) = BodyHas r

  abbrev pub MembersHave : List ClassMember → Type 0
  MembersHave [] = Unit {0}
  MembersHave (m ∷ rest) = MemberHas m × MembersHave rest

  abbrev pub ItemHas : TopLevel → Type 0
  ItemHas (Class at x base base_at members) = MembersHave members
  ItemHas (Function x r) = BodyHas r
  ItemHas (Main a) = StatementHas false a

  abbrev pub ProgramHas : Program → Type 0
  ProgramHas [] = Unit {0}
  ProgramHas (i ∷ rest) = ItemHas i × ProgramHas rest

-- numbers of 32 bits
abbrev pub Is32 : ℤ → Type 0
Is32 n = is_int32 n ≡ true

abbrev pub Any : ℕ → Type 0
Any text = Unit {0}

-- the numbers of a text have 32 bits
abbrev pub IsFormedProgram : Program → Type 0
IsFormedProgram a = ProgramHas Is32 Any a

-- the texts of a program are among the first n
abbrev pub TextsBelow : ℕ → Program → Type 0
TextsBelow n a = ProgramHas (λ z. Unit {0}) (λ x. x < n) a
