-- The nesting of a tree: 1 more than that of its deepest child. What counts is a whole text, a class, a function, method or
-- constructor, a statement, a declared name and an expression. Parentheses, types, parameters and a handler's body count
-- nothing: its statements are children of the handler.
use Rattle.std.specs.Prelude.{ℕ, ◌+◌, max, List, [], ◌∷◌}
use Rattle.sts_syntax.specs.Trees.{Tree, Unary, Binary, Both, Either, Choice, Set, Bump, Member, Item, Call, SuperCall, Make, Items, Handler, Trees, none, more, OptionalTree, absent, present, Statement, Block, Let, IfOnly, IfElse, While, DoWhile, For, ForOf, Return, Plain, Statements, done, also, OptionalStatement, omitted, written, Declaration, Declare, Declarations, ended, next, Routine, Does}
use Rattle.sts_syntax.specs.Programs.{ClassMember, Field, Method, Constructor, TopLevel, Class, Function, Main, Program}

abbrev mutual
  -- of an expression
  pub nesting : Tree → ℕ
  nesting (Unary at op a) = 1 + nesting a
  nesting (Binary at op a b) = 1 + max (nesting a) (nesting b)
  nesting (Both at a b) = 1 + max (nesting a) (nesting b)
  nesting (Either at a b) = 1 + max (nesting a) (nesting b)
  nesting (Choice at c a b) = 1 + max (nesting c) (max (nesting a) (nesting b))
  nesting (Set at op x a) = 1 + max (nesting x) (nesting a)
  nesting (Bump at x by late) = 1 + nesting x
  nesting (Member at a name) = 1 + nesting a
  nesting (Item at a b) = 1 + max (nesting a) (nesting b)
  nesting (Call at a args) = 1 + max (nesting a) (deepest_tree args)
  nesting (SuperCall at method args) = 1 + deepest_tree args
  nesting (Make at class args) = 1 + deepest_tree args
  nesting (Items at items) = 1 + deepest_tree items
  nesting (Handler at r) = 1 + routine_nesting r
  nesting _ = 1

  -- of the deepest of some expressions, 0 without one
  pub deepest_tree : Trees → ℕ
  deepest_tree none = 0
  deepest_tree (more a rest) = max (nesting a) (deepest_tree rest)

  pub optional_nesting : OptionalTree → ℕ
  optional_nesting absent = 0
  optional_nesting (present a) = nesting a

  -- of a statement
  pub statement_nesting : Statement → ℕ
  statement_nesting (Block at all) = 1 + deepest_statement all
  statement_nesting (Let at fixed each) = 1 + deepest_declaration each
  statement_nesting (IfOnly at c a) = 1 + max (nesting c) (statement_nesting a)
  statement_nesting (IfElse at c a b) = 1 + max (nesting c) (max (statement_nesting a) (statement_nesting b))
  statement_nesting (While at c a) = 1 + max (nesting c) (statement_nesting a)
  statement_nesting (DoWhile at a c) = 1 + max (statement_nesting a) (nesting c)
  statement_nesting (For at first c step a) =
      1 + max (max (optional_statement_nesting first) (optional_nesting c))
      (max (optional_nesting step) (statement_nesting a))
  statement_nesting (ForOf at fixed name list a) = 1 + max (nesting list) (statement_nesting a)
  statement_nesting (Return at value) = 1 + optional_nesting value
  statement_nesting (Plain at a) = 1 + nesting a
  statement_nesting _ = 1

  -- of the deepest of some statements, 0 without one
  pub deepest_statement : Statements → ℕ
  deepest_statement done = 0
  deepest_statement (also a rest) = max (statement_nesting a) (deepest_statement rest)

  pub optional_statement_nesting : OptionalStatement → ℕ
  optional_statement_nesting omitted = 0
  optional_statement_nesting (written a) = statement_nesting a

  -- of a declared name
  pub declaration_nesting : Declaration → ℕ
  declaration_nesting (Declare at name shape first) = 1 + optional_nesting first

  -- of the deepest of some declared names, 0 without one
  pub deepest_declaration : Declarations → ℕ
  deepest_declaration ended = 0
  deepest_declaration (next a rest) = max (declaration_nesting a) (deepest_declaration rest)

  -- of the deepest statement of a routine, 0 without one
  pub routine_nesting : Routine → ℕ
  routine_nesting (Does at params gives all arrow) = deepest_statement all

-- Of a member of a class. A field counts as its declared name alone.
abbrev pub member_nesting : ClassMember → ℕ
member_nesting (Field field) = declaration_nesting field
member_nesting (Method name method) = 1 + routine_nesting method
member_nesting (Constructor maker) = 1 + routine_nesting maker

-- of the deepest of some members, 0 without one
abbrev pub deepest_member : List ClassMember → ℕ
deepest_member [] = 0
deepest_member (m ∷ rest) = max (member_nesting m) (deepest_member rest)

-- of a part of a text
abbrev pub top_level_nesting : TopLevel → ℕ
top_level_nesting (Class at name base base_at members) = 1 + deepest_member members
top_level_nesting (Function name function) = 1 + routine_nesting function
top_level_nesting (Main a) = statement_nesting a

-- of the deepest part of a text, 0 without one
abbrev pub deepest_top_level : Program → ℕ
deepest_top_level [] = 0
deepest_top_level (part ∷ rest) = max (top_level_nesting part) (deepest_top_level rest)

-- of a whole text
abbrev pub program_nesting : Program → ℕ
program_nesting parts = 1 + deepest_top_level parts
