-- How many numbers the functions, parameters and locals of a tree take, those of its function expressions included.
use Rattle.std.specs.Prelude.{ℕ, suc, ◌+◌, List, [], ◌∷◌, length}
use Rattle.sts_syntax.specs.Trees.{Tree, Unary, Binary, Both, Either, Choice, Set, Bump, Member, Item, Call, SuperCall, Make, Items, Handler, Trees, none, more, OptionalTree, absent, present, Statement, Block, Let, IfOnly, IfElse, While, DoWhile, For, ForOf, Return, Plain, Statements, done, also, OptionalStatement, omitted, written, Declaration, Declare, Declarations, ended, next, Routine, Does}
use Rattle.sts_syntax.specs.Programs.{ClassMember, Field, Method, Constructor, TopLevel, Class, Function, Main, Program}
use Rattle.sts_scope.specs.Handlers.{unwritten}

abbrev mutual
  pub tree_numbered : Tree → ℕ
  tree_numbered (Unary at op a) = tree_numbered a
  tree_numbered (Binary at op a b) = tree_numbered a + tree_numbered b
  tree_numbered (Both at a b) = tree_numbered a + tree_numbered b
  tree_numbered (Either at a b) = tree_numbered a + tree_numbered b
  tree_numbered (Choice at c a b) = tree_numbered c + tree_numbered a + tree_numbered b
  tree_numbered (Set at op x e) = tree_numbered x + tree_numbered e
  tree_numbered (Bump at x by late) = tree_numbered x
  tree_numbered (Member at a m) = tree_numbered a
  tree_numbered (Item at a i) = tree_numbered a + tree_numbered i
  tree_numbered (Call at f args) = tree_numbered f + trees_numbered args
  tree_numbered (SuperCall at m args) = trees_numbered args
  tree_numbered (Make at x args) = trees_numbered args
  tree_numbered (Items at items) = trees_numbered items
  tree_numbered (Handler at body) = suc (routine_numbered body)
  tree_numbered _ = 0

  pub trees_numbered : Trees → ℕ
  trees_numbered none = 0
  trees_numbered (more e rest) = tree_numbered e + trees_numbered rest

  pub optional_numbered : OptionalTree → ℕ
  optional_numbered absent = 0
  optional_numbered (present e) = tree_numbered e

  -- what stands in a function: its parameters, and what its statements have
  pub routine_numbered : Routine → ℕ
  routine_numbered (Does at params gives all arrow) = length params + statements_numbered all

  -- a declared name is a local
  pub declared_numbered : Declaration → ℕ
  declared_numbered (Declare at x shape first) = suc (optional_numbered first)

  pub declarations_numbered : Declarations → ℕ
  declarations_numbered ended = 0
  declarations_numbered (next a rest) = declared_numbered a + declarations_numbered rest

  -- `for of` has three locals: its name, the list, and a place in the list
  pub statement_numbered : Statement → ℕ
  statement_numbered (Block at all) = statements_numbered all
  statement_numbered (Let at fixed each) = declarations_numbered each
  statement_numbered (IfOnly at test a) = tree_numbered test + statement_numbered a
  statement_numbered (IfElse at test a b) = tree_numbered test + statement_numbered a + statement_numbered b
  statement_numbered (While at test a) = tree_numbered test + statement_numbered a
  statement_numbered (DoWhile at a test) = statement_numbered a + tree_numbered test
  statement_numbered (For at first test step a) =
      first_numbered first + optional_numbered test + optional_numbered step + statement_numbered a
  statement_numbered (ForOf at fixed x list a) = 3 + (tree_numbered list + statement_numbered a)
  statement_numbered (Return at value) = optional_numbered value
  statement_numbered (Plain at e) = tree_numbered e
  statement_numbered _ = 0

  pub first_numbered : OptionalStatement → ℕ
  first_numbered omitted = 0
  first_numbered (written a) = statement_numbered a

  pub statements_numbered : Statements → ℕ
  statements_numbered done = 0
  statements_numbered (also s rest) = statement_numbered s + statements_numbered rest

-- a method and a constructor take `this` as well
abbrev pub member_numbered : ClassMember → ℕ
member_numbered (Field a) = declared_numbered a
member_numbered (Method x r) = suc (suc (routine_numbered r))
member_numbered (Constructor r) = suc (suc (routine_numbered r))

abbrev pub members_numbered : List ClassMember → ℕ
members_numbered [] = 0
members_numbered (m ∷ rest) = member_numbered m + members_numbered rest

-- A constructor that isn't written is a function that takes `this`. What it takes besides stands at its base.
abbrev pub item_numbered : TopLevel → ℕ
item_numbered (Class at x base base_at members) = unwritten members + unwritten members + members_numbered members
item_numbered (Function x r) = suc (routine_numbered r)
item_numbered (Main a) = statement_numbered a

abbrev pub all_numbered : Program → ℕ
all_numbered [] = 0
all_numbered (i ∷ rest) = item_numbered i + all_numbered rest
