-- How many functions stand in a tree: its function expressions, those in them included. In text order their numbers
-- follow one another.
use Rattle.std.specs.Prelude.{ℕ, suc, ◌+◌, List, [], ◌∷◌}
use Rattle.sts_syntax.specs.Trees.{Tree, Unary, Binary, Both, Either, Choice, Set, Bump, Member, Item, Call, SuperCall, Make, Items, Handler, Trees, none, more, OptionalTree, absent, present, Statement, Block, Let, IfOnly, IfElse, While, DoWhile, For, ForOf, Return, Plain, Statements, done, also, OptionalStatement, omitted, written, Declaration, Declare, Declarations, ended, next, Routine, Does}
use Rattle.sts_syntax.specs.Programs.{ClassMember, Field, Method, Constructor, TopLevel, Class, Function, Main, Program}

abbrev mutual
  pub handlers : Tree → ℕ
  handlers (Unary at op a) = handlers a
  handlers (Binary at op a b) = handlers a + handlers b
  handlers (Both at a b) = handlers a + handlers b
  handlers (Either at a b) = handlers a + handlers b
  handlers (Choice at c a b) = handlers c + handlers a + handlers b
  handlers (Set at op x e) = handlers x + handlers e
  handlers (Bump at x by late) = handlers x
  handlers (Member at a m) = handlers a
  handlers (Item at a i) = handlers a + handlers i
  handlers (Call at f args) = handlers f + handlers_of args
  handlers (SuperCall at m args) = handlers_of args
  handlers (Make at x args) = handlers_of args
  handlers (Items at items) = handlers_of items
  handlers (Handler at body) = suc (routine_handlers body)
  handlers _ = 0

  pub handlers_of : Trees → ℕ
  handlers_of none = 0
  handlers_of (more e rest) = handlers e + handlers_of rest

  pub optional_handlers : OptionalTree → ℕ
  optional_handlers absent = 0
  optional_handlers (present e) = handlers e

  pub routine_handlers : Routine → ℕ
  routine_handlers (Does at params gives all arrow) = statements_handlers all

  pub declared_handlers : Declaration → ℕ
  declared_handlers (Declare at x shape first) = optional_handlers first

  pub declarations_handlers : Declarations → ℕ
  declarations_handlers ended = 0
  declarations_handlers (next a rest) = declared_handlers a + declarations_handlers rest

  pub statement_handlers : Statement → ℕ
  statement_handlers (Block at all) = statements_handlers all
  statement_handlers (Let at fixed each) = declarations_handlers each
  statement_handlers (IfOnly at test a) = handlers test + statement_handlers a
  statement_handlers (IfElse at test a b) = handlers test + statement_handlers a + statement_handlers b
  statement_handlers (While at test a) = handlers test + statement_handlers a
  statement_handlers (DoWhile at a test) = statement_handlers a + handlers test
  statement_handlers (For at first test step a) =
      first_handlers first + optional_handlers test + optional_handlers step + statement_handlers a
  statement_handlers (ForOf at fixed x list a) = handlers list + statement_handlers a
  statement_handlers (Return at value) = optional_handlers value
  statement_handlers (Plain at e) = handlers e
  statement_handlers _ = 0

  pub first_handlers : OptionalStatement → ℕ
  first_handlers omitted = 0
  first_handlers (written a) = statement_handlers a

  pub statements_handlers : Statements → ℕ
  statements_handlers done = 0
  statements_handlers (also s rest) = statement_handlers s + statements_handlers rest

-- the functions of a member: a method and a constructor are one, with those in them
abbrev pub member_routines : ClassMember → ℕ
member_routines (Field a) = declared_handlers a
member_routines (Method x r) = suc (routine_handlers r)
member_routines (Constructor r) = suc (routine_handlers r)

abbrev pub members_routines : List ClassMember → ℕ
members_routines [] = 0
members_routines (m ∷ rest) = member_routines m + members_routines rest

-- a class whose constructor isn't written has one more, numbered before its members'
abbrev pub unwritten : List ClassMember → ℕ
unwritten [] = 1
unwritten (Constructor r ∷ rest) = 0
unwritten (m ∷ rest) = unwritten rest

abbrev pub item_routines : TopLevel → ℕ
item_routines (Class at x base base_at members) = unwritten members + members_routines members
item_routines (Function x r) = suc (routine_handlers r)
item_routines (Main a) = statement_handlers a

abbrev pub all_routines : Program → ℕ
all_routines [] = 0
all_routines (i ∷ rest) = item_routines i + all_routines rest
