-- Each function takes a number.
use Rattle.std.proofs.Common.{◌<◌, ◌≤◌, List, [], ◌∷◌, length, arith}
use Rattle.sts_syntax.specs.Trees.{Tree, Num, Text, Truth, Null, This, Name, Unary, Binary, Both, Either, Choice, Set, Bump, Member, Item, Call, SuperCall, Make, Items, Handler, Trees, none, more, OptionalTree, absent, present, Statement, Block, Let, IfOnly, IfElse, While, DoWhile, For, ForOf, Return, Break, Continue, Plain, Empty, Statements, done, also, OptionalStatement, omitted, written, Declaration, Declare, Declarations, ended, next, Routine, Does}
use Rattle.sts_syntax.specs.Programs.{ClassMember, Field, Method, Constructor, TopLevel, Class, Function, Main, Program}
use Rattle.sts_grammar.specs.Source.{Source}
use Rattle.sts_grammar.specs.Units.{IsProgram}
use Rattle.sts_scope.specs.Handlers.{handlers, handlers_of, optional_handlers, routine_handlers, declared_handlers, declarations_handlers, statement_handlers, first_handlers, statements_handlers, member_routines, members_routines, item_routines, all_routines}
use Rattle.text_sizes.specs.Numbered.{tree_numbered, trees_numbered, optional_numbered, routine_numbered, declared_numbered, declarations_numbered, statement_numbered, first_numbered, statements_numbered, member_numbered, members_numbered, item_numbered, all_numbered}
use Rattle.text_sizes.proofs.Functions.{few_numbered}

mutual
  pub tree_counted : (e : Tree) → handlers e ≤ tree_numbered e
  tree_counted (Num at value) = omega arith
  tree_counted (Text at text) = omega arith
  tree_counted (Truth at b) = omega arith
  tree_counted (Null at) = omega arith
  tree_counted (This at) = omega arith
  tree_counted (Name at name) = omega arith
  tree_counted (Unary at op a) = (let w1 = tree_counted a in omega (arith, w1))
  tree_counted (Binary at op a b) = (let w1 = tree_counted a in let w2 = tree_counted b in omega (arith, w1, w2))
  tree_counted (Both at a b) = (let w1 = tree_counted a in let w2 = tree_counted b in omega (arith, w1, w2))
  tree_counted (Either at a b) = (let w1 = tree_counted a in let w2 = tree_counted b in omega (arith, w1, w2))
  tree_counted (Choice at c a b) = (let w1 = tree_counted c in let w2 = tree_counted a in let w3 = tree_counted b in omega (arith, w1, w2, w3))
  tree_counted (Set at op x a) = (let w1 = tree_counted x in let w2 = tree_counted a in omega (arith, w1, w2))
  tree_counted (Bump at x by late) = (let w1 = tree_counted x in omega (arith, w1))
  tree_counted (Member at a name) = (let w1 = tree_counted a in omega (arith, w1))
  tree_counted (Item at a b) = (let w1 = tree_counted a in let w2 = tree_counted b in omega (arith, w1, w2))
  tree_counted (Call at a args) = (let w1 = tree_counted a in let w2 = trees_counted args in omega (arith, w1, w2))
  tree_counted (SuperCall at method args) = (let w1 = trees_counted args in omega (arith, w1))
  tree_counted (Make at class args) = (let w1 = trees_counted args in omega (arith, w1))
  tree_counted (Items at items) = (let w1 = trees_counted items in omega (arith, w1))
  tree_counted (Handler at handler) = (let w1 = routine_counted handler in omega (arith, w1))

  trees_counted : (all : Trees) → handlers_of all ≤ trees_numbered all
  trees_counted none = omega arith
  trees_counted (more a rest) = (let w1 = tree_counted a in let w2 = trees_counted rest in omega (arith, w1, w2))

  optional_counted : (a : OptionalTree) → optional_handlers a ≤ optional_numbered a
  optional_counted absent = omega arith
  optional_counted (present a) = (let w1 = tree_counted a in omega (arith, w1))

  pub routine_counted : (r : Routine) → routine_handlers r ≤ routine_numbered r
  routine_counted (Does at params gives all arrow) = (let w1 = statements_counted all in omega (arith, w1))

  pub declared_counted : (a : Declaration) → declared_handlers a ≤ declared_numbered a
  declared_counted (Declare at name shape first) = (let w1 = optional_counted first in omega (arith, w1))

  declarations_counted : (each : Declarations) → declarations_handlers each ≤ declarations_numbered each
  declarations_counted ended = omega arith
  declarations_counted (next a rest) = (let w1 = declared_counted a in let w2 = declarations_counted rest in omega (arith, w1, w2))

  pub statement_counted : (a : Statement) → statement_handlers a ≤ statement_numbered a
  statement_counted (Block at all) = (let w1 = statements_counted all in omega (arith, w1))
  statement_counted (Let at fixed each) = (let w1 = declarations_counted each in omega (arith, w1))
  statement_counted (IfOnly at c a) = (let w1 = tree_counted c in let w2 = statement_counted a in omega (arith, w1, w2))
  statement_counted (IfElse at c a b) = (let w1 = tree_counted c in let w2 = statement_counted a in let w3 = statement_counted b in omega (arith, w1, w2, w3))
  statement_counted (While at c a) = (let w1 = tree_counted c in let w2 = statement_counted a in omega (arith, w1, w2))
  statement_counted (DoWhile at a c) = (let w1 = statement_counted a in let w2 = tree_counted c in omega (arith, w1, w2))
  statement_counted (For at first c step a) = (let w1 = first_counted first in let w2 = optional_counted c in let w3 = optional_counted step in let w4 = statement_counted a in omega (arith, w1, w2, w3, w4))
  statement_counted (ForOf at fixed name list a) = (let w1 = tree_counted list in let w2 = statement_counted a in omega (arith, w1, w2))
  statement_counted (Return at value) = (let w1 = optional_counted value in omega (arith, w1))
  statement_counted (Break at) = omega arith
  statement_counted (Continue at) = omega arith
  statement_counted (Plain at a) = (let w1 = tree_counted a in omega (arith, w1))
  statement_counted (Empty at) = omega arith

  first_counted : (first : OptionalStatement) → first_handlers first ≤ first_numbered first
  first_counted omitted = omega arith
  first_counted (written a) = (let w1 = statement_counted a in omega (arith, w1))

  statements_counted : (all : Statements) → statements_handlers all ≤ statements_numbered all
  statements_counted done = omega arith
  statements_counted (also a rest) = (let w1 = statement_counted a in let w2 = statements_counted rest in omega (arith, w1, w2))

pub member_routines_numbered : (member : ClassMember) → member_routines member ≤ member_numbered member
member_routines_numbered (Field a) = declared_counted a
member_routines_numbered (Method x r) = (let a = routine_counted r in omega (arith, a))
member_routines_numbered (Constructor r) = (let a = routine_counted r in omega (arith, a))

members_counted : (members : List ClassMember) → members_routines members ≤ members_numbered members
members_counted [] = omega arith
members_counted (member ∷ rest) = (let a = member_routines_numbered member in let b = members_counted rest in omega (arith, a, b))

pub item_routines_numbered : (i : TopLevel) → item_routines i ≤ item_numbered i
item_routines_numbered (Class at name base base_at members) = (let a = members_counted members in omega (arith, a))
item_routines_numbered (Function name r) = (let a = routine_counted r in omega (arith, a))
item_routines_numbered (Main a) = statement_counted a

pub routines_numbered : (p : Program) → all_routines p ≤ all_numbered p
routines_numbered [] = omega arith
routines_numbered (i ∷ rest) = (let a = item_routines_numbered i in let b = routines_numbered rest in omega (arith, a, b))

pub few_functions : (s : Source) (p : Program) → IsProgram s p → all_routines p < length s.tokens
few_functions s p h = (let a = few_numbered s p h in let b = routines_numbered p in omega (arith, a, b))
