-- The weight of a function, which bounds its code.
use Rattle.std.specs.Prelude.{ℕ, ◌+◌, Option, Some, None, List, [], ◌∷◌}
use Rattle.sts_syntax.specs.declared.typed.Callee.{Callee}
use Rattle.sts_syntax.specs.declared.typed.Callee.TheVariants as c
use Rattle.sts_syntax.specs.TypedTrees.{TypedTree, Text, Unary, Binary, Both, Either, Choice, Set, Bump, Field, Length, Item, Call, SuperCall, Make, Items, TypedTrees, none, more, TypedDeclaration, TypedStatement, Block, Let, IfOnly, IfElse, While, DoWhile, For, ForOf, Return, Plain, TypedStatements, done, also, OptionalTypedStatement, omitted, written, TypedRoutine}
use Rattle.sts_syntax.specs.Measures.{total, argument_sizes}

-- what a call weighs beside its arguments: one through a slot is heavier
abbrev pub call_weight : Callee → ℕ
call_weight (c.Slot s) = 2
call_weight _ = 1

abbrev pub set_weight : Option ℕ → ℕ
set_weight None = 1
set_weight (Some op) = 3

abbrev mutual
  -- the weight of an expression
  pub weight_of : TypedTree → ℕ
  weight_of (Text t n) = 2
  weight_of (Unary t op a) = 1 + weight_of a
  weight_of (Binary t op a b) = 1 + weight_of a + weight_of b
  weight_of (Both t a b) = 1 + weight_of a + weight_of b
  weight_of (Either t a b) = 1 + weight_of a + weight_of b
  weight_of (Choice t test a b) = 1 + weight_of test + weight_of a + weight_of b
  weight_of (Set t op x r) = set_weight op + weight_of x + weight_of r
  weight_of (Bump t x by late) = 3 + weight_of x
  weight_of (Field t a f) = 1 + weight_of a
  weight_of (Length t a) = 1 + weight_of a
  weight_of (Item t a i) = 1 + weight_of a + weight_of i
  weight_of (Call t f args) = call_weight f + total (argument_sizes 1 f (weights args))
  weight_of (SuperCall t f args) = 1 + total (weights args)
  weight_of (Make t class args) = 3 + total (weights args)
  weight_of (Items t items) = 2 + total (weights items)
  weight_of _ = 1

  pub weights : TypedTrees → List ℕ
  weights none = []
  weights (more a rest) = weight_of a ∷ weights rest

abbrev pub optional_weight : Option TypedTree → ℕ
optional_weight None = 0
optional_weight (Some a) = weight_of a

-- each declared name counts one, with its initialiser
abbrev pub declared_weight : List TypedDeclaration → ℕ
declared_weight [] = 0
declared_weight (d ∷ rest) = 1 + optional_weight d.first + declared_weight rest

abbrev mutual
  -- the weight of a statement
  pub statement_weight : TypedStatement → ℕ
  statement_weight (Block all) = 1 + statements_weight all
  statement_weight (Let fixed each) = 1 + declared_weight each
  statement_weight (IfOnly test a) = 1 + weight_of test + statement_weight a
  statement_weight (IfElse test a b) = 1 + weight_of test + statement_weight a + statement_weight b
  statement_weight (While test a) = 1 + weight_of test + statement_weight a
  statement_weight (DoWhile a test) = 1 + statement_weight a + weight_of test
  statement_weight (For first test step a) =
      1 + first_weight first + optional_weight test + optional_weight step + statement_weight a
  statement_weight (ForOf fixed name list a) = 4 + weight_of list + statement_weight a
  statement_weight (Return value) = 1 + optional_weight value
  statement_weight (Plain a) = 1 + weight_of a
  statement_weight _ = 1

  pub first_weight : OptionalTypedStatement → ℕ
  first_weight omitted = 0
  first_weight (written a) = statement_weight a

  pub statements_weight : TypedStatements → ℕ
  statements_weight done = 0
  statements_weight (also a rest) = statement_weight a + statements_weight rest

-- the weight of a function, method, constructor, handler or the main program
abbrev pub weight : TypedRoutine → ℕ
weight r = 4 + statements_weight r.all

-- the weight of a function that `forever` starts
abbrev pub repeating_weight : ℕ
repeating_weight = 8

abbrev pub routines_weight : List TypedRoutine → ℕ
routines_weight [] = 0
routines_weight (r ∷ rest) = weight r + routines_weight rest
