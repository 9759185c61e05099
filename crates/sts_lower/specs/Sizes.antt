-- How many ops a tree has.
use Rattle.std.specs.Prelude.{ℕ, ◌+◌, Bool, true, false, List, [], ◌∷◌, Option, Some, None}
use Rattle.sts_syntax.specs.declared.typed.Spot.{Spot}
use Rattle.sts_syntax.specs.declared.typed.Spot.TheVariants.{Local, Global}
use Rattle.sts_syntax.specs.declared.typed.Callee.{Callee}
use Rattle.sts_syntax.specs.declared.typed.Callee.TheVariants as c
use Rattle.sts_syntax.specs.TypedTrees as e
use Rattle.sts_syntax.specs.TypedTrees.{TypedTree, TypedTrees, TypedStatement, TypedStatements, OptionalTypedStatement, TypedDeclaration}
use Rattle.sts_syntax.specs.BoardTable.{BoardAction, Repeats, row_of}
use Rattle.sts_syntax.specs.Measures.{total, argument_sizes}

-- what is assigned to
pub data Target : Type 0 where
  ToName : (x : Spot) → Target
  ToField : (f : ℕ) → Target
  ToItem : Target
  ToNothing : Target

abbrev pub target : TypedTree → Target
target (e.Name u x) = ToName x
target (e.Field u a f) = ToField f
target (e.Item u a i) = ToItem
target _ = ToNothing

-- the ops of a store, and of `++` and `--`
abbrev pub store_size : Target → ℕ
store_size (ToName x) = 1
store_size (ToField f) = 1 + 1
store_size ToItem = 1 + 1
store_size ToNothing = 0

-- in a global, the old value is made again where it is wanted
abbrev pub global_bump_size : Bool → ℕ
global_bump_size true = 1 + 1 + 1 + 1
global_bump_size false = 1 + 1 + 1

abbrev pub bump_size : Target → Bool → ℕ
bump_size (ToName (Global g)) late = global_bump_size late
bump_size (ToName x) late = 1 + 1
bump_size (ToField f) late = 1 + 1 + 1 + 1
bump_size ToItem late = 1 + 1 + 1 + 1
bump_size ToNothing late = 1

-- the ops of a call behind its arguments
abbrev pub action_size : BoardAction → ℕ
action_size Repeats = 1 + 1
action_size _ = 1

abbrev pub call_size : Callee → ℕ
call_size (c.Board call) = action_size (row_of call).action
call_size _ = 1

-- each item goes into its array by an op more
abbrev pub items_size : List ℕ → ℕ
items_size [] = 0
items_size (n ∷ ns) = n + 1 + items_size ns

abbrev mutual
  -- an expression's
  pub size : TypedTree → ℕ
  size (e.Unary u op a) = size a + 1
  size (e.Binary u op a b) = size a + size b + 1
  size (e.Both u a b) = size a + 1 + 1 + size b
  size (e.Either u a b) = size a + 1 + size b
  size (e.Choice u test a b) = size test + 1 + size b + 1 + size a
  size (e.Set u None x r) = reach_size x + size r + store_size (target x)
  size (e.Set u (Some op) x r) = reach_size x + 1 + size r + 1 + store_size (target x)
  size (e.Bump u x by late) = reach_size x + bump_size (target x) late
  size (e.Field u a f) = size a + 1
  size (e.Length u a) = size a + 1
  size (e.Item u a i) = size a + size i + 1
  size (e.Call u f args) = total (argument_sizes 1 f (sizes args)) + call_size f
  size (e.SuperCall u f args) = 1 + total (sizes args) + 1
  size (e.Make u class args) = total (sizes args) + 1 + 1
  size (e.Items u items) = 1 + items_size (sizes items)
  size _ = 1

  pub sizes : TypedTrees → List ℕ
  sizes e.none = []
  sizes (e.more a rest) = size a ∷ sizes rest

  -- of what is evaluated of a target before anything is read from it or stored in it
  pub reach_size : TypedTree → ℕ
  reach_size (e.Field u a f) = size a
  reach_size (e.Item u a i) = size a + size i
  reach_size _ = 0

-- a declared name's, with its initialiser; a test's and a step's of a `for`
abbrev pub initial_size : Option TypedTree → ℕ
initial_size None = 1
initial_size (Some a) = size a

abbrev pub declared_size : List TypedDeclaration → ℕ
declared_size [] = 0
declared_size (d ∷ rest) = initial_size d.first + 1 + declared_size rest

abbrev pub test_size : Option TypedTree → ℕ
test_size None = 0
test_size (Some a) = size a + 1 + 1

abbrev pub step_size : Option TypedTree → ℕ
step_size None = 0
step_size (Some a) = size a

-- a `return` with a value: a constructor lets it go and gives its object
abbrev pub return_size : Bool → ℕ
return_size true = 1 + 1
return_size false = 1

-- of a loop over items, before its body
abbrev pub item_size : ℕ
item_size = 1 + 1 + 1 + 1 + 1 + 1

-- in a constructor, or in another function
module _ (maker : Bool) where
  abbrev mutual
    -- a statement's
    pub statement_size : TypedStatement → ℕ
    statement_size (e.Block all) = statements_size all
    statement_size (e.Let fixed each) = declared_size each
    statement_size (e.IfOnly test a) = size test + 1 + 1 + statement_size a
    statement_size (e.IfElse test a o) = size test + 1 + statement_size o + 1 + statement_size a
    statement_size (e.While test a) = size test + 1 + 1 + statement_size a + 1
    statement_size (e.DoWhile a test) = statement_size a + size test + 1 + 1 + 1
    statement_size (e.For first test step a) =
        first_size first + (test_size test + statement_size a + step_size step + 1)
    statement_size (e.ForOf fixed (Local i) list a) = size list + 1 + 1 + 1 + (item_size + statement_size a + 1)
    statement_size (e.ForOf fixed x list a) = 1
    statement_size (e.Return None) = 1 + 1
    statement_size (e.Return (Some a)) = size a + return_size maker
    statement_size e.Break = 1
    statement_size e.Continue = 1
    statement_size (e.Plain a) = size a
    statement_size e.Empty = 0

    pub first_size : OptionalTypedStatement → ℕ
    first_size e.omitted = 0
    first_size (e.written a) = statement_size a

    pub statements_size : TypedStatements → ℕ
    statements_size e.done = 0
    statements_size (e.also a rest) = statement_size a + statements_size rest
