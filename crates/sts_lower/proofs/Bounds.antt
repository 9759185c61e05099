-- How many ops a tree has at most for its weight, and how many functions `forever` starts.
use Rattle.std.proofs.Common.{ℕ, ◌+◌, ◌-◌, ◌*◌, ◌≤◌, List, [], ◌∷◌, ◌++◌, length, Bool, true, false, Option, Some, None, length-append, arith, lit≤}
use Rattle.sts_syntax.specs.declared.typed.Spot.TheVariants.{Param, Local, Global}
use Rattle.sts_syntax.specs.declared.typed.Callee.{Callee}
use Rattle.sts_syntax.specs.declared.typed.Callee.TheVariants as c
use Rattle.sts_syntax.specs.BoardTable.{BoardAction, Service, Library, Repeats, row_of}
use Rattle.sts_syntax.specs.TypedTrees as e
use Rattle.sts_syntax.specs.TypedTrees.{TypedTree, TypedTrees, TypedStatement, TypedStatements, OptionalTypedStatement, TypedDeclaration, TypedRoutine}
use Rattle.sts_syntax.specs.Measures.{total}
use Rattle.sts_syntax.specs.Weights.{weight_of, weights, optional_weight, declared_weight, statement_weight, first_weight, statements_weight, routines_weight}
use Rattle.sts_syntax.proofs.Laws.{arguments_total, one_more, weighs}
use Rattle.sts_lower.specs.Sizes.{Target, ToName, ToField, ToItem, ToNothing, target, size, sizes, reach_size, store_size, bump_size, items_size, call_size, action_size, initial_size, declared_size, test_size, step_size, return_size, statement_size, first_size, statements_size}
use Rattle.sts_lower.specs.Code.{handler_of}
use Rattle.sts_lower.specs.Repeated.{repeated, repeated_each, repeated_by, repeated_by_call, optionally_repeated, repeated_first, repeated_in, repeated_in_first, repeated_in_all, repeated_in_each}

store_le : (x : Target) → store_size x ≤ 2
store_le (ToName x) = lit≤ tt
store_le (ToField f) = lit≤ tt
store_le ToItem = lit≤ tt
store_le ToNothing = lit≤ tt

bump_le : (x : Target) (late : Bool) → bump_size x late ≤ 4
bump_le (ToName (Param i)) late = lit≤ tt
bump_le (ToName (Local i)) late = lit≤ tt
bump_le (ToName (Global g)) true = lit≤ tt
bump_le (ToName (Global g)) false = lit≤ tt
bump_le (ToField f) late = lit≤ tt
bump_le ToItem late = lit≤ tt
bump_le ToNothing late = lit≤ tt

action_le : (action : BoardAction) → action_size action ≤ 2
action_le (Service number places) = lit≤ tt
action_le (Library function) = lit≤ tt
action_le Repeats = lit≤ tt

call_le : (f : Callee) → call_size f ≤ 2
call_le (c.Function f) = lit≤ tt
call_le (c.Slot s) = lit≤ tt
call_le c.Push = lit≤ tt
call_le c.Pop = lit≤ tt
call_le (c.Board call) = action_le (row_of call).action

mutual
  -- An expression has less than eight ops for its weight.
  pub size_le : (a : TypedTree) → size a ≤ 8 * weight_of a - 3
  size_le (e.Num u n) = lit≤ tt
  size_le (e.Text u n) = lit≤ tt
  size_le (e.Truth u b) = lit≤ tt
  size_le (e.Null u) = lit≤ tt
  size_le (e.This u) = lit≤ tt
  size_le (e.Name u x) = lit≤ tt
  size_le (e.Unary u op a) = omega (arith, size_le a, weighs a)
  size_le (e.Binary u op a b) = omega (arith, size_le a, size_le b, weighs a, weighs b)
  size_le (e.Both u a b) = omega (arith, size_le a, size_le b, weighs a, weighs b)
  size_le (e.Either u a b) = omega (arith, size_le a, size_le b, weighs a, weighs b)
  size_le (e.Choice u test a b) = omega (arith, size_le test, size_le a, size_le b, weighs test, weighs a, weighs b)
  size_le (e.Set u None x r) = omega (arith, reach_le x, size_le r, store_le (target x), weighs r)
  size_le (e.Set u (Some op) x r) = omega (arith, reach_le x, size_le r, store_le (target x), weighs r)
  size_le (e.Bump u x by late) = omega (arith, reach_le x, bump_le (target x) late)
  size_le (e.Field u a f) = omega (arith, size_le a, weighs a)
  size_le (e.Length u a) = omega (arith, size_le a, weighs a)
  size_le (e.Item u a i) = omega (arith, size_le a, size_le i, weighs a, weighs i)
  size_le (e.Call u f args) = omega (arith, sizes_le args, call_le f, one_more f, arguments_total f (sizes args), arguments_total f (weights args))
  size_le (e.SuperCall u f args) = omega (arith, sizes_le args)
  size_le (e.Make u class args) = omega (arith, sizes_le args)
  size_le (e.Items u items) = omega (arith, items_le items)
  size_le (e.Handler u f) = lit≤ tt

  sizes_le : (args : TypedTrees) → total (sizes args) ≤ 8 * total (weights args)
  sizes_le e.none = lit≤ tt
  sizes_le (e.more a rest) = omega (arith, size_le a, sizes_le rest, weighs a)

  items_le : (items : TypedTrees) → items_size (sizes items) ≤ 8 * total (weights items)
  items_le e.none = lit≤ tt
  items_le (e.more a rest) = omega (arith, size_le a, weighs a, items_le rest)

  reach_le : (x : TypedTree) → reach_size x ≤ 8 * weight_of x
  reach_le (e.Field u a f) = omega (arith, size_le a, weighs a)
  reach_le (e.Item u a i) = omega (arith, size_le a, size_le i, weighs a, weighs i)
  reach_le x = omega arith

optional_le : (a : Option TypedTree) → test_size a ≤ 8 * optional_weight a
optional_le None = lit≤ tt
optional_le (Some a) = omega (arith, size_le a, weighs a)

optional_step_le : (a : Option TypedTree) → step_size a ≤ 8 * optional_weight a
optional_step_le None = lit≤ tt
optional_step_le (Some a) = omega (arith, size_le a, weighs a)

initial_le : (a : Option TypedTree) → initial_size a ≤ 8 * optional_weight a + 1
initial_le None = lit≤ tt
initial_le (Some a) = omega (arith, size_le a, weighs a)

declared_le : (each : List TypedDeclaration) → declared_size each ≤ 8 * declared_weight each
declared_le [] = lit≤ tt
declared_le (d ∷ rest) = omega (arith, initial_le d.first, declared_le rest)

return_le : (maker : Bool) → return_size maker ≤ 2
return_le true = lit≤ tt
return_le false = lit≤ tt

mutual
  pub statement_le : (maker : Bool) (a : TypedStatement) → statement_size maker a ≤ 8 * statement_weight a
  statement_le maker (e.Block all) = omega (arith, statements_le maker all)
  statement_le maker (e.Let fixed each) = omega (arith, declared_le each)
  statement_le maker (e.IfOnly test a) = omega (arith, size_le test, weighs test, statement_le maker a)
  statement_le maker (e.IfElse test a o) = omega (arith, size_le test, weighs test, statement_le maker a, statement_le maker o)
  statement_le maker (e.While test a) = omega (arith, size_le test, weighs test, statement_le maker a)
  statement_le maker (e.DoWhile a test) = omega (arith, size_le test, weighs test, statement_le maker a)
  statement_le maker (e.For first test step a) = omega (arith, first_le maker first, optional_le test, optional_step_le step, statement_le maker a)
  statement_le maker (e.ForOf fixed (Local i) list a) = omega (arith, size_le list, weighs list, statement_le maker a)
  statement_le maker (e.ForOf fixed (Param i) list a) = omega arith
  statement_le maker (e.ForOf fixed (Global g) list a) = omega arith
  statement_le maker (e.Return None) = lit≤ tt
  statement_le maker (e.Return (Some a)) = omega (arith, size_le a, weighs a, return_le maker)
  statement_le maker e.Break = lit≤ tt
  statement_le maker e.Continue = lit≤ tt
  statement_le maker (e.Plain a) = omega (arith, size_le a, weighs a)
  statement_le maker e.Empty = lit≤ tt

  first_le : (maker : Bool) (first : OptionalTypedStatement) → first_size maker first ≤ 8 * first_weight first
  first_le maker e.omitted = lit≤ tt
  first_le maker (e.written a) = statement_le maker a

  pub statements_le : (maker : Bool) (all : TypedStatements) → statements_size maker all ≤ 8 * statements_weight all
  statements_le maker e.done = lit≤ tt
  statements_le maker (e.also a rest) = omega (arith, statement_le maker a, statements_le maker rest)

by_action : (action : BoardAction) (h : ℕ) → length (repeated_by action h) ≤ 1
by_action (Service number places) h = lit≤ tt
by_action (Library function) h = lit≤ tt
by_action Repeats h = lit≤ tt

by_call : (f : Callee) (h : ℕ) → length (repeated_by_call f h) ≤ 1
by_call (c.Function f) h = lit≤ tt
by_call (c.Slot s) h = lit≤ tt
by_call c.Push h = lit≤ tt
by_call c.Pop h = lit≤ tt
by_call (c.Board call) h = by_action (row_of call).action h

mutual
  -- no more functions are started than the weight of the tree that starts them
  repeated_le : (a : TypedTree) → length (repeated a) ≤ weight_of a
  repeated_le (e.Num u n) = lit≤ tt
  repeated_le (e.Text u n) = lit≤ tt
  repeated_le (e.Truth u b) = lit≤ tt
  repeated_le (e.Null u) = lit≤ tt
  repeated_le (e.This u) = lit≤ tt
  repeated_le (e.Name u x) = lit≤ tt
  repeated_le (e.Unary u op a) = omega (arith, repeated_le a)
  repeated_le (e.Binary u op a b) = omega (arith, length-append (repeated a) (repeated b), repeated_le a, repeated_le b)
  repeated_le (e.Both u a b) = omega (arith, length-append (repeated a) (repeated b), repeated_le a, repeated_le b)
  repeated_le (e.Either u a b) = omega (arith, length-append (repeated a) (repeated b), repeated_le a, repeated_le b)
  repeated_le (e.Choice u test a b) =
      omega (arith, length-append (repeated test) (repeated a ++ repeated b), length-append (repeated a) (repeated b), repeated_le test, repeated_le a, repeated_le b)
  repeated_le (e.Set u None x r) = omega (arith, length-append (repeated x) (repeated r), repeated_le x, repeated_le r)
  repeated_le (e.Set u (Some op) x r) = omega (arith, length-append (repeated x) (repeated r), repeated_le x, repeated_le r)
  repeated_le (e.Bump u x by late) = omega (arith, repeated_le x)
  repeated_le (e.Field u a f) = omega (arith, repeated_le a)
  repeated_le (e.Length u a) = omega (arith, repeated_le a)
  repeated_le (e.Item u a i) = omega (arith, length-append (repeated a) (repeated i), repeated_le a, repeated_le i)
  repeated_le (e.Call u f args) =
      omega (arith, length-append (repeated_each args) (repeated_by_call f (handler_of args)), by_call f (handler_of args), one_more f, each_le args, arguments_total f (weights args))
  repeated_le (e.SuperCall u f args) = omega (arith, each_le args)
  repeated_le (e.Make u class args) = omega (arith, each_le args)
  repeated_le (e.Items u items) = omega (arith, each_le items)
  repeated_le (e.Handler u f) = lit≤ tt

  each_le : (args : TypedTrees) → length (repeated_each args) ≤ total (weights args)
  each_le e.none = lit≤ tt
  each_le (e.more a rest) = omega (arith, length-append (repeated a) (repeated_each rest), repeated_le a, each_le rest)

optionally_le : (a : Option TypedTree) → length (optionally_repeated a) ≤ optional_weight a
optionally_le None = lit≤ tt
optionally_le (Some a) = repeated_le a

firsts_le : (each : List TypedDeclaration) → length (repeated_first each) ≤ declared_weight each
firsts_le [] = lit≤ tt
firsts_le (d ∷ rest) = omega (arith, length-append (optionally_repeated d.first) (repeated_first rest), optionally_le d.first, firsts_le rest)

mutual
  in_le : (a : TypedStatement) → length (repeated_in a) ≤ statement_weight a
  in_le (e.Block all) = omega (arith, in_all_le all)
  in_le (e.Let fixed each) = omega (arith, firsts_le each)
  in_le (e.IfOnly test a) = omega (arith, length-append (repeated test) (repeated_in a), repeated_le test, in_le a)
  in_le (e.IfElse test a o) =
      omega (arith, length-append (repeated test) (repeated_in a ++ repeated_in o), length-append (repeated_in a) (repeated_in o), repeated_le test, in_le a, in_le o)
  in_le (e.While test a) = omega (arith, length-append (repeated test) (repeated_in a), repeated_le test, in_le a)
  in_le (e.DoWhile a test) = omega (arith, length-append (repeated_in a) (repeated test), repeated_le test, in_le a)
  in_le (e.For first test step a) =
      omega (
        arith,
        length-append (repeated_in_first first) (optionally_repeated test ++ (optionally_repeated step ++ repeated_in a)),
        length-append (optionally_repeated test) (optionally_repeated step ++ repeated_in a),
        length-append (optionally_repeated step) (repeated_in a),
        in_first_le first,
        optionally_le test,
        optionally_le step,
        in_le a,
      )
  in_le (e.ForOf fixed x list a) = omega (arith, length-append (repeated list) (repeated_in a), repeated_le list, in_le a)
  in_le (e.Return value) = omega (arith, optionally_le value)
  in_le e.Break = lit≤ tt
  in_le e.Continue = lit≤ tt
  in_le (e.Plain a) = omega (arith, repeated_le a)
  in_le e.Empty = lit≤ tt

  in_first_le : (first : OptionalTypedStatement) → length (repeated_in_first first) ≤ first_weight first
  in_first_le e.omitted = lit≤ tt
  in_first_le (e.written a) = in_le a

  in_all_le : (all : TypedStatements) → length (repeated_in_all all) ≤ statements_weight all
  in_all_le e.done = lit≤ tt
  in_all_le (e.also a rest) = omega (arith, length-append (repeated_in a) (repeated_in_all rest), in_le a, in_all_le rest)

pub in_each_le : (all : List TypedRoutine) → length (repeated_in_each all) ≤ routines_weight all
in_each_le [] = lit≤ tt
in_each_le (r ∷ rest) = omega (arith, length-append (repeated_in_all r.all) (repeated_in_each rest), in_all_le r.all, in_each_le rest)
