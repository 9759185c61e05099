-- The functions whose calls `forever` repeats.
use Rattle.std.specs.Prelude.{ℕ, suc, if◌then◌else◌, ◌==◌, List, [], ◌∷◌, ◌++◌, Option, Some, None}
use Rattle.sts_syntax.specs.declared.typed.Callee.{Callee}
use Rattle.sts_syntax.specs.declared.typed.Callee.TheVariants as c
use Rattle.sts_syntax.specs.TypedTrees as e
use Rattle.sts_syntax.specs.TypedTrees.{TypedTree, TypedTrees, TypedStatement, TypedStatements, OptionalTypedStatement, TypedDeclaration, TypedRoutine}
use Rattle.sts_syntax.specs.BoardTable.{BoardAction, Repeats, row_of}
use Rattle.sts_lower.specs.Code.{handler_of}

-- the one that a call of the board repeats
abbrev pub repeated_by : BoardAction → ℕ → List ℕ
repeated_by Repeats handler = handler ∷ []
repeated_by _ handler = []

abbrev pub repeated_by_call : Callee → ℕ → List ℕ
repeated_by_call (c.Board call) handler = repeated_by (row_of call).action handler
repeated_by_call _ handler = []

abbrev mutual
  -- in an expression: one for each such call, in the order of the text
  pub repeated : TypedTree → List ℕ
  repeated (e.Unary u op a) = repeated a
  repeated (e.Binary u op a b) = repeated a ++ repeated b
  repeated (e.Both u a b) = repeated a ++ repeated b
  repeated (e.Either u a b) = repeated a ++ repeated b
  repeated (e.Choice u test a b) = repeated test ++ (repeated a ++ repeated b)
  repeated (e.Set u op x r) = repeated x ++ repeated r
  repeated (e.Bump u x by late) = repeated x
  repeated (e.Field u a f) = repeated a
  repeated (e.Length u a) = repeated a
  repeated (e.Item u a i) = repeated a ++ repeated i
  repeated (e.Call u f args) = repeated_each args ++ repeated_by_call f (handler_of args)
  repeated (e.SuperCall u f args) = repeated_each args
  repeated (e.Make u class args) = repeated_each args
  repeated (e.Items u items) = repeated_each items
  repeated _ = []

  pub repeated_each : TypedTrees → List ℕ
  repeated_each e.none = []
  repeated_each (e.more a rest) = repeated a ++ repeated_each rest

abbrev pub optionally_repeated : Option TypedTree → List ℕ
optionally_repeated None = []
optionally_repeated (Some a) = repeated a

abbrev pub repeated_first : List TypedDeclaration → List ℕ
repeated_first [] = []
repeated_first (d ∷ rest) = optionally_repeated d.first ++ repeated_first rest

abbrev mutual
  -- in a statement
  pub repeated_in : TypedStatement → List ℕ
  repeated_in (e.Block all) = repeated_in_all all
  repeated_in (e.Let fixed each) = repeated_first each
  repeated_in (e.IfOnly test a) = repeated test ++ repeated_in a
  repeated_in (e.IfElse test a o) = repeated test ++ (repeated_in a ++ repeated_in o)
  repeated_in (e.While test a) = repeated test ++ repeated_in a
  repeated_in (e.DoWhile a test) = repeated_in a ++ repeated test
  repeated_in (e.For first test step a) =
      repeated_in_first first ++ (optionally_repeated test ++ (optionally_repeated step ++ repeated_in a))
  repeated_in (e.ForOf fixed x list a) = repeated list ++ repeated_in a
  repeated_in (e.Return value) = optionally_repeated value
  repeated_in (e.Plain a) = repeated a
  repeated_in _ = []

  pub repeated_in_first : OptionalTypedStatement → List ℕ
  repeated_in_first e.omitted = []
  repeated_in_first (e.written a) = repeated_in a

  pub repeated_in_all : TypedStatements → List ℕ
  repeated_in_all e.done = []
  repeated_in_all (e.also a rest) = repeated_in a ++ repeated_in_all rest

-- in all functions of a program
abbrev pub repeated_in_each : List TypedRoutine → List ℕ
repeated_in_each [] = []
repeated_in_each (r ∷ rest) = repeated_in_all r.all ++ repeated_in_each rest

-- how many stand before the first that is f
abbrev pub before : List ℕ → ℕ → ℕ
before [] f = 0
before (g ∷ gs) f = if g == f then 0 else suc (before gs f)
