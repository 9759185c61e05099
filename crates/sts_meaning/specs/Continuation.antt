-- What is left to do in a function, word by word, and how trees become such words.
use Rattle.std.specs.Prelude.{ℕ, suc, ℤ, Bool, true, false, List, [], ◌∷◌, length, Option, Some, None, zero, pos, negsuc}
use Rattle.sts_syntax.specs.declared.typed.Spot.{Spot}
use Rattle.sts_syntax.specs.declared.typed.Spot.TheVariants.{Param, Local}
use Rattle.sts_syntax.specs.declared.typed.Callee.TheVariants as c
use Rattle.sts_syntax.specs.declared.typed.Callee.{Callee}
use Rattle.sts_syntax.specs.Types as t
use Rattle.sts_syntax.specs.Types.{ValueType}
use Rattle.sts_syntax.specs.TypedTrees as e
use Rattle.sts_syntax.specs.TypedTrees.{TypedTree, TypedTrees, TypedStatement, TypedStatements, OptionalTypedStatement, TypedDeclaration}
use Rattle.sts_syntax.specs.BoardTable.{BoardAction, Service, Library, Repeats, row_of, arranged}
use Rattle.sts_meaning.specs.Values.{Value, Whole, Text, Code, default, truth}

-- What is left to do in a frame. Each word is one counted step, but Drop, which belongs to the word behind it. "The latest value" is
-- the one that was given last; it is taken away unless a word says that it stays.
pub data Continuation : Type 0 where
  Put : (v : Value) (k : Continuation) → Continuation  -- a value is given
  Get : (x : Spot) (k : Continuation) → Continuation  -- the value of a name is given
  Store : (x : Spot) (k : Continuation) → Continuation  -- the latest value is stored under a name, and stays
  Drop : (k : Continuation) → Continuation  -- the latest value is let go
  Unary : (op : ℕ) (k : Continuation) → Continuation
  Apply : (op : ℕ) (k : Continuation) → Continuation  -- an operator on the two latest values
  Choose : (so otherwise : Continuation) → Continuation  -- the latest value is a condition, which is decided
  Both : (so otherwise : Continuation) → Continuation  -- the same, and a false one stays
  Either : (so otherwise : Continuation) → Continuation  -- the same, and a true one stays
  Read : (f : ℕ) (k : Continuation) → Continuation  -- a field of the latest value
  Peek : (f : ℕ) (k : Continuation) → Continuation  -- the same, and the object stays
  Write : (f : ℕ) (k : Continuation) → Continuation  -- the latest value is stored in a field of the object before it, and stays
  At : (k : Continuation) → Continuation  -- an item of an array
  PeekAt : (k : Continuation) → Continuation  -- the same, and the array and the index stay
  SetAt : (k : Continuation) → Continuation
  Bump : (x : Spot) (by : ℤ) (late : Bool) (k : Continuation) → Continuation  -- `++` and `--` of a name, a field and an item
  BumpField : (f : ℕ) (by : ℤ) (late : Bool) (k : Continuation) → Continuation
  BumpAt : (by : ℤ) (late : Bool) (k : Continuation) → Continuation
  Measure : (k : Continuation) → Continuation  -- the length of an array
  Push : (k : Continuation) → Continuation
  Pop : (k : Continuation) → Continuation
  Open : (item : ValueType) (room : ℕ) (k : Continuation) → Continuation  -- an array is made, without items
  Append : (k : Continuation) → Continuation  -- the latest value goes into the array before it, which stays
  New : (class : ℕ) (k : Continuation) → Continuation  -- an object is made
  Build : (class n : ℕ) (k : Continuation) → Continuation  -- the class's constructor is called with the new object as `this`, and the n values before it
  Invoke : (f n : ℕ) (k : Continuation) → Continuation  -- a function is called with the n latest values
  Send : (slot n : ℕ) (k : Continuation) → Continuation  -- a method of the first of the n latest values is called with them
  Ask : (service n : ℕ) (answers : Bool) (k : Continuation) → Continuation  -- the board is asked for a service with the n latest values; without an answer the value is 0
  Repeat : (k : Continuation) → Continuation  -- an activity begins that calls the latest value, a function, again and again
  Again : (loop : TypedStatement) (k : Continuation) → Continuation  -- a loop turns back
  Each : (i : ℕ) (body : TypedStatement) (k : Continuation) → Continuation  -- the next item goes into local i and the body is done, or the loop ends
  Leave : (to : Continuation) → Continuation  -- `break` and `continue`
  Give : Continuation  -- the latest value is returned
  Round : (f : ℕ) → Continuation  -- the activity of a `forever` turns back
  Impossible : Continuation  -- nothing can be done: no well-typed tree gets here

abbrev pub item_of : ValueType → ValueType
item_of (t.ListOf u) = u
item_of u = u

-- a call of this type gives a value
abbrev pub gives_value : ValueType → Bool
gives_value t.Nothing = false
gives_value u = true

-- what a call does, once its arguments are there
abbrev pub asks : BoardAction → ℕ → Bool → Continuation → Continuation
asks (Service number places) n answers k = Ask number n answers k
asks (Library function) n answers k = Impossible  -- such a call is one of a function already, in a typed tree
asks Repeats n answers k = Repeat k

abbrev pub calls : Callee → ℕ → Continuation → Continuation
calls (c.Function f) n k = Invoke f n k
calls (c.Slot s) n k = Send s n k
calls c.Push n k = Push k
calls c.Pop n k = Pop k
calls (c.Board call) n k = asks (row_of call).action n (gives_value (row_of call).gives) k

-- one after the other, and then k
abbrev pub chained : List (Continuation → Continuation) → Continuation → Continuation
chained [] k = k
chained (a ∷ rest) k = a (chained rest k)

-- the arguments of a call: what a service always has at a place is put there
abbrev pub arguments : Callee → List (Continuation → Continuation) → List (Continuation → Continuation)
arguments (c.Board call) each = arranged (λ n. Put (Whole n)) (row_of call).action each
arguments (c.Function f) each = each
arguments (c.Slot s) each = each
arguments c.Push each = each
arguments c.Pop each = each

-- `++` adds 1 and `--` -1; there is nothing else of the kind
abbrev pub by_one : ℤ → Continuation → Continuation
by_one (pos (suc zero)) k = k
by_one (negsuc zero) k = k
by_one n k = Impossible

-- each item goes into the array
abbrev pub appended : List (Continuation → Continuation) → Continuation → Continuation
appended [] k = k
appended (a ∷ rest) k = a (Append (appended rest k))

abbrev mutual
  -- an expression, and then k
  pub evals : TypedTree → Continuation → Continuation
  evals (e.Num u n) k = Put (Whole n) k
  evals (e.Text u n) k = Put (Text n) k
  evals (e.Truth u b) k = Put (truth b) k
  evals (e.Null u) k = Put default k
  evals (e.This u) k = Get (Param 0) k
  evals (e.Name u x) k = Get x k
  evals (e.Unary u op a) k = evals a (Unary op k)
  evals (e.Binary u op a b) k = evals a (evals b (Apply op k))
  evals (e.Both u a b) k = evals a (Both (evals b k) k)
  evals (e.Either u a b) k = evals a (Either k (evals b k))
  evals (e.Choice u test a b) k = evals test (Choose (evals a k) (evals b k))
  evals (e.Set u None x r) k = reaches x (λ s. evals r (Store s k)) (λ f. evals r (Write f k)) (evals r (SetAt k))
  evals (e.Set u (Some op) x r) k =
      reaches x (λ s. Get s (evals r (Apply op (Store s k)))) (λ f. Peek f (evals r (Apply op (Write f k))))
      (PeekAt (evals r (Apply op (SetAt k))))
  evals (e.Bump u x by late) k =
      by_one by (reaches x (λ s. Bump s by late k) (λ f. BumpField f by late k) (BumpAt by late k))
  evals (e.Field u a f) k = evals a (Read f k)
  evals (e.Length u a) k = evals a (Measure k)
  evals (e.Item u a i) k = evals a (evals i (At k))
  evals (e.Call u f args) k = (let all = arguments f (evals_each args) in chained all (calls f (length all) k))
  evals (e.SuperCall u f args) k =
      (let all = evals_each args in Get (Param 0) (chained all (Invoke f (suc (length all)) k)))
  evals (e.Make u class args) k = (let all = evals_each args in chained all (New class (Build class (length all) k)))
  evals (e.Items u items) k = (let all = evals_each items in Open (item_of u) (length all) (appended all k))
  evals (e.Handler u f) k = Put (Code f) k

  pub evals_each : TypedTrees → List (Continuation → Continuation)
  evals_each e.none = []
  evals_each (e.more a rest) = evals a ∷ evals_each rest

  -- what is assigned to: a name, a field of an object that is evaluated first, or an item of an array that is evaluated first, with its index
  pub reaches : TypedTree → (Spot → Continuation) → (ℕ → Continuation) → Continuation → Continuation
  reaches (e.Name u x) name field item = name x
  reaches (e.Field u a f) name field item = evals a (field f)
  reaches (e.Item u a i) name field item = evals a (evals i item)
  reaches x name field item = Impossible

-- a declared name is set to the default where it has no initialiser
abbrev pub initial : Option TypedTree → Continuation → Continuation
initial None k = Put default k
initial (Some a) k = evals a k

abbrev pub declares : List TypedDeclaration → Continuation → Continuation
declares [] k = k
declares (d ∷ rest) k = initial d.first (Store d.name (Drop (declares rest k)))

-- a test and a step of a `for`, which may be left out
abbrev pub tests : Option TypedTree → Continuation → Continuation → Continuation
tests None so otherwise = so
tests (Some a) so otherwise = evals a (Choose so otherwise)

abbrev pub steps : Option TypedTree → Continuation → Continuation
steps None k = k
steps (Some a) k = evals a (Drop k)

-- a `return` without a value, and running off the end: the default is given, and by a constructor its object
abbrev pub bare : Bool → Continuation
bare true = Get (Param 0) Give
bare false = Put default Give

-- a `return` with a value, which a constructor lets go
abbrev pub returns : Bool → Continuation
returns true = Drop (bare true)
returns false = Give

-- in a constructor, or in another function
module _ (maker : Bool) where
  abbrev mutual
    -- A statement, and then k. `break` goes to b and `continue` to c.
    pub runs : TypedStatement → Continuation → Continuation → Continuation → Continuation
    runs (e.Block all) b c k = runs_all all b c k
    runs (e.Let fixed each) b c k = declares each k
    runs (e.IfOnly test a) b c k = evals test (Choose (runs a b c k) k)
    runs (e.IfElse test a o) b c k = evals test (Choose (runs a b c k) (runs o b c k))
    runs (e.While test a) b c k = (let turn = Again (e.While test a) k in evals test (Choose (runs a k turn turn) k))
    runs (e.DoWhile a test) b c k =
        (let turn = evals test (Choose (Again (e.DoWhile a test) k) k) in runs a k turn turn)
    runs (e.For first test step a) b c k =
        (let turn = steps step (Again (e.For e.omitted test step a) k) in
        runs_first first b c (tests test (runs a k turn turn) k))
    -- the item is local i; behind it are the array and the next index
    runs (e.ForOf fixed (Local i) list a) b c k =
        evals list (Store (Local (suc i)) (Drop (Put default (Store (Local (suc (suc i))) (Drop (Each i a k))))))
    runs (e.ForOf fixed x list a) b c k = Impossible
    runs (e.Return None) b c k = bare maker
    runs (e.Return (Some a)) b c k = evals a (returns maker)
    runs e.Break b c k = Leave b
    runs e.Continue b c k = Leave c
    runs (e.Plain a) b c k = evals a (Drop k)
    runs e.Empty b c k = k

    pub runs_first : OptionalTypedStatement → Continuation → Continuation → Continuation → Continuation
    runs_first e.omitted b c k = k
    runs_first (e.written a) b c k = runs a b c k

    pub runs_all : TypedStatements → Continuation → Continuation → Continuation → Continuation
    runs_all e.done b c k = k
    runs_all (e.also a rest) b c k = runs a b c (runs_all rest b c k)
