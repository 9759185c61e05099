-- Well-typed programs: every number in a tree names a part that is there, each expression has the type that the rules give it,
-- calls have as many arguments as parameters, and classes keep what their bases have.
use Rattle.std.specs.Prelude.{◌≡◌, ℕ, suc, Bool, true, if◌then◌else◌, List, [], ◌∷◌, Option, Some, None}
use Rattle.sts_syntax.specs.declared.typed.Spot.{Spot}
use Rattle.sts_syntax.specs.declared.typed.Spot.TheVariants.{Param, Local, Global}
use Rattle.sts_syntax.specs.declared.typed.Callee.TheVariants as c
use Rattle.sts_syntax.specs.Types as t
use Rattle.sts_syntax.specs.Types.{ValueType}
use Rattle.sts_syntax.specs.TypedTrees as e
use Rattle.sts_syntax.specs.TypedTrees.{TypedTree, TypedTrees, TypedStatement, TypedStatements, OptionalTypedStatement, TypedDeclaration, TypedRoutine, ClassEntry, TypedProgram}
use Rattle.sts_syntax.specs.BoardTable as b
use Rattle.sts_syntax.specs.BoardTable.{BoardParameter, BoardAction, row_of}
use Rattle.sts_syntax.specs.TypeRules.{entry, IsOneOf, is_int32, IsOne, Prefixes, HasClass, HasRoutine, GoesTo, Join, Works, HasField, IsMember, HasMethod, MayBegin}

-- the type that an expression is noted to have
abbrev pub type_of : TypedTree → ValueType
type_of (e.Num u n) = u
type_of (e.Text u n) = u
type_of (e.Truth u b) = u
type_of (e.Null u) = u
type_of (e.This u) = u
type_of (e.Name u x) = u
type_of (e.Unary u op a) = u
type_of (e.Binary u op a b) = u
type_of (e.Both u a b) = u
type_of (e.Either u a b) = u
type_of (e.Choice u a b d) = u
type_of (e.Set u op a r) = u
type_of (e.Bump u a by late) = u
type_of (e.Field u a f) = u
type_of (e.Length u a) = u
type_of (e.Item u a i) = u
type_of (e.Call u f args) = u
type_of (e.SuperCall u f args) = u
type_of (e.Make u class args) = u
type_of (e.Items u items) = u
type_of (e.Handler u f) = u

-- A function as its statements see it: its parameters, locals and result, and whether it is a method or constructor, a constructor,
-- and the main program.
pub record Setting : Type 0 where
  pub routine : TypedRoutine
  pub this : Bool
  pub maker : Bool
  pub main : Bool

-- The type of what a `return` gives. The main program has no `return`, and a constructor's has no value of its own.
abbrev pub answer : Setting → Option ValueType
answer s = if s.main then None else Some (if s.maker then t.Nothing else s.routine.gives)

-- the parameters of a function, as those of a board call
abbrev pub parameters_of : List ValueType → List BoardParameter
parameters_of [] = []
parameters_of (u ∷ us) = b.Of u ∷ parameters_of us

-- a call that asks for something of the board; one of the library is a call of a function
abbrev pub IsAsked : BoardAction → Type 0
IsAsked (b.Service number places) = Unit {0}
IsAsked (b.Library function) = ⊥
IsAsked b.Repeats = Unit {0}

-- the locals that a declaration adds to those that are known
abbrev pub known_with : Spot → List ℕ → List ℕ
known_with (Param i) known = known
known_with (Local i) known = i ∷ known
known_with (Global g) known = known

abbrev pub known_behind : List TypedDeclaration → List ℕ → List ℕ
known_behind [] known = known
known_behind (d ∷ rest) known = known_behind rest (known_with d.name known)

-- what a statement's declarations add for those behind it in the same block
abbrev pub known_after : TypedStatement → List ℕ → List ℕ
known_after (e.Let fixed each) known = known_behind each known
known_after s known = known

abbrev pub known_after_first : OptionalTypedStatement → List ℕ → List ℕ
known_after_first e.omitted known = known
known_after_first (e.written a) known = known_after a known

module _ (P : TypedProgram) where
  -- a handler is the number of a function that may begin an activity
  abbrev pub IsHandler : TypedTree → Type 0
  IsHandler (e.Handler u f) = MayBegin P f
  IsHandler a = ⊥

  module _ (S : Setting) where
    -- a name that is known, and its type
    abbrev pub Has : List ℕ → Spot → ValueType → Type 0
    Has known (Param i) u = entry S.routine.params i ≡ Some u
    Has known (Local i) u = IsOneOf i known × (entry S.routine.locals i ≡ Some u)
    Has known (Global g) u = entry P.globals g ≡ Some u

    -- `this`
    abbrev pub HasThis : ValueType → Type 0
    HasThis u = (S.this ≡ true) × (entry S.routine.params 0 ≡ Some u)

    -- `super.m`: f is a method of the base of the class of `this`
    abbrev pub IsOfBase : ℕ → List ValueType → ValueType → Type 0
    IsOfBase f params gives = (c : ℕ) × (class : ClassEntry) × (base : ℕ) × (s : ℕ) × (above : ClassEntry)
        × HasThis (t.Object c) × HasClass P c class × (class.base ≡ Some base) × HasClass P base above
        × (entry above.slots s ≡ Some f) × IsMember P base f params gives

    module _ (known : List ℕ) where
      abbrev mutual
        pub IsTyped : TypedTree → Type 0
        IsTyped (e.Num u n) = (u ≡ t.Number) × (is_int32 n ≡ true)
        IsTyped (e.Text u n) = u ≡ t.Text
        IsTyped (e.Truth u b) = u ≡ t.Boolean
        IsTyped (e.Null u) = u ≡ t.NullType
        IsTyped (e.This u) = HasThis u
        IsTyped (e.Name u x) = Has known x u
        IsTyped (e.Unary u op a) = IsTyped a × Prefixes op (type_of a) u
        IsTyped (e.Binary u op a b) = IsTyped a × IsTyped b × Works P op (type_of a) (type_of b) u
        IsTyped (e.Both u a b) =
            IsTyped a × IsTyped b × (type_of a ≡ t.Boolean) × (type_of b ≡ t.Boolean) × (u ≡ t.Boolean)
        IsTyped (e.Either u a b) =
            IsTyped a × IsTyped b × (type_of a ≡ t.Boolean) × (type_of b ≡ t.Boolean) × (u ≡ t.Boolean)
        IsTyped (e.Choice u test a b) =
            IsTyped test × IsTyped a × IsTyped b × (type_of test ≡ t.Boolean) × Join P (type_of a) (type_of b) u
        IsTyped (e.Set u None x r) = IsTarget x × IsTyped r × (u ≡ type_of x) × GoesTo P (type_of r) u
        IsTyped (e.Set u (Some op) x r) = IsTarget x × IsTyped r × (u ≡ type_of x) × Works P op u (type_of r) u
        IsTyped (e.Bump u x by late) = IsTarget x × (type_of x ≡ t.Number) × (u ≡ t.Number) × IsOne by
        IsTyped (e.Field u a f) = IsTyped a × (c : ℕ) × (type_of a ≡ t.Object c) × HasField P c f u
        IsTyped (e.Length u a) = IsTyped a × (v : ValueType) × (type_of a ≡ t.ListOf v) × (u ≡ t.Number)
        IsTyped (e.Item u a i) = IsTyped a × IsTyped i × (type_of a ≡ t.ListOf u) × (type_of i ≡ t.Number)
        IsTyped (e.Call u (c.Function f) args) =
            (r : TypedRoutine) × HasRoutine P f r × AreGiven (parameters_of r.params) args × (u ≡ r.gives)
        IsTyped (e.Call u (c.Slot s) args) = IsSent s u args
        IsTyped (e.Call u c.Push args) = IsPushed u args
        IsTyped (e.Call u c.Pop args) = IsPopped u args
        IsTyped (e.Call u (c.Board call) args) =
            AreGiven (row_of call).takes args × (u ≡ (row_of call).gives) × IsAsked (row_of call).action
        IsTyped (e.SuperCall u f args) =
            (params : List ValueType) × IsOfBase f params u × AreGiven (parameters_of params) args
        IsTyped (e.Make u k args) = (class : ClassEntry) × (params : List ValueType)
            × HasClass P k class × IsMember P k class.maker params (t.Object k) × AreGiven (parameters_of params) args
            × (u ≡ t.Object k)
        IsTyped (e.Items u items) = (v : ValueType) × (u ≡ t.ListOf v) × AreItems v items
        IsTyped (e.Handler u f) = ⊥

        -- what can be assigned to
        pub IsTarget : TypedTree → Type 0
        IsTarget (e.Name u x) = Has known x u
        IsTarget (e.Field u a f) = IsTyped a × (c : ℕ) × (type_of a ≡ t.Object c) × HasField P c f u
        IsTarget (e.Item u a i) = IsTyped a × IsTyped i × (type_of a ≡ t.ListOf u) × (type_of i ≡ t.Number)
        IsTarget a = ⊥

        -- as many arguments as parameters, each of which goes to its parameter
        pub AreGiven : List BoardParameter → TypedTrees → Type 0
        AreGiven [] e.none = Unit {0}
        AreGiven (b.Of u ∷ ps) (e.more a rest) = IsTyped a × GoesTo P (type_of a) u × AreGiven ps rest
        AreGiven (b.Handler ∷ ps) (e.more a rest) = IsHandler a × AreGiven ps rest
        AreGiven ps args = ⊥

        -- a method call: the receiver, and then what the method takes
        pub IsSent : ℕ → ValueType → TypedTrees → Type 0
        IsSent s u e.none = ⊥
        IsSent s u (e.more a rest) =
            (c : ℕ) × (params : List ValueType) × IsTyped a × (type_of a ≡ t.Object c) × HasMethod P c s params u
            × AreGiven (parameters_of params) rest

        pub IsPushed : ValueType → TypedTrees → Type 0
        IsPushed u (e.more a (e.more b e.none)) =
            IsTyped a × IsTyped b × (v : ValueType) × (type_of a ≡ t.ListOf v) × GoesTo P (type_of b) v
            × (u ≡ t.Nothing)
        IsPushed u args = ⊥

        pub IsPopped : ValueType → TypedTrees → Type 0
        IsPopped u (e.more a e.none) = IsTyped a × (type_of a ≡ t.ListOf u)
        IsPopped u args = ⊥

        pub AreItems : ValueType → TypedTrees → Type 0
        AreItems u e.none = Unit {0}
        AreItems u (e.more a rest) = IsTyped a × GoesTo P (type_of a) u × AreItems u rest

      abbrev pub IsTest : TypedTree → Type 0
      IsTest a = IsTyped a × (type_of a ≡ t.Boolean)

      abbrev pub MayTest : Option TypedTree → Type 0
      MayTest None = Unit {0}
      MayTest (Some a) = IsTest a

      abbrev pub MayStep : Option TypedTree → Type 0
      MayStep None = Unit {0}
      MayStep (Some a) = IsTyped a

      -- an initialiser goes to its name's type
      abbrev pub IsInitial : Option TypedTree → ValueType → Type 0
      IsInitial None u = Unit {0}
      IsInitial (Some a) u = IsTyped a × GoesTo P (type_of a) u

      -- a `return` in the main program is none; else its value goes to the result
      abbrev pub IsReturned : Option TypedTree → Option ValueType → Type 0
      IsReturned value None = ⊥
      IsReturned None (Some u) = Unit {0}
      IsReturned (Some a) (Some u) = IsTyped a × GoesTo P (type_of a) u

    -- the type of a name that may be declared here: a local, or in the main program a global
    abbrev pub MayDeclare : Spot → ValueType → Type 0
    MayDeclare (Param i) u = ⊥
    MayDeclare (Local i) u = entry S.routine.locals i ≡ Some u
    MayDeclare (Global g) u = (S.main ≡ true) × (entry P.globals g ≡ Some u)

    -- names are known behind their declaration
    abbrev pub AreDeclared : List ℕ → List TypedDeclaration → Type 0
    AreDeclared known [] = Unit {0}
    AreDeclared known (d ∷ rest) =
        (u : ValueType) × MayDeclare d.name u × IsInitial known d.first u × AreDeclared (known_with d.name known) rest

    -- Where `looped` holds, a loop stands around the statement. A declaration is known in the rest of its block.
    abbrev mutual
      pub IsSound : TypedStatement → Bool → List ℕ → Type 0
      IsSound (e.Block all) looped known = AreSound all looped known
      IsSound (e.Let fixed each) looped known = AreDeclared known each
      IsSound (e.IfOnly test a) looped known = IsTest known test × IsSound a looped known
      IsSound (e.IfElse test a o) looped known = IsTest known test × IsSound a looped known × IsSound o looped known
      IsSound (e.While test a) looped known = IsTest known test × IsSound a true known
      IsSound (e.DoWhile a test) looped known = IsSound a true known × IsTest known test
      IsSound (e.For first test step a) looped known =
          (let inside = known_after_first first known in
          IsSoundFirst first known × MayTest inside test × MayStep inside step × IsSound a true inside)
      IsSound (e.ForOf fixed (Local i) list a) looped known =
          (u : ValueType) × IsTyped known list × (type_of list ≡ t.ListOf u)
          × (entry S.routine.locals i ≡ Some u) × (entry S.routine.locals (suc i) ≡ Some (t.ListOf u))
          × (entry S.routine.locals (suc (suc i)) ≡ Some t.Number)
          × IsSound a true (i ∷ known)
      IsSound (e.ForOf fixed x list a) looped known = ⊥
      IsSound (e.Return value) looped known = IsReturned known value (answer S)
      IsSound e.Break looped known = looped ≡ true
      IsSound e.Continue looped known = looped ≡ true
      IsSound (e.Plain a) looped known = IsTyped known a
      IsSound e.Empty looped known = Unit {0}

      -- what stands first in the head of a `for`: a declaration or an expression
      pub IsSoundFirst : OptionalTypedStatement → List ℕ → Type 0
      IsSoundFirst e.omitted known = Unit {0}
      IsSoundFirst (e.written (e.Let fixed each)) known = AreDeclared known each
      IsSoundFirst (e.written (e.Plain a)) known = IsTyped known a
      IsSoundFirst (e.written a) known = ⊥

      pub AreSound : TypedStatements → Bool → List ℕ → Type 0
      AreSound e.done looped known = Unit {0}
      AreSound (e.also a rest) looped known = IsSound a looped known × AreSound rest looped (known_after a known)
