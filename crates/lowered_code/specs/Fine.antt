-- What lowering needs of a tree: its names are there, and handlers stand only where a call of the board takes one.
use Rattle.std.specs.Prelude.{◌≡◌, ℕ, suc, ◌+◌, ◌<◌, true, List, [], ◌∷◌, length, Option, Some, None}
use Rattle.sts_syntax.specs.declared.typed.Spot.{Spot}
use Rattle.sts_syntax.specs.declared.typed.Spot.TheVariants.{Param, Local, Global}
use Rattle.sts_syntax.specs.declared.typed.Callee.TheVariants as c
use Rattle.sts_syntax.specs.TypedTrees as e
use Rattle.sts_syntax.specs.TypedTrees.{TypedTree, TypedTrees, TypedStatement, TypedStatements, OptionalTypedStatement, TypedDeclaration, TypedRoutine, TypedProgram}
use Rattle.sts_syntax.specs.BoardTable as b
use Rattle.sts_syntax.specs.BoardTable.{BoardParameter, BoardAction, row_of}
use Rattle.sts_syntax.specs.Measures.{how_many}
use Rattle.sts_syntax.specs.TypeRules.{entry, IsOneOf}
use Rattle.sts_syntax.specs.WellTypedPrograms.{is_maker}
use Rattle.sts_lower.specs.Code.{handler_of}
use Rattle.sts_lower.specs.Lowered.{repeated_in_program}

-- In a program with so many functions, of which these are called by functions that `forever` starts: a function's trees, with so many
-- parameters and locals.
module _ (functions : ℕ) (repeated : List ℕ) (params locals : ℕ) where
  abbrev pub IsThere : Spot → Type 0
  IsThere (Param i) = i < params
  IsThere (Local i) = i < locals
  IsThere (Global g) = Unit {0}

  abbrev pub FineHandler : TypedTree → Type 0
  FineHandler (e.Handler u f) = f < functions
  FineHandler a = ⊥

  abbrev pub FineAction : BoardAction → ℕ → Type 0
  FineAction (b.Service number places) handler = Unit {0}
  FineAction (b.Library function) handler = ⊥
  FineAction b.Repeats handler = IsOneOf handler repeated

  abbrev mutual
    pub Fine : TypedTree → Type 0
    Fine (e.This u) = 0 < params
    Fine (e.Name u x) = IsThere x
    Fine (e.Unary u op a) = Fine a
    Fine (e.Binary u op a b) = Fine a × Fine b
    Fine (e.Both u a b) = Fine a × Fine b
    Fine (e.Either u a b) = Fine a × Fine b
    Fine (e.Choice u test a b) = Fine test × Fine a × Fine b
    Fine (e.Set u op x r) = FineTarget x × Fine r
    Fine (e.Bump u x by late) = FineTarget x
    Fine (e.Field u a f) = Fine a
    Fine (e.Length u a) = Fine a
    Fine (e.Item u a i) = Fine a × Fine i
    Fine (e.Call u (c.Function f) args) = FineEach args
    Fine (e.Call u (c.Slot s) args) = FineEach args
    Fine (e.Call u c.Push args) = FineEach args × (how_many args ≡ 2)
    Fine (e.Call u c.Pop args) = FineEach args × (how_many args ≡ 1)
    Fine (e.Call u (c.Board call) args) =
        FineGiven (row_of call).takes args × FineAction (row_of call).action (handler_of args)
    Fine (e.SuperCall u f args) = (0 < params) × FineEach args
    Fine (e.Make u class args) = FineEach args
    Fine (e.Items u items) = FineEach items
    Fine (e.Handler u f) = ⊥
    Fine _ = Unit {0}

    pub FineTarget : TypedTree → Type 0
    FineTarget (e.Name u x) = IsThere x
    FineTarget (e.Field u a f) = Fine a
    FineTarget (e.Item u a i) = Fine a × Fine i
    FineTarget a = ⊥

    pub FineEach : TypedTrees → Type 0
    FineEach e.none = Unit {0}
    FineEach (e.more a rest) = Fine a × FineEach rest

    pub FineGiven : List BoardParameter → TypedTrees → Type 0
    FineGiven [] e.none = Unit {0}
    FineGiven (b.Of u ∷ ps) (e.more a rest) = Fine a × FineGiven ps rest
    FineGiven (b.Handler ∷ ps) (e.more a rest) = FineHandler a × FineGiven ps rest
    FineGiven ps args = ⊥

  abbrev pub FineOption : Option TypedTree → Type 0
  FineOption None = Unit {0}
  FineOption (Some a) = Fine a

  abbrev pub FineDeclared : List TypedDeclaration → Type 0
  FineDeclared [] = Unit {0}
  FineDeclared (d ∷ rest) = FineOption d.first × IsThere d.name × FineDeclared rest

  -- the three locals of a loop over items
  abbrev pub FineLoop : Spot → Type 0
  FineLoop (Local i) = IsThere (Local (suc (suc i)))
  FineLoop _ = ⊥

  abbrev mutual
    pub FineStatement : TypedStatement → Type 0
    FineStatement (e.Block all) = FineStatements all
    FineStatement (e.Let fixed each) = FineDeclared each
    FineStatement (e.IfOnly test a) = Fine test × FineStatement a
    FineStatement (e.IfElse test a o) = Fine test × FineStatement a × FineStatement o
    FineStatement (e.While test a) = Fine test × FineStatement a
    FineStatement (e.DoWhile a test) = FineStatement a × Fine test
    FineStatement (e.For first test step a) = FineFirst first × FineOption test × FineOption step × FineStatement a
    FineStatement (e.ForOf fixed x list a) = FineLoop x × Fine list × FineStatement a
    FineStatement (e.Return value) = FineOption value
    FineStatement (e.Plain a) = Fine a
    FineStatement _ = Unit {0}

    pub FineFirst : OptionalTypedStatement → Type 0
    FineFirst e.omitted = Unit {0}
    FineFirst (e.written a) = FineStatement a

    pub FineStatements : TypedStatements → Type 0
    FineStatements e.done = Unit {0}
    FineStatements (e.also a rest) = FineStatement a × FineStatements rest

-- What lowering needs of a program: its functions are fine; a constructor has its object as a parameter, and no function that `forever` starts is one.
pub record IsFine (P : TypedProgram) : Type 0 where
  pub all : (f : ℕ) (r : TypedRoutine) → entry P.functions f ≡ Some r
      → FineStatements (length P.functions) (repeated_in_program P) (length r.params) (length r.locals) r.all
  pub this : (f : ℕ) (r : TypedRoutine) → entry P.functions f ≡ Some r → is_maker P.classes f ≡ true
      → 0 < length r.params
  pub makers : (g : ℕ) → is_maker P.classes (length P.functions + g) ≡ true → ⊥
