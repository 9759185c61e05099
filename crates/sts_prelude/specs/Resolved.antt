-- What names make of the library's tree: its functions beside the typed functions that stand first in each program,
-- node by node. That the types noted at the typed nodes are those of the rules isn't said here.
use Rattle.std.specs.Prelude.{◌≡◌, ℕ, suc, false, Option, Some, None, List, [], ◌∷◌, length, map, slice_get}
use Rattle.std.specs.List.{AllZip}
use Rattle.sts_syntax.specs.declared.board_calls.BoardCall.{BoardCall}
use Rattle.sts_syntax.specs.declared.typed.Callee.TheVariants as c
use Rattle.sts_syntax.specs.declared.typed.Spot.{Spot}
use Rattle.sts_syntax.specs.declared.typed.Spot.TheVariants.{Param, Local, Global}
use Rattle.sts_syntax.specs.Annotations as a
use Rattle.sts_syntax.specs.Annotations.{Annotation}
use Rattle.sts_syntax.specs.BoardTable.{row_of, Library}
use Rattle.sts_syntax.specs.Trees.{Parameter, Tree, Num, Text, Name, Binary, Choice, Set, Member, Call, Trees, none, more, OptionalTree, present, Statement, Block, Let, While, Return, Plain, Statements, done, also, Declare, Declarations, ended, next, Does}
use Rattle.sts_syntax.specs.Programs.{TopLevel, Function, Program}
use Rattle.sts_syntax.specs.Types as t
use Rattle.sts_syntax.specs.Types.{ValueType}
use Rattle.sts_syntax.specs.TypedTrees as e
use Rattle.sts_syntax.specs.TypedTrees.{TypedTree, TypedTrees, TypedDeclaration, TypedStatement, TypedStatements, TypedRoutine}

-- the type that an annotation of the library spells
abbrev pub Annotates : Option Annotation → ValueType → Type 0
Annotates (Some a.Number) u = u ≡ t.Number
Annotates (Some a.Text) u = u ≡ t.Text
Annotates (Some a.Nothing) u = u ≡ t.Nothing
Annotates other u = ⊥

-- These are the strings of the tables' names.
module _ (strings : List (List ℕ)) where
  -- an entry has these bytes
  abbrev pub IsCalled : ℕ → List ℕ → Type 0
  IsCalled entry bytes = slice_get strings entry ≡ Some bytes

  -- A callee is that of a call of the board: its space and its name, or the name alone of one that is the library's
  -- own.
  abbrev pub IsCallee : Tree → BoardCall → Type 0
  IsCallee (Name at name) call = ((row_of call).space ≡ []) × IsCalled name (row_of call).name
  IsCallee (Member at (Name at' space) name) call =
      IsCalled space (row_of call).space × IsCalled name (row_of call).name
  IsCallee callee call = ⊥

  -- These are the names of the function's parameters and locals.
  module _ (params locals : List ℕ) where
    abbrev pub Names : ℕ → Spot → Type 0
    Names name (Param i) = slice_get params i ≡ Some name
    Names name (Local i) = slice_get locals i ≡ Some name
    Names name (Global g) = ⊥

    abbrev mutual
      -- an expression and its typed one
      pub Becomes : Tree → TypedTree → Type 0
      Becomes (Num at value) (e.Num u value') = value ≡ value'
      Becomes (Text at text) (e.Text u text') = text ≡ text'
      Becomes (Name at name) (e.Name u spot) = Names name spot
      Becomes (Binary at op a b) (e.Binary u op' a' b') = (op ≡ op') × Becomes a a' × Becomes b b'
      Becomes (Choice at test a b) (e.Choice u test' a' b') = Becomes test test' × Becomes a a' × Becomes b b'
      Becomes (Set at op target a) (e.Set u op' target' a') = (op ≡ op') × Becomes target target' × Becomes a a'
      Becomes (Call at callee args) (e.Call u (c.Board call) args') = IsCallee callee call × Become args args'
      Becomes tree typed = ⊥

      pub Become : Trees → TypedTrees → Type 0
      Become none e.none = Unit {0}
      Become (more a rest) (e.more a' rest') = Becomes a a' × Become rest rest'
      Become trees typed = ⊥

    abbrev pub BecomesFirst : OptionalTree → Option TypedTree → Type 0
    BecomesFirst (present a) (Some a') = Becomes a a'
    BecomesFirst first typed = ⊥

    -- a declared name without a type
    abbrev pub BecomeDeclared : Declarations → List TypedDeclaration → Type 0
    BecomeDeclared ended [] = Unit {0}
    BecomeDeclared (next (Declare at name None first) rest) (d ∷ ds) =
        Names name d.name × BecomesFirst first d.first × BecomeDeclared rest ds
    BecomeDeclared each typed = ⊥

    abbrev mutual
      -- a statement and its typed one
      pub BecomesDone : Statement → TypedStatement → Type 0
      BecomesDone (Block at all) (e.Block all') = BecomeDone all all'
      BecomesDone (Let at fixed each) (e.Let fixed' each') = (fixed ≡ fixed') × BecomeDeclared each each'
      BecomesDone (While at test a) (e.While test' a') = Becomes test test' × BecomesDone a a'
      BecomesDone (Return at value) (e.Return value') = BecomesFirst value value'
      BecomesDone (Plain at a) (e.Plain a') = Becomes a a'
      BecomesDone statement typed = ⊥

      pub BecomeDone : Statements → TypedStatements → Type 0
      BecomeDone done e.done = Unit {0}
      BecomeDone (also a rest) (e.also a' rest') = BecomesDone a a' × BecomeDone rest rest'
      BecomeDone all typed = ⊥

  -- The function of a number and its typed one: it has `$` and the name of the call that calls this function of the
  -- library.
  abbrev pub BecomesFunction : (number : ℕ) → TopLevel → TypedRoutine → Type 0
  BecomesFunction number (Function name (Does at params gives all false)) r =
      (call : BoardCall) × ((row_of call).action ≡ Library number) × IsCalled name (36 ∷ (row_of call).name)
      × AllZip (λ (p : Parameter) u. Annotates p.shape u) params r.params × Annotates gives r.gives
      × (locals : List ℕ) × (length locals ≡ length r.locals)
      × BecomeDone (map (λ (p : Parameter). p.name) params) locals all r.all
  BecomesFunction number part r = ⊥

  abbrev pub BecomeFunctions : (number : ℕ) → Program → List TypedRoutine → Type 0
  BecomeFunctions number [] [] = Unit {0}
  BecomeFunctions number (part ∷ rest) (r ∷ rs) = BecomesFunction number part r × BecomeFunctions (suc number) rest rs
  BecomeFunctions number parts rs = ⊥
