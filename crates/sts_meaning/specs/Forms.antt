-- Short forms of typed trees, and how many counted steps they take.
use Rattle.std.specs.Prelude.{ℕ, zero, suc, ◌-◌, pos, negsuc, Bool, true, false, if◌then◌else◌, List, [], ◌∷◌, length, Option, Some, None}
use Rattle.board_world.specs.Board.{over}
use Rattle.board_world.specs.Kinds.{Kind}
use Rattle.board_world.specs.Activities.{World}
use Rattle.board_world.specs.World.{tick}
use Rattle.sts_syntax.specs.declared.operators.TheConstants.{EQUAL, LESS}
use Rattle.sts_syntax.specs.declared.typed.Spot.TheVariants.{Param, Local, Global}
use Rattle.sts_syntax.specs.declared.typed.Callee.TheVariants as c
use Rattle.sts_syntax.specs.declared.board_calls.BoardCall.{BoardCall}
use Rattle.sts_syntax.specs.declared.board_calls.BoardCall.TheVariants as b
use Rattle.sts_syntax.specs.Types as t
use Rattle.sts_syntax.specs.Types.{ValueType}
use Rattle.sts_syntax.specs.TypedTrees as e
use Rattle.sts_syntax.specs.TypedTrees.{TypedTree, TypedTrees, TypedStatement, TypedStatements, TypedRoutine, ClassEntry, TypedProgram}
use Rattle.sts_syntax.specs.BoardTable.{row_of}
use Rattle.sts_meaning.specs.Steps.{source, source_start}

abbrev pub args : List TypedTree → TypedTrees
args [] = e.none
args (a ∷ rest) = e.more a (args rest)

abbrev pub block : List TypedStatement → TypedStatements
block [] = e.done
block (s ∷ rest) = e.also s (block rest)

abbrev pub num : ℕ → TypedTree
num n = e.Num t.Number (pos n)

-- -(n + 1)
abbrev pub minus : ℕ → TypedTree
minus n = e.Num t.Number (negsuc n)

abbrev pub param : ValueType → ℕ → TypedTree
param u i = e.Name u (Param i)

abbrev pub local : ValueType → ℕ → TypedTree
local u i = e.Name u (Local i)

abbrev pub global : ValueType → ℕ → TypedTree
global u i = e.Name u (Global i)

abbrev pub truths : Bool → TypedTree
truths a = e.Truth t.Boolean a

abbrev pub binary : ℕ → TypedTree → TypedTree → TypedTree
binary op a b = e.Binary t.Number op a b

abbrev pub less : TypedTree → TypedTree → TypedTree
less a b = e.Binary t.Boolean LESS a b

abbrev pub equal : TypedTree → TypedTree → TypedTree
equal a b = e.Binary t.Boolean EQUAL a b

abbrev pub board : BoardCall → List TypedTree → TypedTree
board call these = e.Call (row_of call).gives (c.Board call) (args these)

abbrev pub call : ValueType → ℕ → List TypedTree → TypedTree
call u f these = e.Call u (c.Function f) (args these)

abbrev pub send : ValueType → ℕ → List TypedTree → TypedTree
send u s these = e.Call u (c.Slot s) (args these)

abbrev pub handler : ℕ → TypedTree
handler f = e.Handler t.Nothing f

abbrev pub does : TypedTree → TypedStatement
does a = e.Plain a

-- serial.writeNumber(a)
abbrev pub says : TypedTree → TypedStatement
says a = does (board b.WriteNumber (a ∷ []))

abbrev pub pauses : ℕ → TypedStatement
pauses n = does (board b.Pause (num n ∷ []))

abbrev pub let_local : ℕ → TypedTree → TypedStatement
let_local i a = e.Let false (record { name = Local i; first = Some a } ∷ [])

abbrev pub let_global : ℕ → TypedTree → TypedStatement
let_global g a = e.Let false (record { name = Global g; first = Some a } ∷ [])

abbrev pub returns : TypedTree → TypedStatement
returns a = e.Return (Some a)

-- for (let i = 0; i < n; i++) { .. }, where i is local 0
abbrev pub counts_to : ℕ → List TypedStatement → TypedStatement
counts_to n all =
    e.For (e.written (let_local 0 (num 0))) (Some (less (local t.Number 0) (num n)))
    (Some (e.Bump t.Number (local t.Number 0) (pos 1) true)) (e.Block (block all))

-- a function with these parameters and locals
abbrev pub function : List ValueType → List ValueType → ValueType → List TypedStatement → TypedRoutine
function params locals gives all = record { params = params; locals = locals; gives = gives; all = block all }

-- a function without parameters, locals and result
abbrev pub plain : List TypedStatement → TypedRoutine
plain all = function [] [] t.Nothing all

-- a program whose main function is the last one
abbrev pub program : List ClassEntry → List ValueType → List TypedRoutine → TypedProgram
program classes globals functions =
    record { classes = classes; functions = functions; globals = globals; main = length functions - 1 }

-- a program without classes and globals
abbrev pub simple : List TypedRoutine → TypedProgram
simple functions = program [] [] functions

abbrev pub class : Option ℕ → List ValueType → List ℕ → ℕ → ClassEntry
class base fields slots maker = record { base = base; fields = fields; slots = slots; maker = maker }

abbrev pub numbers_type : ValueType
numbers_type = t.ListOf t.Number

abbrev pub list : List TypedTree → TypedTree
list these = e.Items numbers_type (args these)

abbrev pub item : TypedTree → TypedTree → TypedTree
item a i = e.Item t.Number a i

-- the steps that a world makes before its end, at most n
abbrev pub steps_within : {A S : Type 0} → Kind A S → ℕ → World A S → ℕ
steps_within K zero w = 0
steps_within K (suc n) w = if over w.board then 0 else suc (steps_within K n (tick K w))

-- A class with one field and one method that does nothing, and a base of it; a function that does nothing; and the main program, with
-- two globals, a number and an object, and three locals.
abbrev pub main_does : List TypedStatement → TypedProgram
main_does all =
    program (class None (t.Number ∷ []) (1 ∷ []) 0 ∷ class (Some 0) (t.Number ∷ []) (1 ∷ []) 3 ∷ [])
    (t.Number ∷ t.Object 0 ∷ [])
    (function (t.Object 0 ∷ []) [] (t.Object 0) [] ∷ function (t.Object 0 ∷ []) [] t.Nothing [] ∷ plain []
    ∷ function (t.Object 1 ∷ []) [] (t.Object 1) (does (e.SuperCall (t.Object 0) 0 e.none) ∷ [])
    ∷ function [] (t.Number ∷ numbers_type ∷ t.Number ∷ []) t.Nothing all ∷ [])

-- the counted steps of a run whose main program does this; without statements there are three: its call, and those of running off its end
abbrev pub steps : List TypedStatement → ℕ
steps all = (let P = main_does all in steps_within (source P []) 200 (source_start P [] 1000 []))

abbrev pub object : TypedTree
object = global (t.Object 0) 1

-- the second global is set to an object, in 5 steps
abbrev pub makes : TypedStatement
makes = does (e.Set (t.Object 0) None object (e.Make (t.Object 0) 0 e.none))

abbrev pub name : TypedTree
name = global t.Number 0

abbrev pub bumps : TypedTree → TypedStatement
bumps x = does (e.Bump t.Number x (pos 1) true)
