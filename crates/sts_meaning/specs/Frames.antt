-- Activities: frames, their names and pending values, and what goes on with what an operation gives.
use Rattle.std.specs.Prelude.{ℕ, zero, suc, ℤ, pos, Bool, true, false, List, [], ◌∷◌}
use Rattle.board_services.specs.declared.numbers.TheConstants.{PAUSE}
use Rattle.board_world.specs.Kinds.{Turn, Goes, Takes, Panics, Faults}
use Rattle.sts_syntax.specs.declared.typed.Spot.{Spot}
use Rattle.sts_syntax.specs.declared.typed.Spot.TheVariants.{Param, Local, Global}
use Rattle.sts_syntax.specs.Types.{ValueType}
use Rattle.sts_syntax.specs.TypeRules.{entry}
use Rattle.sts_meaning.specs.Values.{Value, Whole, default, Outcome, Gives, Breaks, Stuck, then_gives, there, to_int32, with_entry}
use Rattle.sts_meaning.specs.Heaps.{Heap, write_global}
use Rattle.sts_meaning.specs.Continuation.{Continuation, Put, Drop, Invoke, Ask, Round}

-- a function's names and their values
pub record Names : Type 0 where
  pub params : ℕ → Value
  pub locals : ℕ → Value

-- a frame: its function, its names, the values that are pending, the latest first, and what is left to do
pub record Frame : Type 0 where
  pub function : ℕ
  pub names : Names
  pub values : List Value
  pub todo : Continuation

-- An activity begins with the call of its function, at a depth in words. Then it is the frame that runs, those that wait for it, the
-- depth at which it began, and its depth.
pub data Activity : Type 0 where
  Starts : (function base : ℕ) → Activity
  Runs : (frame : Frame) (callers : List Frame) (base depth : ℕ) → Activity

-- the step of an activity that can't go on
abbrev pub stuck : {A S : Type 0} → Turn A S
stuck = Faults 0 0

-- the turn of an activity that goes on with what an operation gives
abbrev pub after : {X A S : Type 0} → Outcome X → (X → Turn A S) → Turn A S
after (Gives x) go = go x
after (Breaks code) go = Panics code
after Stuck go = stuck

-- a step that takes so many words of the arena, if any
abbrev pub grown : {A S : Type 0} → ℕ → S → A → Turn A S
grown zero shared a = Goes a shared
grown (suc n) shared a = Takes (suc n) (λ at. (a, shared))

-- The latest value; the two latest ones, the earlier one first; and the three latest ones. Each time with the values before them.
abbrev pub with_latest : List Value → (Value → List Value → Turn Activity Heap) → Turn Activity Heap
with_latest [] go = stuck
with_latest (v ∷ vs) go = go v vs

abbrev pub with_two : List Value → (Value → Value → List Value → Turn Activity Heap) → Turn Activity Heap
with_two vs go = with_latest vs (λ b rest. with_latest rest (λ a rest. go a b rest))

abbrev pub with_three : List Value → (Value → Value → Value → List Value → Turn Activity Heap) → Turn Activity Heap
with_three vs go = with_latest vs (λ c rest. with_two rest (λ a b rest. go a b c rest))

-- the n latest values, in the order in which they were given, and those before them
abbrev pub before_these : List Value × List Value → Outcome (List Value × List Value)
before_these (these, []) = Stuck
before_these (these, v ∷ rest) = Gives (v ∷ these, rest)

abbrev pub taken : ℕ → List Value → Outcome (List Value × List Value)
taken zero vs = Gives ([], vs)
taken (suc n) vs = then_gives (taken n vs) before_these

abbrev pub named : Heap → Names → Spot → Outcome Value
named h n (Param i) = Gives (n.params i)
named h n (Local i) = Gives (n.locals i)
named h n (Global g) = there (entry h.globals g)

abbrev pub with_local : ℕ → Value → Names → Names
with_local i v n = record { params = n.params; locals = with_entry i v n.locals }

abbrev pub with_param : ℕ → Value → Names → Names
with_param i v n = record { params = with_entry i v n.params; locals = n.locals }

-- a value is stored under a name
abbrev pub stored : Spot → Value → Names → Heap → Outcome (Names × Heap)
stored (Param i) v n h = Gives (with_param i v n, h)
stored (Local i) v n h = Gives (with_local i v n, h)
stored (Global g) v n h = then_gives (write_global h g v) (λ h'. Gives (n, h'))

-- the default, as often as there are types
abbrev pub defaults : List ValueType → List Value
defaults [] = []
defaults (u ∷ us) = default ∷ defaults us

-- the value of a call of the board
abbrev pub answered : Bool → ℤ → Value
answered true answer = Whole (to_int32 answer)
answered false answer = default

-- how long a `forever` pauses between two rounds, in milliseconds
abbrev pub pause_of_forever : ℤ
pause_of_forever = pos 20

-- A round of a `forever`: its handler is called, the pause passes, and it turns back.
abbrev pub round : ℕ → Continuation
round f = Invoke f 0 (Drop (Put (Whole pause_of_forever) (Ask PAUSE 1 false (Drop (Round f)))))
