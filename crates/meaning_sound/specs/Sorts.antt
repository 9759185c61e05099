-- When a value has a type, and when a request may be made.
use Rattle.std.specs.Prelude.{◌≡◌, ℕ, ◌+◌, ◌⊎◌, ℤ, length, List, [], ◌∷◌, Some}
use Rattle.board_world.specs.declared.requests.Request.{Request}
use Rattle.board_world.specs.declared.requests.Request.TheVariants as q
use Rattle.board_world.specs.Simulation.{Paired}
use Rattle.sts_syntax.specs.Types as t
use Rattle.sts_syntax.specs.Types.{ValueType}
use Rattle.sts_syntax.specs.TypedTrees.{TypedProgram}
use Rattle.sts_syntax.specs.TypeRules.{IsBelow, GoesTo, MayBegin}
use Rattle.sts_meaning.specs.Values.{Value, Whole, Object, Text, Code, default, Outcome, Gives, Breaks, Stuck}
use Rattle.sts_meaning.specs.Heaps.{Cell, Fields, Items, Heap}
use Rattle.sts_meaning.specs.Services.{requested}

-- what stands among the pending values: one of a type, a function that may begin an activity, or just this number
pub data Sort : Type 0 where
  Of : (type : ValueType) → Sort
  Begins : Sort
  Exactly : (n : ℤ) → Sort

abbrev pub of_types : List ValueType → List Sort
of_types [] = []
of_types (u ∷ us) = Of u ∷ of_types us

-- arguments above what was pending before; the latest value stands first
abbrev pub above : List Sort → List Sort → List Sort
above [] before = before
above (s ∷ ss) before = above ss (s ∷ before)

-- what a number stands for, which never changes
pub data Shape : Type 0 where
  OfClass : (class : ℕ) → Shape
  OfItems : (item : ValueType) → Shape

abbrev pub shape : Cell → Shape
shape (Fields c vs) = OfClass c
shape (Items u room vs) = OfItems u

abbrev pub Stands : Heap → ℕ → Shape → Type 0
Stands h n s = (c : Cell) × (h.cells n ≡ Some c) × (shape c ≡ s)

-- an outcome is a panic, or gives something of which Q holds
abbrev pub Well : {X : Type 0} → (X → Type 0) → Outcome X → Type 0
Well Q (Gives x) = Q x
Well Q (Breaks code) = Unit {0}
Well Q Stuck = ⊥

module _ (P : TypedProgram) where
  -- the functions with which an activity may begin, those of `forever` among them
  abbrev pub May : ℕ → Type 0
  May f = MayBegin P f ⊎ ((g : ℕ) × (f ≡ length P.functions + g) × MayBegin P g)

  -- a value has a type: the default has each
  abbrev pub Is : Heap → ValueType → Value → Type 0
  Is h t.Number (Whole n) = Unit {0}
  Is h t.Boolean (Whole n) = Unit {0}
  Is h t.Text (Text n) = Unit {0}
  Is h (t.Object c) (Object n) = (d : ℕ) × Stands h n (OfClass d) × IsBelow P d c
  Is h (t.ListOf u) (Object n) = Stands h n (OfItems u)
  Is h u v = v ≡ default

  abbrev pub IsA : Heap → Sort → Value → Type 0
  IsA h (Of u) v = Is h u v
  IsA h Begins v = (f : ℕ) × (v ≡ Code f) × MayBegin P f
  IsA h (Exactly n) v = v ≡ Whole n

  abbrev pub Suits : Sort → Sort → Type 0
  Suits (Of u) (Of v) = GoesTo P u v
  Suits Begins Begins = Unit {0}
  Suits (Exactly n) (Exactly m) = n ≡ m
  Suits r s = ⊥

  -- a request that a typed activity may make: who is named begins typed
  abbrev pub IsRequest : Request → Type 0
  IsRequest (q.Spawn f) = May f
  IsRequest (q.Listen l) = May l.handler
  IsRequest (q.Allocate n) = ⊥
  IsRequest (q.Push a v) = ⊥
  IsRequest q.End = ⊥
  IsRequest _ = Unit {0}

  -- a service takes values of these sorts
  abbrev pub Asks : ℕ → List Sort → Type 0
  Asks service ss = (h : Heap) (vs : List Value) → Paired (IsA h) ss vs → Well IsRequest (requested service vs)
