-- The typed states of the source.
use Rattle.std.specs.Prelude.{◌≡◌, ℕ, ◌<◌, true, List, [], ◌∷◌, ◌++◌, Some}
use Rattle.board_world.specs.Simulation.{Paired}
use Rattle.board_world.specs.Sound.{Typing, typing}
use Rattle.sts_syntax.specs.Types as t
use Rattle.sts_syntax.specs.Types.{ValueType}
use Rattle.sts_syntax.specs.TypedTrees.{TypedRoutine, ClassEntry, TypedProgram}
use Rattle.sts_syntax.specs.TypeRules.{entry, HasClass}
use Rattle.sts_syntax.specs.WellTyped.{Setting}
use Rattle.sts_syntax.specs.WellTypedPrograms.{is_maker}
use Rattle.sts_meaning.specs.Values.{Value}
use Rattle.sts_meaning.specs.Heaps.{Cell, Fields, Items, Heap}
use Rattle.sts_meaning.specs.Frames.{Names, Frame, Activity, Starts, Runs}
use Rattle.meaning_sound.specs.Sorts.{Sort, Of, May, Is, IsA, Suits}
use Rattle.meaning_sound.specs.Fits.{FitsValues}

-- all of a list
abbrev pub Every : (Value → Type 0) → List Value → Type 0
Every Q [] = Unit {0}
Every Q (v ∷ vs) = Q v × Every Q vs

module _ (P : TypedProgram) where
  abbrev pub IsCell : Heap → Cell → Type 0
  IsCell h (Fields c vs) = (class : ClassEntry) × HasClass P c class × Paired (Is P h) class.fields vs
  IsCell h (Items u room vs) = Every (Is P h u) vs

  pub record IsHeap (used : ℕ) (h : Heap) : Type 0 where
    pub globals : Paired (Is P h) P.globals h.globals
    pub cells : (n : ℕ) (c : Cell) → h.cells n ≡ Some c → (n < used) × IsCell h c

  -- the latest of the pending values have these sorts
  abbrev pub Holds : Heap → List Sort → List Value → Type 0
  Holds h [] vs = Unit {0}
  Holds h (s ∷ ss) [] = ⊥
  Holds h (s ∷ ss) (v ∷ vs) = IsA P h s v × Holds h ss vs

  pub record AreNamed (h : Heap) (R : TypedRoutine) (n : Names) : Type 0 where
    pub params : (i : ℕ) (u : ValueType) → entry R.params i ≡ Some u → Is P h u (n.params i)
    pub locals : (i : ℕ) (u : ValueType) → entry R.locals i ≡ Some u → Is P h u (n.locals i)

  -- a constructor gives its `this`
  abbrev pub GivesThis : Setting → Type 0
  GivesThis S =
      S.maker ≡ true → (c : ℕ) × (entry S.routine.params 0 ≡ Some (t.Object c)) × (S.routine.gives ≡ t.Object c)

  -- a frame of a function, with what will still be given to it
  pub record IsFrame (h : Heap) (given : List Sort) (frame : Frame) (S : Setting) : Type 0 where
    pub maker : is_maker P.classes frame.function ≡ S.maker
    pub this : GivesThis S
    pub names : AreNamed h S.routine frame.names
    pub sorts : List Sort
    pub values : Holds h sorts frame.values
    pub fits : FitsValues P S frame.todo (given ++ sorts)

  -- the frames that wait for a value of a type
  abbrev pub Wait : Heap → ValueType → List Frame → Type 0
  Wait h u [] = Unit {0}
  Wait h u (frame ∷ rest) =
      (S : Setting) × (r : Sort) × Suits P (Of u) r × IsFrame h (r ∷ []) frame S × Wait h S.routine.gives rest

  abbrev pub IsActivity : Heap → Activity → Type 0
  IsActivity h (Starts f base) = May P f
  IsActivity h (Runs frame callers base depth) = (S : Setting) × IsFrame h [] frame S × Wait h S.routine.gives callers

  abbrev pub typed : Typing Activity Heap
  typed = typing IsHeap IsActivity (May P)
