-- When an activity of flat code does what one of the source has left to do.
use Rattle.std.specs.Prelude.{◌≡◌, ℕ, ◌+◌, ◌<◌, ◌⊎◌, true, List, [], ◌∷◌, ◌++◌, length, Option, None}
use Rattle.std.specs.List.{AllZip}
use Rattle.board_world.specs.Observations.{ByteList}
use Rattle.flat_ir.specs.declared.ops.Op.{Op}
use Rattle.sts_syntax.specs.TypedTrees.{TypedProgram}
use Rattle.sts_syntax.specs.TypeRules.{entry, IsOneOf}
use Rattle.sts_syntax.specs.WellTypedPrograms.{is_maker}
use Rattle.sts_meaning.specs.Values.{Value, Gives}
use Rattle.sts_meaning.specs.Continuation.{Continuation}
use Rattle.sts_meaning.specs.Frames.{Names, Frame, Activity, Starts, Runs}
use Rattle.sts_meaning.specs.Steps as source
use Rattle.flat_meaning.specs.Frames.{FlatFrame, FlatActivity, Enters, Stands, op_of, words, op_at, result_of, depth_of}
use Rattle.sts_lower.specs.Lowered.{lowered, repeating, repeated_in_program}
use Rattle.lower_simulation.specs.Places.{Marks, Marked, Near, Lies}

-- The pending values are the temporaries from base on, and are as they are marked.
abbrev pub Holds : (ℕ → Value) → ℕ → Marks → List Value → Type 0
Holds temps base [] [] = Unit {0}
Holds temps base (m ∷ p) (v ∷ vs) = (temps (base + length p) ≡ v) × Marked m v × Holds temps base p vs
Holds temps base _ _ = ⊥

-- the names and the pending values of a frame, in the temporaries
pub record Shows (params locals : ℕ) (names : Names) (p : Marks) (values : List Value)
    (temps : ℕ → Value) : Type 0 where
  pub of_params : (i : ℕ) → i < params → temps i ≡ names.params i
  pub of_locals : (i : ℕ) → i < locals → temps (params + i) ≡ names.locals i
  pub pending : Holds temps (params + locals) p values

-- Of a program with these texts.
module _ (P : TypedProgram) (texts : List ByteList) where
  -- a function of the source, and its number in flat code
  abbrev pub CodeTied : ℕ → ℕ → Type 0
  CodeTied f j =
      ((f < length P.functions) × (j ≡ f))
      ⊎ ((g : ℕ) × IsOneOf g (repeated_in_program P) × (f ≡ length P.functions + g) × (j ≡ repeating P g))

  -- the ops of a function of flat code
  abbrev pub fetched : ℕ → ℕ → Option Op
  fetched j place = op_of (entry (lowered P).functions j) place

  -- what is left to do in function f of the source lies at a place of function j of flat code, or where a jump there goes
  abbrev pub NearIn : (f j params locals : ℕ) → Continuation → ℕ → Marks → Type 0
  NearIn f j params locals k place p =
      Near P.classes (length P.functions) (repeating P) (repeated_in_program P) params locals (fetched j)
      (is_maker P.classes f) (Lies P.classes (length P.functions) (repeating P) (repeated_in_program P) params locals
      (fetched j) (is_maker P.classes f) k) place p

  -- a frame goes on at a place, with what is given to it before
  pub record FrameGoesOn (given : Marks) (place : ℕ) (a : Frame) (b : FlatFrame) : Type 0 where
    pub params : ℕ
    pub locals : ℕ
    pub marks : Marks
    pub words : words (lowered P) b.function ≡ source.words P texts a.function
    pub this : is_maker P.classes a.function ≡ true → 0 < params
    pub shows : Shows params locals a.names marks a.values b.temps
    pub near : NearIn a.function b.function params locals a.todo place (given ++ marks)

  -- a frame that waits for the value of its call
  pub record FrameWaits (a : Frame) (b : FlatFrame) : Type 0 where
    pub frame : FrameGoesOn (None ∷ []) (b.place + 1) a b
    pub result : result_of (op_at (lowered P) b) ≡ Gives (frame.params + frame.locals + length frame.marks)

  -- an activity
  abbrev pub Tied : Activity → FlatActivity → Type 0
  Tied (Starts f base) (Enters j base') = CodeTied f j × (base ≡ base')
  Tied (Runs a callers base depth) (Stands b waiting base') =
      FrameGoesOn [] b.place a b × AllZip FrameWaits callers waiting × (base ≡ base')
      × (depth ≡ base + depth_of (lowered P) (b ∷ waiting))
  Tied _ _ = ⊥
