-- What lies in a function of flat code, and a frame that runs.
use Rattle.std.proofs.Common.{ℕ, List, [], length}
use Rattle.board_world.specs.Observations.{ByteList}
use Rattle.sts_syntax.specs.TypedTrees.{TypedProgram}
use Rattle.sts_syntax.specs.WellTypedPrograms.{is_maker}
use Rattle.sts_meaning.specs.Continuation.{Continuation}
use Rattle.sts_meaning.specs.Frames.{Frame}
use Rattle.flat_meaning.specs.Frames.{FlatFrame}
use Rattle.sts_lower.specs.Lowered.{repeating, repeated_in_program}
use Rattle.lower_simulation.specs.Places.{Marks, Lies}
use Rattle.lower_simulation.specs.Tied.{fetched, FrameGoesOn}

module _ (P : TypedProgram) (texts : List ByteList) where
  -- what is left to do in function f of the source lies at a place of function j of flat code
  abbrev pub LiesIn : (f j params locals : ℕ) → Continuation → ℕ → Marks → Type 0
  LiesIn f j params locals k place p =
      Lies P.classes (length P.functions) (repeating P) (repeated_in_program P) params locals (fetched P texts j)
      (is_maker P.classes f) k place p

  abbrev pub FrameTied : Frame → FlatFrame → Type 0
  FrameTied a b = FrameGoesOn P texts [] b.place a b
