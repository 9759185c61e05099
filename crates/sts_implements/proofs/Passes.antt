-- The passes together: with the source's soundness they give an image that implements the program.
use Rattle.std.proofs.Common.{ℕ, List, arith}
use Rattle.thumb_code.specs.Machine.{main_of}
use Rattle.board_world.specs.Observations.{ByteList}
use Rattle.board_world.specs.Kinds.{Kind}
use Rattle.board_world.specs.Simulation.{Ties, anywhere, one, always}
use Rattle.board_world.specs.Composed.{joined_seen}
use Rattle.board_world.specs.Sound.{Typing, Sound}
use Rattle.board_world.specs.Trailing.{PartialTrailingSimulation}
use Rattle.board_world.proofs.Laws.{partial_trailing_compose, trailing_implements}
use Rattle.sts_syntax.specs.TypedTrees.{TypedProgram}
use Rattle.sts_meaning.specs.Heaps.{FlatHeap, Heap}
use Rattle.sts_meaning.specs.Frames.{Activity}
use Rattle.sts_meaning.specs.Steps.{source, empty}
use Rattle.bank_model.specs.Fibers.{Fiber, Shared, shared_at_reset}
use Rattle.bank_model.specs.BoardMachine.{fibers}
use Rattle.sts_implements.specs.Images.{instructions_of_a_step, ImageImplements}
use Rattle.sts_implements.specs.Forgotten.{forget}
use Rattle.sts_implements.specs.Passes.{Lowers, Emits, trailing_instructions}

module _ (P : TypedProgram) (texts : List ByteList) (image : List ℕ) {B : Type 0} (flat : Kind B FlatHeap) (Act : Heap → Activity → B → Type 0) (Code : ℕ → ℕ → Type 0)
    (T : Ties B FlatHeap Fiber Shared) (weight : B → FlatHeap → ℕ) (lowers : Lowers P texts flat Act Code weight) (emits : Emits flat image T weight) where
  both : PartialTrailingSimulation (source P texts) (fibers image) (joined_seen forget (λ used h. Unit {0}) Act Code anywhere T) one trailing_instructions (always instructions_of_a_step)
  both =
      partial_trailing_compose (source P texts) flat (fibers image) forget (λ used h. Unit {0}) Act Code anywhere T weight one trailing_instructions (always instructions_of_a_step) lowers emits

  -- Main may begin and is tied through both, and what is shared as a run begins is typed, and shown by the image's memory whatever the free words are.
  pub passes_implement : (I : Typing Activity Heap) → Sound (source P texts) I → I.Code P.main → I.Shared 0 (empty P texts) → (main : ℕ) → Code P.main main → T.Code main (main_of image)
      → ((free : List ℕ) → T.Shared 0 (forget (empty P texts)) (shared_at_reset free)) → ImageImplements P texts image
  passes_implement I sound begins typed main code placed shown free =
      trailing_implements (source P texts) (fibers image) trailing_instructions instructions_of_a_step I (joined_seen forget (λ used h. Unit {0}) Act Code anywhere T) (omega arith) sound both
      P.main (main_of image) (empty P texts) (shared_at_reset free) begins (main, code, placed) typed (tt, shown free)
