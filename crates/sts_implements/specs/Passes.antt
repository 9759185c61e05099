-- What the passes of the compiler owe, each by itself: a partial simulation, which owes nothing where the upper kind makes a fault.
use Rattle.std.specs.Prelude.{ℕ, List}
use Rattle.board_world.specs.Observations.{ByteList}
use Rattle.board_world.specs.Kinds.{Kind}
use Rattle.board_world.specs.Simulation.{Ties, anywhere, one, always}
use Rattle.board_world.specs.Composed.{seen}
use Rattle.board_world.specs.Sound.{PartialSimulation}
use Rattle.board_world.specs.Trailing.{PartialTrailingSimulation}
use Rattle.sts_syntax.specs.TypedTrees.{TypedProgram}
use Rattle.sts_meaning.specs.Heaps.{FlatHeap, Heap}
use Rattle.sts_meaning.specs.Frames.{Activity}
use Rattle.sts_meaning.specs.Steps.{source}
use Rattle.bank_model.specs.Fibers.{Fiber, Shared}
use Rattle.bank_model.specs.BoardMachine.{fibers}
use Rattle.sts_implements.specs.Images.{instructions_of_a_step}
use Rattle.sts_implements.specs.Forgotten.{forget}

-- The ties of lowering: the heaps are the same but for the types of items. `Act` ties an activity of the source to one of lowered code, and
-- `Code` a function to its number there.
abbrev pub lowered : {B : Type 0} → (Heap → Activity → B → Type 0) → (ℕ → ℕ → Type 0) → Ties Activity Heap B FlatHeap
lowered Act Code = seen forget (λ used h. Unit {0}) Act Code anywhere

-- Lowering: lowered code does what the source does in steps that together weigh at most as much as one counted step may cost. The weight of
-- a step of lowered code is the number of instructions that it may take.
abbrev pub Lowers : {B : Type 0} → TypedProgram → List ByteList → Kind B FlatHeap → (Heap → Activity → B → Type 0)
    → (ℕ → ℕ → Type 0) → (B → FlatHeap → ℕ) → Type 0
Lowers P texts flat Act Code weight =
    PartialSimulation (source P texts) flat (lowered Act Code) weight (always instructions_of_a_step)

-- Behind a turn that goes on at once an image may owe so many instructions: the piece that stores what a service has answered, and those that
-- write the header of an array for which words were taken.
abbrev pub trailing_instructions : ℕ
trailing_instructions = 12

-- Emission, layout and linking: the image does what lowered code does, in at most as many instructions as the step weighs.
abbrev pub Emits : {B : Type 0} → Kind B FlatHeap → List ℕ → Ties B FlatHeap Fiber Shared → (B → FlatHeap → ℕ) → Type 0
Emits flat image T weight = PartialTrailingSimulation flat (fibers image) T one trailing_instructions weight
