-- What is owed for one op: a fiber that stands at it makes flat code's turn.
use Rattle.std.specs.Prelude.{◌≡◌, ℕ, ◌+◌, ◌≤◌, List, Some, None, slice_get}
use Rattle.board_world.specs.Observations.{ByteList}
use Rattle.board_world.specs.Kinds.{Turn}
use Rattle.board_world.specs.Simulation.{Path, Matches, one}
use Rattle.board_world.specs.Sound.{NoFault}
use Rattle.board_world.specs.Trailing.{Completes}
use Rattle.bank_model.specs.Fibers.{Fiber, Shared}
use Rattle.bank_model.specs.BoardMachine.{fibers}
use Rattle.flat_ir.specs.declared.ops.Op.{Op}
use Rattle.flat_ir.specs.declared.ops.FlatCode.{FlatCode}
use Rattle.flat_ir.specs.Liveness.{IsLiveAt}
use Rattle.sts_meaning.specs.Heaps.{FlatHeap}
use Rattle.register_assign.specs.declared.places.Placed.{Placed}
use Rattle.register_assign.specs.Sound.{place_of}
use Rattle.flat_meaning.specs.Frames.{FlatFrame, FlatActivity}
use Rattle.flat_meaning.specs.Steps.{flat, act}
use Rattle.sts_implements.specs.Passes.{trailing_instructions}
use Rattle.thumb_emit.specs.Joined.{joined_by}
use Rattle.thumb_emit.specs.Bounds.{op_instructions}
use Rattle.thumb_emit.specs.InFlash.{Addresses}
use Rattle.emit_simulation.specs.Starts.{start}
use Rattle.emit_simulation.specs.Ties.{ties, IsAt, IsShared}

module _ (C : FlatCode) (placed : List Placed) (flash : List ℕ) (a : Addresses) (texts : List ByteList) where
  -- From a fiber and what all share, at most so many instructions, of which the last makes this turn; some more may trail behind it. The ties
  -- are seen from what was shared before.
  pub record Makes (bound used : ℕ) (h : FlatHeap) (before : Shared) (turn : Turn FlatActivity FlatHeap) (c : Fiber)
      (t : Shared) : Type 0 where
    pub steps : ℕ
    pub cost : ℕ
    pub last : Fiber
    pub memory : Shared
    pub path : Path (fibers flash) one steps cost c t last memory
    pub light : cost + 1 ≤ bound
    pub below : Turn Fiber Shared
    pub completes : Completes (fibers flash) one trailing_instructions used ((fibers flash).step last memory) below
    pub match : Matches (flat C texts) (fibers flash) (ties C placed flash a) used h before turn below

  -- a fiber that stands at an op that isn't joined with the one before it makes its turn, unless that is a fault
  abbrev pub MakesAlone : Op → Type 0
  MakesAlone op =
      (p : Placed) (f : FlatFrame) (callers : List FlatFrame) (base : ℕ) (c : Fiber) (used : ℕ) (h : FlatHeap)
      (t : Shared)
      → joined_by p.function f.place ≡ None
      → slice_get p.function.ops f.place ≡ Some op
      → IsAt C placed flash a p (λ u. IsLiveAt p.function.ops u f.place) f callers base
      (start p.function (place_of p.places) f.place) c
      → IsShared C placed flash a used h t
      → NoFault (act C texts h f callers base op)
      → Makes (op_instructions op) used h t (act C texts h f callers base op) c t

  -- so does one whatever was before its op
  abbrev pub MakesOp : Op → Type 0
  MakesOp op =
      (p : Placed) (f : FlatFrame) (callers : List FlatFrame) (base : ℕ) (c : Fiber) (used : ℕ) (h : FlatHeap)
      (t : Shared)
      → slice_get p.function.ops f.place ≡ Some op
      → IsAt C placed flash a p (λ u. IsLiveAt p.function.ops u f.place) f callers base
      (start p.function (place_of p.places) f.place) c
      → IsShared C placed flash a used h t
      → NoFault (act C texts h f callers base op)
      → Makes (op_instructions op) used h t (act C texts h f callers base op) c t
