-- What ties an activity of flat code to a fiber over a flash that shows the code.
use Rattle.std.specs.Prelude.{◌≡◌, ◌≢◌, ℕ, ◌+◌, ◌-◌, ◌*◌, ◌<◌, ◌≤◌, List, [], ◌∷◌, length, map, Option, Some, None, slice_get, slice_index}
use Rattle.thumb_code.specs.Arithmetic.{holds}
use Rattle.thumb_code.specs.Machine.{return_of}
use Rattle.board_world.specs.Observations.{ByteList}
use Rattle.board_world.specs.Limits.{depth_limit}
use Rattle.board_world.specs.Simulation.{Ties, anywhere, one}
use Rattle.board_world.specs.Composed.{lagging}
use Rattle.bank_model.specs.Fibers.{Fiber, Shared, begins_on}
use Rattle.bank_model.specs.BoardMachine.{fibers}
use Rattle.thumb_layout.specs.declared.pieces.Piece.{Piece}
use Rattle.thumb_layout.specs.Pieces.{Places}
use Rattle.thumb_layout.specs.Flash.{places}
use Rattle.flat_ir.specs.declared.ops.Op.{Op}
use Rattle.flat_ir.specs.declared.ops.Op.TheVariants.{Call, CallSlot, Branch}
use Rattle.flat_ir.specs.declared.ops.FlatCode.{FlatCode}
use Rattle.flat_ir.specs.WellFormed.{IsWellFormed}
use Rattle.flat_ir.specs.Liveness.{IsLiveAt}
use Rattle.register_assign.specs.declared.places.Place.{Place}
use Rattle.register_assign.specs.declared.places.Place.TheVariants.{Reg}
use Rattle.register_assign.specs.declared.places.Placed.{Placed}
use Rattle.register_assign.specs.Sound.{place_of}
use Rattle.sts_meaning.specs.Values.{Value, Gives, decided}
use Rattle.sts_meaning.specs.Heaps.{FlatHeap}
use Rattle.flat_meaning.specs.Frames.{FlatFrame, FlatActivity, Enters, Stands}
use Rattle.placed_frames.specs.Places.{Store}
use Rattle.placed_frames.specs.Frames.{Frame, Running}
use Rattle.arena_values.specs.Words.{Is}
use Rattle.arena_values.specs.Lies.{Shows}
use Rattle.thumb_emit.specs.Emit.{function_pieces}
use Rattle.thumb_emit.specs.Joined.{joined_by}
use Rattle.thumb_emit.specs.InFlash.{Addresses, callee_at, word_for, IsNamed, InFlash}
use Rattle.thumb_emit.specs.Ready.{IsReady, HasNumbers}
use Rattle.emit_simulation.specs.Starts.{start}

-- the end of the usable stack, from which depths are counted
abbrev pub stack_end : ℕ
stack_end = 0x20003F80

-- behind a service that lets others run, the result of 0 has still to be put
abbrev pub pending : ℕ
pending = 4

-- the piece that calls, among those of an op
abbrev pub calls_at : Op → ℕ
calls_at (Call to function args) = 2 * length args
calls_at (CallSlot to slot args) = 2 * length args + 8
calls_at op = 0

abbrev pub calling_of : Option Op → ℕ
calling_of None = 0
calling_of (Some op) = calls_at op

abbrev pub place_at : Option Placed → ℕ → Place
place_at None t = Reg 0
place_at (Some p) t = place_of p.places t

-- a frame of flat code, as the bank has it
abbrev pub frame_of : FlatFrame → Frame Value
frame_of f = record { function = f.function; place = f.place; temps = f.temps }

abbrev pub frames_of : List FlatFrame → List (Frame Value)
frames_of [] = []
frames_of (f ∷ fs) = frame_of f ∷ frames_of fs

-- r4 to r7 and the bank of a fiber
abbrev pub store_in : Fiber → Store
store_in c = record {
  kept =
      slice_index c.registers.r
      4 ∷ (slice_index c.registers.r 5 ∷ (slice_index c.registers.r 6 ∷ (slice_index c.registers.r 7 ∷ [])));
  words = c.bank;
}

-- a program, the places of its functions' temporaries, a flash, and where the flash has what is of the program
module _ (C : FlatCode) (placed : List Placed) (flash : List ℕ) (a : Addresses) where
  abbrev pub bodies : List (List Piece)
  bodies = map function_pieces placed

  -- the words of values
  abbrev pub IsText : ℕ → ℕ → Type 0
  IsText t w = IsNamed bodies t × (w ≡ a.text t)

  abbrev pub IsCode : ℕ → ℕ → Type 0
  IsCode f w = (f < length C.functions) × (w ≡ a.function f + 1)

  abbrev pub Means : Value → ℕ → Type 0
  Means v w = Is IsText IsCode v w

  -- where the pieces of a function stand
  abbrev pub spots : ℕ → Placed → Places
  spots f p = places (a.function f) (callee_at a) (word_for a) (function_pieces p)

  abbrev pub place_in : ℕ → ℕ → Place
  place_in f = place_at (slice_get placed f)

  -- the return address to a frame that waits for its call, and behind the last one the flash's
  abbrev pub return_in : Option Placed → ℕ → ℕ → ℕ
  return_in None f k = 0
  return_in (Some p) f k =
      (spots f p).behind (start p.function (place_of p.places) k + 1 + calling_of (slice_get p.function.ops k)) + 1

  abbrev pub return_to : List (Frame Value) → ℕ
  return_to [] = return_of flash
  return_to (f ∷ fs) = return_in (slice_get placed f.function) f.function f.place

  -- A fiber stands at piece i of a function: what is needed of the running frame is in its places, the frames that wait are above it, and SP and base are
  -- at the depths of the activity and of its beginning.
  pub record IsAt (p : Placed) (need : ℕ → Type 0) (f : FlatFrame) (callers : List FlatFrame) (base i : ℕ)
      (c : Fiber) : Type 0 where
    pub there : slice_get placed f.function ≡ Some p
    pub running : Running Means C.functions place_in return_to p.function (place_of p.places) need f.temps
        (frames_of callers) (store_in c)
    pub registers : length c.registers.r ≡ 13
    pub pc : c.registers.pc ≡ (spots f.function p).at i
    pub base_is : c.base + 4 * base ≡ stack_end
    pub sp_is : c.registers.sp + 4 * length c.bank ≡ c.base
    pub deep : base + length c.bank ≤ depth_limit

  -- An activity begins as its fiber does; or it stands at an op, with what is live there; or at a branch that is joined with the comparison
  -- before it, and the flags say what it tests, which is in no place.
  pub data IsTied : FlatActivity → Fiber → Type 0 where
    AtEntry : (f base : ℕ) (c : Fiber) → f < length C.functions → base ≤ depth_limit
        → c ≡ begins_on flash (stack_end - 4 * base) (a.function f + 1)
        → IsTied (Enters f base) c
    AtOp : (p : Placed) (f : FlatFrame) (callers : List FlatFrame) (base : ℕ) (c : Fiber)
        → joined_by p.function f.place ≡ None
        → IsAt p (λ t. IsLiveAt p.function.ops t f.place) f callers base
        (start p.function (place_of p.places) f.place) c → IsTied (Stands f callers base) c
    AtBranch : (p : Placed) (f : FlatFrame) (callers : List FlatFrame) (base when target condition : ℕ) (c : Fiber)
        → slice_get p.function.ops f.place ≡ Some (Branch when target)
        → joined_by p.function f.place ≡ Some condition
        → decided (f.temps when) ≡ Gives (holds c.registers.flags condition)
        → IsAt p (λ t. IsLiveAt p.function.ops t f.place × (t ≢ when)) f callers base
        (start p.function (place_of p.places) f.place) c → IsTied (Stands f callers base) c

  -- the used words, and globals and arena, show the heap
  abbrev pub IsShared : ℕ → FlatHeap → Shared → Type 0
  IsShared used h t = (t.used ≡ used) × Shows Means a.class h used t.globals t.arena

  abbrev pub exact : Ties FlatActivity FlatHeap Fiber Shared
  exact = record { Shared = IsShared; Active = λ h t x c. IsTied x c; Code = IsCode; Placed = anywhere }

  abbrev pub ties : Ties FlatActivity FlatHeap Fiber Shared
  ties = lagging (fibers flash) exact one pending

  -- the flash shows the program, whose functions have these places
  pub record IsImage (texts : List ByteList) : Type 0 where
    pub formed : IsWellFormed C
    pub functions : map (λ p. p.function) placed ≡ C.functions
    pub ready : (f : ℕ) (p : Placed) → slice_get placed f ≡ Some p → IsReady p × HasNumbers p.function
    pub shows : InFlash C bodies texts flash a
