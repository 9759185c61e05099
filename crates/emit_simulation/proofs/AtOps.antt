-- What is known where a fiber stands at an op.
use Rattle.std.specs.Prelude.{◌≡◌, ◌≢◌, ℕ, suc, ◌+◌, ◌*◌, ◌<◌, List, length, Contains, Some, None, true, slice_get}
use Rattle.thumb_code.specs.Step.{fetched}
use Rattle.bank_model.specs.Bank.{Bank}
use Rattle.bank_model.specs.Fibers.{Fiber, Shared}
use Rattle.thumb_layout.specs.declared.pieces.Piece.TheVariants.{Label}
use Rattle.flat_ir.specs.declared.ops.Op.{Op}
use Rattle.flat_ir.specs.declared.ops.Function.{Function}
use Rattle.flat_ir.specs.declared.ops.FlatCode.{FlatCode}
use Rattle.flat_ir.specs.Ops.{reads, writes, goes_on}
use Rattle.flat_ir.specs.WellFormed.{temporaries, IsWellFormedFunction, IsOpWithin, NamesParts}
use Rattle.flat_ir.specs.Liveness.{IsLiveAt}
use Rattle.register_assign.specs.declared.places.Placed.{Placed}
use Rattle.register_assign.specs.Sound.{place_of, IsWithin, ArePlacesSound}
use Rattle.register_assign.specs.Unread.{is_unread}
use Rattle.flat_meaning.specs.Frames.{FlatFrame}
use Rattle.thumb_emit.specs.Emit.{op_pieces, function_pieces}
use Rattle.thumb_emit.specs.Joined.{joined_by}
use Rattle.thumb_emit.specs.InFlash.{Addresses}
use Rattle.placed_frames.proofs.Laws.{View, At}
use Rattle.emit_simulation.proofs.Laid.{Laid}
use Rattle.emit_simulation.specs.Starts.{start}
use Rattle.emit_simulation.proofs.Starts.{StandAt}
use Rattle.emit_simulation.specs.Ties.{spots}

-- an op goes on to the next one, which isn't a branch that is joined with it
abbrev pub GoesOn : Function → ℕ → Op → Type 0
GoesOn f at op = Contains (goes_on at op) (suc at) × (joined_by f (at + 1) ≡ None)

-- what a fiber sees, and its bank
abbrev pub view_in : Fiber → Shared → View
view_in c t =
    record { low = c.registers.r; flags = c.registers.flags; words = c.bank; globals = t.globals; arena = t.arena }

abbrev pub bank_in : List ℕ → Fiber → Shared → Bank
bank_in flash c t = record { flash = flash; globals = t.globals; arena = t.arena; base = c.base; words = c.bank }

-- a fiber that sees this, and what all share then
abbrev pub fiber_seen : Fiber → View → (pc lr : ℕ) → Fiber
fiber_seen c v pc lr = record {
  registers = record c.registers { r = v.low; flags = v.flags; pc = pc; lr = lr };
  base = c.base;
  bank = v.words;
}

abbrev pub shared_seen : ℕ → View → List ℕ → Shared
shared_seen used v free = record { globals = v.globals; arena = v.arena; used = used; free = free }

module _ (C : FlatCode) (placed : List Placed) (flash : List ℕ) (a : Addresses) where
  -- of the function in which a fiber stands
  pub record InFunction (p : Placed) (f : FlatFrame) (c : Fiber) (t : Shared) : Type 0 where
    pub function : slice_get C.functions f.function ≡ Some p.function
    pub formed : IsWellFormedFunction p.function
    pub sound : ArePlacesSound p.function p.places
    pub laid : Laid (fetched flash c.base) flash (spots C placed flash a f.function p) (function_pieces p)
    pub at : At flash c.registers.sp (bank_in flash c t)
    pub inside : (u : ℕ) → u < temporaries p.function → IsWithin p.function (place_of p.places u)

  -- of the op
  pub record AtOpOf (p : Placed) (f : FlatFrame) (op : Op) (c : Fiber) (t : Shared) : Type 0 where
    pub within_function : InFunction p f c t
    pub op_within : IsOpWithin (temporaries p.function) (length p.function.ops) p.function.outgoing op
    pub parts : NamesParts (length C.functions) (length C.classes) op
    -- its label, and its pieces behind it; behind these is the next op's label
    pub label : slice_get (function_pieces p) (start p.function (place_of p.places) f.place)
        ≡ Some (Label (3 * f.place))
    pub stands : StandAt (function_pieces p) (start p.function (place_of p.places) f.place + 1)
        (op_pieces p.function (place_of p.places) f.place op)
    pub next : start p.function (place_of p.places) (f.place + 1)
        ≡ start p.function (place_of p.places) f.place + 1 + length
        (op_pieces p.function (place_of p.places) f.place op)
    -- what it reads is live
    pub reads_live : (u : ℕ) → Contains (reads op) u → IsLiveAt p.function.ops u f.place
    -- what is live where it goes on, and not written by it, is live at it, and in another place than what it writes
    pub kept_live : (u k : ℕ) → Contains (goes_on f.place op) k → IsLiveAt p.function.ops u k → writes op ≢ Some u
        → IsLiveAt p.function.ops u f.place
    pub apart : (to u k : ℕ) → writes op ≡ Some to → Contains (goes_on f.place op) k → IsLiveAt p.function.ops u k
        → to < temporaries p.function
        → u < temporaries p.function → u ≢ to → place_of p.places u ≢ place_of p.places to
    -- a result that nobody reads isn't live where it goes on
    pub unread : (to k : ℕ) → is_unread p.function f.place ≡ true → writes op ≡ Some to
        → Contains (goes_on f.place op) k → IsLiveAt p.function.ops to k → ⊥
