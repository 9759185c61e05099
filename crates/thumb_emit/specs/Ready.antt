-- What emission asks of a function and its places.
use Rattle.std.specs.Prelude.{◌≡◌, ℕ, suc, ◌+◌, ◌*◌, ◌^◌, ◌<◌, length, List, ◌∷◌, ◌++◌, FitsSigned}
use Rattle.std.specs.Int.{w32}
use Rattle.std.specs.List.{AllByRecursion}
use Rattle.flat_ir.specs.declared.ops.Op.{Op}
use Rattle.flat_ir.specs.declared.ops.Op.TheVariants.{Const, Call, CallSlot, HandlerOf, Ask, Jump, Branch, Return}
use Rattle.flat_ir.specs.declared.ops.Function.{Function}
use Rattle.flat_ir.specs.WellFormed.{IsWellFormedFunction, IsOpWithin, temporaries}
use Rattle.register_assign.specs.declared.places.Placed.{Placed}
use Rattle.register_assign.specs.Sound.{place_of, ArePlacesSound}
use Rattle.register_assign.specs.Unread.{is_unread}
use Rattle.thumb_emit.specs.declared.pieces.At.{At}
use Rattle.thumb_code.specs.declared.instructions.Instr.TheVariants.{MovHigh, CmpReg}
use Rattle.thumb_layout.specs.declared.pieces.Piece.{Piece}
use Rattle.thumb_layout.specs.declared.pieces.Piece.TheVariants.{Plain, Number}
use Rattle.thumb_emit.specs.Frame.{words}
use Rattle.thumb_emit.specs.Joined.{joined_by}
use Rattle.thumb_emit.specs.Emit.{get, its_register, bring, made_in, keep, land, op_pieces, entry_pieces, unless, at_least_unsigned, tests_null, tests_index, finds_item}

-- the function is well formed, and its places are sound
pub record IsReady (p : Placed) : Type 0 where
  pub formed : IsWellFormedFunction p.function
  pub sound : ArePlacesSound p.function p.places

-- an op's number is told with whether nobody reads its result
abbrev pub IsOpTold : Placed → At → Type 0
IsOpTold p at = at.unread ≡ is_unread p.function at.k

-- and with the conditions on which the op goes, and the next one, where these are joined branches
abbrev pub IsJoinTold : Placed → At → Type 0
IsJoinTold p at = (at.joined ≡ joined_by p.function at.k) × (at.next ≡ joined_by p.function (suc at.k))

-- the op is one of the function's, and every label has 32 bits
pub record IsReadyAt (p : Placed) (at : At) (op : Op) : Type 0 where
  pub ready : IsReady p
  pub told : IsOpTold p at
  pub joins : IsJoinTold p at
  pub there : at.k < length p.function.ops
  pub within : IsOpWithin (temporaries p.function) (length p.function.ops) p.function.outgoing op
  pub labels : 3 * length p.function.ops + 1 < 2 ^ 32

-- the op calls, asks, makes a value of a function, or goes elsewhere
abbrev pub IsGoing : Op → Type 0
IsGoing (Call to function args) = Unit {0}
IsGoing (CallSlot to slot args) = Unit {0}
IsGoing (HandlerOf to function) = Unit {0}
IsGoing (Ask to service args) = Unit {0}
IsGoing (Jump target) = Unit {0}
IsGoing (Branch when target) = Unit {0}
IsGoing (Return from) = Unit {0}
IsGoing op = ⊥

-- each number has 32 bits, as every number of an op in memory has
abbrev pub HasNumber : Op → Type 0
HasNumber (Const to value) = FitsSigned w32 value
HasNumber op = Unit {0}

abbrev pub HasNumbers : Function → Type 0
HasNumbers f = AllByRecursion HasNumber f.ops

-- the pieces of a placed function, by parts
abbrev pub gets : Placed → ℕ → ℕ → Piece
gets p = get p.function (place_of p.places)

abbrev pub register : Placed → ℕ → ℕ → ℕ
register p = its_register p.function (place_of p.places)

abbrev pub brought : Placed → ℕ → ℕ → Piece
brought p = bring p.function (place_of p.places)

abbrev pub result_register : Placed → ℕ → ℕ → ℕ
result_register p = made_in p.function (place_of p.places)

abbrev pub kept : Placed → ℕ → ℕ → Piece
kept p = keep p.function (place_of p.places)

abbrev pub landed : Placed → ℕ → ℕ → Piece
landed p = land p.function (place_of p.places)

abbrev pub pieces_of : Placed → ℕ → Op → List Piece
pieces_of p = op_pieces p.function (place_of p.places)

abbrev pub entry_of : Placed → List Piece
entry_of p = entry_pieces p.function (place_of p.places)

-- op k comes to an item: the array isn't null, the index is below its length, and the item stands at r2 + r1
abbrev pub reaches_item : Placed → ℕ → ℕ → ℕ → List Piece
reaches_item p k array index =
    brought p 0 array ∷ brought p 1 index ∷ tests_null (register p 0 array) (3 * k + 1)
    ++ (tests_index (register p 0 array) (register p 1 index) (3 * k + 2)
    ++ finds_item (register p 0 array) (register p 1 index))

-- the entry up to where the frame is written
abbrev pub tests_depth : Placed → ℕ → List Piece
tests_depth p label =
    Plain (MovHigh 3 14) ∷ Plain (MovHigh 0 13) ∷ Number 1 (0x20003080 + 4 * words p.function) ∷ Plain (CmpReg 0 1)
    ∷ unless at_least_unsigned 102 label
