-- What an op may weigh, so that a counted step of the source weighs no more than it may.
use Rattle.std.specs.Prelude.{◌≡◌, ℕ, ◌≤◌, List, Some}
use Rattle.flat_ir.specs.declared.ops.Op.{Op}
use Rattle.flat_ir.specs.declared.ops.Op.TheVariants.{Unary, Binary, FieldGet, FieldSet, ItemGet, ItemSet, Length, Pop, MakeObject, MakeArray, Call, CallSlot, Ask, Return}
use Rattle.flat_ir.specs.declared.ops.FlatCode.{FlatCode}
use Rattle.sts_meaning.specs.Heaps.{FlatHeap}
use Rattle.flat_meaning.specs.Frames.{FlatFrame, FlatActivity, Enters, Stands, op_at}

-- the list of bounds; a call's is with the entry of the function that it calls; 24 is that of constants, copies, globals,
-- texts, handlers, jumps and branches
abbrev pub limit : Op → ℕ
limit (Unary to op from) = 32
limit (Binary to op left right) = 320
limit (FieldGet to object field) = 40
limit (FieldSet object field from) = 40
limit (ItemGet to array index) = 56
limit (ItemSet array index from) = 56
limit (Length to array) = 32
limit (Pop to array) = 56
limit (MakeObject to class) = 160
limit (MakeArray to room) = 32
limit (Call to function args) = 200
limit (CallSlot to slot args) = 220
limit (Ask to service args) = 32
limit (Return from) = 32
limit _ = 24

-- and of the call with which an activity begins
abbrev pub entry_limit : ℕ
entry_limit = 160

-- As each op may weigh 24 at least, a counted step, whose ops weigh at most 512 together, takes no more than 21 of
-- them.
abbrev pub ops_of_a_step : ℕ
ops_of_a_step = 21

-- the weights of steps keep within the list
pub record IsLight (C : FlatCode) (weight : FlatActivity → FlatHeap → ℕ) : Type 0 where
  pub enters : (f base : ℕ) (h : FlatHeap) → weight (Enters f base) h ≤ entry_limit
  pub ops : (f : FlatFrame) (callers : List FlatFrame) (base : ℕ) (h : FlatHeap) (op : Op) → op_at C f ≡ Some op
      → weight (Stands f callers base) h ≤ limit op
