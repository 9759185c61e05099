-- How many instructions and bytes the pieces of an op and of an entry take at most. A row holds whatever the places are.
use Rattle.std.specs.Prelude.{ℕ, ◌+◌, ◌*◌, List, [], ◌∷◌, length}
use Rattle.thumb_layout.specs.declared.pieces.Piece.{Piece}
use Rattle.thumb_layout.specs.Holds.{cost}
use Rattle.thumb_divide.specs.Routine.{most_instructions}
use Rattle.flat_ir.specs.declared.ops.Op.{Op}
use Rattle.flat_ir.specs.declared.ops.Op.TheVariants.{Const, Copy, Unary, Binary, GlobalGet, GlobalSet, FieldGet, FieldSet, ItemGet, ItemSet, Length, Pop, TextOf, MakeObject, MakeArray, Call, CallSlot, HandlerOf, Ask, Jump, Branch, Return}

-- instructions that some pieces take at most, both ways of each branch counted
abbrev pub total_cost : List Piece → ℕ
total_cost [] = 0
total_cost (x ∷ xs) = cost x + total_cost xs

-- instructions of an op's own pieces
abbrev pub op_cost : Op → ℕ
op_cost (Const to value) = 4
op_cost (Copy to from) = 4
op_cost (Unary to op from) = 15
op_cost (Binary to op left right) = 17
op_cost (GlobalGet to slot) = 6
op_cost (GlobalSet slot from) = 6
op_cost (FieldGet to object field) = 17
op_cost (FieldSet object field from) = 17
op_cost (ItemGet to array index) = 32
op_cost (ItemSet array index from) = 32
op_cost (Length to array) = 15
op_cost (Pop to array) = 34
op_cost (TextOf to text) = 4
op_cost (MakeObject to class) = 10
op_cost (MakeArray to room) = 16
op_cost (Call to function args) = 4 * length args + 4
op_cost (CallSlot to slot args) = 4 * length args + 19
op_cost (HandlerOf to function) = 4
op_cost (Ask to service args) = 2 * length args + 6
op_cost (Jump target) = 3
op_cost (Branch when target) = 7
op_cost (Return from) = 8

-- bytes of an op's pieces, with their entries in pools and what aligns these
abbrev pub op_bytes : Op → ℕ
op_bytes (Const to value) = 12
op_bytes (Copy to from) = 4
op_bytes (Unary to op from) = 18
op_bytes (Binary to op left right) = 20
op_bytes (GlobalGet to slot) = 14
op_bytes (GlobalSet slot from) = 14
op_bytes (FieldGet to object field) = 28
op_bytes (FieldSet object field from) = 28
op_bytes (ItemGet to array index) = 38
op_bytes (ItemSet array index from) = 38
op_bytes (Length to array) = 18
op_bytes (Pop to array) = 40
op_bytes (TextOf to text) = 12
op_bytes (MakeObject to class) = 18
op_bytes (MakeArray to room) = 32
op_bytes (Call to function args) = 4 * length args + 6
op_bytes (CallSlot to slot args) = 4 * length args + 22
op_bytes (HandlerOf to function) = 12
op_bytes (Ask to service args) = 2 * length args + 6
op_bytes (Jump target) = 6
op_bytes (Branch when target) = 10
op_bytes (Return from) = 8

abbrev pub ops_bytes : List Op → ℕ
ops_bytes [] = 0
ops_bytes (op ∷ ops) = op_bytes op + ops_bytes ops

-- what a text takes in an image beside its own bytes: the word of its length, and up to three bytes before it
abbrev pub bytes_of_text : ℕ
bytes_of_text = 7

-- what a function's code, with what its texts take, may have for each unit of its weight
abbrev pub bytes_of_weight : ℕ
bytes_of_weight = 52

-- those of the entry of a function, which has at most 8 parameters
abbrev pub entry_cost : ℕ
entry_cost = 55

abbrev pub entry_bytes : ℕ
entry_bytes = 66

-- What an op's step takes beyond its own pieces: the division routine; the entry of the function that is called; the piece behind a call
-- that puts its result, where a function returns.
abbrev pub beyond : Op → ℕ
beyond (Binary to op left right) = most_instructions
beyond (Call to function args) = entry_cost
beyond (CallSlot to slot args) = entry_cost
beyond (Return from) = 2
beyond op = 0

-- the instructions of a step
abbrev pub op_instructions : Op → ℕ
op_instructions op = op_cost op + beyond op
