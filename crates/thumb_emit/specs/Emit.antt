-- The pieces of each op, of a function's entry, and of a function. r0 to r3 are free between ops; temporaries stand in their places. An op reads a
-- temporary in its own register, or in a scratch register into which it comes first; so with its result. A result that nobody reads stays in r0.
use Rattle.std.specs.Prelude.{ℕ, zero, suc, ◌+◌, ◌*◌, min, List, [], ◌∷◌, ◌++◌, length, Bool, true, ◌==◌, ◌||◌, nat_lt, if◌then◌else◌, Option, Some, None}
use Rattle.std.specs.Int.{cast_unsigned, w32}
use Rattle.board_services.specs.declared.numbers.TheConstants.{TIME, EVENT_VALUE, BUTTON, TEXT_GLYPH, NUMBER_GLYPH}
use Rattle.sts_syntax.specs.declared.operators.TheConstants.{NEGATE, PLUS, NOT, COMPLEMENT, BIT_OR, BIT_XOR, BIT_AND, EQUAL, UNEQUAL, LESS, GREATER, AT_MOST, AT_LEAST, SHIFT_LEFT, SHIFT_RIGHT, SHIFT_RIGHT_UNSIGNED, ADD, SUBTRACT, MULTIPLY, DIVIDE}
use Rattle.thumb_code.specs.declared.instructions.Instr.{Instr}
use Rattle.thumb_code.specs.declared.instructions.Instr.TheVariants.{MovImm, CmpImm, CmpReg, AddReg, SubReg, AddImm3, SubImm3, AddImm8, SubImm8, And, Eor, Orr, Mul, Mvn, Rsb, LslImm, LslReg, AsrReg, LsrReg, MovHigh, StrSp, LdrSp, StrImm, LdrImm, StrReg, LdrReg, Push, Pop as PopMany, Svc, Blx}
use Rattle.thumb_layout.specs.declared.pieces.What.TheVariants.{Function as FunctionOf, Text, Class}
use Rattle.thumb_layout.specs.declared.pieces.Piece.{Piece}
use Rattle.thumb_layout.specs.declared.pieces.Piece.TheVariants.{Plain, Label, Go, CallTo, Number, Address}
use Rattle.thumb_layout.specs.Pieces.{always}
use Rattle.flat_ir.specs.declared.operators.TheConstants.{INCREMENT}
use Rattle.flat_ir.specs.declared.ops.Op.{Op}
use Rattle.flat_ir.specs.declared.ops.Op.TheVariants.{Const, Copy, Unary, Binary, GlobalGet, GlobalSet, FieldGet, FieldSet, ItemGet, ItemSet, Length, Pop, TextOf, MakeObject, MakeArray, Call, CallSlot, HandlerOf, Ask, Jump, Branch, Return}
use Rattle.flat_ir.specs.declared.ops.Function.{Function}
use Rattle.register_assign.specs.declared.places.Place.{Place}
use Rattle.register_assign.specs.declared.places.Place.TheVariants.{Reg, Slot, Incoming}
use Rattle.register_assign.specs.declared.places.Placed.{Placed}
use Rattle.register_assign.specs.Sound.{place_of}
use Rattle.register_assign.specs.Unread.{is_unread}
pub use Rattle.thumb_emit.specs.Joined.{equal, unequal, at_least_unsigned, below_unsigned, at_least, less, greater, at_most}
use Rattle.thumb_emit.specs.Joined.{joined_by}
use Rattle.thumb_emit.specs.Frame.{words, from_place, to_place, idle_piece, register_of, brings, result_in, keeps, lands, copies, carries, raises, lowers, below_saved, saved_list}

-- the function number that names the division routine, which has the quotient in r0 and the remainder in r1
abbrev pub division : ℕ
division = 4294967295

-- a number of words or bytes as a word; there is less of anything than the greatest word
abbrev pub counted_word : ℕ → ℕ
counted_word n = min n 4294967295

-- a panic, unless the condition holds
abbrev pub unless : ℕ → ℕ → ℕ → List Piece
unless cond code label = Go cond label ∷ Plain (MovImm 0 code) ∷ Plain (Svc 1) ∷ Label label ∷ []

-- the register isn't null, or panic 105
abbrev pub tests_null : ℕ → ℕ → List Piece
tests_null r label = Plain (CmpImm r 0) ∷ unless unequal 105 label

-- the index in a register is below the length of the array at another, as words, or panic 104
abbrev pub tests_index : ℕ → ℕ → ℕ → List Piece
tests_index array index label = Plain (LdrImm 2 array 1) ∷ Plain (CmpReg index 2) ∷ unless below_unsigned 104 label

-- the item of the array at a register with the index in another stands at r2 + r1
abbrev pub finds_item : ℕ → ℕ → List Piece
finds_item array index = Plain (LdrImm 2 array 3) ∷ Plain (LslImm 1 index 2) ∷ []

-- a register becomes 1 where the condition holds behind a comparison, and else 0, by way of another one
abbrev pub decides : Function → ℕ → ℕ → Instr → ℕ → ℕ → List Piece
decides f rd by compared cond label =
    Plain (MovImm by 1) ∷ Plain compared ∷ Go cond label ∷ Plain (MovImm by 0) ∷ Label label ∷ carries f rd by ∷ []

-- a result's register, or a scratch register where that is an operand's
abbrev pub beside : ℕ → ℕ → ℕ → ℕ
beside scratch rd operand = if rd == operand then scratch else rd

abbrev pub compares : Function → ℕ → ℕ → ℕ → ℕ → ℕ → List Piece
compares f rd left right cond label = decides f rd (beside 2 (beside 2 rd left) right) (CmpReg left right) cond label

-- an instruction whose target is its first operand
abbrev pub combines : Function → ℕ → ℕ → ℕ → (ℕ → ℕ → Instr) → List Piece
combines f rd left right instr =
    carries f (beside 2 rd right) left ∷ Plain (instr (beside 2 rd right) right) ∷ carries f rd (beside 2 rd right) ∷ []

-- one register shifted by another modulo 32
abbrev pub shifts : Function → ℕ → ℕ → ℕ → (ℕ → ℕ → Instr) → List Piece
shifts f rd left right instr = Plain (MovImm 2 31) ∷ Plain (And 2 right) ∷ carries f rd left ∷ Plain (instr rd 2) ∷ []

-- the division routine has the quotient in r0 and the remainder in r1
abbrev pub divides : Function → ℕ → ℕ → ℕ → ℕ → List Piece
divides f rd left right answer = carries f 0 left ∷ carries f 1 right ∷ CallTo division ∷ carries f rd answer ∷ []

-- a prefix operator, of the source or of flat code
abbrev pub unary : Function → ℕ → ℕ → ℕ → ℕ → List Piece
unary f rd from op label =
    if op == NEGATE then Plain (Rsb rd from) ∷ []
    else if op == PLUS then Plain (MovHigh rd from) ∷ []
    else if op == NOT then decides f rd (beside 1 rd from) (CmpImm from 0) equal label
    else if op == COMPLEMENT then Plain (Mvn rd from) ∷ []
    else if op == INCREMENT then Plain (AddImm3 rd from 1) ∷ []
    else Plain (SubImm3 rd from 1) ∷ []

-- an operator
abbrev pub binary : Function → ℕ → ℕ → ℕ → ℕ → ℕ → List Piece
binary f rd left right op label =
    if op == BIT_OR then combines f rd left right Orr
    else if op == BIT_XOR then combines f rd left right Eor
    else if op == BIT_AND then combines f rd left right And
    else if op == EQUAL then compares f rd left right equal label
    else if op == UNEQUAL then compares f rd left right unequal label
    else if op == LESS then compares f rd left right less label
    else if op == GREATER then compares f rd left right greater label
    else if op == AT_MOST then compares f rd left right at_most label
    else if op == AT_LEAST then compares f rd left right at_least label
    else if op == SHIFT_LEFT then shifts f rd left right LslReg
    else if op == SHIFT_RIGHT then shifts f rd left right AsrReg
    else if op == SHIFT_RIGHT_UNSIGNED then shifts f rd left right LsrReg
    else if op == ADD then Plain (AddReg rd left right) ∷ []
    else if op == SUBTRACT then Plain (SubReg rd left right) ∷ []
    else if op == MULTIPLY then combines f rd left right Mul
    else if op == DIVIDE then divides f rd left right 0
    else divides f rd left right 1

-- A comparison for a branch that is joined with it is one instruction. Else it is these pieces.
abbrev pub test_pieces : Option ℕ → Instr → List Piece → List Piece
test_pieces (Some cond) compared pieces = Plain compared ∷ []
test_pieces None compared pieces = pieces

-- A branch that is joined with the comparison before it goes by the flags. Else it goes where a register isn't 0, into
-- which a piece brings what it tests.
abbrev pub branch_pieces : Option ℕ → Piece → ℕ → ℕ → List Piece
branch_pieces (Some cond) brought when label = Go cond label ∷ []
branch_pieces None brought when label = brought ∷ Plain (CmpImm when 0) ∷ Go unequal label ∷ []

-- A field stands behind its object's class. An immediate counts to 31 words; a field past them is found by r2.
abbrev pub field_offset : ℕ → ℕ
field_offset field = counted_word (4 * (field + 1))

abbrev pub loads_field : ℕ → ℕ → ℕ → List Piece
loads_field rd object field =
    if nat_lt field 31 then Plain (LdrImm rd object (field + 1)) ∷ []
    else Number 2 (field_offset field) ∷ Plain (LdrReg rd object 2) ∷ []

-- a register goes there
abbrev pub stores_field : ℕ → ℕ → ℕ → List Piece
stores_field rs object field =
    if nat_lt field 31 then Plain (StrImm rs object (field + 1)) ∷ []
    else Number 2 (field_offset field) ∷ Plain (StrReg rs object 2) ∷ []

-- the global's address into r1
abbrev pub finds_global : ℕ → Piece
finds_global slot = Number 1 (0x20000000 + 4 * slot)

-- the services that answer in r0; behind each other one r0 becomes 0, unless nobody reads that
abbrev pub answers_in_r0 : ℕ → Bool
answers_in_r0 service =
    service == TIME || service == EVENT_VALUE || service == BUTTON || service == TEXT_GLYPH || service == NUMBER_GLYPH

abbrev pub asks : Bool → ℕ → List Piece
asks unread service =
    if unread || answers_in_r0 service then Plain (Svc service) ∷ [] else Plain (Svc service) ∷ Plain (MovImm 0 0) ∷ []

-- Words for an object of a class, whose first word in flash says how many; then the class's address goes into the first of them. RAM
-- begins with zeros and no word is given out twice, so the fields are 0 already.
abbrev pub makes_object : ℕ → List Piece
makes_object class = Address 1 (Class class) ∷ Plain (LdrImm 0 1 0) ∷ Plain (Svc 18) ∷ Plain (StrImm 1 0 0) ∷ []

-- Words for an array's header and room; then the room, and the address of the items behind the header. The length is 0 already.
abbrev pub makes_array : ℕ → List Piece
makes_array room =
    Number 0 (counted_word (4 + room)) ∷ Plain (Svc 18) ∷ Number 1 (counted_word room) ∷ Plain (StrImm 1 0 2)
    ∷ Plain (MovHigh 1 0) ∷ Plain (AddImm8 1 16) ∷ Plain (StrImm 1 0 3) ∷ []

-- the last item of the array at a register into another, and the length one less; of an empty one it is panic 104
abbrev pub pops : ℕ → ℕ → ℕ → List Piece
pops rd array label =
    Plain (LdrImm 1 array 1) ∷ Plain (CmpImm 1 0) ∷ unless unequal 104 label
    ++ (Plain (SubImm8 1 1) ∷ Plain (StrImm 1 array 1) ∷ finds_item array 1 ++ (Plain (LdrReg rd 2 1) ∷ []))

-- the method in a slot of the class of the object in the first outgoing word is called
abbrev pub calls_slot : ℕ → ℕ → List Piece
calls_slot slot label =
    Plain (LdrSp 0 0) ∷ tests_null 0 label ++ (Plain (LdrImm 1 0 0) ∷ Plain (LdrImm 1 1 (slot + 1))
    ∷ Plain (Blx 1) ∷ [])

-- a function, and the place of each temporary
module _ (f : Function) (place : ℕ → Place) where
  -- a temporary into a low register
  abbrev pub get : ℕ → ℕ → Piece
  get rd t = from_place f rd (place t)

  -- the register of a temporary, and the piece that brings it there
  abbrev pub its_register : ℕ → ℕ → ℕ
  its_register scratch t = register_of scratch (place t)

  abbrev pub bring : ℕ → ℕ → Piece
  bring scratch t = brings f scratch (place t)

  -- the register of op k's result, the piece that takes it from there, and the one that takes it from r0
  abbrev pub made_in : ℕ → ℕ → ℕ
  made_in k t = result_in (is_unread f k) (place t)

  abbrev pub keep : ℕ → ℕ → Piece
  keep k t = keeps f (is_unread f k) (place t)

  abbrev pub land : ℕ → ℕ → Piece
  land k t = lands f (is_unread f k) (place t)

  -- arguments into outgoing words, from word k on; and into registers, from rk on
  abbrev pub passes : ℕ → List ℕ → List Piece
  passes k [] = []
  passes k (t ∷ ts) = bring 0 t ∷ Plain (StrSp (its_register 0 t) k) ∷ passes (k + 1) ts

  abbrev pub loads : ℕ → List ℕ → List Piece
  loads k [] = []
  loads k (t ∷ ts) = get k t ∷ loads (k + 1) ts

  -- Op k. The labels 3 k + 1 and 3 k + 2 are its own.
  abbrev pub op_pieces : ℕ → Op → List Piece
  op_pieces k (Const to value) = Number (made_in k to) (cast_unsigned w32 value) ∷ keep k to ∷ []
  op_pieces k (Copy to from) = copies f (is_unread f k) (place to) (place from)
  op_pieces k (Unary to op from) =
      bring 0 from ∷ test_pieces (joined_by f (suc k)) (CmpImm (its_register 0 from) 0)
      (unary f (made_in k to) (its_register 0 from) op (3 * k + 1) ++ (keep k to ∷ []))
  op_pieces k (Binary to op left right) =
      bring 0 left ∷ bring 1 right ∷ test_pieces (joined_by f (suc k)) (CmpReg (its_register 0 left) (its_register 1 right))
      (binary f (made_in k to) (its_register 0 left) (its_register 1 right) op (3 * k + 1) ++ (keep k to ∷ []))
  op_pieces k (GlobalGet to slot) = finds_global slot ∷ Plain (LdrImm (made_in k to) 1 0) ∷ keep k to ∷ []
  op_pieces k (GlobalSet slot from) = bring 0 from ∷ finds_global slot ∷ Plain (StrImm (its_register 0 from) 1 0) ∷ []
  op_pieces k (FieldGet to object field) =
      bring 0 object ∷ tests_null (its_register 0 object) (3 * k + 1)
      ++ (loads_field (made_in k to) (its_register 0 object) field ++ (keep k to ∷ []))
  op_pieces k (FieldSet object field from) =
      bring 0 object ∷ tests_null (its_register 0 object) (3 * k + 1)
      ++ (bring 1 from ∷ stores_field (its_register 1 from) (its_register 0 object) field)
  op_pieces k (ItemGet to array index) =
      bring 0 array ∷ bring 1 index ∷ tests_null (its_register 0 array) (3 * k + 1)
      ++ (tests_index (its_register 0 array) (its_register 1 index) (3 * k + 2)
      ++ (finds_item (its_register 0 array) (its_register 1 index)
      ++ (Plain (LdrReg (made_in k to) 2 1) ∷ keep k to ∷ [])))
  op_pieces k (ItemSet array index from) =
      bring 0 array ∷ bring 1 index ∷ tests_null (its_register 0 array) (3 * k + 1)
      ++ (tests_index (its_register 0 array) (its_register 1 index) (3 * k + 2)
      ++ (finds_item (its_register 0 array) (its_register 1 index)
      ++ (bring 3 from ∷ Plain (StrReg (its_register 3 from) 2 1) ∷ [])))
  op_pieces k (Length to array) =
      bring 0 array ∷ tests_null (its_register 0 array) (3 * k + 1)
      ++ (Plain (LdrImm (made_in k to) (its_register 0 array) 1) ∷ keep k to ∷ [])
  op_pieces k (Pop to array) =
      bring 0 array ∷ tests_null (its_register 0 array) (3 * k + 1)
      ++ (pops (made_in k to) (its_register 0 array) (3 * k + 2) ++ (keep k to ∷ []))
  op_pieces k (TextOf to text) = Address (made_in k to) (Text text) ∷ keep k to ∷ []
  op_pieces k (MakeObject to class) = makes_object class ++ (land k to ∷ [])
  op_pieces k (MakeArray to room) = makes_array room ++ (land k to ∷ [])
  op_pieces k (Call to function args) = passes 0 args ++ (CallTo function ∷ land k to ∷ [])
  op_pieces k (CallSlot to slot args) = passes 0 args ++ (calls_slot slot (3 * k + 1) ++ (land k to ∷ []))
  op_pieces k (HandlerOf to function) = Address (made_in k to) (FunctionOf function) ∷ keep k to ∷ []
  op_pieces k (Ask to service args) = loads 0 args ++ (asks (is_unread f k) service ++ (land k to ∷ []))
  op_pieces k (Jump target) = Go always (3 * target) ∷ []
  op_pieces k (Branch when target) = branch_pieces (joined_by f k) (bring 0 when) (its_register 0 when) (3 * target)
  op_pieces k (Return from) =
      get 0 from ∷ raises (below_saved f place) ++ (Plain (PopMany (saved_list f place) true) ∷ [])

  -- a parameter that doesn't stay where it comes in is moved to its place
  abbrev pub move_pieces : Place → ℕ → List Piece
  move_pieces (Incoming j) t = []
  move_pieces (Reg r) t = from_place f r (Incoming t) ∷ idle_piece f ∷ []
  move_pieces (Slot j) t = from_place f 0 (Incoming t) ∷ to_place f 0 (Slot j) ∷ []

  -- so are the n parameters from t on
  abbrev pub moves_pieces : ℕ → ℕ → List Piece
  moves_pieces t zero = []
  moves_pieces t (suc n) = move_pieces (place t) t ++ moves_pieces (t + 1) n

  -- The entry, whose label is 3 times the number of ops. LR is kept in r3, since a far branch may change it. The frame is written only where
  -- it fits above the stack region's 32 words of slack; else it is panic 102.
  abbrev pub entry_pieces : List Piece
  entry_pieces =
      Plain (MovHigh 3 14) ∷ Plain (MovHigh 0 13) ∷ Number 1 (0x20003080 + 4 * words f) ∷ Plain (CmpReg 0 1)
      ∷ unless at_least_unsigned 102 (3 * length f.ops)
      ++ (Plain (MovHigh 14 3) ∷ Plain (Push (saved_list f place) true) ∷ lowers (below_saved f place)
      ++ moves_pieces 0 f.params)

  -- the ops from op k on, each behind its label
  abbrev pub ops_pieces : ℕ → List Op → List Piece
  ops_pieces k [] = []
  ops_pieces k (op ∷ ops) = Label (3 * k) ∷ op_pieces k op ++ ops_pieces (k + 1) ops

-- a function's pieces
abbrev pub function_pieces : Placed → List Piece
function_pieces p =
    entry_pieces p.function (place_of p.places) ++ ops_pieces p.function (place_of p.places) 0 p.function.ops
