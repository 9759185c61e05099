-- What all activities share, and what is read from it and written to it.
use Rattle.std.specs.Prelude.{ℕ, zero, pos, negsuc, if◌then◌else◌, nat_lt, List, [], ◌∷◌, ◌++◌, length, slice_set, Option, Some, None, option_map}
use Rattle.board_world.specs.Panics.{index_panic, null_panic}
use Rattle.sts_syntax.specs.Types.{ValueType}
use Rattle.sts_syntax.specs.Measures.{wider_room}
use Rattle.sts_syntax.specs.TypeRules.{entry}
use Rattle.sts_meaning.specs.Values.{Value, Whole, Object, Outcome, Gives, Breaks, Stuck, then_gives, there, with_entry}

-- An object has its class. Of an array's items something may be noted, which no step reads: their type in the source, nothing in lowered code.
pub data CellOf (N : Type 0) : Type 0 where
  Fields : (class : ℕ) (fields : List Value) → CellOf N
  Items : (item : N) (room : ℕ) (items : List Value) → CellOf N

-- globals, and objects and arrays by their numbers
pub record HeapOf (N : Type 0) : Type 0 where
  pub globals : List Value
  pub cells : ℕ → Option (CellOf N)

-- the source's
abbrev pub Cell : Type 0
Cell = CellOf ValueType

abbrev pub Heap : Type 0
Heap = HeapOf ValueType

-- lowered code's, where nothing is noted
abbrev pub FlatHeap : Type 0
FlatHeap = HeapOf (Unit {0})

abbrev pub with_cell : {N : Type 0} → ℕ → CellOf N → HeapOf N → HeapOf N
with_cell n c h = record h { cells = with_entry n (Some c) h.cells }

-- a global is set; stuck where it isn't there
abbrev pub write_global : {N : Type 0} → HeapOf N → ℕ → Value → Outcome (HeapOf N)
write_global h g v =
    then_gives (there (entry h.globals g)) (λ old. Gives (record h { globals = slice_set h.globals g v }))

abbrev pub fields_of : {N : Type 0} → Option (CellOf N) → Outcome (ℕ × List Value)
fields_of (Some (Fields class fields)) = Gives (class, fields)
fields_of c = Stuck

-- an object's class and fields; null is a panic
abbrev pub object_at : {N : Type 0} → HeapOf N → Value → Outcome (ℕ × List Value)
object_at h (Object n) = fields_of (h.cells n)
object_at h (Whole (pos zero)) = Breaks null_panic
object_at h v = Stuck

-- an array: what is noted of its items, its room, and its items
pub record RowOf (N : Type 0) : Type 0 where
  pub item : N
  pub room : ℕ
  pub items : List Value

abbrev pub items_of : {N : Type 0} → Option (CellOf N) → Outcome (RowOf N)
items_of (Some (Items item room items)) = Gives (record { item = item; room = room; items = items })
items_of c = Stuck

-- an array; null is a panic
abbrev pub array_at : {N : Type 0} → HeapOf N → Value → Outcome (RowOf N)
array_at h (Object n) = items_of (h.cells n)
array_at h (Whole (pos zero)) = Breaks null_panic
array_at h v = Stuck

-- the number of an object or array that was found
abbrev pub number_of : Value → ℕ
number_of (Object n) = n
number_of v = 0

abbrev pub put_fields : {N : Type 0} → Value → ℕ → List Value → HeapOf N → HeapOf N
put_fields o class fields h = with_cell (number_of o) (Fields class fields) h

abbrev pub put_items : {N : Type 0} → Value → RowOf N → List Value → HeapOf N → HeapOf N
put_items a r items h = with_cell (number_of a) (Items r.item r.room items) h

-- a field; stuck past the last one
abbrev pub read_field : {N : Type 0} → HeapOf N → Value → ℕ → Outcome Value
read_field h o f = then_gives (object_at h o) (λ c. there (entry c.1 f))

abbrev pub write_field : {N : Type 0} → HeapOf N → Value → ℕ → Value → Outcome (HeapOf N)
write_field h o f v =
    then_gives (object_at h o)
    (λ c. then_gives (there (entry c.1 f)) (λ old. Gives (put_fields o c.0 (slice_set c.1 f v) h)))

-- an index, and the item there; an index before the first item or behind the last is a panic
abbrev pub found : ℕ → Option Value → Outcome (ℕ × Value)
found i None = Breaks index_panic
found i (Some v) = Gives (i, v)

abbrev pub item_at : List Value → Value → Outcome (ℕ × Value)
item_at items (Whole (pos i)) = found i (entry items i)
item_at items (Whole (negsuc i)) = Breaks index_panic
item_at items v = Stuck

abbrev pub read_item : {N : Type 0} → HeapOf N → Value → Value → Outcome Value
read_item h a i = then_gives (array_at h a) (λ r. then_gives (item_at r.items i) (λ x. Gives x.1))

abbrev pub write_item : {N : Type 0} → HeapOf N → Value → Value → Value → Outcome (HeapOf N)
write_item h a i v =
    then_gives (array_at h a)
    (λ r. then_gives (item_at r.items i) (λ x. Gives (put_items a r (slice_set r.items x.0 v) h)))

abbrev pub length_at : {N : Type 0} → HeapOf N → Value → Outcome Value
length_at h a = then_gives (array_at h a) (λ r. Gives (Whole (pos (length r.items))))

-- a value goes behind an array's items: the words that this takes, and the room behind it
abbrev pub growth : {N : Type 0} → RowOf N → ℕ
growth r = if nat_lt (length r.items) r.room then 0 else wider_room r.room

abbrev pub wider : {N : Type 0} → RowOf N → RowOf N
wider r = if nat_lt (length r.items) r.room then r else record r { room = wider_room r.room }

abbrev pub pushed : {N : Type 0} → HeapOf N → Value → Value → Outcome (ℕ × HeapOf N)
pushed h a v = then_gives (array_at h a) (λ r. Gives (growth r, put_items a (wider r) (r.items ++ v ∷ []) h))

-- a value before a list's last item and those before that
abbrev pub behind : Value → Option (Value × List Value) → Option (Value × List Value)
behind v None = Some (v, [])
behind v (Some x) = Some (x.0, v ∷ x.1)

-- the last item, and those before it
abbrev pub last : List Value → Option (Value × List Value)
last [] = None
last (v ∷ vs) = behind v (last vs)

-- the last item, and the array without it; an empty array has none, which is a panic
abbrev pub shorter : {N : Type 0} → HeapOf N → Value → RowOf N → Option (Value × List Value)
    → Outcome (Value × HeapOf N)
shorter h a r None = Breaks index_panic
shorter h a r (Some x) = Gives (x.0, put_items a r x.1 h)

abbrev pub popped : {N : Type 0} → HeapOf N → Value → Outcome (Value × HeapOf N)
popped h a = then_gives (array_at h a) (λ r. shorter h a r (last r.items))

-- the next item of a list that is gone through and its index, unless there is none behind the last one
abbrev pub next_at : List Value → Value → Outcome (Option (ℕ × Value))
next_at items (Whole (pos i)) = Gives (option_map (λ v. (i, v)) (entry items i))
next_at items (Whole (negsuc i)) = Breaks index_panic
next_at items v = Stuck

abbrev pub next_item : {N : Type 0} → HeapOf N → Value → Value → Outcome (Option (ℕ × Value))
next_item h a i = then_gives (array_at h a) (λ r. next_at r.items i)
