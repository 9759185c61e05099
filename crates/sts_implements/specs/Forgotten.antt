-- The heap of lowered code: what it has of the source's. An array's items have no type there, and all else is the same.
use Rattle.std.specs.Prelude.{Option, Some, None}
use Rattle.sts_meaning.specs.Heaps.{CellOf, Fields, Items, Cell, Heap, FlatHeap}

abbrev pub Nothing : Type 0
Nothing = Unit {0}

-- what flat code has of the source's heap
abbrev pub forget_cell : Cell → CellOf Nothing
forget_cell (Fields c vs) = Fields c vs
forget_cell (Items u room vs) = Items tt room vs

abbrev pub forget_at : Option Cell → Option (CellOf Nothing)
forget_at None = None
forget_at (Some c) = Some (forget_cell c)

abbrev pub forget : Heap → FlatHeap
forget h = record { globals = h.globals; cells = λ n. forget_at (h.cells n) }
