-- The words in which the temporaries of a running function stand.
use Rattle.std.specs.Prelude.{ℕ, ◌+◌, ◌-◌, List, slice_index}
use Rattle.flat_ir.specs.declared.ops.Function.{Function}
use Rattle.register_assign.specs.declared.places.Place.{Place}
use Rattle.register_assign.specs.declared.places.Place.TheVariants.{Reg, Slot, Incoming}

-- A frame's words from its lowest up: the outgoing words, the slots, four words for the caller's registers, the return address. The incoming words are the
-- caller's outgoing words, right above.
abbrev pub own : Function → ℕ
own f = f.outgoing + f.locals + f.operands

abbrev pub words : Function → ℕ
words f = own f + 5

-- The four registers and the bank's words, as the running function has them.
pub record Store : Type 0 where
  pub kept : List ℕ
  pub words : List ℕ

-- the word in a place of the frame whose words begin at k
abbrev pub value : Function → List ℕ → List ℕ → ℕ → Place → ℕ
value f kept ws k (Reg r) = slice_index kept (r - 4)
value f kept ws k (Slot j) = slice_index ws (k + f.outgoing + j)
value f kept ws k (Incoming j) = slice_index ws (k + words f + j)
