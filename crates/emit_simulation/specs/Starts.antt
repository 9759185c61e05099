-- Where the pieces of an op begin among those of its function.
use Rattle.std.specs.Prelude.{ℕ, zero, suc, ◌+◌, List, [], ◌∷◌, length}
use Rattle.flat_ir.specs.declared.ops.Op.{Op}
use Rattle.flat_ir.specs.declared.ops.Function.{Function}
use Rattle.register_assign.specs.declared.places.Place.{Place}
use Rattle.thumb_emit.specs.Emit.{op_pieces, entry_pieces}

module _ (f : Function) (place : ℕ → Place) where
  -- how many pieces the first n of these ops have, the first of which is op k, with their labels
  abbrev pub ops_length : ℕ → List Op → ℕ → ℕ
  ops_length k ops zero = 0
  ops_length k [] (suc n) = 0
  ops_length k (op ∷ ops) (suc n) = suc (length (op_pieces f place k op) + ops_length (k + 1) ops n)

  -- the piece that is the label of op n
  abbrev pub start : ℕ → ℕ
  start n = length (entry_pieces f place) + ops_length 0 f.ops n
