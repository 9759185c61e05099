-- What a step of flat code weighs: the instructions that an image takes for it at most.
use Rattle.std.specs.Prelude.{ℕ, ◌+◌, Option, Some, None}
use Rattle.flat_ir.specs.declared.ops.Op.{Op}
use Rattle.flat_ir.specs.declared.ops.FlatCode.{FlatCode}
use Rattle.sts_meaning.specs.Heaps.{FlatHeap}
use Rattle.flat_meaning.specs.Frames.{FlatActivity, Enters, Stands, op_at}
use Rattle.sts_implements.specs.Passes.{trailing_instructions}
use Rattle.thumb_emit.specs.Bounds.{op_instructions, entry_cost}
use Rattle.emit_simulation.specs.Ties.{pending}

-- what is pending, what the op's pieces take, and what may trail behind them
abbrev pub weight_at : Option Op → ℕ
weight_at None = pending + trailing_instructions
weight_at (Some op) = pending + op_instructions op + trailing_instructions

abbrev pub weight_of : FlatCode → FlatActivity → FlatHeap → ℕ
weight_of C (Enters f base) h = pending + entry_cost + trailing_instructions
weight_of C (Stands f callers base) h = weight_at (op_at C f)
