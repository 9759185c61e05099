-- The laws that other crates cite.
use Rattle.std.proofs.Common.{ℕ, List}
use Rattle.board_world.specs.Observations.{ByteList}
use Rattle.flat_ir.specs.declared.ops.FlatCode.{FlatCode}
use Rattle.register_assign.specs.declared.places.Placed.{Placed}
use Rattle.flat_meaning.specs.Steps.{flat}
use Rattle.sts_implements.specs.Passes.{Emits}
use Rattle.thumb_emit.specs.InFlash.{Addresses}
use Rattle.emit_simulation.specs.Ties.{IsImage, ties}
use Rattle.emit_simulation.specs.Weights.{weight_of}
use Rattle.emit_simulation.proofs.AskedServices.{ask_makes}
use Rattle.emit_simulation.proofs.Every.{every}
use Rattle.emit_simulation.proofs.Whole.{emits_by}

-- THE THEOREM OF EMISSION: fibers over a flash that shows a program do what its flat code does.
pub emits : (C : FlatCode) (placed : List Placed) (flash : List ℕ) (a : Addresses) (texts : List ByteList) → IsImage C placed flash a texts
    → Emits (flat C texts) flash (ties C placed flash a) (weight_of C)
emits C placed flash a texts image = emits_by C placed flash a texts image (every C placed flash a texts image (ask_makes C placed flash a texts image))
