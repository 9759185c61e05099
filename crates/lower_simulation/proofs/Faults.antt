-- Flat code of a well-typed program makes no fault.
use Rattle.std.proofs.Common.{ℕ, ◌≤◌, List, inl, refl, arith}
use Rattle.board_world.specs.Observations.{ByteList}
use Rattle.board_world.specs.Board.{Entry}
use Rattle.board_world.specs.Simulation.{one}
use Rattle.board_world.specs.Runs.{Arrival, Rises, run_with}
use Rattle.board_world.specs.Implements.{EndsByNoFault}
use Rattle.board_world.specs.World.{start}
use Rattle.board_world.proofs.Laws.{sound_below}
use Rattle.flat_ir.specs.declared.ops.Op.{Op}
use Rattle.flat_ir.specs.declared.ops.Op.TheVariants as o
use Rattle.sts_syntax.specs.TypedTrees.{TypedProgram}
use Rattle.sts_syntax.specs.WellTypedPrograms.{IsWellTyped}
use Rattle.sts_meaning.specs.Steps.{source, empty}
use Rattle.meaning_sound.specs.Kept.{typed}
use Rattle.meaning_sound.proofs.Laws.{source_sound, empty_is}
use Rattle.sts_implements.specs.Forgotten.{forget}
use Rattle.flat_meaning.specs.Steps.{flat}
use Rattle.sts_lower.specs.Lowered.{lowered}
use Rattle.lowered_code.proofs.Laws.{entry_within}
use Rattle.lower_simulation.specs.Limits.{limit, IsLight}
use Rattle.lower_simulation.proofs.Turns.{T}
use Rattle.lower_simulation.proofs.Whole.{lowering_keeps}

at_least : (op : Op) → 1 ≤ limit op
at_least (o.Const to value) = omega arith
at_least (o.Copy to from) = omega arith
at_least (o.Unary to op from) = omega arith
at_least (o.Binary to op left right) = omega arith
at_least (o.GlobalGet to slot) = omega arith
at_least (o.GlobalSet slot from) = omega arith
at_least (o.FieldGet to object field) = omega arith
at_least (o.FieldSet object field from) = omega arith
at_least (o.ItemGet to array index) = omega arith
at_least (o.ItemSet array index from) = omega arith
at_least (o.Length to array) = omega arith
at_least (o.Pop to array) = omega arith
at_least (o.TextOf to text) = omega arith
at_least (o.MakeObject to class) = omega arith
at_least (o.MakeArray to room) = omega arith
at_least (o.Call to function args) = omega arith
at_least (o.CallSlot to slot args) = omega arith
at_least (o.HandlerOf to function) = omega arith
at_least (o.Ask to service args) = omega arith
at_least (o.Jump target) = omega arith
at_least (o.Branch when target) = omega arith
at_least (o.Return from) = omega arith

each_one : (P : TypedProgram) → IsLight (lowered P) one
each_one P = record { enters = λ f base h. omega arith; ops = λ f callers base h op e. at_least op }

pub no_fault : (P : TypedProgram) (texts : List ByteList) → IsWellTyped P → (until : ℕ) (script : List Entry) (arrivals : List Arrival) → Rises 0 arrivals → (m : ℕ)
    → EndsByNoFault (run_with (flat (lowered P) texts) arrivals m (start (flat (lowered P) texts) P.main (forget (empty P texts)) until script)).board.end
no_fault P texts good until script arrivals rises m =
    sound_below (source P texts) (flat (lowered P) texts) 512 (typed P) (T P texts one (each_one P)) (omega arith) (source_sound P good texts) (lowering_keeps P texts good one (each_one P))
    P.main P.main (empty P texts) (forget (empty P texts)) (inl good.main) (inl (entry_within P.functions P.main good.main.0 good.main.1, refl)) (empty_is P good texts) (refl, tt) until script arrivals rises m
