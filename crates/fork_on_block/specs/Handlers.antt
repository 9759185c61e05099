-- A handler that begins.
use Rattle.std.specs.Prelude.{ℕ, List, [], ◌∷◌, None}
use Rattle.thumb_code.specs.Machine.{base_of}
use Rattle.board_world.specs.declared.events.Event.{Event}
use Rattle.fiber_runtime.specs.declared.turning.Raiser.{Raiser}
use Rattle.fiber_runtime.specs.State.{State}
use Rattle.fiber_runtime.specs.Moves.{started}

-- on the innermost raiser's SP, or on word 0 of flash
abbrev pub base_for : List ℕ → List Raiser → ℕ
base_for flash [] = base_of flash
base_for flash (r ∷ rs) = r.registers.sp

-- without a record, with the event's value
abbrev pub invoked : ℕ → Event → State → State
invoked entry e s =
    started entry (base_for s.machine.memory.flash s.raisers)
    (record { key = None; value = e.value; listener = None }) s
