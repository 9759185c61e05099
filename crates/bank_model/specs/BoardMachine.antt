-- The bank machine: the board's world, in which a fiber stands for each activity, a handler's fiber from its start.
use Rattle.std.specs.Prelude.{ℕ, List, length}
use Rattle.thumb_code.specs.declared.register_file.Registers.{Registers}
use Rattle.thumb_code.specs.Step.{Stepped, On, Served, Faulted}
use Rattle.thumb_code.specs.Machine.{main_of}
use Rattle.board_world.specs.Board.{Entry}
use Rattle.board_world.specs.Kinds.{Kind, Turn, Goes, Faults}
use Rattle.board_world.specs.Activities.{World}
use Rattle.board_world.specs.World.{start}
use Rattle.board_world.specs.Runs.{run}
use Rattle.bank_model.specs.Bank.{Bank, bank_step}
use Rattle.bank_model.specs.Fibers.{Fiber, Shared, shared_at_reset, begins}
use Rattle.bank_model.specs.AllServices.{service}

-- The memory as a fiber has it: flash, what all fibers share, and its own bank.
abbrev pub memory_of : List ℕ → Fiber → Shared → Bank × List ℕ
memory_of flash f s =
    (record { flash = flash; globals = s.globals; arena = s.arena; base = f.base; words = f.bank }, s.free)

-- The fiber with these registers, out of the memory.
abbrev pub fiber_of : Registers → Bank × List ℕ → Fiber
fiber_of r m = record { registers = r; base = m.0.base; bank = m.0.words }

-- What all share, out of the memory, where so many words of the arena are used.
abbrev pub shared_in : ℕ → Bank × List ℕ → Shared
shared_in used m = record { globals = m.0.globals; arena = m.0.arena; used = used; free = m.1 }

-- What a fiber does by a step from an instruction's address. The service that a step asks for is done in the same step.
abbrev pub turn_of : List ℕ → ℕ → ℕ → Stepped (Bank × List ℕ) → Turn Fiber Shared
turn_of flash used at (On r m) = Goes (fiber_of r m) (shared_in used m)
turn_of flash used at (Served number r m) = service flash at number (fiber_of r m) (shared_in used m)
turn_of flash used at (Faulted kind address) = Faults kind address

-- A fiber executes one instruction over its memory.
abbrev pub fiber_turn : List ℕ → Fiber → Shared → Turn Fiber Shared
fiber_turn flash f s = turn_of flash s.used f.registers.pc (bank_step f.registers (memory_of flash f s))

-- Fibers as a kind of activity, over an image in flash. A fiber's depth is the length of its bank.
abbrev pub fibers : List ℕ → Kind Fiber Shared
fibers flash = record { begin = begins flash; step = fiber_turn flash; depth = λ f. length f.bank }

-- The bank machine as a run begins: main's fiber is ready. A script ends at `until`.
abbrev pub bank_start : List ℕ → ℕ → List Entry → List ℕ → World Fiber Shared
bank_start image until script free = start (fibers image) (main_of image) (shared_at_reset free) until script

-- The bank machine after so many instructions, with the idle moves behind them: it has ended, or it goes on.
abbrev pub bank_run : List ℕ → ℕ → List Entry → List ℕ → ℕ → World Fiber Shared
bank_run image until script free n = run (fibers image) n (bank_start image until script free)
