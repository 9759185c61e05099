-- Runs of the bank machine of which laws speak: with one fiber, of small images, and of an image on which the free words have no
-- bearing, which is watched and stops at any other instruction.
use Rattle.std.specs.Prelude.{ℕ, ◌/◌, ◌%◌, pos, List, [], ◌∷◌, ◌++◌, Bool, true, false, ◌&&◌, ◌||◌, nat_lt, nat_le, if◌then◌else◌, Some, None}
use Rattle.std.specs.List.{list_all}
use Rattle.thumb_code.specs.declared.instructions.Instr.{Instr}
use Rattle.thumb_code.specs.declared.instructions.Instr.TheVariants.{Push}
use Rattle.thumb_code.specs.declared.register_file.Registers.{Registers}
use Rattle.thumb_code.specs.Effect.{Access, Effect, effect}
use Rattle.thumb_code.specs.Map.{stack_at}
use Rattle.thumb_code.specs.Machine.{main_of}
use Rattle.thumb_code.specs.Step.{Fetched, Found, Missed, fetched}
use Rattle.board_world.specs.Observations.{ByteList, Observation, End}
use Rattle.board_world.specs.Board.{Board, Entry, start_board, transcript_of}
use Rattle.board_world.specs.Kinds.{Kind, Turn, Faults}
use Rattle.board_world.specs.Activities.{World}
use Rattle.board_world.specs.World.{start}
use Rattle.board_world.specs.Runs.{run}
use Rattle.bank_model.specs.Bank.{Bank, is_own}
use Rattle.bank_model.specs.Fibers.{Fiber, Shared, shared_at_reset}
use Rattle.bank_model.specs.BoardMachine.{memory_of, fiber_turn, fibers, bank_run}

-- Main's fiber is the only one and goes on, on a script without entries that ends at `until`; this was seen.
abbrev pub single : ℕ → List Observation → Fiber → Shared → World Fiber Shared
single until seen f s =
    record {
      board = record (start_board until []) { seen = seen };
      shared = s;
      listeners = [];
      ready = record { self = f; value = pos 0; listener = None; seated = true; suspended = false } ∷ [];
      sleepers = [];
      waiters = [];
    }

-- The board where such a run has ended so at the start, after this was seen, with so many seats taken.
abbrev pub ended : ℕ → List Observation → ℕ → End → Board
ended until seen seats end = record (start_board until []) { seen = seen; seats = seats; end = Some end }

-- The bytes of halfwords, low byte first.
abbrev pub code : List ℕ → List ℕ
code [] = []
code (h ∷ hs) = h % 256 ∷ (h / 256 ∷ code hs)

-- An image with base 0x20003F80, whose main begins at address 12, with these halfwords from there on.
abbrev pub image : List ℕ → List ℕ
image halves = code (0x3F80 ∷ 0x2000 ∷ 0x000D ∷ 0 ∷ 0x000D ∷ 0 ∷ []) ++ code halves

-- What is written in n instructions on an empty script that ends at 1000 ms, with these free words.
abbrev pub written : ℕ → List ℕ → List ℕ → ByteList
written n free bytes = transcript_of (bank_run bytes 1000 [] free n).board

-- What is written in n instructions on a script that ends at 1000 ms, without free words.
abbrev pub written_with : ℕ → List Entry → List ℕ → ByteList
written_with n script bytes = transcript_of (bank_run bytes 1000 script [] n).board

-- The access loads no free word: it is outside the stack region, or in the bank.
abbrev pub is_plain : Bank → Access → Bool
is_plain b a = nat_lt a.at stack_at || is_own b a.at

-- The instruction stores each word by which it lowers SP.
abbrev pub is_push : Instr → Bool
is_push (Push list m) = true
is_push _ = false

-- It loads no free word, and lowers SP only as it stores.
abbrev pub is_steady : Bank → ℕ → Instr → Effect → Bool
is_steady b sp i e = list_all (is_plain b) e.loads && (is_push i || nat_le sp e.sp)

-- What stands at PC is such an instruction, or can't be executed.
abbrev pub goes_steady : Bank → Registers → Fetched → Bool
goes_steady b r (Found i next) = is_steady b r.sp i (effect next r i)
goes_steady b r (Missed kind at) = true

-- The fault with which the machine that is watched stops; no other has this number.
abbrev pub unsteady : ℕ
unsteady = 0

abbrev pub watched_turn : List ℕ → Fiber → Shared → Turn Fiber Shared
watched_turn flash f s =
    if goes_steady (memory_of flash f s).0 f.registers (fetched flash f.base f.registers.pc) then fiber_turn flash f s
    else Faults unsteady f.registers.pc

-- Fibers that stop so, and the run of an image.
abbrev pub watched : List ℕ → Kind Fiber Shared
watched flash = record (fibers flash) { step = watched_turn flash }

abbrev pub watched_run : List ℕ → ℕ → List Entry → List ℕ → ℕ → World Fiber Shared
watched_run image until script free n =
    run (watched image) n (start (watched image) (main_of image) (shared_at_reset free) until script)
