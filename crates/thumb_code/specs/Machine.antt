-- The machine with one RAM: its memory, its state, its steps, and how it begins.
use Rattle.std.specs.Prelude.{◌≡◌, ℕ, ◌+◌, ◌-◌, ◌^◌, List, length, replicate, nat_lt, if◌then◌else◌}
use Rattle.thumb_code.specs.declared.register_file.Registers.{Registers}
use Rattle.thumb_code.specs.RegisterFile.{word, aligned}
use Rattle.thumb_code.specs.Effect.{Access}
use Rattle.thumb_code.specs.Memory.{Memory, execute}
use Rattle.thumb_code.specs.Map.{globals_at, arena_at, arena_words, stack_at, access_fault, sp_in_range, part, flash_word, word_in, changed}
use Rattle.thumb_code.specs.Step.{Stepped, fetched, ran}

-- The bytes of flash, the words of the three regions of RAM, and the base.
pub record Ram : Type 0 where
  pub flash : List ℕ
  pub globals : List ℕ
  pub arena : List ℕ
  pub stack : List ℕ
  pub base : ℕ

-- The regions are whole.
pub record IsWhole (m : Ram) : Type 0 where
  pub globals : length m.globals ≡ 256
  pub arena : length m.arena ≡ arena_words
  pub stack : length m.stack ≡ 1024

-- The word that holds the byte at an address.
abbrev pub ram_word : Ram → ℕ → ℕ
ram_word m at =
    if nat_lt at globals_at then flash_word m.flash (aligned at)
    else if nat_lt at arena_at then word_in m.globals globals_at at
    else if nat_lt at stack_at then word_in m.arena arena_at at
    else word_in m.stack stack_at at

-- The bytes of an access, with zeros above.
abbrev pub ram_load : Ram → Access → ℕ
ram_load m a = part a (ram_word m a.at)

-- The bytes of an access are the low ones of a word.
abbrev pub ram_store : Ram → Access → ℕ → Ram
ram_store m a v =
    if nat_lt a.at arena_at then record m { globals = changed m.globals globals_at a v }
    else if nat_lt a.at stack_at then record m { arena = changed m.arena arena_at a v }
    else record m { stack = changed m.stack stack_at a v }

-- One RAM as a memory. A store below SP goes into it too.
abbrev pub ram_memory : Memory Ram
ram_memory = record {
  fault = λ m b a. access_fault m.base b a;
  load = λ m a. (ram_load m a, m);
  store = λ m a v. ram_store m a v;
  has_sp = λ m sp. sp_in_range m.base sp;
}

-- The registers of the fiber that runs, and the memory.
pub record State : Type 0 where
  pub registers : Registers
  pub memory : Ram

-- One instruction.
abbrev pub step : State → Stepped Ram
step s = ran (execute ram_memory s.memory) s.registers (fetched s.memory.flash s.memory.base s.registers.pc)

-- The registers with which a fiber begins: its code address less 1 is PC, SP is the base, LR is where its function
-- returns to.
abbrev pub begun : ℕ → ℕ → ℕ → Registers
begun base return_to code =
    record { r = replicate 13 0; sp = base; lr = return_to; pc = word (code + (2 ^ 32 - 1)); flags = 0 }

-- Word 0 of an image is the base, word 1 the main function's code address, word 2 where a fiber's function returns to.
abbrev pub base_of : List ℕ → ℕ
base_of flash = flash_word flash 0

abbrev pub main_of : List ℕ → ℕ
main_of flash = flash_word flash 4

abbrev pub return_of : List ℕ → ℕ
return_of flash = flash_word flash 8

-- The machine at reset, with this image in flash: RAM is 0.
abbrev pub reset : List ℕ → State
reset flash = record {
  registers = begun (base_of flash) (return_of flash) (main_of flash);
  memory = record {
    flash = flash;
    globals = replicate 256 0;
    arena = replicate arena_words 0;
    stack = replicate 1024 0;
    base = base_of flash;
  };
}
