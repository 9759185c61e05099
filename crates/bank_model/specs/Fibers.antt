-- A fiber of the bank machine, what all fibers share, and how a fiber begins.
use Rattle.std.specs.Prelude.{ℕ, List, [], replicate}
use Rattle.thumb_code.specs.Map.{arena_words}
use Rattle.thumb_code.specs.declared.register_file.Registers.{Registers}
use Rattle.thumb_code.specs.Machine.{begun, base_of, return_of}

-- A fiber's registers, its base, and its bank: the words from its SP up to its base.
pub record Fiber : Type 0 where
  pub registers : Registers
  pub base : ℕ
  pub bank : List ℕ

-- What all fibers share, besides flash: the words of globals and arena, how many words of the arena are used (the board counts them
-- too), and the list of free words.
pub record Shared : Type 0 where
  pub globals : List ℕ
  pub arena : List ℕ
  pub used : ℕ
  pub free : List ℕ

-- What is shared as a run with these free words begins: globals and arena are 0, and no word of the arena is used.
abbrev pub shared_at_reset : List ℕ → Shared
shared_at_reset free = record { globals = replicate 256 0; arena = replicate arena_words 0; used = 0; free = free }

-- A fiber begins at a code address, on a base, with an empty bank: R0 to R12 and the flags are 0, SP is the base, LR is word 2 of
-- flash, and PC is the code address less 1, modulo 2^32.
abbrev pub begins_on : List ℕ → ℕ → ℕ → Fiber
begins_on flash base code = record { registers = begun base (return_of flash) code; base = base; bank = [] }

-- A fiber's base is word 0 of flash, but for the two that follow.
abbrev pub begins : List ℕ → ℕ → Fiber
begins flash code = begins_on flash (base_of flash) code

-- A fiber begins on top of another one: its base is the other one's SP.
abbrev pub begins_above : List ℕ → Fiber → ℕ → Fiber
begins_above flash f code = begins_on flash f.registers.sp code

-- A fiber begins again: at its own base.
abbrev pub begins_again : List ℕ → Fiber → ℕ → Fiber
begins_again flash f code = begins_on flash f.base code
