-- What a record keeps of a fiber.
use Rattle.std.specs.Prelude.{ℕ, ◌-◌, ℤ, pos, List, [], ◌++◌, length, replicate, take, Option, Some, None}
use Rattle.slab.specs.Slab.{Slab, get, with_value}
use Rattle.thumb_code.specs.declared.register_file.Registers.{Registers}

pub record Kept : Type 0 where
  pub registers : Registers
  pub base : ℕ
  pub value : ℤ  -- of the latest event that started or woke it, 0 where there was none
  pub listener : Option ℕ  -- of a handler, the number of its listener
  pub words : List ℕ  -- from SP up to the base

-- a record keeps as many words as the stack region has
abbrev pub record_limit : ℕ
record_limit = 1024

abbrev pub no_registers : Registers
no_registers = record { r = replicate 13 0; sp = 0; lr = 0; pc = 0; flags = 0 }

-- a record that was just claimed
abbrev pub unused : Kept
unused = record { registers = no_registers; base = 0; value = pos 0; listener = None; words = [] }

-- what is kept at a key; of a key that isn't live nothing is said
abbrev pub or_unused : Option Kept → Kept
or_unused None = unused
or_unused (Some k) = k

abbrev pub kept_at : Slab Kept → ℕ → Kept
kept_at pool key = or_unused (get pool key)

-- so many words: those that there are, and zeros behind them
abbrev pub sized : ℕ → List ℕ → List ℕ
sized n words = take n words ++ replicate (n - length words) 0

-- the records where one has other words, or other registers and another base
abbrev pub with_words : Slab Kept → ℕ → List ℕ → Slab Kept
with_words pool key words = with_value pool key (record (kept_at pool key) { words = words })

abbrev pub with_kept : Slab Kept → ℕ → Registers → ℕ → Slab Kept
with_kept pool key registers base =
    with_value pool key (record (kept_at pool key) { registers = registers; base = base })
