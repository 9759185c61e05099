-- The faults, by their numbers.
use Rattle.std.specs.Prelude.{ℕ}

-- No row spells what stands at PC, or it is UDF.
abbrev pub undefined : ℕ
undefined = 1

-- The address of a word or a halfword is no multiple of its size (ARM DDI 0419, A3.2).
abbrev pub unaligned : ℕ
unaligned = 2

-- An access is outside the map, a store is to flash, or a halfword of an instruction is outside flash.
abbrev pub out_of_map : ℕ
out_of_map = 3

-- BX, BLX or POP goes to an address with bit 0 clear, which asks for another instruction set (ARM DDI 0419, A4.1.1); a service is given
-- such a code address; or PC is odd.
abbrev pub not_thumb : ℕ
not_thumb = 4

-- SP is below the stack region or above the base, or the base isn't one (`is_base`).
abbrev pub stack_range : ℕ
stack_range = 5

-- A store in the stack region is at or above the base.
abbrev pub above_base : ℕ
above_base = 6

-- BKPT.
abbrev pub breakpoint : ℕ
breakpoint = 7

-- A service that is asked for isn't there, or its arguments aren't sound.
abbrev pub bad_service : ℕ
bad_service = 8
