-- The map of addresses.
use Rattle.std.specs.Prelude.{ℕ, zero, suc, ◌+◌, ◌*◌, ◌/◌, ◌%◌, ◌^◌, ◌-◌, List, [], ◌∷◌, Bool, true, false, ◌&&◌, ◌==◌, nat_lt, if◌then◌else◌, Option, Some, None, slice_index, slice_index_or, slice_set}
use Rattle.std.specs.List.{splice}
use Rattle.thumb_code.specs.Faults.{unaligned, out_of_map, above_base}
use Rattle.thumb_code.specs.Effect.{Access}

-- Flash is from 0 on, up to 0x40000.
abbrev pub flash_end : ℕ
flash_end = 0x40000

-- 256 words of globals are from here on.
abbrev pub globals_at : ℕ
globals_at = 0x20000000

-- The arena's words are from here on.
abbrev pub arena_at : ℕ
arena_at = 0x20000400

-- So many words has the arena.
abbrev pub arena_words : ℕ
arena_words = 2816

-- 1024 words of stack region are from here on.
abbrev pub stack_at : ℕ
stack_at = 0x20003000

-- RAM ends before this address.
abbrev pub ram_end : ℕ
ram_end = 0x20004000

-- Where reads give what is in flash.
abbrev pub in_flash : ℕ → Bool
in_flash at = nat_lt at flash_end

-- In one of the three regions of RAM.
abbrev pub in_ram : ℕ → Bool
in_ram at = if nat_lt at globals_at then false else nat_lt at ram_end

-- In the stack region, or past it, at or above the base.
abbrev pub at_or_above_base : ℕ → ℕ → Bool
at_or_above_base base at = if nat_lt at stack_at then false else if nat_lt at base then false else true

-- The fault of an access of one, two or four bytes, in the order in which they are tried: it isn't aligned;
-- it is outside the map, or a store to flash; or a store at or above the base.
abbrev pub access_fault : ℕ → Bool → Access → Option ℕ
access_fault base is_store a =
    if a.at % a.bytes == 0 then
    (if in_ram a.at then (if is_store && at_or_above_base base a.at then Some above_base else None)
    else if is_store then Some out_of_map else if in_flash a.at then None else Some out_of_map)
    else Some unaligned

-- SP may be from the start of the stack region to the base.
abbrev pub sp_in_range : ℕ → ℕ → Bool
sp_in_range base sp = if nat_lt sp stack_at then false else if nat_lt base sp then false else true

-- A base may be a multiple of 4 from the start of the stack region to its end.
abbrev pub is_base : ℕ → Bool
is_base base = base % 4 == 0 && (if nat_lt base stack_at then false else if nat_lt ram_end base then false else true)

-- The bytes of an access in the word that holds them, low byte first (ARM DDI 0419, A3.3).
abbrev pub part : Access → ℕ → ℕ
part a w = w / 256 ^ (a.at % 4) % 256 ^ a.bytes

-- So many bytes of a number, the low one first, and the number that bytes are.
abbrev pub low_bytes : ℕ → ℕ → List ℕ
low_bytes zero v = []
low_bytes (suc n) v = v % 256 ∷ low_bytes n (v / 256)

abbrev pub number_in : List ℕ → ℕ
number_in [] = 0
number_in (b ∷ bs) = b + 256 * number_in bs

-- The word, of whose four bytes those of an access are replaced by the bytes of a value.
abbrev pub merged : Access → ℕ → ℕ → ℕ
merged a v w = number_in (splice (low_bytes 4 w) (a.at % 4) (a.at % 4 + a.bytes) (low_bytes a.bytes v))

-- Flash past its bytes reads 0xFF.
abbrev pub flash_byte : List ℕ → ℕ → ℕ
flash_byte flash at = slice_index_or flash at 0xFF

-- Two bytes of flash, the low one first.
abbrev pub flash_half : List ℕ → ℕ → ℕ
flash_half flash at = flash_byte flash at + flash_byte flash (at + 1) * 2 ^ 8

-- Four bytes of flash, the low one first.
abbrev pub flash_word : List ℕ → ℕ → ℕ
flash_word flash at =
    flash_byte flash at + flash_byte flash (at + 1) * 2 ^ 8 + flash_byte flash (at + 2) * 2 ^ 16
    + flash_byte flash (at + 3) * 2 ^ 24

-- The place of an address among the words from another on.
abbrev pub place : ℕ → ℕ → ℕ
place start at = (at - start) / 4

-- The word at an address, among the words from another on.
abbrev pub word_in : List ℕ → ℕ → ℕ → ℕ
word_in words start at = slice_index words (place start at)

-- The words from an address on, with the bytes of an access replaced.
abbrev pub changed : List ℕ → ℕ → Access → ℕ → List ℕ
changed words start a v = slice_set words (place start a.at) (merged a v (word_in words start a.at))
