-- Worked facts of the definitions: each computes. The values are the manual's, worked by hand.
use Rattle.std.proofs.Common.{◌≡◌, ℕ, List, [], ◌∷◌, refl, true, false, pos, negsuc, Some, None, replicate}
use Rattle.thumb_code.specs.declared.halfwords.Half.TheVariants.{Two}
use Rattle.thumb_code.specs.declared.instructions.Instr.TheVariants.{Udf, Bl, Push, Pop, Ldm, Stm, StrbImm, Nop, MovHigh, Blx}
use Rattle.thumb_code.specs.declared.register_file.Registers.{Registers}
use Rattle.thumb_code.specs.Table.{half}
use Rattle.thumb_code.specs.Reading.{reading_of}
use Rattle.thumb_code.specs.Faults.{undefined, unaligned, out_of_map, not_thumb, stack_range, above_base}
use Rattle.thumb_code.specs.RegisterFile.{listed, listed_from}
use Rattle.thumb_code.specs.Arithmetic.{sum_flags, inverted, shifted, lsl, lsr, asr, ror, holds}
use Rattle.thumb_code.specs.Effect.{effect}
use Rattle.thumb_code.specs.Memory.{Done, Stopped, execute}
use Rattle.thumb_code.specs.Map.{access_fault, merged, part}
use Rattle.thumb_code.specs.Step.{Found, Missed, fetched, On, Faulted}
use Rattle.thumb_code.specs.Machine.{step, reset, Ram, ram_memory}

-- BL to itself, to the instruction behind it, and UDF; CBZ isn't in this architecture
bl_next : half (Bl (pos 0)) ≡ Two 0xF000 0xF800
bl_next = refl

bl_itself : half (Bl (negsuc 3)) ≡ Two 0xF7FF 0xFFFE
bl_itself = refl

reads_udf : (second : ℕ) → reading_of 0xDE00 second ≡ Some (Udf 0)
reads_udf second = refl

reads_bl : reading_of 0xF7FF 0xFFFE ≡ Some (Bl (negsuc 3))
reads_bl = refl

reads_no_cbz : (second : ℕ) → reading_of 0xB100 second ≡ None
reads_no_cbz second = refl

-- 0x7FFFFFFF + 1 overflows; 0xFFFFFFFF + 1 carries; 0 - 0 has no borrow, which is a carry; 0 - 1 has one
overflowing : sum_flags 0x7FFFFFFF 1 0 ≡ 0b1001
overflowing = refl

carrying : sum_flags 0xFFFFFFFF 1 0 ≡ 0b0110
carrying = refl

no_borrow : sum_flags 0 (inverted 0) 1 ≡ 0b0110
no_borrow = refl

borrow : sum_flags 0 (inverted 1) 1 ≡ 0b1000
borrow = refl

-- 0x80000000 - 1 overflows the other way
underflowing : sum_flags 0x80000000 (inverted 1) 1 ≡ 0b0011
underflowing = refl

-- shifts by 0, 32, 33 and 255
by_none : shifted 0b0011 lsl 5 0 ≡ (5, 0b0011)
by_none = refl

left_32 : shifted 0b0001 lsl 1 32 ≡ (0, 0b0111)
left_32 = refl

left_33 : shifted 0b0010 lsl 1 33 ≡ (0, 0b0100)
left_33 = refl

right_32 : shifted 0 lsr 0x80000000 32 ≡ (0, 0b0110)
right_32 = refl

right_33 : shifted 0b0010 lsr 0x80000000 33 ≡ (0, 0b0100)
right_33 = refl

signed_255 : shifted 0 asr 0x80000000 255 ≡ (0xFFFFFFFF, 0b1010)
signed_255 = refl

around_32 : shifted 0 ror 0x80000001 32 ≡ (0x80000001, 0b1010)
around_32 = refl

around_1 : shifted 0 ror 1 1 ≡ (0x80000000, 0b1010)
around_1 = refl

-- HI wants C and not Z; LE is Z, or N other than V
hi_at_carry : holds 0b0010 8 ≡ true
hi_at_carry = refl

le_at_overflow : holds 0b0001 13 ≡ true
le_at_overflow = refl

gt_at_zero : holds 0b0100 12 ≡ false
gt_at_zero = refl

-- the byte 1 of a word, read and replaced
second_byte : part (record { at = 0x20000001; bytes = 1 }) 0x11223344 ≡ 0x33
second_byte = refl

second_byte_put : merged (record { at = 0x20000001; bytes = 1 }) 0xAA 0x11223344 ≡ 0x1122AA44
second_byte_put = refl

high_half_put : merged (record { at = 0x20000002; bytes = 2 }) 0xAABB 0x11223344 ≡ 0xAABB3344
high_half_put = refl

-- not aligned comes before out of the map; flash takes no stores; the base holds back stores and not loads
unaligned_first : access_fault 0x20003F80 true (record { at = 0x40000001; bytes = 4 }) ≡ Some unaligned
unaligned_first = refl

no_store_to_flash : access_fault 0x20003F80 true (record { at = 0; bytes = 1 }) ≡ Some out_of_map
no_store_to_flash = refl

no_store_at_base : access_fault 0x20003F80 true (record { at = 0x20003F80; bytes = 4 }) ≡ Some above_base
no_store_at_base = refl

load_at_base : access_fault 0x20003F80 false (record { at = 0x20003F80; bytes = 4 }) ≡ None
load_at_base = refl

past_ram : access_fault 0x20003F80 false (record { at = 0x20004000; bytes = 1 }) ≡ Some out_of_map
past_ram = refl

-- a small machine: four words in each region
abbrev small : Ram
small = record { flash = []; globals = 0x11223344 ∷ 0x55667788 ∷ []; arena = 7 ∷ []; stack = 3 ∷ 4 ∷ 5 ∷ 6 ∷ []; base = 0x20003010 }

abbrev begun_at : ℕ → ℕ → Registers
begun_at sp r1 = record { r = 0xAA ∷ r1 ∷ 0xCC ∷ []; sp = sp; lr = 0x101; pc = 0x20; flags = 0 }

-- LDM of R0 and R1 by R1: the base is loaded and not written back
ldm_with_base : execute ram_memory small (effect 0x22 (begun_at 0x20003008 0x20000000) (Ldm 1 0b011))
    ≡ Done (record { r = 0x11223344 ∷ 0x55667788 ∷ 0xCC ∷ []; sp = 0x20003008; lr = 0x101; pc = 0x22; flags = 0 }) small
unfolding listed listed_from
ldm_with_base = refl

-- POP of PC goes to the address with bit 0 cleared
pop_pc : execute ram_memory (record small { stack = 3 ∷ 4 ∷ 5 ∷ 0x41 ∷ [] }) (effect 0x22 (begun_at 0x20003008 0) (Pop 0b100 true))
    ≡ Done (record { r = 0xAA ∷ 0 ∷ 5 ∷ []; sp = 0x20003010; lr = 0x101; pc = 0x40; flags = 0 }) (record small { stack = 3 ∷ 4 ∷ 5 ∷ 0x41 ∷ [] })
unfolding listed listed_from
pop_pc = refl

-- an even address there is no Thumb code, and nothing is popped
pop_even : execute ram_memory small (effect 0x22 (begun_at 0x20003008 0) (Pop 0b100 true)) ≡ Stopped not_thumb
unfolding listed listed_from
pop_even = refl

-- PUSH leaves the lower register at the lower address
push_two : execute ram_memory small (effect 0x22 (begun_at 0x20003008 0xBB) (Push 0b010 true))
    ≡ Done (record { r = 0xAA ∷ 0xBB ∷ 0xCC ∷ []; sp = 0x20003000; lr = 0x101; pc = 0x22; flags = 0 }) (record small { stack = 0xBB ∷ 0x101 ∷ 5 ∷ 6 ∷ [] })
unfolding listed listed_from
push_two = refl

-- below the stack region there is no room, which is found before any access
push_too_low : execute ram_memory small (effect 0x22 (begun_at 0x20003004 0xBB) (Push 0b010 true)) ≡ Stopped stack_range
unfolding listed listed_from
push_too_low = refl

-- where the second store is a fault the first isn't done
stm_over_base : execute ram_memory small (effect 0x22 (begun_at 0x20003008 0x2000300C) (Stm 1 0b110)) ≡ Stopped above_base
unfolding listed listed_from
stm_over_base = refl

-- a store below SP goes into RAM
store_below_sp : execute ram_memory small (effect 0x22 (begun_at 0x20003008 0x20003001) (StrbImm 0 1 0))
    ≡ Done (record (begun_at 0x20003008 0x20003001) { pc = 0x22 }) (record small { stack = 0xAA03 ∷ 4 ∷ 5 ∷ 6 ∷ [] })
store_below_sp = refl

-- MOV into SP clears its low bits; into PC bit 0
mov_sp : execute ram_memory small (effect 0x22 (begun_at 0x20003008 0x20003007) (MovHigh 13 1))
    ≡ Done (record (begun_at 0x20003004 0x20003007) { pc = 0x22 }) small
mov_sp = refl

mov_pc : execute ram_memory small (effect 0x22 (begun_at 0x20003008 0x45) (MovHigh 15 1)) ≡ Done (record (begun_at 0x20003008 0x45) { pc = 0x44 }) small
mov_pc = refl

-- BLX of LR goes to the old LR
blx_lr : execute ram_memory small (effect 0x22 (begun_at 0x20003008 0) (Blx 14)) ≡ Done (record (begun_at 0x20003008 0) { lr = 0x23; pc = 0x100 }) small
blx_lr = refl

-- a base out of the stack region comes first, then an odd PC, then the fetch, then what is fetched
bad_base : fetched [] 0x20002FFC 1 ≡ Missed stack_range 0x20002FFC
bad_base = refl

odd_pc : fetched [] 0x20003F80 1 ≡ Missed not_thumb 2
odd_pc = refl

out_of_flash : fetched [] 0x20003F80 0x40000 ≡ Missed out_of_map 0x40000
out_of_flash = refl

-- erased flash is 0xFFFF, the first of two, and no row's; its second is outside at the end of flash
erased : fetched [] 0x20003F80 0x3FFFC ≡ Missed undefined 0x3FFFC
erased = refl

last_half : fetched [] 0x20003F80 0x3FFFE ≡ Missed out_of_map 0x3FFFE
last_half = refl

nop_at_0 : fetched (0x00 ∷ 0xBF ∷ []) 0x20003F80 0 ≡ Found Nop 2
nop_at_0 = refl

-- an image of three words: base, main at 12 with bit 0 set, and a NOP there
abbrev image : List ℕ
image = 0x80 ∷ 0x3F ∷ 0x00 ∷ 0x20 ∷ 0x0D ∷ 0 ∷ 0 ∷ 0 ∷ 0x11 ∷ 0 ∷ 0 ∷ 0 ∷ 0x00 ∷ 0xBF ∷ 0x00 ∷ 0xBE ∷ []

begins : (reset image).registers ≡ record { r = replicate 13 0; sp = 0x20003F80; lr = 0x11; pc = 12; flags = 0 }
begins = refl

goes_on : step (reset image) ≡ On (record { r = replicate 13 0; sp = 0x20003F80; lr = 0x11; pc = 14; flags = 0 }) (reset image).memory
goes_on = refl

-- the word 1 with bit 0 clear is the address of the fault
even_main : step (reset (0x80 ∷ 0x3F ∷ 0x00 ∷ 0x20 ∷ 0x0C ∷ 0 ∷ 0 ∷ 0 ∷ [])) ≡ Faulted not_thumb 12
even_main = refl

-- an image without bytes has a base of ones
no_image : step (reset []) ≡ Faulted stack_range 0xFFFFFFFF
no_image = refl
