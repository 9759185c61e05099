-- How instructions read and change registers (ARM DDI 0419, A2.3.1 and A5.1.2).
use Rattle.std.specs.Prelude.{ℕ, zero, suc, ◌+◌, ◌*◌, ◌/◌, ◌%◌, ◌^◌, List, [], ◌∷◌, map, Bool, ◌==◌, nat_lt, if◌then◌else◌, slice_index, slice_set}
use Rattle.thumb_code.specs.declared.register_file.Registers.{Registers}

-- The low 32 bits of a number.
abbrev pub word : ℕ → ℕ
word n = n % 2 ^ 32

-- Bit 0 of a number.
abbrev pub is_odd : ℕ → Bool
is_odd n = n % 2 == 1

-- The multiple of 4 at or below a number.
abbrev pub aligned : ℕ → ℕ
aligned n = n / 4 * 4

-- One of R0 to R12, the general registers (the manual's low ones are R0 to R7).
abbrev pub low : Registers → ℕ → ℕ
low s k = slice_index s.r k

-- PC as an instruction reads it: its own address and 4.
abbrev pub pc_read : Registers → ℕ
pc_read s = word (s.pc + 4)

-- One of R0 to R15.
abbrev pub reg : Registers → ℕ → ℕ
reg s k = if nat_lt k 13 then low s k else if k == 13 then s.sp else if k == 14 then s.lr else pc_read s

-- One of R0 to R12 is this.
abbrev pub put_low : Registers → ℕ → ℕ → Registers
put_low s k v = record s { r = slice_set s.r k v }

-- One of R0 to R15 is this. Bits 0 and 1 of SP and bit 0 of PC are cleared.
abbrev pub put_reg : Registers → ℕ → ℕ → Registers
put_reg s k v =
    if nat_lt k 13 then put_low s k v
    else if k == 13 then record s { sp = aligned v }
    else if k == 14 then record s { lr = v } else record s { pc = v / 2 * 2 }

-- So many bits of a list of registers from its lowest on: the numbers from k on whose bit is set.
unfoldable pub listed_from : ℕ → ℕ → ℕ → List ℕ
listed_from zero k list = []
listed_from (suc n) k list =
    let rest = listed_from n (k + 1) (list / 2) in if is_odd list then k ∷ rest else rest

-- The registers of a list, ascending.
unfoldable pub listed : ℕ → List ℕ
listed list = listed_from 8 0 list

-- The words in these registers.
abbrev pub values : Registers → List ℕ → List ℕ
values s ks = map (low s) ks

-- R0 to R12 with words put into these registers.
abbrev pub filled : List ℕ → List ℕ → List ℕ → List ℕ
filled r (k ∷ ks) (w ∷ ws) = filled (slice_set r k w) ks ws
filled r _ _ = r
