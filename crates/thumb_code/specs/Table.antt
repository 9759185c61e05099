-- The instruction table: how each instruction is spelled (ARM DDI 0419, A5.2 and A5.3, in the order of the bits).
use Rattle.std.specs.Prelude.{◌≡◌, ℕ, ◌+◌, ◌*◌, ◌/◌, ◌%◌, ◌^◌, ◌-◌, ◌<◌, ◌≤◌, min, max, List, [], ◌∷◌, ℤ, pos, negsuc, ◌≤ℤ◌, Bool, true, false}
use Rattle.std.specs.Int.{cast_unsigned, from_bool, w32}
use Rattle.thumb_code.specs.declared.halfwords.Half.{Half}
use Rattle.thumb_code.specs.declared.halfwords.Half.TheVariants.{One, Two}
use Rattle.thumb_code.specs.declared.instructions.Instr.{Instr}
use Rattle.thumb_code.specs.declared.instructions.Instr.TheVariants.{LslImm, LsrImm, AsrImm, AddReg, SubReg, AddImm3, SubImm3, MovImm, CmpImm, AddImm8, SubImm8, And, Eor, LslReg, LsrReg, AsrReg, Adc, Sbc, Ror, Tst, Rsb, CmpReg, Cmn, Orr, Mul, Bic, Mvn, AddHigh, CmpHigh, MovHigh, Bx, Blx, LdrPc, StrReg, StrhReg, StrbReg, Ldrsb, LdrReg, LdrhReg, LdrbReg, Ldrsh, StrImm, LdrImm, StrbImm, LdrbImm, StrhImm, LdrhImm, StrSp, LdrSp, Adr, AddSp, AddSpImm, SubSpImm, Sxth, Sxtb, Uxth, Uxtb, Push, Pop, Rev, Rev16, Revsh, Bkpt, Nop, Yield, Wfe, Wfi, Sev, Stm, Ldm, BCond, Udf, Svc, B, Bl}

-- The w bits from bit k up of a signed number in two's complement.
abbrev pub bits_from : ℕ → ℕ → ℤ → ℕ
bits_from k w z = cast_unsigned w32 z / 2 ^ k % 2 ^ w

-- NOT(a EOR b), of two bits
abbrev pub not_eor : ℕ → ℕ → ℕ
not_eor a b = (a + b + 1) % 2

-- An instruction's row: the parts of its spelling from high to low bits, how many bits and their value.
abbrev pub row : Instr → List (ℕ × ℕ)
-- Shift, add, subtract, move and compare (A5.2.1).
row (LslImm rd rm imm) = (5, 0b00000) ∷ (5, imm) ∷ (3, rm) ∷ (3, rd) ∷ []
row (LsrImm rd rm imm) = (5, 0b00001) ∷ (5, imm) ∷ (3, rm) ∷ (3, rd) ∷ []
row (AsrImm rd rm imm) = (5, 0b00010) ∷ (5, imm) ∷ (3, rm) ∷ (3, rd) ∷ []
row (AddReg rd rn rm) = (7, 0b0001100) ∷ (3, rm) ∷ (3, rn) ∷ (3, rd) ∷ []
row (SubReg rd rn rm) = (7, 0b0001101) ∷ (3, rm) ∷ (3, rn) ∷ (3, rd) ∷ []
row (AddImm3 rd rn imm) = (7, 0b0001110) ∷ (3, imm) ∷ (3, rn) ∷ (3, rd) ∷ []
row (SubImm3 rd rn imm) = (7, 0b0001111) ∷ (3, imm) ∷ (3, rn) ∷ (3, rd) ∷ []
row (MovImm rd imm) = (5, 0b00100) ∷ (3, rd) ∷ (8, imm) ∷ []
row (CmpImm rd imm) = (5, 0b00101) ∷ (3, rd) ∷ (8, imm) ∷ []
row (AddImm8 rd imm) = (5, 0b00110) ∷ (3, rd) ∷ (8, imm) ∷ []
row (SubImm8 rd imm) = (5, 0b00111) ∷ (3, rd) ∷ (8, imm) ∷ []
-- Data processing (A5.2.2).
row (And rdn rm) = (6, 0b010000) ∷ (4, 0b0000) ∷ (3, rm) ∷ (3, rdn) ∷ []
row (Eor rdn rm) = (6, 0b010000) ∷ (4, 0b0001) ∷ (3, rm) ∷ (3, rdn) ∷ []
row (LslReg rdn rm) = (6, 0b010000) ∷ (4, 0b0010) ∷ (3, rm) ∷ (3, rdn) ∷ []
row (LsrReg rdn rm) = (6, 0b010000) ∷ (4, 0b0011) ∷ (3, rm) ∷ (3, rdn) ∷ []
row (AsrReg rdn rm) = (6, 0b010000) ∷ (4, 0b0100) ∷ (3, rm) ∷ (3, rdn) ∷ []
row (Adc rdn rm) = (6, 0b010000) ∷ (4, 0b0101) ∷ (3, rm) ∷ (3, rdn) ∷ []
row (Sbc rdn rm) = (6, 0b010000) ∷ (4, 0b0110) ∷ (3, rm) ∷ (3, rdn) ∷ []
row (Ror rdn rm) = (6, 0b010000) ∷ (4, 0b0111) ∷ (3, rm) ∷ (3, rdn) ∷ []
row (Tst rdn rm) = (6, 0b010000) ∷ (4, 0b1000) ∷ (3, rm) ∷ (3, rdn) ∷ []
row (Rsb rdn rm) = (6, 0b010000) ∷ (4, 0b1001) ∷ (3, rm) ∷ (3, rdn) ∷ []
row (CmpReg rdn rm) = (6, 0b010000) ∷ (4, 0b1010) ∷ (3, rm) ∷ (3, rdn) ∷ []
row (Cmn rdn rm) = (6, 0b010000) ∷ (4, 0b1011) ∷ (3, rm) ∷ (3, rdn) ∷ []
row (Orr rdn rm) = (6, 0b010000) ∷ (4, 0b1100) ∷ (3, rm) ∷ (3, rdn) ∷ []
row (Mul rdn rm) = (6, 0b010000) ∷ (4, 0b1101) ∷ (3, rm) ∷ (3, rdn) ∷ []
row (Bic rdn rm) = (6, 0b010000) ∷ (4, 0b1110) ∷ (3, rm) ∷ (3, rdn) ∷ []
row (Mvn rdn rm) = (6, 0b010000) ∷ (4, 0b1111) ∷ (3, rm) ∷ (3, rdn) ∷ []
-- Special data instructions and branch and exchange (A5.2.3). D and Rd are one register.
row (AddHigh rd rm) = (8, 0b01000100) ∷ (1, rd / 8) ∷ (4, rm) ∷ (3, rd % 8) ∷ []
row (CmpHigh rd rm) = (8, 0b01000101) ∷ (1, rd / 8) ∷ (4, rm) ∷ (3, rd % 8) ∷ []
row (MovHigh rd rm) = (8, 0b01000110) ∷ (1, rd / 8) ∷ (4, rm) ∷ (3, rd % 8) ∷ []
row (Bx rm) = (9, 0b010001110) ∷ (4, rm) ∷ (3, 0b000) ∷ []
row (Blx rm) = (9, 0b010001111) ∷ (4, rm) ∷ (3, 0b000) ∷ []
-- Load from literal pool, and load and store of one item (A5.2.4).
row (LdrPc rt imm) = (5, 0b01001) ∷ (3, rt) ∷ (8, imm) ∷ []
row (StrReg rt rn rm) = (4, 0b0101) ∷ (3, 0b000) ∷ (3, rm) ∷ (3, rn) ∷ (3, rt) ∷ []
row (StrhReg rt rn rm) = (4, 0b0101) ∷ (3, 0b001) ∷ (3, rm) ∷ (3, rn) ∷ (3, rt) ∷ []
row (StrbReg rt rn rm) = (4, 0b0101) ∷ (3, 0b010) ∷ (3, rm) ∷ (3, rn) ∷ (3, rt) ∷ []
row (Ldrsb rt rn rm) = (4, 0b0101) ∷ (3, 0b011) ∷ (3, rm) ∷ (3, rn) ∷ (3, rt) ∷ []
row (LdrReg rt rn rm) = (4, 0b0101) ∷ (3, 0b100) ∷ (3, rm) ∷ (3, rn) ∷ (3, rt) ∷ []
row (LdrhReg rt rn rm) = (4, 0b0101) ∷ (3, 0b101) ∷ (3, rm) ∷ (3, rn) ∷ (3, rt) ∷ []
row (LdrbReg rt rn rm) = (4, 0b0101) ∷ (3, 0b110) ∷ (3, rm) ∷ (3, rn) ∷ (3, rt) ∷ []
row (Ldrsh rt rn rm) = (4, 0b0101) ∷ (3, 0b111) ∷ (3, rm) ∷ (3, rn) ∷ (3, rt) ∷ []
row (StrImm rt rn imm) = (5, 0b01100) ∷ (5, imm) ∷ (3, rn) ∷ (3, rt) ∷ []
row (LdrImm rt rn imm) = (5, 0b01101) ∷ (5, imm) ∷ (3, rn) ∷ (3, rt) ∷ []
row (StrbImm rt rn imm) = (5, 0b01110) ∷ (5, imm) ∷ (3, rn) ∷ (3, rt) ∷ []
row (LdrbImm rt rn imm) = (5, 0b01111) ∷ (5, imm) ∷ (3, rn) ∷ (3, rt) ∷ []
row (StrhImm rt rn imm) = (5, 0b10000) ∷ (5, imm) ∷ (3, rn) ∷ (3, rt) ∷ []
row (LdrhImm rt rn imm) = (5, 0b10001) ∷ (5, imm) ∷ (3, rn) ∷ (3, rt) ∷ []
row (StrSp rt imm) = (5, 0b10010) ∷ (3, rt) ∷ (8, imm) ∷ []
row (LdrSp rt imm) = (5, 0b10011) ∷ (3, rt) ∷ (8, imm) ∷ []
-- ADR, and ADD of SP (A5.2).
row (Adr rd imm) = (5, 0b10100) ∷ (3, rd) ∷ (8, imm) ∷ []
row (AddSp rd imm) = (5, 0b10101) ∷ (3, rd) ∷ (8, imm) ∷ []
-- Miscellaneous 16-bit instructions (A5.2.5).
row (AddSpImm imm) = (9, 0b101100000) ∷ (7, imm) ∷ []
row (SubSpImm imm) = (9, 0b101100001) ∷ (7, imm) ∷ []
row (Sxth rd rm) = (8, 0b10110010) ∷ (2, 0b00) ∷ (3, rm) ∷ (3, rd) ∷ []
row (Sxtb rd rm) = (8, 0b10110010) ∷ (2, 0b01) ∷ (3, rm) ∷ (3, rd) ∷ []
row (Uxth rd rm) = (8, 0b10110010) ∷ (2, 0b10) ∷ (3, rm) ∷ (3, rd) ∷ []
row (Uxtb rd rm) = (8, 0b10110010) ∷ (2, 0b11) ∷ (3, rm) ∷ (3, rd) ∷ []
row (Push list m) = (7, 0b1011010) ∷ (1, from_bool m) ∷ (8, list) ∷ []
row (Pop list p) = (7, 0b1011110) ∷ (1, from_bool p) ∷ (8, list) ∷ []
row (Rev rd rm) = (10, 0b1011101000) ∷ (3, rm) ∷ (3, rd) ∷ []
row (Rev16 rd rm) = (10, 0b1011101001) ∷ (3, rm) ∷ (3, rd) ∷ []
row (Revsh rd rm) = (10, 0b1011101011) ∷ (3, rm) ∷ (3, rd) ∷ []
row (Bkpt imm) = (8, 0b10111110) ∷ (8, imm) ∷ []
row Nop = (8, 0b10111111) ∷ (4, 0b0000) ∷ (4, 0b0000) ∷ []
row Yield = (8, 0b10111111) ∷ (4, 0b0001) ∷ (4, 0b0000) ∷ []
row Wfe = (8, 0b10111111) ∷ (4, 0b0010) ∷ (4, 0b0000) ∷ []
row Wfi = (8, 0b10111111) ∷ (4, 0b0011) ∷ (4, 0b0000) ∷ []
row Sev = (8, 0b10111111) ∷ (4, 0b0100) ∷ (4, 0b0000) ∷ []
-- Store and load multiple (A5.2).
row (Stm rn list) = (5, 0b11000) ∷ (3, rn) ∷ (8, list) ∷ []
row (Ldm rn list) = (5, 0b11001) ∷ (3, rn) ∷ (8, list) ∷ []
-- Conditional branch, and supervisor call (A5.2.6).
row (BCond cond offset) = (4, 0b1101) ∷ (4, cond) ∷ (8, bits_from 1 8 offset) ∷ []
row (Udf imm) = (8, 0b11011110) ∷ (8, imm) ∷ []
row (Svc imm) = (8, 0b11011111) ∷ (8, imm) ∷ []
-- Unconditional branch (A5.2), and BL (A5.3.1), where J1 is NOT(I1 EOR S) and J2 is NOT(I2 EOR S).
row (B offset) = (5, 0b11100) ∷ (11, bits_from 1 11 offset) ∷ []
row (Bl offset) =
    (5, 0b11110) ∷ (1, bits_from 24 1 offset) ∷ (10, bits_from 12 10 offset) ∷ (2, 0b11)
    ∷ (1, not_eor (bits_from 23 1 offset) (bits_from 24 1 offset)) ∷ (1, 0b1)
    ∷ (1, not_eor (bits_from 22 1 offset) (bits_from 24 1 offset)) ∷ (11, bits_from 1 11 offset) ∷ []

-- The number that parts spell, behind bits that are read already.
abbrev pub number_after : ℕ → List (ℕ × ℕ) → ℕ
number_after n [] = n
number_after n (p ∷ ps) = number_after (n * 2 ^ p.0 + p.1) ps

-- The spelling as a number: 16 bits, or 32 for BL.
abbrev pub spelling : Instr → ℕ
spelling i = number_after 0 (row i)

-- The halfwords of an instruction.
abbrev pub half : Instr → Half
half (Bl offset) = Two (spelling (Bl offset) / 65536) (spelling (Bl offset) % 65536)
half i = One (spelling i)

-- Each part's value has no more bits than the part.
abbrev pub EachFits : List (ℕ × ℕ) → Type 0
EachFits [] = Unit {0}
EachFits (p ∷ ps) = (p.1 < 2 ^ p.0) × EachFits ps

-- An even number that two's complement gives in w bits.
abbrev pub IsOffset : ℕ → ℤ → Type 0
IsOffset w z = (negsuc (2 ^ (w - 1) - 1) ≤ℤ z) × (z ≤ℤ pos (2 ^ (w - 1) - 2)) × (cast_unsigned w32 z % 2 ≡ 0)

-- What a row leaves out of the spellings of its parts, where the manual calls it unpredictable or gives
-- it to another instruction: the high form with both registers PC; CMP of it with two low registers or
-- PC; BX and BLX of PC; an empty list; STM with a base in the list that isn't the lowest there; and the
-- conditions 14 and 15, which are UDF and SVC.
abbrev pub Allowed : Instr → Type 0
Allowed (AddHigh rd rm) = min rd rm < 15
Allowed (CmpHigh rd rm) = (8 ≤ max rd rm) × (max rd rm < 15)
Allowed (Bx rm) = rm < 15
Allowed (Blx rm) = rm < 15
Allowed (Push list m) = 0 < from_bool m + list
Allowed (Pop list p) = 0 < from_bool p + list
Allowed (Stm rn list) = (0 < list) × (list / 2 ^ rn % 2 ≡ 1 → list % 2 ^ rn ≡ 0)
Allowed (Ldm rn list) = 0 < list
Allowed (BCond cond offset) = (cond < 14) × IsOffset 9 offset
Allowed (B offset) = IsOffset 12 offset
Allowed (Bl offset) = IsOffset 25 offset
Allowed _ = Unit {0}

-- Each field is in its row's range, and the row doesn't leave the spelling out.
abbrev pub Fits : Instr → Type 0
Fits i = EachFits (row i) × Allowed i

-- The instruction is two halfwords.
abbrev pub is_two : Half → Bool
is_two (One a) = false
is_two (Two a b) = true

-- Two halfwords begin with these.
abbrev pub IsSpelling : Half → ℕ → ℕ → Type 0
IsSpelling (One a) first second = a ≡ first
IsSpelling (Two a b) first second = (a ≡ first) × (b ≡ second)
