-- Which instruction halfwords are, by their bits (ARM DDI 0419, A5.2 and A5.3). n / 2 ^ k % 2 ^ w are the w bits from
-- bit k up.
use Rattle.std.specs.Prelude.{◌≡◌, ℕ, ◌+◌, ◌*◌, ◌/◌, ◌%◌, ◌^◌, min, ◌==◌, nat_lt, if◌then◌else◌, ◌&&◌, ◌||◌, List, [], ◌∷◌, ℤ, pos, ◌-ℤ◌, Option, Some, None, Bool, true, false, slice_index_or}
use Rattle.thumb_code.specs.declared.halfwords.Half.TheVariants.{One}
use Rattle.thumb_code.specs.declared.instructions.Instr.{Instr}
use Rattle.thumb_code.specs.declared.instructions.Instr.TheVariants.{LslImm, LsrImm, AsrImm, AddReg, SubReg, AddImm3, SubImm3, MovImm, CmpImm, AddImm8, SubImm8, And, Eor, LslReg, LsrReg, AsrReg, Adc, Sbc, Ror, Tst, Rsb, CmpReg, Cmn, Orr, Mul, Bic, Mvn, AddHigh, CmpHigh, MovHigh, Bx, Blx, LdrPc, StrReg, StrhReg, StrbReg, Ldrsb, LdrReg, LdrhReg, LdrbReg, Ldrsh, StrImm, LdrImm, StrbImm, LdrbImm, StrhImm, LdrhImm, StrSp, LdrSp, Adr, AddSp, AddSpImm, SubSpImm, Sxth, Sxtb, Uxth, Uxtb, Push, Pop, Rev, Rev16, Revsh, Bkpt, Nop, Yield, Wfe, Wfi, Sev, Stm, Ldm, BCond, Udf, Svc, B, Bl}
use Rattle.thumb_code.specs.Table.{Fits, half, not_eor}

-- What one halfword is; None where no row spells it.
abbrev pub Reader : Type 0
Reader = ℕ → Option Instr

-- Nothing has these bits.
abbrev pub none : Reader
none n = None

-- The reader with this number.
abbrev pub choice : List Reader → ℕ → Reader
choice rs k = slice_index_or rs k none

-- Rd or Rt in bits 0 to 2, another register in bits 3 to 5, and imm5.
abbrev pub imm5 : (ℕ → ℕ → ℕ → Instr) → Reader
imm5 f n = Some (f (n % 8) (n / 8 % 8) (n / 64 % 32))

-- Three registers, or two and imm3.
abbrev pub regs3 : (ℕ → ℕ → ℕ → Instr) → Reader
regs3 f n = Some (f (n % 8) (n / 8 % 8) (n / 64 % 8))

-- Two low registers.
abbrev pub regs2 : (ℕ → ℕ → Instr) → Reader
regs2 f n = Some (f (n % 8) (n / 8 % 8))

-- A low register in bits 8 to 10, and imm8 or a list.
abbrev pub imm8 : (ℕ → ℕ → Instr) → Reader
imm8 f n = Some (f (n / 256 % 8) (n % 256))

-- An instruction where its row allows it.
abbrev pub only_if : Bool → Instr → Option Instr
only_if b i = if b then Some i else None

-- D and Rd, which are four bits of a register.
abbrev pub rd4 : ℕ → ℕ
rd4 n = n / 128 % 2 * 8 + n % 8

-- Rm of four bits.
abbrev pub rm4 : ℕ → ℕ
rm4 n = n / 8 % 16

-- Special data instructions and branch and exchange (A5.2.3): bits 8 and 9 choose.
abbrev pub special_data : Reader
special_data n = choice (
    (λ n. only_if (nat_lt (min (rd4 n) (rm4 n)) 15) (AddHigh (rd4 n) (rm4 n)))
    ∷ (λ n. only_if ((nat_lt 7 (rd4 n) || nat_lt 7 (rm4 n)) && nat_lt (rd4 n) 15 && nat_lt (rm4 n) 15)
    (CmpHigh (rd4 n) (rm4 n)))
    ∷ (λ n. Some (MovHigh (rd4 n) (rm4 n)))
    ∷ (λ n. only_if (n % 8 == 0 && nat_lt (rm4 n) 15) (if n / 128 % 2 == 0 then Bx (rm4 n) else Blx (rm4 n)))
    ∷ []) (n / 256 % 4) n

-- Data processing (A5.2.2): bits 6 to 9 choose.
abbrev pub data_processing : Reader
data_processing n =
    choice (regs2 And ∷ regs2 Eor ∷ regs2 LslReg ∷ regs2 LsrReg ∷ regs2 AsrReg ∷ regs2 Adc ∷ regs2 Sbc ∷ regs2 Ror
    ∷ regs2 Tst ∷ regs2 Rsb ∷ regs2 CmpReg ∷ regs2 Cmn ∷ regs2 Orr ∷ regs2 Mul ∷ regs2 Bic ∷ regs2 Mvn
    ∷ []) (n / 64 % 16) n

-- Sums and differences of A5.2.1 with three fields: bits 9 and 10 choose.
abbrev pub add_subtract : Reader
add_subtract n = choice (regs3 AddReg ∷ regs3 SubReg ∷ regs3 AddImm3 ∷ regs3 SubImm3 ∷ []) (n / 512 % 4) n

-- Loads and stores at the sum of two registers (A5.2.4): bits 9 to 11 choose.
abbrev pub load_store_register : Reader
load_store_register n =
    choice (regs3 StrReg ∷ regs3 StrhReg ∷ regs3 StrbReg ∷ regs3 Ldrsb ∷ regs3 LdrReg ∷ regs3 LdrhReg ∷ regs3 LdrbReg
    ∷ regs3 Ldrsh ∷ []) (n / 512 % 8) n

-- A number below m, read with a sign (SignExtend).
abbrev pub extended : ℕ → ℕ → ℤ
extended m x = if nat_lt x (m / 2) then pos x else (pos x -ℤ pos m)

-- SXTH, SXTB, UXTH and UXTB: bits 6 and 7 choose.
abbrev pub extends : Reader
extends n = choice (regs2 Sxth ∷ regs2 Sxtb ∷ regs2 Uxth ∷ regs2 Uxtb ∷ []) (n / 64 % 4) n

-- REV, REV16 and REVSH: bits 6 and 7 choose.
abbrev pub reversals : Reader
reversals n = choice (regs2 Rev ∷ regs2 Rev16 ∷ none ∷ regs2 Revsh ∷ []) (n / 64 % 4) n

-- Hints: bits 4 to 7 choose, and bits 0 to 3 are 0.
abbrev pub hints : Reader
hints n =
    if n % 16 == 0 then slice_index_or (Some Nop ∷ Some Yield ∷ Some Wfe ∷ Some Wfi ∷ Some Sev ∷ []) (n / 16 % 16) None
    else None

-- Miscellaneous 16-bit instructions (A5.2.5): bits 8 to 11 choose.
abbrev pub miscellaneous : Reader
miscellaneous n = choice (
    (λ n. Some (if n / 128 % 2 == 0 then AddSpImm (n % 128) else SubSpImm (n % 128))) ∷ none ∷ (λ n. extends n) ∷ none
    ∷ (λ n. only_if (nat_lt 0 (n % 256)) (Push (n % 256) false)) ∷ (λ n. Some (Push (n % 256) true)) ∷ none ∷ none
    ∷ none ∷ none ∷ (λ n. reversals n) ∷ none
    ∷ (λ n. only_if (nat_lt 0 (n % 256)) (Pop (n % 256) false)) ∷ (λ n. Some (Pop (n % 256) true))
    ∷ (λ n. Some (Bkpt (n % 256))) ∷ (λ n. hints n)
    ∷ []) (n / 256 % 16) n

-- STM may write back: the list isn't empty, and the base isn't in it or is the lowest there.
abbrev pub is_storable : ℕ → ℕ → Bool
is_storable rn list = nat_lt 0 list && (list / 2 ^ rn % 2 == 0 || list % 2 ^ rn == 0)

-- STM and LDM: bit 11 chooses.
abbrev pub load_store_multiple : Reader
load_store_multiple n =
    if n / 2048 % 2 == 0 then only_if (is_storable (n / 256 % 8) (n % 256)) (Stm (n / 256 % 8) (n % 256))
    else only_if (nat_lt 0 (n % 256)) (Ldm (n / 256 % 8) (n % 256))

-- Conditional branch, and supervisor call (A5.2.6): bits 8 to 11 are the condition, UDF or SVC.
abbrev pub conditional_branch : Reader
conditional_branch n =
    if n / 256 % 16 == 0b1110 then Some (Udf (n % 256))
    else if n / 256 % 16 == 0b1111 then Some (Svc (n % 256))
    else Some (BCond (n / 256 % 16) (extended 512 (n % 256 * 2)))

-- BL, the one row of two halfwords (A5.3.1): S, imm10, J1, J2 and imm11.
abbrev pub two_halfwords : ℕ → ℕ → Option Instr
two_halfwords a b =
    let s = a / 1024 % 2 in
    let i1 = not_eor (b / 8192 % 2) s in
    let i2 = not_eor (b / 2048 % 2) s in
    only_if (a / 2048 == 0b11110 && b / 16384 == 0b11 && b / 4096 % 2 == 1)
    (Bl (extended (2 ^ 25) (s * 2 ^ 24 + i1 * 2 ^ 23 + i2 * 2 ^ 22 + a % 1024 * 2 ^ 12 + b % 2048 * 2)))

-- The readers by the high five bits, 00000 to 11100.
abbrev pub readers : List Reader
readers = imm5 LslImm ∷ imm5 LsrImm ∷ imm5 AsrImm ∷ add_subtract
    ∷ imm8 MovImm ∷ imm8 CmpImm ∷ imm8 AddImm8 ∷ imm8 SubImm8
    ∷ (λ n. if n / 1024 % 2 == 0 then data_processing n else special_data n) ∷ imm8 LdrPc
    ∷ load_store_register ∷ load_store_register
    ∷ imm5 StrImm ∷ imm5 LdrImm ∷ imm5 StrbImm ∷ imm5 LdrbImm ∷ imm5 StrhImm ∷ imm5 LdrhImm ∷ imm8 StrSp ∷ imm8 LdrSp
    ∷ imm8 Adr ∷ imm8 AddSp ∷ miscellaneous ∷ miscellaneous
    ∷ (λ n. load_store_multiple n) ∷ (λ n. load_store_multiple n) ∷ conditional_branch ∷ conditional_branch
    ∷ (λ n. Some (B (extended 4096 (n % 2048 * 2)))) ∷ []

-- One halfword.
abbrev pub reading : Reader
reading n = choice readers (n / 2048) n

-- A first halfword whose high five bits are 11101, 11110 or 11111 is one of two (A5.1).
abbrev pub is_wide : ℕ → Bool
is_wide first = nat_lt 0b11100 (first / 2048)

-- What the halfwords at an address are. The second counts only behind the first of two.
abbrev pub reading_of : ℕ → ℕ → Option Instr
reading_of first second = if is_wide first then two_halfwords first second else reading first

-- One halfword spells the instruction.
abbrev pub Reads : ℕ → Instr → Type 0
Reads n i = Fits i × (half i ≡ One n)
