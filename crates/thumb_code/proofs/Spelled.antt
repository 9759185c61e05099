-- What is spelled is read again.
use Rattle.std.proofs.Common.{◌≡◌, ℕ, ◌+◌, ◌*◌, ◌/◌, ◌%◌, ◌<◌, ◌≤◌, Some, refl, arith, ap, ◌∙◌, true, false, nat_eq, cond, ◌^◌, ℤ, ◌⊎◌, inl, inr, ◌≢◌}
use Rattle.std.proofs.lemmas.Int.{ints}
use Rattle.thumb_code.specs.Reading.{extended, conditional_branch, two_halfwords}
use Rattle.std.specs.Int.{cast_unsigned, w32}
use Rattle.thumb_code.specs.Table.{IsOffset, bits_from, not_eor}
use Rattle.std.proofs.lemmas.Bool.Decides.{nat_tests}
use Rattle.thumb_code.specs.Reading.{only_if, is_storable}
use Rattle.thumb_code.specs.declared.instructions.Instr.{Instr}
use Rattle.thumb_code.specs.declared.instructions.Instr.TheVariants.{LslImm, LsrImm, AsrImm, AddReg, SubReg, AddImm3, SubImm3, MovImm, CmpImm, AddImm8, SubImm8, And, Eor, LslReg, LsrReg, AsrReg, Adc, Sbc, Ror, Tst, Rsb, CmpReg, Cmn, Orr, Mul, Bic, Mvn, AddHigh, CmpHigh, MovHigh, Bx, Blx, LdrPc, StrReg, StrhReg, StrbReg, Ldrsb, LdrReg, LdrhReg, LdrbReg, Ldrsh, StrImm, LdrImm, StrbImm, LdrbImm, StrhImm, LdrhImm, StrSp, LdrSp, Adr, AddSp, AddSpImm, SubSpImm, Sxth, Sxtb, Uxth, Uxtb, Push, Pop, Rev, Rev16, Revsh, Bkpt, Nop, Yield, Wfe, Wfi, Sev, Stm, Ldm, BCond, Udf, Svc, B, Bl}
use Rattle.thumb_code.specs.declared.halfwords.Half.TheVariants.{One, Two}
use Rattle.thumb_code.specs.declared.halfwords.Half.{Half}
use Rattle.thumb_code.specs.Table.{IsSpelling, half, spelling, Fits}
use Rattle.thumb_code.specs.Reading.{reading, choice, readers, load_store_register, miscellaneous, load_store_multiple}

pub three : (f : ℕ → ℕ → ℕ → Instr) (a b c a' b' c' : ℕ) → a ≡ a' → b ≡ b' → c ≡ c' → Some (f a b c) ≡ Some (f a' b' c')
three f a b c a' b' c' p q r = cc

pub two : (f : ℕ → ℕ → Instr) (a b a' b' : ℕ) → a ≡ a' → b ≡ b' → Some (f a b) ≡ Some (f a' b')
two f a b a' b' p q = cc

-- STM is allowed
stm : (rn list : ℕ) → 0 < list → (list / 2 ^ rn % 2 ≡ 1 → list % 2 ^ rn ≡ 0) → only_if (is_storable rn list) (Stm rn list) ≡ Some (Stm rn list)
stm rn list p q = grind (arith, nat_tests)

back9 : (z : ℤ) (x : ℕ) → IsOffset 9 z → x ≡ bits_from 1 8 z → extended 512 (x * 2) ≡ z
back9 z x h e = grind (arith, ints, nat_tests)

back12 : (z : ℤ) (x : ℕ) → IsOffset 12 z → x ≡ bits_from 1 11 z → extended 4096 (x * 2) ≡ z
back12 z x h e = grind (arith, ints, nat_tests)

back25 : (z : ℤ) (x : ℕ) → IsOffset 25 z → x ≡ cast_unsigned w32 z % 2 ^ 25 → extended (2 ^ 25) x ≡ z
back25 z x h e = grind (arith, ints, nat_tests)

-- the bits of BL's offset, put together again
bits25 : (u s i j x y : ℕ) → s ≡ u / 2 ^ 24 % 2 → i ≡ u / 2 ^ 23 % 2 → j ≡ u / 2 ^ 22 % 2 → x ≡ u / 2 ^ 12 % 2 ^ 10 → y ≡ u / 2 % 2 ^ 11 → u % 2 ≡ 0
    → s * 2 ^ 24 + i * 2 ^ 23 + j * 2 ^ 22 + x * 4096 + y * 2 ≡ u % 2 ^ 25
bits25 u s i j x y p q r t v w = omega arith

-- a bit that was not_eor by another, not_eor back
flip_back : (s i j : ℕ) → s < 2 → i < 2 → j ≡ (i + s + 1) % 2 → (j + s + 1) % 2 ≡ i
flip_back s i j p q r = omega arith

either : (m k : ℕ) → k ≤ m → m ≤ k + 1 → (m ≡ k) ⊎ (m ≡ k + 1)
either m k p q = elim (nat_eq m k) as (λ b. (nat_eq m k ≡ b) → (m ≡ k) ⊎ (m ≡ k + 1)) [ true ↦ λ e. inl (grind (arith, nat_tests)) | false ↦ λ e. let d : m ≢ k = grind (arith, nat_tests) in inr (omega arith) ] refl

-- the readers that two numbers of the high five bits share
pub reading-load_store_register : (n : ℕ) → n / 4096 ≡ 5 → reading n ≡ load_store_register n
reading-load_store_register n p = elim (either (n / 2048) 10 (omega arith) (omega arith)) [ inl e ↦ ap (λ k. choice readers k n) e | inr e ↦ ap (λ k. choice readers k n) e ]

pub reading-miscellaneous : (n : ℕ) → n / 4096 ≡ 11 → reading n ≡ miscellaneous n
reading-miscellaneous n p = elim (either (n / 2048) 22 (omega arith) (omega arith)) [ inl e ↦ ap (λ k. choice readers k n) e | inr e ↦ ap (λ k. choice readers k n) e ]

pub reading-load_store_multiple : (n : ℕ) → n / 4096 ≡ 12 → reading n ≡ load_store_multiple n
reading-load_store_multiple n p = elim (either (n / 2048) 24 (omega arith) (omega arith)) [ inl e ↦ ap (λ k. choice readers k n) e | inr e ↦ ap (λ k. choice readers k n) e ]

pub reading-conditional_branch : (n : ℕ) → n / 4096 ≡ 13 → reading n ≡ conditional_branch n
reading-conditional_branch n p = elim (either (n / 2048) 26 (omega arith) (omega arith)) [ inl e ↦ ap (λ k. choice readers k n) e | inr e ↦ ap (λ k. choice readers k n) e ]

conditional_branch_again : (n cond : ℕ) (z : ℤ) → cond < 14 → n / 4096 ≡ 13 → n / 256 % 16 ≡ cond → extended 512 (n % 256 * 2) ≡ z → reading n ≡ Some (BCond cond z)
conditional_branch_again n k z p q r e =
    reading-conditional_branch n q ∙ (rw (r, e) (grind (arith, nat_tests)))

long_of : (a b x y s j1 j2 : ℕ) → s < 2 → j1 < 2 → j2 < 2 → x < 1024 → y < 2048 → a ≡ (60 + s) * 1024 + x → b ≡ (((6 + j1) * 2 + 1) * 2 + j2) * 2048 + y
    → two_halfwords a b ≡ Some (Bl (extended (2 ^ 25) (s * 2 ^ 24 + (j1 + s + 1) % 2 * 2 ^ 23 + (j2 + s + 1) % 2 * 2 ^ 22 + x * 4096 + y * 2)))
long_of a b x y s j1 j2 p q r t v ea eb =
    let q0 : a / 2048 ≡ 30 = omega arith in
    let q1 : b / 16384 ≡ 3 = omega arith in
    let q2 : b / 4096 % 2 ≡ 1 = omega arith in
    let q3 : a / 1024 % 2 ≡ s = omega arith in
    let q4 : b / 8192 % 2 ≡ j1 = omega arith in
    let q5 : b / 2048 % 2 ≡ j2 = omega arith in
    let q6 : a % 1024 ≡ x = omega arith in
    let q7 : b % 2048 ≡ y = omega arith in
    rw (q0, q1, q2, q3, q4, q5, q6, q7) refl

pub again_long : (z : ℤ) (a b : ℕ) → Fits (Bl z) → half (Bl z) ≡ Two a b → two_halfwords a b ≡ Some (Bl z)
again_long z a b h e =
    let u = cast_unsigned w32 z in
    let f : spelling (Bl z) / 65536 ≡ a = cc in
    let g : spelling (Bl z) % 65536 ≡ b = cc in
    let s = bits_from 24 1 z in
    let i = bits_from 23 1 z in
    let j = bits_from 22 1 z in
    let j1 = not_eor i s in
    let j2 = not_eor j s in
    let k1 : (j1 + s + 1) % 2 ≡ i = flip_back s i j1 (omega arith) (omega arith) refl in
    let k2 : (j2 + s + 1) % 2 ≡ j = flip_back s j j2 (omega arith) (omega arith) refl in
    let x = bits_from 12 10 z in
    let y = bits_from 1 11 z in
    let sum = bits25 u s i j x y refl refl refl refl refl h.1.2 in
    long_of a b x y s j1 j2 (omega arith) (omega arith) (omega arith) (omega arith) (omega arith) (omega arith) (omega arith)
    ∙ rw (k1, k2) (ap (λ v. Some (Bl v)) (back25 z _ h.1 sum))

pub again : (i : Instr) (n : ℕ) → Fits i → half i ≡ One n → reading n ≡ Some i
again (LslImm rd rm imm) n h s = let e : spelling (LslImm rd rm imm) ≡ n = cc in let e0 : n / 2048 ≡ 0 = omega arith in rw (e0) (three LslImm _ _ _ _ _ _ (omega arith) (omega arith) (omega arith))
again (LsrImm rd rm imm) n h s = let e : spelling (LsrImm rd rm imm) ≡ n = cc in let e0 : n / 2048 ≡ 1 = omega arith in rw (e0) (three LsrImm _ _ _ _ _ _ (omega arith) (omega arith) (omega arith))
again (AsrImm rd rm imm) n h s = let e : spelling (AsrImm rd rm imm) ≡ n = cc in let e0 : n / 2048 ≡ 2 = omega arith in rw (e0) (three AsrImm _ _ _ _ _ _ (omega arith) (omega arith) (omega arith))
again (AddReg rd rn rm) n h s = let e : spelling (AddReg rd rn rm) ≡ n = cc in let e0 : n / 2048 ≡ 3 = omega arith in let e1 : n / 512 % 4 ≡ 0 = omega arith in rw (e0, e1) (three AddReg _ _ _ _ _ _ (omega arith) (omega arith) (omega arith))
again (SubReg rd rn rm) n h s = let e : spelling (SubReg rd rn rm) ≡ n = cc in let e0 : n / 2048 ≡ 3 = omega arith in let e1 : n / 512 % 4 ≡ 1 = omega arith in rw (e0, e1) (three SubReg _ _ _ _ _ _ (omega arith) (omega arith) (omega arith))
again (AddImm3 rd rn imm) n h s = let e : spelling (AddImm3 rd rn imm) ≡ n = cc in let e0 : n / 2048 ≡ 3 = omega arith in let e1 : n / 512 % 4 ≡ 2 = omega arith in rw (e0, e1) (three AddImm3 _ _ _ _ _ _ (omega arith) (omega arith) (omega arith))
again (SubImm3 rd rn imm) n h s = let e : spelling (SubImm3 rd rn imm) ≡ n = cc in let e0 : n / 2048 ≡ 3 = omega arith in let e1 : n / 512 % 4 ≡ 3 = omega arith in rw (e0, e1) (three SubImm3 _ _ _ _ _ _ (omega arith) (omega arith) (omega arith))
again (MovImm rd imm) n h s = let e : spelling (MovImm rd imm) ≡ n = cc in let e0 : n / 2048 ≡ 4 = omega arith in rw (e0) (two MovImm _ _ _ _ (omega arith) (omega arith))
again (CmpImm rd imm) n h s = let e : spelling (CmpImm rd imm) ≡ n = cc in let e0 : n / 2048 ≡ 5 = omega arith in rw (e0) (two CmpImm _ _ _ _ (omega arith) (omega arith))
again (AddImm8 rd imm) n h s = let e : spelling (AddImm8 rd imm) ≡ n = cc in let e0 : n / 2048 ≡ 6 = omega arith in rw (e0) (two AddImm8 _ _ _ _ (omega arith) (omega arith))
again (SubImm8 rd imm) n h s = let e : spelling (SubImm8 rd imm) ≡ n = cc in let e0 : n / 2048 ≡ 7 = omega arith in rw (e0) (two SubImm8 _ _ _ _ (omega arith) (omega arith))
again (And rdn rm) n h s = let e : spelling (And rdn rm) ≡ n = cc in let e0 : n / 2048 ≡ 8 = omega arith in let e1 : n / 1024 % 2 ≡ 0 = omega arith in let e2 : n / 64 % 16 ≡ 0 = omega arith in rw (e0, e1, e2) (two And _ _ _ _ (omega arith) (omega arith))
again (Eor rdn rm) n h s = let e : spelling (Eor rdn rm) ≡ n = cc in let e0 : n / 2048 ≡ 8 = omega arith in let e1 : n / 1024 % 2 ≡ 0 = omega arith in let e2 : n / 64 % 16 ≡ 1 = omega arith in rw (e0, e1, e2) (two Eor _ _ _ _ (omega arith) (omega arith))
again (LslReg rdn rm) n h s = let e : spelling (LslReg rdn rm) ≡ n = cc in let e0 : n / 2048 ≡ 8 = omega arith in let e1 : n / 1024 % 2 ≡ 0 = omega arith in let e2 : n / 64 % 16 ≡ 2 = omega arith in rw (e0, e1, e2) (two LslReg _ _ _ _ (omega arith) (omega arith))
again (LsrReg rdn rm) n h s = let e : spelling (LsrReg rdn rm) ≡ n = cc in let e0 : n / 2048 ≡ 8 = omega arith in let e1 : n / 1024 % 2 ≡ 0 = omega arith in let e2 : n / 64 % 16 ≡ 3 = omega arith in rw (e0, e1, e2) (two LsrReg _ _ _ _ (omega arith) (omega arith))
again (AsrReg rdn rm) n h s = let e : spelling (AsrReg rdn rm) ≡ n = cc in let e0 : n / 2048 ≡ 8 = omega arith in let e1 : n / 1024 % 2 ≡ 0 = omega arith in let e2 : n / 64 % 16 ≡ 4 = omega arith in rw (e0, e1, e2) (two AsrReg _ _ _ _ (omega arith) (omega arith))
again (Adc rdn rm) n h s = let e : spelling (Adc rdn rm) ≡ n = cc in let e0 : n / 2048 ≡ 8 = omega arith in let e1 : n / 1024 % 2 ≡ 0 = omega arith in let e2 : n / 64 % 16 ≡ 5 = omega arith in rw (e0, e1, e2) (two Adc _ _ _ _ (omega arith) (omega arith))
again (Sbc rdn rm) n h s = let e : spelling (Sbc rdn rm) ≡ n = cc in let e0 : n / 2048 ≡ 8 = omega arith in let e1 : n / 1024 % 2 ≡ 0 = omega arith in let e2 : n / 64 % 16 ≡ 6 = omega arith in rw (e0, e1, e2) (two Sbc _ _ _ _ (omega arith) (omega arith))
again (Ror rdn rm) n h s = let e : spelling (Ror rdn rm) ≡ n = cc in let e0 : n / 2048 ≡ 8 = omega arith in let e1 : n / 1024 % 2 ≡ 0 = omega arith in let e2 : n / 64 % 16 ≡ 7 = omega arith in rw (e0, e1, e2) (two Ror _ _ _ _ (omega arith) (omega arith))
again (Tst rdn rm) n h s = let e : spelling (Tst rdn rm) ≡ n = cc in let e0 : n / 2048 ≡ 8 = omega arith in let e1 : n / 1024 % 2 ≡ 0 = omega arith in let e2 : n / 64 % 16 ≡ 8 = omega arith in rw (e0, e1, e2) (two Tst _ _ _ _ (omega arith) (omega arith))
again (Rsb rdn rm) n h s = let e : spelling (Rsb rdn rm) ≡ n = cc in let e0 : n / 2048 ≡ 8 = omega arith in let e1 : n / 1024 % 2 ≡ 0 = omega arith in let e2 : n / 64 % 16 ≡ 9 = omega arith in rw (e0, e1, e2) (two Rsb _ _ _ _ (omega arith) (omega arith))
again (CmpReg rdn rm) n h s = let e : spelling (CmpReg rdn rm) ≡ n = cc in let e0 : n / 2048 ≡ 8 = omega arith in let e1 : n / 1024 % 2 ≡ 0 = omega arith in let e2 : n / 64 % 16 ≡ 10 = omega arith in rw (e0, e1, e2) (two CmpReg _ _ _ _ (omega arith) (omega arith))
again (Cmn rdn rm) n h s = let e : spelling (Cmn rdn rm) ≡ n = cc in let e0 : n / 2048 ≡ 8 = omega arith in let e1 : n / 1024 % 2 ≡ 0 = omega arith in let e2 : n / 64 % 16 ≡ 11 = omega arith in rw (e0, e1, e2) (two Cmn _ _ _ _ (omega arith) (omega arith))
again (Orr rdn rm) n h s = let e : spelling (Orr rdn rm) ≡ n = cc in let e0 : n / 2048 ≡ 8 = omega arith in let e1 : n / 1024 % 2 ≡ 0 = omega arith in let e2 : n / 64 % 16 ≡ 12 = omega arith in rw (e0, e1, e2) (two Orr _ _ _ _ (omega arith) (omega arith))
again (Mul rdn rm) n h s = let e : spelling (Mul rdn rm) ≡ n = cc in let e0 : n / 2048 ≡ 8 = omega arith in let e1 : n / 1024 % 2 ≡ 0 = omega arith in let e2 : n / 64 % 16 ≡ 13 = omega arith in rw (e0, e1, e2) (two Mul _ _ _ _ (omega arith) (omega arith))
again (Bic rdn rm) n h s = let e : spelling (Bic rdn rm) ≡ n = cc in let e0 : n / 2048 ≡ 8 = omega arith in let e1 : n / 1024 % 2 ≡ 0 = omega arith in let e2 : n / 64 % 16 ≡ 14 = omega arith in rw (e0, e1, e2) (two Bic _ _ _ _ (omega arith) (omega arith))
again (Mvn rdn rm) n h s = let e : spelling (Mvn rdn rm) ≡ n = cc in let e0 : n / 2048 ≡ 8 = omega arith in let e1 : n / 1024 % 2 ≡ 0 = omega arith in let e2 : n / 64 % 16 ≡ 15 = omega arith in rw (e0, e1, e2) (two Mvn _ _ _ _ (omega arith) (omega arith))
again (LdrPc rt imm) n h s = let e : spelling (LdrPc rt imm) ≡ n = cc in let e0 : n / 2048 ≡ 9 = omega arith in rw (e0) (two LdrPc _ _ _ _ (omega arith) (omega arith))
again (StrReg rt rn rm) n h s = let e : spelling (StrReg rt rn rm) ≡ n = cc in let e0 : n / 2048 ≡ 10 = omega arith in let e1 : n / 512 % 8 ≡ 0 = omega arith in rw (e0, e1) (three StrReg _ _ _ _ _ _ (omega arith) (omega arith) (omega arith))
again (StrhReg rt rn rm) n h s = let e : spelling (StrhReg rt rn rm) ≡ n = cc in let e0 : n / 2048 ≡ 10 = omega arith in let e1 : n / 512 % 8 ≡ 1 = omega arith in rw (e0, e1) (three StrhReg _ _ _ _ _ _ (omega arith) (omega arith) (omega arith))
again (StrbReg rt rn rm) n h s = let e : spelling (StrbReg rt rn rm) ≡ n = cc in let e0 : n / 2048 ≡ 10 = omega arith in let e1 : n / 512 % 8 ≡ 2 = omega arith in rw (e0, e1) (three StrbReg _ _ _ _ _ _ (omega arith) (omega arith) (omega arith))
again (Ldrsb rt rn rm) n h s = let e : spelling (Ldrsb rt rn rm) ≡ n = cc in let e0 : n / 2048 ≡ 10 = omega arith in let e1 : n / 512 % 8 ≡ 3 = omega arith in rw (e0, e1) (three Ldrsb _ _ _ _ _ _ (omega arith) (omega arith) (omega arith))
again (LdrReg rt rn rm) n h s = let e : spelling (LdrReg rt rn rm) ≡ n = cc in let e0 : n / 2048 ≡ 11 = omega arith in let e1 : n / 512 % 8 ≡ 4 = omega arith in rw (e0, e1) (three LdrReg _ _ _ _ _ _ (omega arith) (omega arith) (omega arith))
again (LdrhReg rt rn rm) n h s = let e : spelling (LdrhReg rt rn rm) ≡ n = cc in let e0 : n / 2048 ≡ 11 = omega arith in let e1 : n / 512 % 8 ≡ 5 = omega arith in rw (e0, e1) (three LdrhReg _ _ _ _ _ _ (omega arith) (omega arith) (omega arith))
again (LdrbReg rt rn rm) n h s = let e : spelling (LdrbReg rt rn rm) ≡ n = cc in let e0 : n / 2048 ≡ 11 = omega arith in let e1 : n / 512 % 8 ≡ 6 = omega arith in rw (e0, e1) (three LdrbReg _ _ _ _ _ _ (omega arith) (omega arith) (omega arith))
again (Ldrsh rt rn rm) n h s = let e : spelling (Ldrsh rt rn rm) ≡ n = cc in let e0 : n / 2048 ≡ 11 = omega arith in let e1 : n / 512 % 8 ≡ 7 = omega arith in rw (e0, e1) (three Ldrsh _ _ _ _ _ _ (omega arith) (omega arith) (omega arith))
again (StrImm rt rn imm) n h s = let e : spelling (StrImm rt rn imm) ≡ n = cc in let e0 : n / 2048 ≡ 12 = omega arith in rw (e0) (three StrImm _ _ _ _ _ _ (omega arith) (omega arith) (omega arith))
again (LdrImm rt rn imm) n h s = let e : spelling (LdrImm rt rn imm) ≡ n = cc in let e0 : n / 2048 ≡ 13 = omega arith in rw (e0) (three LdrImm _ _ _ _ _ _ (omega arith) (omega arith) (omega arith))
again (StrbImm rt rn imm) n h s = let e : spelling (StrbImm rt rn imm) ≡ n = cc in let e0 : n / 2048 ≡ 14 = omega arith in rw (e0) (three StrbImm _ _ _ _ _ _ (omega arith) (omega arith) (omega arith))
again (LdrbImm rt rn imm) n h s = let e : spelling (LdrbImm rt rn imm) ≡ n = cc in let e0 : n / 2048 ≡ 15 = omega arith in rw (e0) (three LdrbImm _ _ _ _ _ _ (omega arith) (omega arith) (omega arith))
again (StrhImm rt rn imm) n h s = let e : spelling (StrhImm rt rn imm) ≡ n = cc in let e0 : n / 2048 ≡ 16 = omega arith in rw (e0) (three StrhImm _ _ _ _ _ _ (omega arith) (omega arith) (omega arith))
again (LdrhImm rt rn imm) n h s = let e : spelling (LdrhImm rt rn imm) ≡ n = cc in let e0 : n / 2048 ≡ 17 = omega arith in rw (e0) (three LdrhImm _ _ _ _ _ _ (omega arith) (omega arith) (omega arith))
again (StrSp rt imm) n h s = let e : spelling (StrSp rt imm) ≡ n = cc in let e0 : n / 2048 ≡ 18 = omega arith in rw (e0) (two StrSp _ _ _ _ (omega arith) (omega arith))
again (LdrSp rt imm) n h s = let e : spelling (LdrSp rt imm) ≡ n = cc in let e0 : n / 2048 ≡ 19 = omega arith in rw (e0) (two LdrSp _ _ _ _ (omega arith) (omega arith))
again (Adr rd imm) n h s = let e : spelling (Adr rd imm) ≡ n = cc in let e0 : n / 2048 ≡ 20 = omega arith in rw (e0) (two Adr _ _ _ _ (omega arith) (omega arith))
again (AddSp rd imm) n h s = let e : spelling (AddSp rd imm) ≡ n = cc in let e0 : n / 2048 ≡ 21 = omega arith in rw (e0) (two AddSp _ _ _ _ (omega arith) (omega arith))
again (AddHigh rd rm) n h s = let e : spelling (AddHigh rd rm) ≡ n = cc in let e0 : n / 2048 ≡ 8 = omega arith in let e1 : n / 1024 % 2 ≡ 1 = omega arith in let e2 : n / 256 % 4 ≡ 0 = omega arith in let e3 : n / 128 % 2 * 8 + n % 8 ≡ rd = omega arith in let e4 : n / 8 % 16 ≡ rm = omega arith in rw (e0, e1, e2, e3, e4) (grind (arith, nat_tests))
again (CmpHigh rd rm) n h s = let e : spelling (CmpHigh rd rm) ≡ n = cc in let e0 : n / 2048 ≡ 8 = omega arith in let e1 : n / 1024 % 2 ≡ 1 = omega arith in let e2 : n / 256 % 4 ≡ 1 = omega arith in let e3 : n / 128 % 2 * 8 + n % 8 ≡ rd = omega arith in let e4 : n / 8 % 16 ≡ rm = omega arith in rw (e0, e1, e2, e3, e4) (grind (arith, nat_tests))
again (MovHigh rd rm) n h s = let e : spelling (MovHigh rd rm) ≡ n = cc in let e0 : n / 2048 ≡ 8 = omega arith in let e1 : n / 1024 % 2 ≡ 1 = omega arith in let e2 : n / 256 % 4 ≡ 2 = omega arith in let e3 : n / 128 % 2 * 8 + n % 8 ≡ rd = omega arith in let e4 : n / 8 % 16 ≡ rm = omega arith in rw (e0, e1, e2, e3, e4) (refl)
again (Bx rm) n h s = let e : spelling (Bx rm) ≡ n = cc in let e0 : n / 2048 ≡ 8 = omega arith in let e1 : n / 1024 % 2 ≡ 1 = omega arith in let e2 : n / 256 % 4 ≡ 3 = omega arith in let e3 : n % 8 ≡ 0 = omega arith in let e4 : n / 8 % 16 ≡ rm = omega arith in let e5 : n / 128 % 2 ≡ 0 = omega arith in rw (e0, e1, e2, e3, e4, e5) (grind (arith, nat_tests))
again (Blx rm) n h s = let e : spelling (Blx rm) ≡ n = cc in let e0 : n / 2048 ≡ 8 = omega arith in let e1 : n / 1024 % 2 ≡ 1 = omega arith in let e2 : n / 256 % 4 ≡ 3 = omega arith in let e3 : n % 8 ≡ 0 = omega arith in let e4 : n / 8 % 16 ≡ rm = omega arith in let e5 : n / 128 % 2 ≡ 1 = omega arith in rw (e0, e1, e2, e3, e4, e5) (grind (arith, nat_tests))
again (AddSpImm imm) n h s = let e : spelling (AddSpImm imm) ≡ n = cc in let e0 : n / 2048 ≡ 22 = omega arith in let e1 : n / 256 % 16 ≡ 0 = omega arith in let e2 : n / 128 % 2 ≡ 0 = omega arith in let e3 : n % 128 ≡ imm = omega arith in rw (e0, e1, e2, e3) (refl)
again (SubSpImm imm) n h s = let e : spelling (SubSpImm imm) ≡ n = cc in let e0 : n / 2048 ≡ 22 = omega arith in let e1 : n / 256 % 16 ≡ 0 = omega arith in let e2 : n / 128 % 2 ≡ 1 = omega arith in let e3 : n % 128 ≡ imm = omega arith in rw (e0, e1, e2, e3) (refl)
again (Sxth rd rm) n h s = let e : spelling (Sxth rd rm) ≡ n = cc in let e0 : n / 2048 ≡ 22 = omega arith in let e1 : n / 256 % 16 ≡ 2 = omega arith in let e2 : n / 64 % 4 ≡ 0 = omega arith in let e3 : n % 8 ≡ rd = omega arith in let e4 : n / 8 % 8 ≡ rm = omega arith in rw (e0, e1, e2, e3, e4) (refl)
again (Sxtb rd rm) n h s = let e : spelling (Sxtb rd rm) ≡ n = cc in let e0 : n / 2048 ≡ 22 = omega arith in let e1 : n / 256 % 16 ≡ 2 = omega arith in let e2 : n / 64 % 4 ≡ 1 = omega arith in let e3 : n % 8 ≡ rd = omega arith in let e4 : n / 8 % 8 ≡ rm = omega arith in rw (e0, e1, e2, e3, e4) (refl)
again (Uxth rd rm) n h s = let e : spelling (Uxth rd rm) ≡ n = cc in let e0 : n / 2048 ≡ 22 = omega arith in let e1 : n / 256 % 16 ≡ 2 = omega arith in let e2 : n / 64 % 4 ≡ 2 = omega arith in let e3 : n % 8 ≡ rd = omega arith in let e4 : n / 8 % 8 ≡ rm = omega arith in rw (e0, e1, e2, e3, e4) (refl)
again (Uxtb rd rm) n h s = let e : spelling (Uxtb rd rm) ≡ n = cc in let e0 : n / 2048 ≡ 22 = omega arith in let e1 : n / 256 % 16 ≡ 2 = omega arith in let e2 : n / 64 % 4 ≡ 3 = omega arith in let e3 : n % 8 ≡ rd = omega arith in let e4 : n / 8 % 8 ≡ rm = omega arith in rw (e0, e1, e2, e3, e4) (refl)
again (Push list false) n h s = let e : spelling (Push list false) ≡ n = cc in let e0 : n / 2048 ≡ 22 = omega arith in let e1 : n / 256 % 16 ≡ 4 = omega arith in let e2 : n % 256 ≡ list = omega arith in rw (e0, e1, e2) (grind (arith, nat_tests))
again (Push list true) n h s = let e : spelling (Push list true) ≡ n = cc in let e0 : n / 2048 ≡ 22 = omega arith in let e1 : n / 256 % 16 ≡ 5 = omega arith in let e2 : n % 256 ≡ list = omega arith in rw (e0, e1, e2) (refl)
again (Pop list false) n h s = let e : spelling (Pop list false) ≡ n = cc in let e0 : n / 2048 ≡ 23 = omega arith in let e1 : n / 256 % 16 ≡ 12 = omega arith in let e2 : n % 256 ≡ list = omega arith in rw (e0, e1, e2) (grind (arith, nat_tests))
again (Pop list true) n h s = let e : spelling (Pop list true) ≡ n = cc in let e0 : n / 2048 ≡ 23 = omega arith in let e1 : n / 256 % 16 ≡ 13 = omega arith in let e2 : n % 256 ≡ list = omega arith in rw (e0, e1, e2) (refl)
again (Rev rd rm) n h s = let e : spelling (Rev rd rm) ≡ n = cc in let e0 : n / 2048 ≡ 23 = omega arith in let e1 : n / 256 % 16 ≡ 10 = omega arith in let e2 : n / 64 % 4 ≡ 0 = omega arith in let e3 : n % 8 ≡ rd = omega arith in let e4 : n / 8 % 8 ≡ rm = omega arith in rw (e0, e1, e2, e3, e4) (refl)
again (Rev16 rd rm) n h s = let e : spelling (Rev16 rd rm) ≡ n = cc in let e0 : n / 2048 ≡ 23 = omega arith in let e1 : n / 256 % 16 ≡ 10 = omega arith in let e2 : n / 64 % 4 ≡ 1 = omega arith in let e3 : n % 8 ≡ rd = omega arith in let e4 : n / 8 % 8 ≡ rm = omega arith in rw (e0, e1, e2, e3, e4) (refl)
again (Revsh rd rm) n h s = let e : spelling (Revsh rd rm) ≡ n = cc in let e0 : n / 2048 ≡ 23 = omega arith in let e1 : n / 256 % 16 ≡ 10 = omega arith in let e2 : n / 64 % 4 ≡ 3 = omega arith in let e3 : n % 8 ≡ rd = omega arith in let e4 : n / 8 % 8 ≡ rm = omega arith in rw (e0, e1, e2, e3, e4) (refl)
again (Bkpt imm) n h s = let e : spelling (Bkpt imm) ≡ n = cc in let e0 : n / 2048 ≡ 23 = omega arith in let e1 : n / 256 % 16 ≡ 14 = omega arith in let e2 : n % 256 ≡ imm = omega arith in rw (e0, e1, e2) (refl)
again Nop n h s = let e : spelling Nop ≡ n = cc in let e0 : n / 2048 ≡ 23 = omega arith in let e1 : n / 256 % 16 ≡ 15 = omega arith in let e2 : n % 16 ≡ 0 = omega arith in let e3 : n / 16 % 16 ≡ 0 = omega arith in rw (e0, e1, e2, e3) (refl)
again Yield n h s = let e : spelling Yield ≡ n = cc in let e0 : n / 2048 ≡ 23 = omega arith in let e1 : n / 256 % 16 ≡ 15 = omega arith in let e2 : n % 16 ≡ 0 = omega arith in let e3 : n / 16 % 16 ≡ 1 = omega arith in rw (e0, e1, e2, e3) (refl)
again Wfe n h s = let e : spelling Wfe ≡ n = cc in let e0 : n / 2048 ≡ 23 = omega arith in let e1 : n / 256 % 16 ≡ 15 = omega arith in let e2 : n % 16 ≡ 0 = omega arith in let e3 : n / 16 % 16 ≡ 2 = omega arith in rw (e0, e1, e2, e3) (refl)
again Wfi n h s = let e : spelling Wfi ≡ n = cc in let e0 : n / 2048 ≡ 23 = omega arith in let e1 : n / 256 % 16 ≡ 15 = omega arith in let e2 : n % 16 ≡ 0 = omega arith in let e3 : n / 16 % 16 ≡ 3 = omega arith in rw (e0, e1, e2, e3) (refl)
again Sev n h s = let e : spelling Sev ≡ n = cc in let e0 : n / 2048 ≡ 23 = omega arith in let e1 : n / 256 % 16 ≡ 15 = omega arith in let e2 : n % 16 ≡ 0 = omega arith in let e3 : n / 16 % 16 ≡ 4 = omega arith in rw (e0, e1, e2, e3) (refl)
again (Stm rn list) n h s = let e : spelling (Stm rn list) ≡ n = cc in let e0 : n / 2048 ≡ 24 = omega arith in let e1 : n / 2048 % 2 ≡ 0 = omega arith in let e2 : n / 256 % 8 ≡ rn = omega arith in let e3 : n % 256 ≡ list = omega arith in rw (e0, e1, e2, e3) (stm rn list h.1.0 h.1.1)
again (Ldm rn list) n h s = let e : spelling (Ldm rn list) ≡ n = cc in let e0 : n / 2048 ≡ 25 = omega arith in let e1 : n / 2048 % 2 ≡ 1 = omega arith in let e2 : n / 256 % 8 ≡ rn = omega arith in let e3 : n % 256 ≡ list = omega arith in rw (e0, e1, e2, e3) (grind (arith, nat_tests))
again (BCond cond offset) n h s = let e : spelling (BCond cond offset) ≡ n = cc in let o = back9 offset (n % 256) h.1.1 (omega arith) in let c : n / 256 % 16 ≡ cond = omega arith in conditional_branch_again n cond offset h.1.0 (omega arith) c o
again (Udf imm) n h s = let e : spelling (Udf imm) ≡ n = cc in let e0 : n / 2048 ≡ 27 = omega arith in let e1 : n / 256 % 16 ≡ 14 = omega arith in let e2 : n % 256 ≡ imm = omega arith in rw (e0, e1, e2) (refl)
again (Svc imm) n h s = let e : spelling (Svc imm) ≡ n = cc in let e0 : n / 2048 ≡ 27 = omega arith in let e1 : n / 256 % 16 ≡ 15 = omega arith in let e2 : n % 256 ≡ imm = omega arith in rw (e0, e1, e2) (refl)
again (B offset) n h s = let e : spelling (B offset) ≡ n = cc in let o = back12 offset (n % 2048) h.1 (omega arith) in let e0 : n / 2048 ≡ 28 = omega arith in rw e0 (ap (λ z. Some (B z)) o)
again (Bl offset) n h s = cc

-- which halfwords a spelling can be
pub one_or_two : (h : Half) (f s : ℕ) → IsSpelling h f s → (h ≡ One f) ⊎ (h ≡ Two f s)
one_or_two (One a) f s e = inl (ap One e)
one_or_two (Two a b) f s e = inr cc

long_again : (i : Instr) (f s : ℕ) → Fits i → half i ≡ Two f s → two_halfwords f s ≡ Some i
long_again (Bl z) f s h e = again_long z f s h e
long_again _ f s h e = cc

pub starts_long : (i : Instr) (f s : ℕ) → Fits i → half i ≡ Two f s → 28 < f / 2048
starts_long (Bl z) f s h e = let q : spelling (Bl z) / 65536 ≡ f = cc in omega arith
starts_long _ f s h e = cc

pub starts_short : (i : Instr) (f : ℕ) → Fits i → half i ≡ One f → f / 2048 < 29
starts_short (Bl z) f h e = cc
starts_short i f h e = let q : spelling i ≡ f = cc in omega arith

pub narrow_only : (i : Instr) (f s : ℕ) → f / 2048 < 29 → Fits i → IsSpelling (half i) f s → reading f ≡ Some i
narrow_only i f s p h e = elim (one_or_two (half i) f s e) [ inl q ↦ again i f h q | inr q ↦ absurd (omega (arith, starts_long i f s h q)) ]

pub wide_only : (i : Instr) (f s : ℕ) → 28 < f / 2048 → Fits i → IsSpelling (half i) f s → two_halfwords f s ≡ Some i
wide_only i f s p h e = elim (one_or_two (half i) f s e) [ inl q ↦ absurd (omega (arith, starts_short i f h q)) | inr q ↦ long_again i f s h q ]
