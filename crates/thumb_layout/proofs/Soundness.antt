-- Sound instructions do the same wherever they stand.
use Rattle.std.proofs.Common.{◌≡◌, ℕ, ◌+◌, ◌<◌, Bool, true, false, ◌||◌, nat_lt, refl, ap, ◌∙◌, arith, ◌==◌}
use Rattle.std.proofs.lemmas.Bool.Decides.{nat_tests}
use Rattle.thumb_code.specs.declared.instructions.Instr.{Instr}
use Rattle.thumb_code.specs.declared.instructions.Instr.TheVariants.{AddHigh, CmpHigh, MovHigh, Bx, Blx, LdrPc, Adr, BCond, B, Bl}
use Rattle.thumb_code.specs.declared.register_file.Registers.{Registers}
use Rattle.thumb_code.specs.RegisterFile.{reg, word}
use Rattle.thumb_code.specs.Table.{Fits}
use Rattle.thumb_code.specs.Effect.{moves, compares, ends, jumps}
use Rattle.thumb_layout.specs.Soundness.{is_bound_to_place}
use Rattle.thumb_layout.specs.Holds.{IgnoresPc}

-- a register that isn't PC is read the same
reg_by : (s : Registers) (pc k : ℕ) (a b c : Bool) → nat_lt k 13 ≡ a → (k == 13) ≡ b → (k == 14) ≡ c → k < 16 → (k == 15) ≡ false → reg (record s { pc = pc }) k ≡ reg s k
reg_by s pc k true b c e f g l n = rw e refl
reg_by s pc k false true c e f g l n = rw e (rw f refl)
reg_by s pc k false false true e f g l n = rw e (rw f (rw g refl))
reg_by s pc k false false false e f g l n = absurd (grind (arith, nat_tests))

reg_same : (s : Registers) (pc k : ℕ) → k < 16 → (k == 15) ≡ false → reg (record s { pc = pc }) k ≡ reg s k
reg_same s pc k = reg_by s pc k (nat_lt k 13) (k == 13) (k == 14) refl refl refl

left_false : (a b : Bool) → (a || b) ≡ false → a ≡ false
left_false true b e = e
left_false false b e = refl

right_false : (a b : Bool) → (a || b) ≡ false → b ≡ false
right_false true b e = absurd cc
right_false false b e = e

pub sound_ignores : (x : Instr) → Fits x → is_bound_to_place x ≡ false → IgnoresPc x
sound_ignores (BCond c o) f e = absurd cc
sound_ignores (B o) f e = absurd cc
sound_ignores (Bl o) f e = absurd cc
sound_ignores (LdrPc rt imm) f e = absurd cc
sound_ignores (Adr rd imm) f e = absurd cc
sound_ignores (AddHigh rd rm) f e = λ next pc s.
    let p = (f.0).1 in let d = p.0 in let m = (p.1).0 in
    let a = reg_same s pc rd (omega arith) (left_false (rd == 15) (rm == 15) e) in
    let b = reg_same s pc rm (omega arith) (right_false (rd == 15) (rm == 15) e) in
    ap (λ v. moves next s rd (word v)) (ap (λ v. v + reg (record s { pc = pc }) rm) a ∙ ap (λ v. reg s rd + v) b)
sound_ignores (CmpHigh rd rm) f e = λ next pc s.
    let p = (f.0).1 in let d = p.0 in let m = (p.1).0 in
    let a = reg_same s pc rd (omega arith) (left_false (rd == 15) (rm == 15) e) in
    let b = reg_same s pc rm (omega arith) (right_false (rd == 15) (rm == 15) e) in
    ap (λ v. compares next s v (reg (record s { pc = pc }) rm)) a ∙ ap (λ v. compares next s (reg s rd) v) b
sound_ignores (MovHigh rd rm) f e = λ next pc s. let p = (f.0).1 in let m = (p.1).0 in ap (moves next s rd) (reg_same s pc rm (omega arith) e)
sound_ignores (Bx rm) f e = λ next pc s. let m = f.1 in ap (λ v. ends s.sp (jumps s v)) (reg_same s pc rm (omega arith) (grind (arith, nat_tests)))
sound_ignores (Blx rm) f e = λ next pc s. let m = f.1 in
    let t : Registers = record s { lr = word (next + 1) } in
    ap (λ v. ends s.sp (jumps t v)) (reg_same s pc rm (omega arith) (grind (arith, nat_tests)))
sound_ignores x f e = λ next pc s. refl
