-- A step of the machine as the turn of the fiber that stands on it.
use Rattle.std.proofs.Common.{◌≡◌, ℕ, zero, suc, List, ◌++◌, length, true, refl, sym, ap, ◌∙◌, arith}
use Rattle.thumb_code.specs.declared.register_file.Registers.{Registers}
use Rattle.thumb_code.specs.Map.{is_base}
use Rattle.thumb_code.specs.Step.{Stepped, On, Served, Faulted}
use Rattle.thumb_code.specs.Machine.{State, step, Ram}
use Rattle.bank_model.specs.Bank.{Bank, bank_step}
use Rattle.bank_model.specs.BoardMachine.{turn_of}
use Rattle.bank_model.specs.Standing.{words_in, IsInside, Stands, turn_from, StepKeepsAbove, StandsAfter, IsItsTurn, FollowsStep, AgreesWithBank}
use Rattle.bank_model.proofs.OneStep.{step_follows}
use Rattle.bank_model.proofs.AboveBase.{IsBase, base_good, step_keeps}
use Rattle.bank_model.proofs.OnStack.{bank_on, bank_shows, shown_bank, shown_inside}

-- Who stands is inside, where the base is one.
stands_inside : (s : State) → Stands s → IsBase s.memory.base → IsInside s.registers.sp s.memory.base
stands_inside s f b = by_size (length (words_in s.memory.stack s.registers.sp s.memory.base)) refl
  where
    by_size : (n : ℕ) → length (words_in s.memory.stack s.registers.sp s.memory.base) ≡ n → IsInside s.registers.sp s.memory.base
    by_size zero e = record { sp_aligned = omega (arith, f.spans.span, e, b.aligned); aligned = b.aligned; low = omega (arith, f.spans.span, e, b.low); within = omega (arith, f.spans.span, e); high = b.high }
    by_size (suc n) e = f.spans.inside (omega (arith, e))

pub stands_agrees : (image : List ℕ) (s : State) → s.memory.flash ≡ image → Stands s → AgreesWithBank image s.registers.sp s.memory (bank_on s.memory s.registers.sp)
stands_agrees image s e f = record {
  flash = e;
  bank_flash = e;
  base = refl;
  shows = λ b. bank_shows s.memory s.registers.sp (stands_inside s f (base_good s.memory.base b)) f.size;
}

module _ (image : List ℕ) (used : ℕ) (s : State) where
  shown : (r : Registers) (u : Ram) (v : Bank) → StepKeepsAbove s.memory (On r u) → AgreesWithBank image r.sp u v → (v ≡ bank_on u r.sp) × IsInside r.sp u.base
  shown r u v k a =
      let base : is_base u.base ≡ true = ap is_base k.0.base ∙ k.1 in
      let h = a.shows base in
      (shown_bank u r.sp v h, shown_inside u r.sp v h)

  by_step : (x : Stepped Ram) (g : List ℕ → Stepped (Bank × List ℕ)) → StepKeepsAbove s.memory x → FollowsStep (AgreesWithBank image) x g
      → ((rest : List ℕ) → turn_of image used s.registers.pc (g rest) ≡ turn_from image used s.registers.pc x rest) × StandsAfter x
  by_step (On r u) g k (v, a, q) =
      let h = shown r u v k a in
      (λ rest. ap (turn_of image used s.registers.pc) (q rest) ∙ ap (λ w. turn_of image used s.registers.pc (On r (w, rest))) h.0, h.1)
  by_step (Served number r u) g k (v, a, q) =
      let h = shown r u v k a in
      (λ rest. ap (turn_of image used s.registers.pc) (q rest) ∙ ap (λ w. turn_of image used s.registers.pc (Served number r (w, rest))) h.0, h.1)
  by_step (Faulted kind address) g k q = (λ rest. ap (turn_of image used s.registers.pc) (q rest), tt)

  pub is_its_turn : s.memory.flash ≡ image → Stands s → IsItsTurn image used s
  is_its_turn e f =
      let b = bank_on s.memory s.registers.sp in
      let p = step_follows image s b (stands_agrees image s e f) in
      let same = λ (rest : List ℕ). ap (λ flash. turn_of image used s.registers.pc (bank_step s.registers (record { flash = flash; globals = s.memory.globals; arena = s.memory.arena; base = s.memory.base; words = words_in s.memory.stack s.registers.sp s.memory.base }, p.0 ++ rest))) (sym e) in
      let c = by_step (step s) (λ rest. bank_step s.registers (b, p.0 ++ rest)) (step_keeps s) p.1 in
      record { taken = p.0; turn = λ rest. same rest ∙ c.0 rest; after = c.1 }
