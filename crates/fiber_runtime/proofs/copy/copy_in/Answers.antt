use Rattle.std.proofs.Common.{◌≡◌, Option, IfSome, ℕ, ◌+◌, ◌-◌, ◌/◌, ◌<◌, subst, ap, sym, ◌∙◌, length, arith}
use Rattle.std.proofs.lemmas.Bool.Decides.{nat_tests}
use Rattle.thumb_code.specs.declared.register_file.Registers.{Registers}
use Rattle.thumb_code.specs.Machine.{State as Machine}
use Rattle.fiber_pool.specs.Kept.{Kept}
use Rattle.fiber_runtime.specs.State.{ReachesBase}
use Rattle.fiber_runtime.proofs.Copied.{holds_copied}
use Rattle.fiber_runtime.proofs.copy.copy_in.Goals.{then-words-eq0, else-words-eq0}
use Rattle.fiber_runtime.proofs.copy.copy_in.Goals as goal

pub returns : goal.returns
returns c = λ k g.
    let kept = subst (λ (o : Option Kept). IfSome o (λ j. c.kept-base.result ≡ (j.registers, j.base))) g c.kept-base.ensures in
    let count = subst (λ (o : Option Kept). IfSome o (λ j. c.words-words.result ≡ length j.words)) g c.words-words.ensures.length in
    let words = subst (λ (o : Option Kept). IfSome o (λ j. c.restore.new.into ≡ j.words)) g c.restore.ensures in
    let registers : c.kept-base.result.0 ≡ k.registers = ap (λ (p : Registers × ℕ). p.0) kept in
    let base : c.kept-base.result.1 ≡ k.base = ap (λ (p : Registers × ℕ). p.1) kept in
    let from = c.if-words-eq0.from in
    let n = c.words-words.result in
    let placed : 0 < n → from ≡ (k.registers.sp - 536883200) / 4 = λ l. (elim c.if-words-eq0.branch [
      | then-words-eq0 w ↦ absurd (let e = w.if-words-eq0.true in grind (arith, nat_tests, e, l))
      | else-words-eq0 w ↦ w.from-is ∙ ap (λ (r : Registers). (r.sp - 536883200) / 4) registers
    ]) in
    let none : n ≡ 0 → from ≡ 0 = λ l. (elim c.if-words-eq0.branch [
      | then-words-eq0 w ↦ w.from-is
      | else-words-eq0 w ↦ absurd (let e = w.if-words-eq0.false in grind (arith, nat_tests, e, l))
    ]) in
    let m : from + n - from ≡ n = omega arith in
    holds_copied k c.args.machine.now c.set_base.new.self c.kept-base.result.0 c.kept-base.result.1 c.stack_mut-stack.result.now c.restore.new.into from n _
    (subst (λ (o : Option Kept). IfSome o ReachesBase) g c.requires.fits) (ap length (sym c.stack_mut-stack.ensures.value) ∙ c.stack_mut-stack.ensures.size) c.stack_mut-stack.ensures.value words registers base count m placed none
    (c.set_base.ensures ∙ ap (λ (v : Machine). record v { memory = record v.memory { base = c.kept-base.result.1 } }) c.set_registers.ensures)
