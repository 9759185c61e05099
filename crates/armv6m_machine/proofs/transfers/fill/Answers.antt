use Rattle.std.proofs.Common.{arith, ◌≡◌, ◌%◌, refl, sym, ap, ◌∙◌, ℕ, List}
use Rattle.armv6m_machine.specs.Transfers.{loaded}
use Rattle.thumb_code.specs.RegisterFile.{word}
use Rattle.thumb_code.specs.declared.register_file.Registers.{Registers}
use Rattle.armv6m_machine.proofs.Lists.{listed_is, free_odd, step_odd, step_even, loaded_end}
use Rattle.armv6m_machine.proofs.transfers.fill.Goals.{then-rest-eq1, else-rest-eq1}
use Rattle.armv6m_machine.proofs.transfers.fill.Goals as goal

abbrev with_r : Registers → List ℕ → Registers
with_r s r = record s { r = r }

others_kept : (q q' q0 : Registers) (x : List ℕ) → q' ≡ with_r q x → q ≡ with_r q0 q.r → q' ≡ with_r q0 q'.r
others_kept q q' q0 x e1 e2 = let r : q'.r ≡ x = ap (λ (z : Registers). z.r) e1 in e1 ∙ ap (λ z. with_r z x) e2 ∙ ap (λ y. with_r q0 y) (sym r)

pub loop-k-init : goal.loop-k-init
loop-k-init g c = record {
  others = refl;
  same = ap (λ ks. loaded g.M.Memory.memory c.args.registers.now.r c.args.memory.now c.args.from ks) (sym (listed_is c.args.list));
  free = rw (listed_is c.args.list) at c.requires;
}

pub load-requires-clause-free : goal.load-requires-clause-free
load-requires-clause-free g c =
    let f : word c.loop-k.at ≡ c.loop-k.at = omega arith in
    let p = (free_odd g.M.Memory.memory c.loop-k.memory c.loop-k.at c.loop-k.k c.loop-k.rest (g.met.M.Memory.load_keeps c.loop-k.memory) (omega arith) c.if-rest-eq1.true c.loop-k.invariant.free).0 in
    rw f at p

pub loop-k-preserved : goal.loop-k-preserved
loop-k-preserved g c = elim c.if-rest-eq1.branch [
  | then-rest-eq1 w ↦
      let f : word c.loop-k.at ≡ c.loop-k.at = omega arith in
      let p = step_odd g.M.Memory.memory c.loop-k.registers.r c.if-rest-eq1.registers.r c.loop-k.memory c.if-rest-eq1.memory c.loop-k.at c.if-rest-eq1.at c.loop-k.k c.loop-k.rest w.load.result _
      (g.met.M.Memory.load_keeps c.loop-k.memory) (omega arith) w.if-rest-eq1.true c.loop-k.invariant.same c.loop-k.invariant.free
      (rw f w.load.ensures.value) (ap (λ (q : Registers). q.r) w.registers-is) (w.memory-is ∙ rw f w.load.ensures.after) w.at-is in
      record { others = others_kept c.loop-k.registers c.if-rest-eq1.registers c.args.registers.now _ w.registers-is c.loop-k.invariant.others; same = p.0; free = p.1 }
  | else-rest-eq1 w ↦
      let z : c.loop-k.rest % 2 ≡ 0 = omega (arith, w.if-rest-eq1.false) in
      let p = step_even g.M.Memory.memory c.loop-k.registers.r c.loop-k.memory c.loop-k.at c.loop-k.k c.loop-k.rest _ (omega arith) z c.loop-k.invariant.same c.loop-k.invariant.free in
      record { others = others_kept c.loop-k.registers c.if-rest-eq1.registers c.args.registers.now c.loop-k.registers.r w.registers-is c.loop-k.invariant.others; same = rw (w.memory-is, w.registers-is, w.at-is) p.0; free = rw (w.memory-is, w.at-is) p.1 }
]

pub returns-clause-registers : goal.returns-clause-registers
returns-clause-registers g c =
    let e = loaded_end g.M.Memory.memory c.loop-k.registers.r c.loop-k.memory c.loop-k.at c.loop-k.k c.loop-k.rest (omega arith) in
    let s = sym e ∙ c.loop-k.invariant.same in
    c.loop-k.invariant.others ∙ ap (λ (q : List ℕ × _). with_r c.args.registers.now q.0) s

pub returns-clause-memory : goal.returns-clause-memory
returns-clause-memory g c =
    let e = loaded_end g.M.Memory.memory c.loop-k.registers.r c.loop-k.memory c.loop-k.at c.loop-k.k c.loop-k.rest (omega arith) in
    ap (λ (q : List ℕ × _). q.1) (sym e ∙ c.loop-k.invariant.same)
