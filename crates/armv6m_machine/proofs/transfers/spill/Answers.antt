use Rattle.std.proofs.Common.{arith, ◌≡◌, ◌%◌, refl, sym, ap, ◌∙◌}
use Rattle.thumb_code.specs.Memory.{store_all}
use Rattle.thumb_code.specs.Forms.{words_to}
use Rattle.thumb_code.specs.RegisterFile.{word, values}
use Rattle.armv6m_machine.proofs.Lists.{listed_is, left_even, left_end, spill_odd}
use Rattle.armv6m_machine.proofs.transfers.spill.Goals.{then-rest-eq1, else-rest-eq1}
use Rattle.armv6m_machine.proofs.transfers.spill.Goals as goal

pub loop-k-init : goal.loop-k-init
loop-k-init g c = record {
  same = ap (λ ks. store_all g.M.Memory.memory c.args.memory.now (words_to c.args.from (values c.args.registers.now ks))) (sym (listed_is c.args.list));
  free = rw (listed_is c.args.list) at c.requires;
}

pub store-requires-clause-free : goal.store-requires-clause-free
store-requires-clause-free g c =
    let f : word c.loop-k.at ≡ c.loop-k.at = omega arith in
    let p = (spill_odd g.M.Memory.memory c.args.registers.now c.loop-k.memory _ c.loop-k.at _ c.loop-k.k c.loop-k.rest _ (g.met.M.Memory.store_keeps c.loop-k.memory) (omega arith) c.if-rest-eq1.true c.loop-k.invariant.same c.loop-k.invariant.free refl refl).0 in
    rw f at p

pub loop-k-preserved : goal.loop-k-preserved
loop-k-preserved g c = elim c.if-rest-eq1.branch [
  | then-rest-eq1 w ↦
      let f : word c.loop-k.at ≡ c.loop-k.at = omega arith in
      let p = spill_odd g.M.Memory.memory c.args.registers.now c.loop-k.memory c.if-rest-eq1.memory c.loop-k.at c.if-rest-eq1.at c.loop-k.k c.loop-k.rest _
      (g.met.M.Memory.store_keeps c.loop-k.memory) (omega arith) w.if-rest-eq1.true c.loop-k.invariant.same c.loop-k.invariant.free
      (w.memory-is ∙ rw f w.store.ensures.after) w.at-is in
      record { same = p.1; free = p.2 }
  | else-rest-eq1 w ↦
      let z : c.loop-k.rest % 2 ≡ 0 = omega (arith, w.if-rest-eq1.false) in
      let e = left_even c.loop-k.k c.loop-k.rest (omega arith) z in
      record { same = rw (w.memory-is, w.at-is, ← e) c.loop-k.invariant.same; free = rw (w.memory-is, w.at-is, ← e) c.loop-k.invariant.free }
]

pub returns : goal.returns
returns g c =
    let e = left_end c.loop-k.k c.loop-k.rest (omega arith) in
    rw e at c.loop-k.invariant.same
