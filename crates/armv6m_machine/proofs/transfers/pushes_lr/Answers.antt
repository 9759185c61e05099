use Rattle.std.proofs.Common.{◌∙◌, ◌+◌, sym, ◌++◌, ◌∷◌, []}
use Rattle.thumb_code.specs.RegisterFile.{values, listed}
use Rattle.thumb_code.specs.Forms.{words_to}
use Rattle.armv6m_machine.proofs.Lists.{length_values}
use Rattle.armv6m_machine.proofs.ManyWords.{push_range, push_fault, push_done, one_more, more_free, more_stored, stores_keep}
use Rattle.armv6m_machine.proofs.transfers.pushes_lr.Goals as goal

pub returns-then-not-stack_in_range-clause-row : goal.returns-then-not-stack_in_range-clause-row
returns-then-not-stack_in_range-clause-row g c =
    push_range g.M.Memory.memory c.args.memory.now c.args.next c.args.registers.now _ (c.count-n.result + 1) (one_more c.args.registers.now (listed c.args.list) c.args.registers.now.lr c.count-n.result c.count-n.ensures.value) (sym c.if-not-stack_in_range.ensures)

pub returns-in-Some-clause-row : goal.returns-in-Some-clause-row
returns-in-Some-clause-row g c =
    push_fault g.M.Memory.memory c.args.memory.now c.args.next c.args.registers.now _ (c.count-n.result + 1) c.in-Some.fault (one_more c.args.registers.now (listed c.args.list) c.args.registers.now.lr c.count-n.result c.count-n.ensures.value) (sym c.if-not-stack_in_range.ensures) c.in-Some.ensures

pub spill-requires : goal.spill-requires
spill-requires g c = rw (← c.count-n.ensures.value) (more_free g.M.Memory.memory c.args.memory.now _ _ c.count-n.result c.in_default.ensures).0

pub store-requires-clause-free : goal.store-requires-clause-free
store-requires-clause-free g c =
    rw c.spill.ensures (stores_keep g.M.Memory.memory g.met.M.Memory.store_keeps (words_to _ (values c.args.registers.now (listed c.args.list))) c.args.memory.now _ _ ∙ (more_free g.M.Memory.memory c.args.memory.now _ _ c.count-n.result c.in_default.ensures).1)

pub returns-clause-row : goal.returns-clause-row
returns-clause-row g c =
    push_done g.M.Memory.memory c.args.memory.now c.args.next c.args.registers.now (values c.args.registers.now (listed c.args.list) ++ c.args.registers.now.lr ∷ []) (c.count-n.result + 1) c.store.new.self
    (one_more c.args.registers.now (listed c.args.list) c.args.registers.now.lr c.count-n.result c.count-n.ensures.value) (sym c.if-not-stack_in_range.ensures) c.in_default.ensures
    (more_stored g.M.Memory.memory c.args.memory.now c.spill.new.memory c.store.new.self _ c.args.registers.now.lr c.count-n.result (values c.args.registers.now (listed c.args.list)) (c.count-n.ensures.value ∙ sym (length_values c.args.registers.now (listed c.args.list))) c.spill.ensures c.store.ensures.after)
