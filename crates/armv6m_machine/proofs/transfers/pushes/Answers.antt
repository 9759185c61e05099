use Rattle.std.proofs.Common.{◌∙◌, sym}
use Rattle.thumb_code.specs.RegisterFile.{listed}
use Rattle.armv6m_machine.proofs.Lists.{length_values}
use Rattle.armv6m_machine.proofs.ManyWords.{push_range, push_fault, push_done}
use Rattle.armv6m_machine.proofs.transfers.pushes.Goals as goal

pub returns-then-not-stack_in_range-clause-row : goal.returns-then-not-stack_in_range-clause-row
returns-then-not-stack_in_range-clause-row g c =
    let n = c.count-n.ensures.value ∙ sym (length_values c.args.registers.now (listed c.args.list)) in
    push_range g.M.Memory.memory c.args.memory.now c.args.next c.args.registers.now _ c.count-n.result n (sym (c.if-not-stack_in_range.ensures))

pub returns-in-Some-clause-row : goal.returns-in-Some-clause-row
returns-in-Some-clause-row g c =
    let n = c.count-n.ensures.value ∙ sym (length_values c.args.registers.now (listed c.args.list)) in
    push_fault g.M.Memory.memory c.args.memory.now c.args.next c.args.registers.now _ c.count-n.result c.in-Some.fault n (sym (c.if-not-stack_in_range.ensures)) (c.in-Some.ensures)

pub returns-clause-row : goal.returns-clause-row
returns-clause-row g c =
    let n = c.count-n.ensures.value ∙ sym (length_values c.args.registers.now (listed c.args.list)) in
    push_done g.M.Memory.memory c.args.memory.now c.args.next c.args.registers.now _ c.count-n.result c.spill.new.memory n (sym (c.if-not-stack_in_range.ensures)) (c.in_default.ensures) c.spill.ensures
