use Rattle.std.proofs.Common.{sym}
use Rattle.thumb_code.specs.RegisterFile.{listed}
use Rattle.armv6m_machine.proofs.ManyWords.{stores_fault, stores_done}
use Rattle.armv6m_machine.proofs.transfers.stores_many.Goals as goal

pub returns-in-Some-clause-row : goal.returns-in-Some-clause-row
returns-in-Some-clause-row g c =
    stores_fault g.M.Memory.memory c.args.memory.now c.args.next c.args.registers.now c.args.rn (listed c.args.list) c.count-n.result c.in-Some.fault c.count-n.ensures.value (sym c.if-not-stack_in_range.ensures) c.in-Some.ensures

pub returns-clause-row : goal.returns-clause-row
returns-clause-row g c =
    stores_done g.M.Memory.memory c.args.memory.now c.args.next c.args.registers.now c.args.rn (listed c.args.list) c.count-n.result c.spill.new.memory c.count-n.ensures.value (sym c.if-not-stack_in_range.ensures) c.in_default.ensures c.spill.ensures
