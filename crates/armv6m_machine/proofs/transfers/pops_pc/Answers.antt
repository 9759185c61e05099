use Rattle.std.proofs.Common.{◌∙◌, sym, arith, length}
use Rattle.std.proofs.lemmas.Bool.Decides.{nat_tests}
use Rattle.thumb_code.specs.RegisterFile.{listed}
use Rattle.thumb_code.specs.Forms.{word_accesses}
use Rattle.armv6m_machine.proofs.ManyWords.{pop_pc_not_thumb, pop_pc_done, more_free, loads_keep}
use Rattle.armv6m_machine.proofs.transfers.pops_pc.Goals as goal

pub fill-requires : goal.fill-requires
fill-requires g c = rw (← c.count-n.ensures.value) (more_free g.M.Memory.memory c.args.memory.now _ _ c.count-n.result c.in_default.ensures).0

pub load-to-requires-clause-free : goal.load-to-requires-clause-free
load-to-requires-clause-free g c =
    rw c.fill.ensures.memory
    (loads_keep g.M.Memory.memory g.met.M.Memory.load_keeps (word_accesses c.args.registers.now.sp (length (listed c.args.list))) c.args.memory.now _ _
    ∙ (more_free g.M.Memory.memory c.args.memory.now _ _ c.count-n.result c.in_default.ensures).1)

pub returns-then-to-eq0-clause-row : goal.returns-then-to-eq0-clause-row
returns-then-to-eq0-clause-row g c =
    pop_pc_not_thumb g.M.Memory.memory c.args.memory.now c.args.next c.args.registers.now (listed c.args.list) c.count-n.result c.fill.new.registers c.fill.new.memory c.load-to.result c.load-to.new.self
    (record { count = c.count-n.ensures.value; registers = c.fill.ensures.registers; between = c.fill.ensures.memory; word = c.load-to.ensures.value; behind = c.load-to.ensures.after })
    (sym c.if-not-stack_in_range.ensures) c.in_default.ensures (grind (arith, nat_tests))

pub returns-clause-row : goal.returns-clause-row
returns-clause-row g c =
    pop_pc_done g.M.Memory.memory c.args.memory.now c.args.next c.args.registers.now (listed c.args.list) c.count-n.result c.fill.new.registers c.fill.new.memory c.load-to.result c.load-to.new.self
    (record { count = c.count-n.ensures.value; registers = c.fill.ensures.registers; between = c.fill.ensures.memory; word = c.load-to.ensures.value; behind = c.load-to.ensures.after })
    (sym c.if-not-stack_in_range.ensures) c.in_default.ensures (grind (arith, nat_tests))
