use Rattle.std.proofs.Common.{◌≡◌, length, None, false}
use Rattle.thumb_code.specs.Memory.{first_fault}
use Rattle.armv6m_machine.specs.Transfers.{loaded}
use Rattle.thumb_code.specs.Forms.{word_accesses}
use Rattle.thumb_code.specs.RegisterFile.{listed}
use Rattle.armv6m_machine.proofs.Lists.{left}
use Rattle.armv6m_machine.proofs.transfers.fill.Given as goal

abbrev pub invariant-loop-k : goal.invariant-loop-k
invariant-loop-k g l = record {
  others : l.registers ≡ record l.initial.registers { r = l.registers.r };
  same : loaded g.M.Memory.memory l.registers.r l.memory l.at (left l.k l.rest) ≡ loaded g.M.Memory.memory l.initial.registers.r l.initial.memory l.from (listed l.list);
  free : first_fault g.M.Memory.memory l.memory false (word_accesses l.at (length (left l.k l.rest))) ≡ None;
}
