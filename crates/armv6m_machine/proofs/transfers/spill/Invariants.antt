use Rattle.std.proofs.Common.{◌≡◌, length, None, true}
use Rattle.thumb_code.specs.Memory.{first_fault, store_all}
use Rattle.thumb_code.specs.Forms.{word_accesses, words_to}
use Rattle.thumb_code.specs.RegisterFile.{values, listed}
use Rattle.armv6m_machine.proofs.Lists.{left}
use Rattle.armv6m_machine.proofs.transfers.spill.Given as goal

abbrev pub invariant-loop-k : goal.invariant-loop-k
invariant-loop-k g l = record {
  same : store_all g.M.Memory.memory l.memory (words_to l.at (values l.registers (left l.k l.rest))) ≡ store_all g.M.Memory.memory l.initial.memory (words_to l.from (values l.registers (listed l.list)));
  free : first_fault g.M.Memory.memory l.memory true (word_accesses l.at (length (left l.k l.rest))) ≡ None;
}
