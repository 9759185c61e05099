use Rattle.std.proofs.Common.{◌≡◌, ◌+◌, ◌*◌, ◌-◌}
use Rattle.thumb_code.specs.Memory.{first_fault}
use Rattle.thumb_code.specs.Forms.{word_accesses}
use Rattle.armv6m_machine.proofs.transfers.check_words.Given as goal

-- the first fault is that of the words that are left
abbrev pub invariant-loop-i : goal.invariant-loop-i
invariant-loop-i g l = first_fault g.M.Memory.memory l.memory l.store (word_accesses (l.at + 4 * l.i) (l.count - l.i)) ≡ first_fault g.M.Memory.memory l.memory l.store (word_accesses l.at l.count)
