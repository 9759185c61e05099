use Rattle.std.proofs.Common.{◌<◌}
use Rattle.armv6m_machine.specs.Stretches.{GoOn}
use Rattle.armv6m_machine.proofs.machine.Machine.go.Given as goal

-- so many instructions went on, and one more may come
abbrev pub invariant-loop-before : goal.invariant-loop-before
invariant-loop-before l = GoOn l.before l.fn.self l.self × (l.before < l.most) × (l.fn.self.registers.flags < 16 → l.self.registers.flags < 16)
