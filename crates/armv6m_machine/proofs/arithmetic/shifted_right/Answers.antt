use Rattle.std.proofs.Common.{sym, arith}
use Rattle.armv6m_machine.proofs.Shifts.{lsr_far_value, lsr_far_carry}
use Rattle.armv6m_machine.proofs.arithmetic.shifted_right.Goals as goal

pub returns-then-n-gt32-clause-value : goal.returns-then-n-gt32-clause-value
returns-then-n-gt32-clause-value c = sym (lsr_far_value c.args.v c.args.n (omega arith) c.if-n-gt32.true)

pub returns-then-n-gt32-clause-carry : goal.returns-then-n-gt32-clause-carry
returns-then-n-gt32-clause-carry c = sym (lsr_far_carry c.args.v c.args.n (omega arith) c.if-n-gt32.true)
