use Rattle.std.proofs.Common.{sym}
use Rattle.armv6m_machine.proofs.Shifts.{lsl_far_value, lsl_far_carry}
use Rattle.armv6m_machine.proofs.arithmetic.shifted_left.Goals as goal

pub returns-then-n-gt32-clause-value : goal.returns-then-n-gt32-clause-value
returns-then-n-gt32-clause-value c = sym (lsl_far_value c.args.v c.args.n c.if-n-gt32.true)

pub returns-then-n-gt32-clause-carry : goal.returns-then-n-gt32-clause-carry
returns-then-n-gt32-clause-carry c = sym (lsl_far_carry c.args.v c.args.n c.if-n-gt32.true)
