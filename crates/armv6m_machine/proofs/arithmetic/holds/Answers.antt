use Rattle.std.proofs.Common.{arith, ◌%◌, ◌∙◌}
use Rattle.armv6m_machine.proofs.Flags.{of_four}
use Rattle.armv6m_machine.proofs.arithmetic.holds.Goals as goal

pub returns : goal.returns
returns c = c.flags_for.ensures (c.args.flags % 16) (omega arith) ∙ of_four c.args.flags c.args.cond
