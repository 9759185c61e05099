use Rattle.std.proofs.Common.{arith, ◌≡◌}
use Rattle.armv6m_machine.proofs.Shifts.{ror_fits}
use Rattle.armv6m_machine.proofs.arithmetic.rotated.Goals as goal

pub overflow_cast-result-3 : goal.overflow_cast-result-3
overflow_cast-result-3 c =
    let e : c.from-wide.result ≡ c.args.v = c.from-wide.ensures in
    rw e (omega (arith, ror_fits c.args.v c.args.r (omega arith) (omega arith)))
