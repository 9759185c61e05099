use Rattle.std.proofs.Common.{arith, ap, length}
use Rattle.armv6m_machine.proofs.Lists.{count_ones_listed, count_bound, listed_is}
use Rattle.armv6m_machine.proofs.transfers.count.Goals as goal

pub returns-clause-value : goal.returns-clause-value
returns-clause-value c = count_ones_listed c.args.list (omega arith)

pub returns-clause-bound : goal.returns-clause-bound
returns-clause-bound c =
    let e = ap length (listed_is c.args.list) in
    omega (arith, e, count_bound 8 0 c.args.list, count_ones_listed c.args.list (omega arith))
