use Rattle.std.proofs.Common.{length, ap, arith}
use Rattle.derived_types.proofs.work.Work.ask_next.Goals as goal

pub returns-clause-less : goal.returns-clause-less
returns-clause-less c =
    let a = c.in_ok-ask.ensures.asks in
    omega (arith, a.marked, a.longer, ap length a.woken, a.all, a.next, c.requires)
