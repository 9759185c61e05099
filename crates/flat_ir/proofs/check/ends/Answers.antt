use Rattle.std.proofs.Common.{sym}
use Rattle.flat_ir.proofs.Endings.{last_is}
use Rattle.flat_ir.proofs.check.ends.Goals as goal

pub returns-in-Some : goal.returns-in-Some
returns-in-Some c =
    let k = last_is c.args.ops.now c.in-Some.last.now (sym c.in-Some.ensures.value) in
    (λ h. k.0 (c.is_last.ensures.0 h), λ h. c.is_last.ensures.1 (k.1 h))
