use Rattle.std.proofs.Common.{sym}
use Rattle.sts_lower.proofs.Makers.{maker_there, maker_missing}
use Rattle.sts_lower.proofs.calls.maker_of.Goals as goal

pub returns-in-Some : goal.returns-in-Some
returns-in-Some c = sym (maker_there c.args.classes.now c.args.class c.in-Some.entry.now (sym c.in-Some.ensures.value))

pub returns-in-None : goal.returns-in-None
returns-in-None c = sym (maker_missing c.args.classes.now c.args.class (sym c.in-None.ensures.value))
