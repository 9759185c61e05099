use Rattle.type_check.proofs.Texts.{unlike}
use Rattle.type_check.proofs.overrides.same_kinds.Goals as goal

pub returns-then-ss-ts : goal.returns-then-ss-ts
returns-then-ss-ts c = unlike c.args.ss.now c.args.ts.now c.if-ss-ts.true
