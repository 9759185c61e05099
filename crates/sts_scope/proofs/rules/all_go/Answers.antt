use Rattle.sts_scope.proofs.Going.{unequal}
use Rattle.sts_scope.proofs.rules.all_go.Goals as goal

pub returns-then-ss-ts : goal.returns-then-ss-ts
returns-then-ss-ts c = unequal c.args.known.now.classes c.args.ss.now c.args.ts.now c.if-ss-ts.true
