use Rattle.sts_scope.proofs.Longer.{ends_is}
use Rattle.sts_scope.proofs.lines.has_no_end.Goals as goal

pub returns-in-Some : goal.returns-in-Some
returns-in-Some c = ends_is c.args.entries.now c.args.classes.now c.args.all.now c.args.c c.in-Some.field-0.now c.requires c.in-Some.ensures.0 c.in-Some.ensures.1
