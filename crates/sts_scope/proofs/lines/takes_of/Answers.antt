use Rattle.std.proofs.Common.{◌∙◌}
use Rattle.sts_scope.proofs.Longer.{maker_is}
use Rattle.sts_scope.proofs.lines.takes_of.Goals as goal

pub returns-in-Some : goal.returns-in-Some
returns-in-Some c =
    c.written_takes.ensures
    ∙ maker_is c.args.entries.now c.args.classes.now c.args.all.now c.args.c c.in-Some.line.now c.requires c.in-Some.ensures.0 c.in-Some.ensures.1
