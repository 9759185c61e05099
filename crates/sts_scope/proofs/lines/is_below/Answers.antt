use Rattle.std.proofs.Common.{◌∙◌, ap}
use Rattle.std.specs.Prelude.{is_some}
use Rattle.sts_scope.proofs.Longer.{reached_is}
use Rattle.sts_scope.proofs.lines.is_below.Goals as goal

pub returns-in-Some : goal.returns-in-Some
returns-in-Some c =
    c.is_some.ensures ∙ ap is_some c.get.ensures
    ∙ reached_is c.args.entries.now c.args.classes.now c.args.all.now c.args.m c.args.n c.in-Some.line.now c.requires c.in-Some.ensures.0 c.in-Some.ensures.1
