use Rattle.std.proofs.Common.{ap}
use Rattle.sts_syntax.specs.declared.trees.Body.{roll-Body}
use Rattle.sts_syntax.specs.Trees.{Does}
use Rattle.sts_syntax.specs.Views.{optional_annotation, parameters}
use Rattle.sts_syntax.proofs.Laws.{statements_held}
use Rattle.sts_syntax.proofs.build.body.Goals as goal

pub returns : goal.returns
unfolding roll-Body denote.Hole.Carrier.roll
returns c =
    ap (λ all. Does c.args.at (parameters c.args.params) (optional_annotation c.args.gives) all c.args.arrow) (statements_held c.args.stmts)
