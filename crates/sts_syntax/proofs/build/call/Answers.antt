use Rattle.std.proofs.Common.{ap, ◌∙◌}
use Rattle.sts_syntax.specs.Trees.{Call}
use Rattle.sts_syntax.specs.Views.{tree, trees}
use Rattle.sts_syntax.proofs.Laws.{call_tree}
use Rattle.sts_syntax.proofs.build.call.Goals as goal

pub returns : goal.returns
returns c =
    let held = c.in_ok-callee.ensures in
    call_tree c.args.at c.in_ok-callee.callee c.in_ok-callee.args
    ∙ ap (λ a. Call c.args.at (tree a) (trees c.in_ok-callee.args)) held.value
    ∙ ap (λ all. Call c.args.at (tree c.args.callee) (trees all)) held.kept
