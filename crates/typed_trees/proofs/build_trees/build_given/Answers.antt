use Rattle.sts_syntax.specs.TypedViews.{typed_trees}
use Rattle.sts_syntax.specs.Views.{trees}
use Rattle.typed_trees.specs.Sites as s
use Rattle.typed_trees.proofs.Passed.{given_built}
use Rattle.typed_trees.proofs.build_trees.build_given.Goals as goal

pub returns : goal.returns
returns c =
    given_built c.args.plan.now (s.site c.args.site.now) c.args.takes.now (trees c.args.args.now) c.args.builder.now c.build_arguments.new.builder c.new-none.result (typed_trees c.in_ok-all.all) c.new-none.ensures c.in_ok-all.ensures
