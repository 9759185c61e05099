use Rattle.std.proofs.Common.{ℕ, ap, ◌∙◌}
use Rattle.sts_syntax.specs.Types as value
use Rattle.sts_syntax.specs.TypedTrees as e
use Rattle.sts_syntax.specs.TypedViews.{typed_trees}
use Rattle.sts_syntax.proofs.Laws.{typed_super_call_tree}
use Rattle.typed_program.proofs.build_makers.super_called.Goals as goal

pub returns : goal.returns
returns c =
    ap e.Plain (typed_super_call_tree c.object.result c.maker_number.result c.args.args ∙ (ap (λ t. e.SuperCall t c.maker_number.result (typed_trees c.args.args)) c.object.ensures
    ∙ ap (λ (q : ℕ). e.SuperCall (value.Object c.args.base) q (typed_trees c.args.args)) c.maker_number.ensures))
