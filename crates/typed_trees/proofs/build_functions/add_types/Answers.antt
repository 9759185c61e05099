use Rattle.typed_trees.specs.Sites.{naming}
use Rattle.typed_trees.proofs.Functions.{types_next}
use Rattle.typed_trees.proofs.build_functions.add_types.Goals as goal

pub loop-param-preserved : goal.loop-param-preserved
loop-param-preserved c =
    types_next (naming c.args.plan.now) c.args.params.now c.loop-param.param-index c.param-item.result c.loop-param.all c.push.new.self c.noted_type.result c.written_kind-kind.result _
    c.loop-param-test.true c.param-item.is c.written_kind-kind.ensures c.noted_type.ensures c.in_ok-push.ensures.ok c.loop-param.invariant
