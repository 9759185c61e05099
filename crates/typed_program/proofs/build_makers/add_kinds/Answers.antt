use Rattle.typed_program.proofs.Constructors.{value_next}
use Rattle.typed_program.proofs.build_makers.add_kinds.Goals as goal

pub loop-kind-preserved : goal.loop-kind-preserved
loop-kind-preserved c =
    value_next c.loop-kind.all c.push.new.self c.type_of_values.result _ c.args.takes.now c.loop-kind.kind-index _ c.loop-kind-test.true c.type_of_values.ensures c.in_ok-push.ensures.ok c.loop-kind.invariant
