use Rattle.std.proofs.Common.{◌+◌, refl, ap, arith}
use Rattle.sts_syntax.specs.declared.typed.Spot.TheVariants.{Param}
use Rattle.sts_syntax.specs.TypedTrees as e
use Rattle.typed_laws.specs.Programs.{passed_on}
use Rattle.typed_program.proofs.Makers.{passed_next, passed_end}
use Rattle.typed_program.proofs.build_makers.passed_on.Goals as goal

pub loop-kind-preserved : goal.loop-kind-preserved
loop-kind-preserved c = record {
  all = passed_next c.args.takes.now c.loop-kind.kind-index c.loop-kind.at (c.loop-kind.at + 1) _ c.loop-kind.all c.push.new.self _ (passed_on c.args.first c.args.takes.now) c.loop-kind-test.true
      (ap (λ q. e.Name q (Param c.loop-kind.at)) c.type_of_values-ty.ensures) c.in_ok-push.ensures.ok refl c.loop-kind.invariant.all;
  at = omega (arith, c.loop-kind.invariant.at);
}

pub returns : goal.returns
returns c = passed_end c.args.takes.now c.loop-kind.kind-index c.loop-kind.at c.loop-kind.all (passed_on c.args.first c.args.takes.now) c.loop-kind-test.false c.loop-kind.invariant.all

pub overflow_add-at : goal.overflow_add-at
overflow_add-at c = omega (arith, c.loop-kind.invariant.at, c.loop-kind-test.true, c.requires)
