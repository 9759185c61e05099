use Rattle.std.proofs.Common.{arith}
use Rattle.typed_trees.proofs.build_functions.parameter_spots.Goals as goal

pub overflow_add-at : goal.overflow_add-at
overflow_add-at c = omega (arith, c.loop-param.invariant.at, c.loop-param-test.true, c.requires)
