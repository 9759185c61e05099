use Rattle.std.proofs.Common.{◌≡◌, ◌+◌, ◌-◌, ◌*◌, ◌^◌, ◌≤◌, min, drop}
use Rattle.sts_syntax.specs.TypedViews.{typed_tree, typed_trees}
use Rattle.sts_syntax.specs.Measures.{total}
use Rattle.sts_syntax.specs.Weights.{weight_of, weights}
use Rattle.sts_syntax.proofs.measures.+weight.Given as goal

abbrev pub invariant-weights-loop-a : goal.invariant-weights-loop-a
invariant-weights-loop-a l = record {
  sum : min (l.weight + total (weights (typed_trees (drop l.a-index l.a-items)))) (2 ^ 64 - 1) ≡ min (total (weights (typed_trees l.a-items))) (2 ^ 64 - 1);
  fits : l.weight ≤ 2 ^ 64 - 1;
  few : total (weights (typed_trees (drop l.a-index l.a-items))) ≤ total (weights (typed_trees l.a-items));
}

abbrev pub decreases-weight_of : goal.decreases-weight_of
decreases-weight_of l = 2 * weight_of (typed_tree l.e.now)

abbrev pub decreases-weights : goal.decreases-weights
decreases-weights l = 2 * total (weights (typed_trees l.all.now)) + 1
