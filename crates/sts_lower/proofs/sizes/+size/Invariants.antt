use Rattle.std.proofs.Common.{◌≡◌, ◌+◌, ◌*◌, ◌≤◌, drop}
use Rattle.sts_syntax.specs.TypedViews.{typed_tree, typed_trees}
use Rattle.sts_syntax.specs.Measures.{total}
use Rattle.sts_syntax.specs.Weights.{weight_of, weights}
use Rattle.sts_lower.specs.Sizes.{sizes}
use Rattle.sts_lower.proofs.sizes.+size.Given as goal

abbrev pub invariant-total_size-loop-a : goal.invariant-total_size-loop-a
invariant-total_size-loop-a l = record {
  sum : l.sum + total (sizes (typed_trees (drop l.a-index l.a-items))) ≡ total (sizes (typed_trees l.a-items));
  weight : total (weights (typed_trees (drop l.a-index l.a-items))) ≤ total (weights (typed_trees l.a-items));
}

abbrev pub decreases-size_of : goal.decreases-size_of
decreases-size_of l = 2 * weight_of (typed_tree l.e.now)

abbrev pub decreases-total_size : goal.decreases-total_size
decreases-total_size l = 2 * total (weights (typed_trees l.all.now)) + 1

abbrev pub decreases-reach_size : goal.decreases-reach_size
decreases-reach_size l = 2 * weight_of (typed_tree l.target.now)
