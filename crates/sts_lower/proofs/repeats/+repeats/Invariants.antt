use Rattle.std.proofs.Common.{◌≡◌, ◌+◌, ◌*◌, ◌≤◌, ◌++◌, drop}
use Rattle.sts_syntax.specs.TypedViews.{typed_tree, typed_trees}
use Rattle.sts_syntax.specs.Measures.{total}
use Rattle.sts_syntax.specs.Weights.{weight_of, weights}
use Rattle.sts_lower.specs.Repeated.{repeated_each}
use Rattle.sts_lower.proofs.repeats.+repeats.Given as goal

abbrev pub invariant-note_each-loop-a : goal.invariant-note_each-loop-a
invariant-note_each-loop-a l = record {
  all : l.found ++ repeated_each (typed_trees (drop l.a-index l.a-items)) ≡ l.initial.found ++ repeated_each (typed_trees l.a-items);
  weight : total (weights (typed_trees (drop l.a-index l.a-items))) ≤ total (weights (typed_trees l.a-items));
}

abbrev pub decreases-note : goal.decreases-note
decreases-note l = 2 * weight_of (typed_tree l.e.now)

abbrev pub decreases-note_each : goal.decreases-note_each
decreases-note_each l = 2 * total (weights (typed_trees l.all.now)) + 1
