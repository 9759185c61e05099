use Rattle.std.proofs.Common.{◌≡◌, ◌++◌, drop}
use Rattle.std.specs.List.{AllByRecursion}
use Rattle.sts_syntax.specs.TypedViews.{class_entries}
use Rattle.sts_lower.specs.Lowered.{flat_classes}
use Rattle.sts_lower.specs.inner.Fitting.{HasFewFields}
use Rattle.sts_lower.proofs.lowering.lower_classes.Given as goal

abbrev pub invariant-loop-class : goal.invariant-loop-class
invariant-loop-class l = record {
  all : l.all ++ flat_classes (class_entries (drop l.class-index l.class-items)) ≡ flat_classes (class_entries l.class-items);
  fits : AllByRecursion HasFewFields (class_entries (drop l.class-index l.class-items));
}
