use Rattle.std.proofs.Common.{◌≡◌, drop}
use Rattle.std.specs.List.{list_all}
use Rattle.sts_syntax.specs.TypedViews.{class_entries}
use Rattle.typed_limits.specs.Limits.{class_fits}
use Rattle.typed_limits.proofs.limits.classes_fit.Given as goal

abbrev pub invariant-loop-class : goal.invariant-loop-class
invariant-loop-class l = list_all class_fits (class_entries (drop l.class-index l.classes)) ≡ list_all class_fits (class_entries l.classes)
