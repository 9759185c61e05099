use Rattle.std.proofs.Common.{◌≡◌, ◌++◌, drop}
use Rattle.sts_syntax.specs.TypedViews.{typed_routines}
use Rattle.sts_lower.specs.Repeated.{repeated_in_each}
use Rattle.sts_lower.proofs.repeats.note_functions.Given as goal

abbrev pub invariant-loop-body : goal.invariant-loop-body
invariant-loop-body l = l.found ++ repeated_in_each (typed_routines (drop l.body-index l.body-items)) ≡ l.initial.found ++ repeated_in_each (typed_routines l.body-items)
