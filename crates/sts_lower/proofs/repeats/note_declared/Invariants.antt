use Rattle.std.proofs.Common.{◌≡◌, ◌++◌, drop}
use Rattle.sts_syntax.specs.TypedViews.{typed_declarations}
use Rattle.sts_lower.specs.Repeated.{repeated_first}
use Rattle.sts_lower.proofs.repeats.note_declared.Given as goal

abbrev pub invariant-loop-binding : goal.invariant-loop-binding
invariant-loop-binding l = l.found ++ repeated_first (typed_declarations (drop l.binding-index l.each)) ≡ l.initial.found ++ repeated_first (typed_declarations l.each)
