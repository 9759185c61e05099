use Rattle.std.proofs.Common.{◌≡◌, ◌+◌, ◌++◌, drop}
use Rattle.std.specs.List.{AllByRecursion}
use Rattle.sts_syntax.specs.TypedViews.{class_entries, typed_routines}
use Rattle.sts_lower.specs.Repeated.{before}
use Rattle.sts_lower.specs.inner.Works.{routines_of}
use Rattle.sts_lower.specs.inner.Fitting.{IsLowerableRoutine}
use Rattle.sts_lower.proofs.lowering.lower_functions.Given as goal

abbrev pub invariant-loop-body : goal.invariant-loop-body
invariant-loop-body l = record {
  index : l.f ≡ l.body-index;
  all : l.all ++ routines_of (class_entries l.classes) (λ g. l.functions + before l.repeated g) l.f (typed_routines (drop l.body-index l.body-items))
      ≡ routines_of (class_entries l.classes) (λ g. l.functions + before l.repeated g) 0 (typed_routines l.body-items);
  fits : AllByRecursion IsLowerableRoutine (typed_routines (drop l.body-index l.body-items));
}
