use Rattle.std.proofs.Common.{◌≡◌, drop}
use Rattle.sts_syntax.specs.TypedViews.{class_entries}
use Rattle.sts_syntax.specs.WellTypedPrograms.{is_maker}
use Rattle.sts_lower.proofs.lowering.is_maker.Given as goal

abbrev pub invariant-loop-class : goal.invariant-loop-class
invariant-loop-class l = is_maker (class_entries (drop l.class-index l.class-items)) l.f ≡ is_maker (class_entries l.class-items) l.f
