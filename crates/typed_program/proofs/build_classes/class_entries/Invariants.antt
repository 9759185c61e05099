use Rattle.std.proofs.Common.{◌≡◌, ◌++◌, drop}
use Rattle.sts_syntax.specs.TypedViews as view
use Rattle.typed_program.specs.Wholes as w
use Rattle.typed_program.proofs.build_classes.class_entries.Given as goal

abbrev pub invariant-loop-class : goal.invariant-loop-class
invariant-loop-class l = view.class_entries l.all ++ w.class_entries l.plan l.class (drop l.class l.plan.known.now.classes) ≡ w.class_entries l.plan 0 l.plan.known.now.classes
