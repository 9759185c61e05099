use Rattle.std.proofs.Common.{◌≡◌, ◌++◌, drop}
use Rattle.sts_syntax.specs.Types as value
use Rattle.typed_program.specs.Wholes as w
use Rattle.typed_program.proofs.build_classes.global_types.Given as goal

abbrev pub invariant-loop-d : goal.invariant-loop-d
invariant-loop-d l = value.value_types l.all ++ w.global_types l.plan l.d (drop l.d l.plan.known.now.entries) ≡ w.global_types l.plan 0 l.plan.known.now.entries
