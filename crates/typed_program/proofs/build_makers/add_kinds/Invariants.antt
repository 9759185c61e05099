use Rattle.std.proofs.Common.{◌≡◌, ◌++◌, drop}
use Rattle.sts_syntax.specs.Types.{value_types}
use Rattle.sts_scope.specs.Kinds as kind
use Rattle.typed_program.proofs.build_makers.add_kinds.Given as goal

abbrev pub invariant-loop-kind : goal.invariant-loop-kind
invariant-loop-kind l = value_types l.all ++ kind.value_types (drop l.kind-index l.takes) ≡ value_types l.fn.all ++ kind.value_types l.takes
