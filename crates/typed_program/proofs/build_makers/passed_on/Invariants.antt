use Rattle.std.proofs.Common.{◌≡◌, ◌+◌, drop}
use Rattle.typed_laws.specs.Programs.{passed_on}
use Rattle.typed_program.proofs.Before.{onto}
use Rattle.typed_program.proofs.build_makers.passed_on.Given as goal

abbrev pub invariant-loop-kind : goal.invariant-loop-kind
invariant-loop-kind l = record {
  all : onto l.all (passed_on l.at (drop l.kind-index l.takes)) ≡ passed_on l.first l.takes;
  at : l.at ≡ l.first + l.kind-index;
}
