use Rattle.std.proofs.Common.{false}
use Rattle.derived_types.specs.Rules.{rule_by}
use Rattle.derived_types.specs.Underway as way
use Rattle.derived_types.specs.Underway.{Keeps}
use Rattle.derived_types.specs.Work.{effort}
use Rattle.derived_types.proofs.solving.until_said.Given as goal

abbrev pub invariant-loop-known : goal.invariant-loop-known
invariant-loop-known l = record {
  moves : way.Moves (rule_by l.rules l.initial.known) l.initial.known.kinds l.known.kinds false;
  same : Keeps l.initial.known l.known;
}

abbrev pub decreases-loop-known : goal.decreases-loop-known
decreases-loop-known l = effort l.work
