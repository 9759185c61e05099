use Rattle.std.proofs.Common.{◌≡◌, length}
use Rattle.derived_types.specs.Rules.{rule_by}
use Rattle.derived_types.specs.Underway as way
use Rattle.derived_types.specs.Underway.{Keeps}
use Rattle.derived_types.proofs.solving.rounds.Given as goal

abbrev pub invariant-loop : goal.invariant-loop
invariant-loop l = record {
  underway : way.IsUnderway (rule_by l.rules l.initial.known) l.known.kinds;
  len : length l.known.kinds ≡ length l.initial.known.kinds;
  same : Keeps l.initial.known l.known;
}

abbrev pub decreases-loop : goal.decreases-loop
decreases-loop l = way.holes l.known.kinds
