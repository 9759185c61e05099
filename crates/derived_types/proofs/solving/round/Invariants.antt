use Rattle.std.proofs.Common.{◌≡◌}
use Rattle.std.specs.Prelude.{false}
use Rattle.derived_types.specs.Rules.{rule_by}
use Rattle.derived_types.specs.Underway as way
use Rattle.derived_types.specs.Underway.{Keeps}
use Rattle.derived_types.proofs.solving.round.Given as goal

abbrev pub invariant-loop-d : goal.invariant-loop-d
invariant-loop-d l = record {
  moves : way.Moves (rule_by l.rules l.initial.known) l.initial.known.kinds l.known.kinds l.said;
  still : l.said ≡ false → way.IsStill (rule_by l.rules l.initial.known) l.known.kinds l.d;
  same : Keeps l.initial.known l.known;
}
