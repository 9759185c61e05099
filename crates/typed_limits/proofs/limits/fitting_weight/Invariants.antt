use Rattle.std.proofs.Common.{◌≡◌, ◌+◌, ◌-◌, ◌^◌, ◌≤◌, min, drop}
use Rattle.std.specs.List.{list_all}
use Rattle.sts_syntax.specs.TypedViews.{typed_routines}
use Rattle.sts_syntax.specs.Weights.{routines_weight}
use Rattle.sts_syntax.specs.Nodes.{all_expressions}
use Rattle.typed_limits.specs.Limits.{routine_fits}
use Rattle.typed_limits.specs.Uses.{noted}
use Rattle.typed_limits.proofs.limits.fitting_weight.Given as goal

-- what is weighed, with what is left to weigh, is the whole
abbrev pub invariant-loop-body : goal.invariant-loop-body
invariant-loop-body l = record {
  fits : list_all routine_fits (typed_routines (drop l.body-index l.bodies)) ≡ list_all routine_fits (typed_routines l.bodies);
  weight : min (l.sum + routines_weight (typed_routines (drop l.body-index l.bodies))) (2 ^ 64 - 1) ≡ min (routines_weight (typed_routines l.bodies)) (2 ^ 64 - 1);
  most : l.sum ≤ 2 ^ 64 - 1;
  uses : noted l.uses (all_expressions (typed_routines (drop l.body-index l.bodies))) ≡ noted l.initial.uses (all_expressions (typed_routines l.bodies));
}
