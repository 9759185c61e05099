use Rattle.std.proofs.Common.{◌≡◌, ◌++◌, drop}
use Rattle.sts_lower.specs.Lowered.{repeating_functions}
use Rattle.sts_lower.proofs.lowering.add_repeating.Given as goal

abbrev pub invariant-loop-f : goal.invariant-loop-f
invariant-loop-f l = l.functions ++ repeating_functions (drop l.f-index l.repeated) ≡ l.initial.functions ++ repeating_functions l.repeated
