use Rattle.std.proofs.Common.{ℕ, ◌<◌}
use Rattle.register_assign.specs.Checks.{IsParameterSound}
use Rattle.register_assign.proofs.checks.are_parameters_sound.Given as goal

abbrev pub invariant-loop-t : goal.invariant-loop-t
invariant-loop-t l = (k : ℕ) → k < l.t → IsParameterSound l.places k
