use Rattle.std.proofs.Common.{ℕ, ◌<◌}
use Rattle.register_assign.specs.Checks.{IsTemporarySound}
use Rattle.register_assign.proofs.checks.are_temporaries_sound.Given as goal

abbrev pub invariant-loop-u : goal.invariant-loop-u
invariant-loop-u l = (k : ℕ) → k < l.u → IsTemporarySound l.function l.places k
