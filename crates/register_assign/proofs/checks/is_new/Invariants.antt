use Rattle.std.proofs.Common.{◌≡◌, ℕ, ◌<◌}
use Rattle.register_assign.specs.Sound.{place_of}
use Rattle.register_assign.proofs.checks.is_new.Given as goal

abbrev pub invariant-loop-u : goal.invariant-loop-u
invariant-loop-u l = (k : ℕ) → k < l.u → place_of l.places k ≡ place_of l.places l.t → ⊥
