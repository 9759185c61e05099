-- A simulation that trails, and owes at faults too.
use Rattle.std.specs.Prelude.{ℕ}
use Rattle.board_world.specs.Kinds.{Kind}
use Rattle.board_world.specs.Simulation.{Ties, Simulates}
use Rattle.board_world.specs.Trailing.{TrailsWithin}

-- L does what K does, and may trail behind a turn by steps that weigh at most r
abbrev pub TrailingSimulation : {A S C D : Type 0} → Kind A S → Kind C D → Ties A S C D → (C → D → ℕ) → ℕ → (A → S → ℕ) → Type 0
TrailingSimulation K L T weight r bound = Simulates K L T (λ used s t a b. TrailsWithin K L T weight r (bound a s) used s t a b)
