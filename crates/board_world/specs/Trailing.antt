-- Simulations whose lower activity may have steps of its own still to make behind its turn, before it is tied again.
use Rattle.std.specs.Prelude.{◌≡◌, ℕ, ◌+◌, ◌≤◌, ℤ}
use Rattle.board_world.specs.Limits.{arena_limit}
use Rattle.board_world.specs.Kinds.{Kind, Turn, Goes, Asks, Takes, Spawns, Listens}
use Rattle.board_world.specs.Panicking.{MayPanic}
use Rattle.board_world.specs.Simulation.{Simulates, Ties, Path, Matches}
use Rattle.board_world.specs.Sound.{NoFault}

module _ {C D : Type 0} (L : Kind C D) (weight : C → D → ℕ) (r : ℕ) where
  -- an activity comes from one state to another, what is shared included, in steps that ask nothing and weigh at most r
  pub record Comes (x y : C × D) : Type 0 where
    pub steps : ℕ
    pub cost : ℕ
    pub few : cost ≤ r
    pub path : Path L weight steps cost x.0 x.1 y.0 y.1

  -- A turn, and what it is once the activity that made it has come so far. Only one that keeps the turn goes on at
  -- once.
  abbrev pub Completes : ℕ → Turn C D → Turn C D → Type 0
  Completes used (Goes c u) y = (d : C) × (v : D) × (y ≡ Goes d v) × Comes (c, u) (d, v)
  Completes used (Asks q f) y = (g : ℤ → C × D) × (y ≡ Asks q g) × ((n : ℤ) → Comes (f n) (g n))
  Completes used (Takes n f) y = (g : ℕ → C × D) × (y ≡ Takes n g) × (used + n ≤ arena_limit → Comes (f used) (g used))
  Completes used (Spawns f c u) y = (d : C) × (v : D) × (y ≡ Spawns f d v) × Comes (c, u) (d, v)
  Completes used (Listens l c u) y = (d : C) × (v : D) × (y ≡ Listens l d v) × Comes (c, u) (d, v)
  Completes used turn y = turn ≡ y

module _ {A S C D : Type 0} (K : Kind A S) (L : Kind C D) (T : Ties A S C D) (weight : C → D → ℕ) (r : ℕ) where
  -- from b with t the lower kind does what a does with s in one step, in steps that weigh at most this much, and some
  -- behind its turn
  pub record Trails (bound : ℕ) (used : ℕ) (s : S) (t₀ : D) (a : A) (b : C) (t : D) : Type 0 where
    pub steps : ℕ
    pub cost : ℕ
    pub last : C
    pub memory : D
    pub path : Path L weight steps cost b t last memory
    pub light : cost + weight last memory ≤ bound
    pub turn : Turn C D
    pub completes : Completes L weight r used (L.step last memory) turn
    pub match : Matches K L T used s t₀ (K.step a s) turn
    pub stands : MayPanic (K.step a s) → T.Placed a last

  -- the same, where as much again may be owed from the turn before
  pub record TrailsWithin (bound : ℕ) (used : ℕ) (s : S) (t : D) (a : A) (b : C) : Type 0 where
    pub room : ℕ
    pub fits : room + r ≤ bound
    pub trails : Trails room used s t a b t

  -- L does what K does in a step that isn't a fault, and may trail behind a turn by steps that weigh at most r
  abbrev pub PartialTrailingSimulation : (A → S → ℕ) → Type 0
  PartialTrailingSimulation bound =
      Simulates K L T (λ used s t a b. NoFault (K.step a s) → TrailsWithin (bound a s) used s t a b)
