-- Which keys stand in the lists, and how often.
use Rattle.std.specs.Prelude.{ℕ, suc, ◌≤◌, ◌==◌, if◌then◌else◌, List, [], ◌∷◌, ◌++◌, map}
use Rattle.fiber_queues.specs.Lists.{ListsOf}

-- the keys in the three lists
abbrev pub listed : ListsOf ℕ → List ℕ
listed q = q.ready ++ (map (λ p. p.1) q.sleepers ++ map (λ p. p.1) q.waiters)

abbrev pub how_often : ℕ → List ℕ → ℕ
how_often key [] = 0
how_often key (k ∷ ks) = if k == key then suc (how_often key ks) else how_often key ks

-- no key stands twice
abbrev pub IsOnce : ListsOf ℕ → Type 0
IsOnce q = (key : ℕ) → how_often key (listed q) ≤ 1
