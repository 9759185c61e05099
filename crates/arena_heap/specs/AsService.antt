-- How a push is the service that a fiber asks for.
use Rattle.std.specs.Prelude.{◌≡◌, ℕ, ◌+◌, ◌<◌, ◌≤◌, ◌⊎◌, List}
use Rattle.thumb_code.specs.Faults.{bad_service}
use Rattle.board_world.specs.Limits.{arena_limit}
use Rattle.board_world.specs.Kinds.{Turn, Goes, Takes, Faults}
use Rattle.bank_model.specs.Fibers.{Fiber, Shared}
use Rattle.arena_heap.specs.Pushing.{Pushing, Pushes, Overflows, Refuses}

-- The turn takes words, which fit, and goes on with these words of the arena and as many used.
pub record Grows (f : Fiber) (s : Shared) (words : List ℕ) (used : ℕ) (turn : Turn Fiber Shared) : Type 0 where
  pub more : ℕ
  pub next : ℕ → Fiber × Shared
  pub takes : turn ≡ Takes more next
  pub fits : s.used + more ≤ arena_limit
  pub count : used ≡ s.used + more
  pub goes : next s.used ≡ (f, record s { arena = words; used = used })

-- The turn takes words that don't fit.
pub record TakesTooMuch (s : Shared) (turn : Turn Fiber Shared) : Type 0 where
  pub more : ℕ
  pub next : ℕ → Fiber × Shared
  pub takes : turn ≡ Takes more next
  pub passes : arena_limit < s.used + more

-- The turn of a fiber that asks for a push at an instruction's address, by what the push comes to.
abbrev pub IsAsked : ℕ → Fiber → Shared → Pushing → Turn Fiber Shared → Type 0
IsAsked at f s (Pushes words used) turn =
    ((turn ≡ Goes f (record s { arena = words })) × (used ≡ s.used)) ⊎ Grows f s words used turn
IsAsked at f s Overflows turn = TakesTooMuch s turn
IsAsked at f s Refuses turn = turn ≡ Faults bad_service at
