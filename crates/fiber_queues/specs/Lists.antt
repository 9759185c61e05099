-- The lists of those that aren't running, in the order in which they came.
use Rattle.std.specs.Prelude.{◌≡◌, ℕ, ◌+◌, ◌<◌, ◌≤◌, Bool, IsTrue, if◌then◌else◌, Option, Some, None, List, [], ◌∷◌, length, take, slice_index_or}
use Rattle.board_world.specs.declared.events.Event.{Event}
use Rattle.board_world.specs.Limits.{seat_limit}
use Rattle.board_world.specs.Waiting.{chosen}

-- who is ready, who sleeps with its wake time, who waits with its event
pub record ListsOf (Y : Type 0) : Type 0 where
  pub ready : List Y
  pub sleepers : List (ℕ × Y)
  pub waiters : List (Event × Y)

abbrev pub no_lists : {Y : Type 0} → ListsOf Y
no_lists = record { ready = []; sleepers = []; waiters = [] }

-- how many stand in the three lists together
abbrev pub total : {Y : Type 0} → ListsOf Y → ℕ
total q = length q.ready + length q.sleepers + length q.waiters

-- this key stands first
abbrev pub Leads : ℕ → List ℕ → Type 0
Leads key [] = ⊥
Leads key (k ∷ ks) = key ≡ k

-- the first of a list of pairs whose key passes a test, and the list without it
module _ {X Y : Type 0} (test : X → Bool) where
  abbrev pub first_chosen : List (X × Y) → Option Y
  first_chosen [] = None
  first_chosen (p ∷ ps) = if test p.0 then Some p.1 else first_chosen ps

  abbrev pub without_first : List (X × Y) → List (X × Y)
  without_first [] = []
  without_first (p ∷ ps) = if test p.0 then ps else p ∷ without_first ps

-- each list has room for 24 keys, and there are no more in all
pub record HasRoom (ready sleepers waiters all : ℕ) : Type 0 where
  pub of_ready : seat_limit ≤ ready
  pub of_sleepers : seat_limit ≤ sleepers
  pub of_waiters : seat_limit ≤ waiters
  pub most : all ≤ seat_limit

-- at this place stands the first whose key passes
pub record IsFirst {X : Type 0} (test : X → Bool) (xs : List (X × ℕ)) (at : ℕ) : Type 0 where
  pub within : at < length xs
  pub before : chosen test (take at xs) ≡ []
  pub here : (d : X × ℕ) → IsTrue (test (slice_index_or xs at d).0)
