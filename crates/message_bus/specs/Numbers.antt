-- The listeners that begin an activity for an event, by number.
use Rattle.std.specs.Prelude.{ℕ, zero, suc, ◌/◌, ◌%◌, ◌<◌, ◌≤◌, ◌==◌, if◌then◌else◌, List, [], ◌∷◌}
use Rattle.board_world.specs.declared.events.Event.{Event}
use Rattle.message_bus.specs.ListenerState.{ListenerState, begins_new}

-- the numbers of those that begin, in order; k is the first one's number
abbrev pub beginning : Event → ℕ → List ListenerState → List ℕ
beginning e k [] = []
beginning e k (l ∷ ls) = if begins_new e l then k ∷ beginning e (suc k) ls else beginning e (suc k) ls

-- the numbers of the bits that are set, of n bits; the lowest bit stands for the number k
abbrev pub numbers : ℕ → ℕ → ℕ → List ℕ
numbers zero k bits = []
numbers (suc n) k bits = if bits % 2 == 1 then k ∷ numbers n (suc k) (bits / 2) else numbers n (suc k) (bits / 2)

-- ascending from a number on, and below another
abbrev pub IsRising : ℕ → List ℕ → ℕ → Type 0
IsRising k [] n = Unit {0}
IsRising k (i ∷ is) n = (k ≤ i) × (i < n) × IsRising (suc i) is n
