-- A kind of activity that does what another one does, with a silent step behind each of its own.
use Rattle.std.specs.Prelude.{◌≡◌, ℕ, Bool, true, false}
use Rattle.board_world.specs.Kinds.{Kind, Turn, Goes, Asks, Takes, Pauses, Waits, Spawns, Listens, RaisesNow, Ends, Panics, Faults}
use Rattle.board_world.specs.Simulation.{Ties}
use Rattle.board_world.specs.Composed.{level}

pub record Slowed (A : Type 0) : Type 0 where
  pub self : A
  pub due : Bool  -- whether the silent step is still to make

abbrev pub fresh : {A : Type 0} → A → Slowed A
fresh a = record { self = a; due = false }

abbrev pub tired : {A : Type 0} → A → Slowed A
tired a = record { self = a; due = true }

-- the same turn, behind which the silent step is due
abbrev pub slowed : {A S : Type 0} → Turn A S → Turn (Slowed A) S
slowed (Goes a s) = Goes (tired a) s
slowed (Asks q f) = Asks q (λ n. (tired (f n).0, (f n).1))
slowed (Takes n f) = Takes n (λ at. (tired (f at).0, (f at).1))
slowed (Pauses n a s) = Pauses n (tired a) s
slowed (Waits e a s) = Waits e (tired a) s
slowed (Spawns f a s) = Spawns f (tired a) s
slowed (Listens l a s) = Listens l (tired a) s
slowed (RaisesNow e f a s) = RaisesNow e (λ g. fresh (f g)) (tired a) s
slowed (Ends f s) = Ends (λ g. fresh (f g)) s
slowed (Panics code) = Panics code
slowed (Faults kind address) = Faults kind address

abbrev pub slow_step : {A S : Type 0} → Kind A S → Bool → A → S → Turn (Slowed A) S
slow_step K true a s = Goes (fresh a) s
slow_step K false a s = slowed (K.step a s)

abbrev pub slow : {A S : Type 0} → Kind A S → Kind (Slowed A) S
slow K =
    record { begin = λ f. fresh (K.begin f); step = λ c s. slow_step K c.due c.self s; depth = λ c. K.depth c.self }

-- what ties an activity to its slow form: nothing but itself, and one and the same shared state
abbrev pub Anything : {S : Type 0} → ℕ → S → Type 0
Anything used s = Unit {0}

abbrev pub IsItself : {A S : Type 0} → S → A → Slowed A → Type 0
IsItself s a c = c.self ≡ a

abbrev pub IsNumber : ℕ → ℕ → Type 0
IsNumber i j = i ≡ j

abbrev pub its_own : {A S : Type 0} → Ties A S (Slowed A) S
its_own = level Anything IsItself IsNumber
