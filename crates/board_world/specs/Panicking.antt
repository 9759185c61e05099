-- Who may end a run by a panic, and whether one did.
use Rattle.std.specs.Prelude.{Option, Some, List, [], ◌∷◌}
use Rattle.board_world.specs.Observations.{End, Panicked}
use Rattle.board_world.specs.Kinds.{Turn, Takes, Pauses, Waits, Spawns, Listens, RaisesNow, Panics}
use Rattle.board_world.specs.Activities.{Activity}

-- a turn by which a run may end in a panic: it is one, or the world may have no room for what it asks
abbrev pub MayPanic : {A S : Type 0} → Turn A S → Type 0
MayPanic (Takes n f) = Unit {0}
MayPanic (Pauses n a s) = Unit {0}
MayPanic (Waits e a s) = Unit {0}
MayPanic (Spawns f a s) = Unit {0}
MayPanic (Listens l a s) = Unit {0}
MayPanic (RaisesNow e f a s) = Unit {0}
MayPanic (Panics c) = Unit {0}
MayPanic _ = ⊥

-- a run that has ended by a panic
abbrev pub HasPanicked : Option End → Type 0
HasPanicked (Some (Panicked code)) = Unit {0}
HasPanicked _ = ⊥

-- there is a first activity, which is so
abbrev pub FirstIs : {A : Type 0} → (A → Type 0) → List (Activity A) → Type 0
FirstIs P [] = ⊥
FirstIs P (x ∷ xs) = P x.self

-- the first activities of two lists are related
abbrev pub FirstsAre : {A C : Type 0} → (A → C → Type 0) → List (Activity A) → List (Activity C) → Type 0
FirstsAre R (x ∷ xs) (y ∷ ys) = R x.self y.self
FirstsAre R _ _ = ⊥
