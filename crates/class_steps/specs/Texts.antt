-- What a class writes where each of its boards may make so many steps.
use Rattle.std.specs.Prelude.{◌≡◌, ℕ, ◌≤◌, ◌⊎◌, List, ◌∷◌, ◌++◌, map}
use Rattle.std.specs.List.{AllByRecursion}
use Rattle.board_world.specs.Observations.{ByteList}
use Rattle.board_world.specs.Board.{Board}
use Rattle.class_world.specs.Classes.{Class, Played, Passes, IsWhole, IsRunUpTo, world_of}
use Rattle.class_world.specs.Lines.{WroteSame, whole_text, cut_text}

-- A run has come to a moment: it has passed every moment before, and wrote before it what this board has written.
pub record Reached {A S : Type 0} (until t : ℕ) (p : Played A S) (b : Board) : Type 0 where
  pub passes : Passes t (world_of until p)
  pub wrote : WroteSame t (world_of until p).board b

-- the boards of runs
abbrev pub boards_now : {A S : Type 0} → ℕ → List (Played A S) → List Board
boards_now until ps = map (λ p. (world_of until p).board) ps

-- All runs of a class have ended, each within so many steps, and this is its text.
pub record HasWholeText {A S : Type 0} (C : Class A S) (budget : ℕ) (text : ByteList) : Type 0 where
  pub runs : List (Played A S)
  pub whole : IsWhole C runs
  pub within : AllByRecursion (λ (p : Played A S). p.steps ≤ budget) runs
  pub is : text ≡ whole_text C.until (boards_now C.until runs)

-- One of its boards goes on, no board has made more steps, and this is its text.
pub record HasCutText {A S : Type 0} (C : Class A S) (budget : ℕ) (text : ByteList) : Type 0 where
  pub before : List (Played A S)
  pub here : Played A S
  pub behind : List (Played A S)
  pub cut : IsRunUpTo C before here behind
  pub within : AllByRecursion (λ (p : Played A S). p.steps ≤ budget) (before ++ here ∷ behind)
  pub is : text ≡ cut_text (boards_now C.until before) (world_of C.until here).board (boards_now C.until behind)

-- and that board has made as many
abbrev pub HasSpentText : {A S : Type 0} → Class A S → ℕ → ByteList → Type 0
HasSpentText C budget text = (cut : HasCutText C budget text) × (cut.here.steps ≡ budget)

abbrev pub IsTextOf : {A S : Type 0} → Class A S → ℕ → ByteList → Type 0
IsTextOf C budget text = HasWholeText C budget text ⊎ HasSpentText C budget text
