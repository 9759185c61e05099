-- How a class of players ends.
use Rattle.std.specs.Prelude.{◌≡◌, ◌+◌, ℕ, suc, max, Bool, true, false, if◌then◌else◌, is_some, List, [], ◌∷◌, ◌++◌, Some}
use Rattle.std.specs.List.{list_any}
use Rattle.board_world.specs.Observations.{ByteList, Quietly, By_script}
use Rattle.board_world.specs.Transcript.{closing_line}
use Rattle.class_world.specs.Lines.{board_lead, numbered}
use Rattle.class_radio.specs.declared.player.Player.{Player}
use Rattle.class_radio.specs.declared.player.Standing.{Standing}
use Rattle.class_radio.specs.declared.player.Standing.TheVariants.{Plays, Panicked, Faulted}
use Rattle.class_radio.specs.Playing.{standing_of}

-- a player has the lead of its number, and stands as its run does
pub record IsLed (number : ℕ) (p : Player) : Type 0 where
  pub lead : p.lead ≡ board_lead number
  pub stands : p.standing ≡ standing_of p.board.engine.end

-- so do these, from this number on
abbrev pub AreLed : ℕ → List Player → Type 0
AreLed b [] = Unit {0}
AreLed b (p ∷ ps) = IsLed b p × AreLed (suc b) ps

-- something is left to come to one of them
abbrev pub some_due : List Player → Bool
some_due ps = list_any (λ (p : Player). is_some p.due) ps

-- the greatest moment that one of them went through
abbrev pub latest_clock : List Player → ℕ
latest_clock [] = 0
latest_clock (p ∷ ps) = max p.board.engine.clock (latest_clock ps)

-- the closing line of a class: by the script at its end, or quiet at a moment
abbrev pub last_line_of : Bool → (end latest : ℕ) → ByteList
last_line_of by_script end latest =
    if by_script then closing_line end (Some By_script) else closing_line latest (Some Quietly)

-- the line of a player that stands so
abbrev pub end_line_of : Standing → (number : ℕ) → ByteList → ByteList
end_line_of Plays number text = numbered number text
end_line_of _ number text = []

-- two of these are the same
abbrev pub stands_same : Standing → Standing → Bool
stands_same Plays Plays = true
stands_same Panicked Panicked = true
stands_same Faulted Faulted = true
stands_same _ _ = false

-- how many stand so
abbrev pub how_many_stand : Standing → List Player → ℕ
how_many_stand standing [] = 0
how_many_stand standing (p ∷ ps) = (if stands_same p.standing standing then 1 else 0) + how_many_stand standing ps
