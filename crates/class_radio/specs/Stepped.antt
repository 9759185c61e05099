-- A class of boards that is stepped moment by moment over a sink.
use Rattle.std.specs.Prelude.{◌≡◌, ◌≤◌, ℕ, suc, Bool, List, [], ◌∷◌, ◌++◌, length, map, take, Option}
use Rattle.std.specs.List.{AllByRecursion}
use Rattle.board_world.specs.Observations.{Observation}
use Rattle.board_world.specs.Board.{Board, Entry}
use Rattle.board_world.specs.Before.{IsRisingFrom}
use Rattle.event_script.specs.World.{world_entries}
use Rattle.tool_io.specs.Putting.{Took}
use Rattle.class_world.specs.Hearing.{sent_at, heard_of, with_heard}
use Rattle.class_world.specs.Lines.{moment_lines, lines_before}
use Rattle.class_steps.specs.Outlook.{Outlook, looks}
use Rattle.class_file.specs.declared.class.Loss.{Loss}
use Rattle.class_radio.specs.declared.player.Player.{Player}
use Rattle.class_radio.specs.Playing.{Setup, IsNumbered, outlook, HasPlayed, HasCome, said}
use Rattle.class_radio.specs.Losses.{lost_by}

-- what a class is given: each board's image and script, what is lost between them, the end of all their scripts, and each board's budget
pub record ClassPlan : Type 0 where
  pub setups : List Setup
  pub losses : List Loss
  pub until : ℕ
  pub budget : ℕ

-- Its boards are few, their scripts' entries rise and end then, and a board may execute something.
pub record IsSoundPlan (plan : ClassPlan) : Type 0 where
  pub few : length plan.setups ≤ 8
  pub ends : AllByRecursion (λ (s : Setup). s.script.end ≡ plan.until) plan.setups
  pub rising : AllByRecursion (λ (s : Setup). IsRisingFrom 0 (world_entries s.script.entries)) plan.setups
  pub some : 1 ≤ plan.budget

-- a board's past: what it was given, its script with what it has heard, the free words that it has used, and what it has seen
pub record Past : Type 0 where
  pub setup : Setup
  pub script : List Entry
  pub used : List ℕ
  pub seen : List Observation

-- the pasts of boards to which nothing has happened
abbrev pub begun_pasts : List Setup → List Past
begun_pasts [] = []
begun_pasts (s ∷ ss) =
    record { setup = s; script = world_entries s.script.entries; used = []; seen = [] } ∷ begun_pasts ss

abbrev pub setups_in : List Past → List Setup
setups_in hs = map (λ (h : Past). h.setup) hs

abbrev pub seens : List Past → List (List Observation)
seens hs = map (λ (h : Past). h.seen) hs

-- the outlooks of players that have seen this, and the boards that players with these pasts show
abbrev pub outlooks : List (List Observation) → List Player → List Outlook
outlooks seen [] = []
outlooks [] (p ∷ ps) = outlook [] p ∷ outlooks [] ps
outlooks (os ∷ seen) (p ∷ ps) = outlook os p ∷ outlooks seen ps

abbrev pub shown_boards : List Past → List Player → List Board
shown_boards hs ps = looks (outlooks (seens hs) ps)

-- the script of each board, from board j on, is its own with what it has heard of what these have seen before a moment
abbrev pub HaveHeard : (lost : ℕ → ℕ → ℕ → Bool) → (t until : ℕ) → List (List Observation) → ℕ → List Past → Type 0
HaveHeard lost t until seen j [] = Unit {0}
HaveHeard lost t until seen j (h ∷ hs) =
    (h.script ≡ with_heard (heard_of lost t until j 0 seen) (world_entries h.setup.script.entries))
    × HaveHeard lost t until seen (suc j) hs

-- The board with this number has come to a moment.
pub record IsAtMoment (budget t number : ℕ) (h : Past) (p : Player) : Type 0 where
  pub numbered : IsNumbered number budget p
  pub come : HasCome h.setup h.script t h.used h.seen p

-- It has gone through the moment, or nothing came to it then; it holds the first numbers that it sent.
pub record Passed (budget t number : ℕ) (h : Past) (p : Player) : Type 0 where
  pub numbered : IsNumbered number budget p
  pub played : HasPlayed h.setup h.script (suc t) h.used h.seen p
  pub says : said t p ≡ take 32 (sent_at t h.seen)

-- of each board, from this number on
abbrev pub EachBoard : (ℕ → Past → Player → Type 0) → ℕ → List Past → List Player → Type 0
EachBoard R b [] [] = Unit {0}
EachBoard R b [] (p ∷ ps) = ⊥
EachBoard R b (h ∷ hs) [] = ⊥
EachBoard R b (h ∷ hs) (p ∷ ps) = R b h p × EachBoard R (suc b) hs ps

-- The boards of a class are in a moment: the first have gone through it, and the others have come to it. Since the sink had taken what it had at the
-- beginning, it took the lines of all boards before the moment, and those of the first at it.
pub record AreIn (plan : ClassPlan) (began : Option (List ℕ)) (t : ℕ) (gone still : List Past)
    (first rest : List Player) (taken : Option (List ℕ)) : Type 0 where
  pub setups : setups_in (gone ++ still) ≡ plan.setups
  pub heard : HaveHeard (lost_by plan.losses) t plan.until (seens (gone ++ still)) 0 (gone ++ still)
  pub passed : EachBoard (Passed plan.budget t) 0 gone first
  pub come : EachBoard (IsAtMoment plan.budget t) (length gone) still rest
  pub written : Took began taken
      (lines_before t (shown_boards (gone ++ still) (first ++ rest)) ++ moment_lines t 0 (shown_boards gone first))
