-- A board of a class between two moments.
use Rattle.std.specs.Prelude.{◌≡◌, ℕ, suc, ◌≤◌, ◌<◌, Bool, false, ◌||◌, if◌then◌else◌, is_some, List, [], ◌∷◌, ◌++◌, map, Option, Some, None, IfSome, IsSome}
use Rattle.board_world.specs.declared.events.Event.{Event}
use Rattle.board_world.specs.Observations.{ByteList, Quietly, By_script}
use Rattle.board_world.specs.Transcript.{closing_line}
use Rattle.board_world.specs.Rules.{earlier}
use Rattle.board_world.specs.Board.{Board, next_entry}
use Rattle.board_world.specs.Waiting.{least}
use Rattle.board_world.specs.Activities.{World}
use Rattle.board_world.specs.Simulation.{IsSettled}
use Rattle.board_world.specs.Before.{is_by_clock, run_before}
use Rattle.class_world.specs.Classes.{Played, starting, world_before}
use Rattle.class_world.specs.Lines.{lines_before, closing_lines, latest}

-- what it has written, its clock and its end, and when something comes to it next
pub record Outlook : Type 0 where
  pub board : Board
  pub next : Option ℕ

-- two boards look alike: they have seen the same, at the same time, and ended alike
pub record HasSameLook (w v : Board) : Type 0 where
  pub seen : w.seen ≡ v.seen
  pub clock : w.clock ≡ v.clock
  pub end : w.end ≡ v.end

-- Nobody is left to go on, no event is queued, and what comes next comes then, at this moment or later.
pub record IsWaiting {A S : Type 0} (t : ℕ) (next : Option ℕ) (w : World A S) : Type 0 where
  pub nobody : w.ready ≡ []
  pub none : w.board.queue ≡ []
  pub comes : earlier (least w.sleepers) (next_entry w.board.script) ≡ next
  pub late : IfSome next (λ m. t ≤ m)

-- A board's run that was stopped before a moment looks so: it was settled before its last step, and now it waits or has ended, not by the clock.
pub record IsSeenAs {A S : Type 0} (until t : ℕ) (p : Played A S) (o : Outlook) : Type 0 where
  pub before : ℕ
  pub steps : p.steps ≡ suc before
  pub settled : IsSettled (run_before p.member.kind t before (starting until p.member p.script))
  pub like : HasSameLook (world_before until t p).board o.board
  pub until_is : (world_before until t p).board.until ≡ until
  pub early : o.board.clock < t
  pub sound : is_by_clock o.board.end ≡ false
  pub ended : IsSome o.board.end → o.next ≡ None
  pub waits : o.board.end ≡ None → IsWaiting t o.next (world_before until t p)

-- when something comes next, with events that are given for a moment
abbrev pub next_with : ℕ → List Event → Option ℕ → Option ℕ
next_with t [] next = next
next_with t (e ∷ events) next = Some t

-- the boards of outlooks
abbrev pub looks : List Outlook → List Board
looks os = map (λ (o : Outlook). o.board) os

-- whether something is left to come to some board
abbrev pub some_next : List Outlook → Bool
some_next [] = false
some_next (o ∷ os) = is_some o.next || some_next os

-- the closing line of a class whose boards look so when nothing more comes up to its end, and all its text
abbrev pub last_line : ℕ → List Outlook → ByteList
last_line until os =
    if some_next os then closing_line until (Some By_script) else closing_line (latest (looks os)) (Some Quietly)

abbrev pub text_of_looks : ℕ → List Outlook → ByteList
text_of_looks until os = lines_before (suc until) (looks os) ++ closing_lines (last_line until os) 0 (looks os)
