-- What became of a board of a class in a moment.
use Rattle.std.specs.Prelude.{◌≡◌, ℕ, ◌+◌, ◌-◌, ◌≤◌, suc, List, ◌++◌, take, Option, Some, None}
use Rattle.sts_base.specs.Faults.{Rose}
use Rattle.board_world.specs.Observations.{Observation}
use Rattle.board_world.specs.Board.{Entry}
use Rattle.board_world.specs.Activities.{World}
use Rattle.board_world.specs.Simulation.{IsSettled}
use Rattle.board_world.specs.Before.{IsRisingFrom}
use Rattle.bank_model.specs.Fibers.{Fiber, Shared}
use Rattle.tool_io.specs.Putting.{Took, TookPart}
use Rattle.class_world.specs.Hearing.{before, sent_at}
use Rattle.class_world.specs.Classes.{world_before}
use Rattle.class_world.specs.Lines.{seen_at, lines_at}
use Rattle.board_run.specs.Advancing.{IsBusy}
use Rattle.board_run.specs.declared.end.End.TheVariants.{Panic, Fault, SinkFault as SinkFaultEnd}
use Rattle.board_run.specs.declared.moments.Gone.{Gone}
use Rattle.board_run.specs.declared.moments.Gone.TheVariants.{Idle, Ended}
use Rattle.board_run.specs.Going.{next_moment}
use Rattle.class_radio.specs.declared.player.Standing.TheVariants.{Panicked, Faulted}
use Rattle.class_radio.specs.declared.player.Player.{Player}
use Rattle.class_radio.specs.declared.player.Step.{Step}
use Rattle.class_radio.specs.declared.player.Step.TheVariants.{Through, Budget, SinkFault}
use Rattle.class_radio.specs.Playing.{Setup, run_given, IsNumbered, outlook, HasPlayed, HasCome, said}

-- It may go through a moment: it has come to it, and something comes to it then.
pub record MayGoOn (number budget : ℕ) (setup : Setup) (script : List Entry) (t : ℕ) (used : List ℕ)
    (seen : List Observation) (p : Player) : Type 0 where
  pub numbered : IsNumbered number budget p
  pub some : 1 ≤ budget
  pub come : HasCome setup script t used seen p
  pub due : p.due ≡ Some t
  pub within : t ≤ setup.script.end
  pub rising : IsRisingFrom 0 script

-- the world of its run so far, stopped behind a moment
abbrev pub world_behind : Setup → List Entry → (t steps : ℕ) → List ℕ → World Fiber Shared
world_behind setup script t steps free = world_before setup.script.end (t + 1) (run_given setup script steps free)

-- It went through the moment and wrote its lines of it.
pub record WentThrough (number budget : ℕ) (setup : Setup) (script : List Entry) (t : ℕ) (seen : List Observation)
    (new : Player) (taken taken' : Option (List ℕ)) : Type 0 where
  pub used : List ℕ
  pub sees : List Observation
  pub numbered : IsNumbered number budget new
  pub played_on : HasPlayed setup script (t + 1) used sees new
  pub clock : new.board.engine.clock ≡ t
  pub earlier : before t sees ≡ seen
  pub says : said t new ≡ take 32 (sent_at t sees)
  pub written : Took taken taken' (lines_at t number (outlook sees new).board)

-- Its budget of steps ended in the moment, at which somebody would go on; it wrote the lines of what was seen.
pub record WasCut (number budget : ℕ) (setup : Setup) (script : List Entry) (t : ℕ) (seen : List Observation)
    (taken taken' : Option (List ℕ)) : Type 0 where
  pub used : List ℕ
  pub sees : List Observation
  pub busy : (rest : List ℕ) → IsBusy (world_behind setup script t budget (used ++ rest))
  pub clock : (rest : List ℕ) → (world_behind setup script t budget (used ++ rest)).board.clock ≡ t
  pub saw : (rest : List ℕ) → (world_behind setup script t budget (used ++ rest)).board.seen ≡ sees
  pub earlier : before t sees ≡ seen
  pub written : Took taken taken' (seen_at t number sees)

-- The sink failed in a line of the moment: a part of the lines was taken that it has after so many steps of its budget.
pub record WasBroken (number budget : ℕ) (setup : Setup) (script : List Entry) (t : ℕ) (seen : List Observation)
    (taken taken' : Option (List ℕ)) : Type 0 where
  pub used : List ℕ
  pub steps : ℕ
  pub within : suc steps ≤ budget
  pub settled : (rest : List ℕ) → IsSettled (world_behind setup script t steps (used ++ rest))
  pub clock : (rest : List ℕ) → (world_behind setup script t (suc steps) (used ++ rest)).board.clock ≡ t
  pub earlier : (rest : List ℕ) → before t (world_behind setup script t (suc steps) (used ++ rest)).board.seen ≡ seen
  pub written : (rest : List ℕ)
      → TookPart taken taken' (lines_at t number (world_behind setup script t (suc steps) (used ++ rest)).board)

-- What a call that went through a moment answered.
abbrev pub PlayedOn : (number budget : ℕ) → Setup → List Entry → ℕ → List Observation → Player → Option (List ℕ)
    → Option (List ℕ) → ℕ → ℕ → Step → Type 0
PlayedOn number budget setup script t seen new taken taken' fs fs' Through =
    WentThrough number budget setup script t seen new taken taken'
PlayedOn number budget setup script t seen new taken taken' fs fs' Budget =
    WasCut number budget setup script t seen taken taken'
PlayedOn number budget setup script t seen new taken taken' fs fs' SinkFault =
    WasBroken number budget setup script t seen taken taken' × Rose fs fs'

-- what is taken of a budget is there
abbrev pub IsTaken : ℕ → Gone → Type 0
IsTaken left (Idle used) = used ≤ left
IsTaken left (Ended end) = Unit {0}

-- what a player notes of what became of its board, and what it answers
abbrev pub noting : Gone → Player → Player
noting (Idle used) p = record p { left = p.left - used; due = next_moment p.board.engine }
noting (Ended (Panic code)) p = record p { due = None; standing = Panicked }
noting (Ended (Fault fault address)) p = record p { due = None; standing = Faulted }
noting _ p = p

abbrev pub step_told : Gone → Step
step_told (Idle used) = Through
step_told (Ended (Panic code)) = Through
step_told (Ended (Fault fault address)) = Through
step_told (Ended SinkFaultEnd) = SinkFault
step_told _ = Budget
