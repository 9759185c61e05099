-- A board of a class between two moments.
use Rattle.std.specs.Prelude.{◌≡◌, ℕ, ◌+◌, ◌≤◌, ◌⊎◌, ℤ, pos, if◌then◌else◌, ◌==◌, List, [], ◌∷◌, ◌++◌, Option, Some, None, IfSome}
use Rattle.board_world.specs.declared.events.Event.{Event}
use Rattle.board_world.specs.Observations.{Observation}
use Rattle.class_world.specs.Lines.{board_lead}
use Rattle.board_world.specs.Board.{Entry}
use Rattle.board_world.specs.Activities.{World}
use Rattle.thumb_code.specs.Machine.{main_of}
use Rattle.bank_model.specs.Fibers.{Fiber, Shared, shared_at_reset}
use Rattle.bank_model.specs.BoardMachine.{fibers}
use Rattle.message_bus.specs.BusState.{queued}
use Rattle.event_script.specs.declared.script.Script.{Script as EventScript}
use Rattle.event_script.specs.World.{world_entries}
use Rattle.class_world.specs.Hearing.{radio_source}
use Rattle.class_world.specs.Classes.{Member, Played, world_before}
use Rattle.class_world.specs.Keeping.{with_kept}
use Rattle.class_steps.specs.Outlook.{Outlook, IsSeenAs, next_with}
use Rattle.board_outside.specs.Moves.{Move, seen_of}
use Rattle.board_run.specs.declared.end.Stop.{Stop}
use Rattle.board_run.specs.declared.end.Stop.TheVariants.{Panic, Fault}
use Rattle.board_run.specs.Advancing.{IsWhole}
use Rattle.board_run.specs.Going.{queued_all, next_moment, IsResting, Shows}
use Rattle.board_run.specs.Ran.{IsMounted}
use Rattle.board_run.specs.Represents.{state_of, plain_of}
use Rattle.class_radio.specs.declared.player.Player.{Player}
use Rattle.class_radio.specs.declared.player.Standing.{Standing}
use Rattle.class_radio.specs.declared.player.Standing.TheVariants.{Plays, Panicked, Faulted}

-- what a board is given: an image and a script
pub record Setup : Type 0 where
  pub image : List ℕ
  pub script : EventScript

-- its member of a class, with these free words, and a run of it
abbrev pub member_of : Setup → List ℕ → Member Fiber Shared
member_of setup free = record {
  kind = fibers setup.image;
  main = main_of setup.image;
  shared = shared_at_reset free;
  script = world_entries setup.script.entries;
}

abbrev pub run_given : Setup → List Entry → ℕ → List ℕ → Played Fiber Shared
run_given setup script steps free = record { member = member_of setup free; script = script; steps = steps }

-- how a player stands whose run has this end
abbrev pub standing_of : Option Stop → Standing
standing_of (Some (Panic code)) = Panicked
standing_of (Some (Fault fault address)) = Faulted
standing_of _ = Plays

-- It has this number and this budget, of which the rest is left while it plays, and tells how its run stands.
pub record IsNumbered (number budget : ℕ) (p : Player) : Type 0 where
  pub lead : p.lead ≡ board_lead number
  pub left : p.board.engine.end ≡ None → p.left + p.board.instructions ≡ budget
  pub within : p.board.instructions ≤ budget
  pub most : budget ≤ 2147483648
  pub stands : p.standing ≡ standing_of p.board.engine.end

-- what it looks like where it has seen this
abbrev pub outlook : List Observation → Player → Outlook
outlook seen p = record { board = record (plain_of p.board.engine) { seen = seen }; next = p.due }

-- It waits: its board shows what the run on this script comes to before a moment, without these events, which it keeps for that moment.
pub record IsInWait (setup : Setup) (script : List Entry) (t : ℕ) (used : List ℕ) (seen : List Observation)
    (p : Player) : Type 0 where
  pub whole : IsWhole p.board.engine p.board.instructions
  pub resting : IsResting p.board.engine
  pub events : List Event
  pub kept : p.board.kept ≡ queued_all events []
  pub due : p.due ≡ next_with t events (next_moment p.board.engine)
  pub late : IfSome (next_moment p.board.engine) (λ m. t ≤ m)
  pub until_is : p.board.engine.script.end ≡ setup.script.end
  pub met : List Move
  pub is_seen : seen_of met ≡ seen
  pub worlds : List ℕ → World Fiber Shared
  pub shown : Shows setup.image (state_of p.board.engine) worlds met
  pub is : (rest : List ℕ)
      → world_before setup.script.end t (run_given setup script p.board.instructions (used ++ rest))
      ≡ with_kept t events (worlds rest)

-- It has gone through all moments before this one, on this script, and seen this, whatever free words follow those that were used.
pub record HasPlayed (setup : Setup) (script : List Entry) (t : ℕ) (used : List ℕ) (seen : List Observation)
    (p : Player) : Type 0 where
  pub looks : (rest : List ℕ)
      → IsSeenAs setup.script.end t (run_given setup script p.board.instructions (used ++ rest)) (outlook seen p)
  pub waits : p.board.engine.end ≡ None → IsInWait setup script t used seen p

-- It is as it was mounted.
pub record IsFresh (setup : Setup) (p : Player) : Type 0 where
  pub mounted : IsMounted setup.image setup.script p.board.engine
  pub counted : p.board.instructions ≡ 0
  pub none : p.board.kept ≡ []
  pub first : p.due ≡ Some 0

-- It has come to a moment: it has gone through all before, or it is the first.
abbrev pub HasCome : Setup → List Entry → ℕ → List ℕ → List Observation → Player → Type 0
HasCome setup script t used seen p =
    HasPlayed setup script t used seen p
    ⊎ (IsFresh setup p × (t ≡ 0) × (script ≡ world_entries setup.script.entries) × (used ≡ []) × (seen ≡ []))

-- the event of a number that is heard
abbrev pub heard_event : ℤ → Event
heard_event number = record { source = pos radio_source; value = number }

-- what a player that still plays is once it heard a number for a moment, and each player
abbrev pub hearing_as : Standing → ℕ → ℤ → Player → Player
hearing_as Plays t number p =
    record p { board = record p.board { kept = queued (heard_event number) p.board.kept }; due = Some t }
hearing_as _ t number p = p

abbrev pub hearing : ℕ → ℤ → Player → Player
hearing t number p = hearing_as p.standing t number p

-- and once it heard several
abbrev pub hearing_all : ℕ → List ℤ → Player → Player
hearing_all t [] p = p
hearing_all t (number ∷ numbers) p = hearing_all t numbers (hearing t number p)

-- the first numbers that it sent at a moment
abbrev pub said : ℕ → Player → List ℤ
said t p = if p.board.engine.clock == t then p.board.sent else []
