-- How a board goes through a moment of its class, and how that may end the class's run.
use Rattle.std.specs.Prelude.{◌≡◌, ◌≤◌, ◌<◌, ◌⊎◌, ℕ, suc, List, [], ◌∷◌, length, Option, None, Result, Ok, Err}
use Rattle.sts_base.specs.Faults.{Rose}
use Rattle.board_world.specs.Observations.{Observation}
use Rattle.board_world.specs.Transcript.{closing_line}
use Rattle.board_world.specs.Before.{IsRisingFrom}
use Rattle.tool_io.specs.Putting.{Took, TookPart}
use Rattle.class_world.specs.Hearing.{before}
use Rattle.class_steps.specs.Outlook.{looks, last_line}
use Rattle.class_world.specs.Lines.{closing_lines, numbered, stopped_at, lines_at, WroteSame}
use Rattle.class_radio.specs.declared.player.Player.{Player}
use Rattle.class_radio.specs.Playing.{outlook}
use Rattle.class_radio.specs.Stepping.{WasCut, WasBroken}
use Rattle.class_radio.specs.declared.run.ClassEnd.{ClassEnd}
use Rattle.class_radio.specs.declared.run.ClassEnd.TheVariants.{Done, Budget, SinkFault}
use Rattle.class_radio.specs.declared.player.Standing.TheVariants.{Panicked, Faulted}
use Rattle.class_radio.specs.Closing.{how_many_stand}
use Rattle.class_radio.specs.Stepped.{ClassPlan, IsSoundPlan, Past, outlooks, IsAtMoment, Passed, AreIn}

-- A board may have its turn at a moment.
pub record MayTurn (budget t number : ℕ) (h : Past) (p : Player) : Type 0 where
  pub comes : IsAtMoment budget t number h p
  pub some : 1 ≤ budget
  pub within : t ≤ h.setup.script.end
  pub rising : IsRisingFrom 0 h.script

-- A board went through a moment, or nothing came to it then: it wrote its lines of the moment, and had seen and written before it what it had.
pub record GoesOn (budget t number : ℕ) (h : Past) (p q : Player) (taken taken' : Option (List ℕ)) : Type 0 where
  pub used : List ℕ
  pub sees : List Observation
  pub passed : Passed budget t number (record h { used = used; seen = sees }) q
  pub earlier : before t sees ≡ h.seen
  pub same : WroteSame t (outlook h.seen p).board (outlook sees q).board
  pub written : Took taken taken' (lines_at t number (outlook sees q).board)

-- Its budget ended in the moment, and its closing line was taken.
pub record SpentIn (budget t number : ℕ) (h : Past) (taken taken' : Option (List ℕ)) : Type 0 where
  pub between : Option (List ℕ)
  pub cut : WasCut number budget h.setup h.script t h.seen taken between
  pub closed : Took between taken' (numbered number (closing_line t None))

-- The sink failed in that closing line.
pub record FailedLast (budget t number : ℕ) (h : Past) (taken taken' : Option (List ℕ)) : Type 0 where
  pub between : Option (List ℕ)
  pub cut : WasCut number budget h.setup h.script t h.seen taken between
  pub part : TookPart between taken' (numbered number (closing_line t None))

-- how a board's turn ends the class's run
abbrev pub EndsIn : (budget t number : ℕ) → Past → Option (List ℕ) → Option (List ℕ) → ℕ → ℕ → ClassEnd → Type 0
EndsIn budget t number h taken taken' fs fs' (Done panics faults) = ⊥
EndsIn budget t number h taken taken' fs fs' (Budget b) = (b ≡ number) × SpentIn budget t number h taken taken'
EndsIn budget t number h taken taken' fs fs' SinkFault =
    (WasBroken number budget h.setup h.script t h.seen taken taken' ⊎ FailedLast budget t number h taken taken')
    × Rose fs fs'

-- it hadn't written its end before the moment
abbrev pub HasGoneOn : (t : ℕ) → Past → Player → Type 0
HasGoneOn t h p = (s b : ℕ) → s < t → stopped_at s b (outlook h.seen p).board ≡ []

-- what a board's turn at a moment answers
abbrev pub Turned : (budget t number : ℕ) → Past → Player → Player → Option (List ℕ) → Option (List ℕ) → ℕ → ℕ
    → Result (Unit {0}) ClassEnd → Type 0
Turned budget t number h p q taken taken' fs fs' (Ok u) = GoesOn budget t number h p q taken taken'
Turned budget t number h p q taken taken' fs fs' (Err end) =
    HasGoneOn t h p × EndsIn budget t number h taken taken' fs fs' end

-- The run of a class was ended in a moment by the board behind those that had gone through it.
pub record IsEnded (plan : ClassPlan) (began taken : Option (List ℕ)) (fs fs' : ℕ) (end : ClassEnd) : Type 0 where
  pub t : ℕ
  pub within : t ≤ plan.until
  pub gone : List Past
  pub here : Past
  pub still : List Past
  pub first : List Player
  pub player : Player
  pub rest : List Player
  pub between : Option (List ℕ)
  pub faults : ℕ
  pub later : fs ≤ faults
  pub are : AreIn plan began t gone (here ∷ still) first (player ∷ rest) between
  pub on : HasGoneOn t here player
  pub ends : EndsIn plan.budget t (length gone) here between taken faults fs' end

-- All boards of a class have come to a moment, none after its end.
pub record AreAt (plan : ClassPlan) (began : Option (List ℕ)) (t : ℕ) (pasts : List Past) (players : List Player)
    (taken : Option (List ℕ)) : Type 0 where
  pub plan_is : IsSoundPlan plan
  pub within : t ≤ plan.until
  pub are : AreIn plan began t [] pasts [] players taken

-- what all boards' turns at a moment answer: all have gone through it, or one ended the run
abbrev pub AllTurned : (plan : ClassPlan) → Option (List ℕ) → ℕ → List Player → Option (List ℕ) → ℕ → ℕ
    → Result (Unit {0}) ClassEnd → Type 0
AllTurned plan began t players taken fs fs' (Ok u) = (pasts : List Past) × AreIn plan began t pasts [] players [] taken
AllTurned plan began t players taken fs fs' (Err end) = IsEnded plan began taken fs fs' end

-- what all moments of a class answer: all boards have come behind its end, or one ended the run
abbrev pub AllStepped : (plan : ClassPlan) → Option (List ℕ) → List Player → Option (List ℕ) → ℕ → ℕ
    → Result (Unit {0}) ClassEnd → Type 0
AllStepped plan began players taken fs fs' (Ok u) =
    (pasts : List Past) × AreIn plan began (suc plan.until) [] pasts [] players taken
AllStepped plan began players taken fs fs' (Err end) = IsEnded plan began taken fs fs' end

-- what became of the closing lines of players that have seen this: all were taken, with how many of them stopped, or the sink failed in them
abbrev pub ClosesAll : (seen : List (List Observation)) → (end : ℕ) → List Player → Option (List ℕ) → Option (List ℕ)
    → ℕ → ℕ → ClassEnd → Type 0
ClosesAll seen end players taken taken' fs fs' (Done panics faults) =
    Took taken taken' (closing_lines (last_line end (outlooks seen players)) 0 (looks (outlooks seen players)))
    × (panics ≡ how_many_stand Panicked players) × (faults ≡ how_many_stand Faulted players)
ClosesAll seen end players taken taken' fs fs' (Budget b) = ⊥
ClosesAll seen end players taken taken' fs fs' SinkFault =
    TookPart taken taken' (closing_lines (last_line end (outlooks seen players)) 0 (looks (outlooks seen players)))
    × Rose fs fs'
