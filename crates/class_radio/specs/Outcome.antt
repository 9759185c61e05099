-- How the run of a class of images ends.
use Rattle.std.specs.Prelude.{◌≡◌, ℕ, ◌+◌, Bool, true, false, if◌then◌else◌, List, [], ◌∷◌, length, Option, Some}
use Rattle.std.specs.declared.vec.Vec.{Vec}
use Rattle.std.specs.declared.alloc.Global.{Global}
use Rattle.sts_base.specs.Faults.{Rose}
use Rattle.board_world.specs.Observations.{ByteList, End, Panicked, Faulted}
use Rattle.board_world.specs.Board.{Board}
use Rattle.bank_model.specs.Fibers.{Fiber, Shared}
use Rattle.tool_io.specs.Putting.{Took, TookPart}
use Rattle.class_world.specs.Classes.{Member, Class}
use Rattle.event_script.specs.declared.script.Script.{Script}
use Rattle.class_steps.specs.Texts.{boards_now, HasWholeText, HasSpentText, IsTextOf}
use Rattle.class_file.specs.declared.class.Loss.{Loss}
use Rattle.class_radio.specs.Playing.{Setup, member_of}
use Rattle.class_radio.specs.Losses.{lost_by}
use Rattle.class_radio.specs.declared.run.ClassEnd.{ClassEnd}
use Rattle.class_radio.specs.declared.run.ClassEnd.TheVariants.{Done, Budget, SinkFault}

-- what each board of a class is given
abbrev pub setups_of : List (Vec ℕ Global) → List Script → List Setup
setups_of [] scripts = []
setups_of (image ∷ images) [] = []
setups_of (image ∷ images) (script ∷ scripts) =
    record { image = image.items; script = script } ∷ setups_of images scripts

-- the members of a class, each with free words of its own
abbrev pub members_of : List Setup → List (List ℕ) → List (Member Fiber Shared)
members_of [] frees = []
members_of (p ∷ ps) [] = member_of p [] ∷ members_of ps []
members_of (p ∷ ps) (free ∷ frees) = member_of p free ∷ members_of ps frees

abbrev pub class_of_parts : List Setup → List Loss → ℕ → List (List ℕ) → Class Fiber Shared
class_of_parts parts losses until frees =
    record { members = members_of parts frees; until = until; lost = lost_by losses }

-- whether a run ended by a panic, or by a fault
abbrev pub is_panic : Option End → Bool
is_panic (Some (Panicked code)) = true
is_panic _ = false

abbrev pub is_fault : Option End → Bool
is_fault (Some (Faulted kind address)) = true
is_fault _ = false

-- of how many boards the end passes a test
abbrev pub how_many_end : (Option End → Bool) → List Board → ℕ
how_many_end test [] = 0
how_many_end test (w ∷ ws) = (if test w.end then 1 else 0) + how_many_end test ws

module _ (parts : List Setup) (losses : List Loss) (until budget : ℕ) where
  -- Each board's run ended within the budget, and the whole text was written.
  pub record IsDone (panics faults : ℕ) (taken taken' : Option (List ℕ)) : Type 0 where
    pub frees : List (List ℕ)
    pub text : ByteList
    pub has : HasWholeText (class_of_parts parts losses until frees) budget text
    pub panicked : panics ≡ how_many_end is_panic (boards_now until has.runs)
    pub faulted : faults ≡ how_many_end is_fault (boards_now until has.runs)
    pub written : Took taken taken' text

  -- The budget of the board with this number ended: it has made as many steps, no board has made more, and the text up to there was written.
  pub record HasSpent (number : ℕ) (taken taken' : Option (List ℕ)) : Type 0 where
    pub frees : List (List ℕ)
    pub text : ByteList
    pub has : HasSpentText (class_of_parts parts losses until frees) budget text
    pub at : length has.0.before ≡ number
    pub written : Took taken taken' text

  -- The sink failed in a text that the class has where each board may make so many steps.
  pub record IsStopped (taken taken' : Option (List ℕ)) : Type 0 where
    pub frees : List (List ℕ)
    pub text : ByteList
    pub is : IsTextOf (class_of_parts parts losses until frees) budget text
    pub written : TookPart taken taken' text

  -- What a call that ran the class answered.
  abbrev pub RanClass : Option (List ℕ) → Option (List ℕ) → ℕ → ℕ → ClassEnd → Type 0
  RanClass taken taken' fs fs' (Done panics faults) = IsDone panics faults taken taken'
  RanClass taken taken' fs fs' (Budget number) = HasSpent number taken taken'
  RanClass taken taken' fs fs' SinkFault = IsStopped taken taken' × Rose fs fs'
