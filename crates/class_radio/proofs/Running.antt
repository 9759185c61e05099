-- The run of a class from its images on.
use Rattle.std.proofs.Common.{◌≡◌, ◌≤◌, ℕ, suc, Bool, true, false, if◌then◌else◌, ◌==◌, List, [], ◌∷◌, ◌++◌, length, Option, Some, None, refl, ap, sym, ◌∙◌, arith, All}
use Rattle.std.specs.Prelude.{IfSome}
use Rattle.std.specs.List.{AllByRecursion}
use Rattle.std.specs.declared.vec.Vec.{Vec}
use Rattle.std.specs.declared.alloc.Global.{Global}
use Rattle.std.proofs.lemmas.List.Elements.{All-head, All-tail}
use Rattle.board_world.specs.Board.{Entry, next_entry}
use Rattle.board_world.proofs.Laws.{rises_in_order}
use Rattle.board_world.specs.Before.{IsRisingFrom}
use Rattle.event_script.specs.declared.script.Script.{Script}
use Rattle.event_script.specs.Sound.{IsSound}
use Rattle.event_script.specs.World.{world_entries}
use Rattle.tool_io.proofs.Laws.{took-nothing, rose-before}
use Rattle.class_world.specs.Hearing.{heard, heard_of, with_heard}
use Rattle.class_file.specs.declared.class.Loss.{Loss}
use Rattle.class_radio.specs.declared.run.ClassEnd.{ClassEnd}
use Rattle.class_radio.specs.declared.run.ClassEnd.TheVariants.{Done, Budget, SinkFault}
use Rattle.class_radio.specs.declared.player.Player.{Player}
use Rattle.class_radio.specs.Playing.{Setup}
use Rattle.class_radio.specs.Losses.{lost_by}
use Rattle.class_radio.specs.Outcome.{setups_of, RanClass}
use Rattle.class_radio.specs.Closing.{AreLed}
use Rattle.class_radio.specs.Stepped.{ClassPlan, IsSoundPlan, Past, begun_pasts, setups_in, seens, HaveHeard, IsAtMoment, EachBoard, AreIn}
use Rattle.class_radio.specs.Stopping.{AreAt, ClosesAll}
use Rattle.class_radio.proofs.Counting.{panics_are, faults_are, led_all}
use Rattle.class_radio.proofs.Turning.{few_boards}
use Rattle.class_radio.proofs.Whole.{runs, looks_are, done, stopped}

-- what a class is given
abbrev pub plan_of : List (Vec ℕ Global) → List Script → List Loss → (until budget : ℕ) → ClassPlan
plan_of images scripts losses until budget = record { setups = setups_of images scripts; losses = losses; until = until; budget = budget }

few_setups : (images : List (Vec ℕ Global)) (scripts : List Script) → length (setups_of images scripts) ≤ length images
few_setups [] scripts = omega arith
few_setups (x ∷ xs) [] = omega arith
few_setups (x ∷ xs) (y ∷ ys) = (let ih = few_setups xs ys in omega (arith, ih))

setups_end : (until : ℕ) (images : List (Vec ℕ Global)) (scripts : List Script) → All (λ (s : Script). s.end ≡ until) scripts → AllByRecursion (λ (s : Setup). s.script.end ≡ until) (setups_of images scripts)
setups_end until [] scripts h = tt
setups_end until (x ∷ xs) [] h = tt
setups_end until (x ∷ xs) (y ∷ ys) h = (All-head (λ (s : Script). s.end ≡ until) y ys h, setups_end until xs ys (All-tail (λ (s : Script). s.end ≡ until) y ys h))

first_any : (o : Option ℕ) → IfSome o (λ m. 0 ≤ m)
first_any None = tt
first_any (Some m) = omega arith

sound_rises : (s : Script) → IsSound s → IsRisingFrom 0 (world_entries s.entries)
sound_rises s h = rises_in_order 0 (world_entries s.entries) (first_any (next_entry (world_entries s.entries))) h.order

setups_rise : (images : List (Vec ℕ Global)) (scripts : List Script) → All IsSound scripts → AllByRecursion (λ (s : Setup). IsRisingFrom 0 (world_entries s.script.entries)) (setups_of images scripts)
setups_rise [] scripts h = tt
setups_rise (x ∷ xs) [] h = tt
setups_rise (x ∷ xs) (y ∷ ys) h = (sound_rises y (All-head IsSound y ys h), setups_rise xs ys (All-tail IsSound y ys h))

pub plan_sound : (images : List (Vec ℕ Global)) (scripts : List Script) (losses : List Loss) (until budget : ℕ) → length images ≤ 8 → All IsSound scripts → All (λ (s : Script). s.end ≡ until) scripts → 1 ≤ budget
    → IsSoundPlan (plan_of images scripts losses until budget)
plan_sound images scripts losses until budget few sound ends some =
    record { few = (let l = few_setups images scripts in omega (arith, l, few)); ends = setups_end until images scripts ends; rising = setups_rise images scripts sound; some = some }

begun_setups : (ss : List Setup) → setups_in (begun_pasts ss) ≡ ss
begun_setups [] = refl
begun_setups (s ∷ ss) = ap (λ (l : List Setup). s ∷ l) (begun_setups ss)

none_heard : (lost : ℕ → ℕ → ℕ → Bool) (until j i : ℕ) (ss : List Setup) → heard_of lost 0 until j i (seens (begun_pasts ss)) ≡ []
none_heard lost until j i [] = refl
none_heard lost until j i (s ∷ ss) = ap (λ (es : List Entry). es ++ heard_of lost 0 until j (suc i) (seens (begun_pasts ss))) (by_own (i == j)) ∙ none_heard lost until j (suc i) ss
  where
    by_own : (c : Bool) → (if c then [] else heard (λ at. lost at i j) 0 until []) ≡ []
    by_own true = refl
    by_own false = refl

begun_heard : (lost : ℕ → ℕ → ℕ → Bool) (until : ℕ) (all : List Setup) (j : ℕ) (ss : List Setup) → HaveHeard lost 0 until (seens (begun_pasts all)) j (begun_pasts ss)
begun_heard lost until all j [] = tt
begun_heard lost until all j (s ∷ ss) = (sym (ap (λ (es : List Entry). with_heard es (world_entries s.script.entries)) (none_heard lost until j 0 all)), begun_heard lost until all (suc j) ss)

pub begins_so : (plan : ClassPlan) → IsSoundPlan plan → (taken : Option (List ℕ)) (players : List Player) → EachBoard (IsAtMoment plan.budget 0) 0 (begun_pasts plan.setups) players → AreAt plan taken 0 (begun_pasts plan.setups) players taken
begins_so plan sound taken players come = record {
  plan_is = sound;
  within = omega arith;
  are = record {
    setups = begun_setups plan.setups;
    heard = begun_heard (lost_by plan.losses) plan.until plan.setups 0 plan.setups;
    passed = tt;
    come = come;
    written = took-nothing taken;
  };
}

-- the closing lines of boards that have come behind the end
pub closed_ran : (plan : ClassPlan) (sound : IsSoundPlan plan) (began taken taken' : Option (List ℕ)) (players : List Player) (pasts : List Past) (are : AreIn plan began (suc plan.until) [] pasts [] players taken) (fs ms fs' : ℕ) (end : ClassEnd)
    → fs ≤ ms → ClosesAll (seens pasts) plan.until players taken taken' ms fs' end → RanClass plan.setups plan.losses plan.until plan.budget began taken' fs fs' end
closed_ran plan sound began taken taken' players pasts are fs ms fs' (Done panics many) later h =
    (let led = led_all plan.budget (suc plan.until) 0 pasts players are.come in
    done plan sound began pasts players taken are taken' panics many h.0
    (h.1 ∙ panics_are plan.until (runs plan sound began pasts players taken are) (seens pasts) players (looks_are plan sound began pasts players taken are) led)
    (h.2 ∙ faults_are plan.until (runs plan sound began pasts players taken are) (seens pasts) players (looks_are plan sound began pasts players taken are) led))
closed_ran plan sound began taken taken' players pasts are fs ms fs' (Budget b) later h = absurd h
closed_ran plan sound began taken taken' players pasts are fs ms fs' SinkFault later h = (stopped plan sound began pasts players taken are taken' h.0, rose-before fs ms fs' later h.1)

-- what boards that have come behind the end are known to be
pub led_behind : (plan : ClassPlan) (sound : IsSoundPlan plan) (began taken : Option (List ℕ)) (players : List Player) (pasts : List Past) → AreIn plan began (suc plan.until) [] pasts [] players taken → AreLed 0 players × (length players ≤ 8)
led_behind plan sound began taken players pasts are = (led_all plan.budget (suc plan.until) 0 pasts players are.come, few_boards plan sound began (suc plan.until) pasts players taken are)
