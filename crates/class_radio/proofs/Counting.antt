-- As many players stand so as runs have ended so.
use Rattle.std.proofs.Common.{◌≡◌, ℕ, suc, ◌+◌, Bool, if◌then◌else◌, List, [], ◌∷◌, map, Option, Some, None, is_some, refl, ap, sym, ◌∙◌}
use Rattle.std.specs.Option.{option_map}
use Rattle.board_world.specs.Observations.{Observation, End, Quietly, By_script}
use Rattle.board_world.specs.Simulation.{Paired}
use Rattle.class_world.specs.Classes.{Played, world_of}
use Rattle.class_steps.specs.Outlook.{Outlook, IsSeenAs, looks}
use Rattle.class_steps.proofs.Laws.{closed, closes, ended_when}
use Rattle.board_run.specs.declared.end.Stop.{Stop}
use Rattle.board_run.specs.declared.end.Stop.TheVariants.{Quiet, Script, Panic, Fault}
use Rattle.class_radio.specs.declared.player.Player.{Player}
use Rattle.class_radio.specs.declared.player.Standing.{Standing}
use Rattle.class_radio.specs.declared.player.Standing.TheVariants.{Panicked, Faulted}
use Rattle.board_run.specs.Represents.{end_of}
use Rattle.class_radio.specs.Playing.{standing_of}
use Rattle.class_radio.specs.Stepped.{Past, IsAtMoment, EachBoard, outlooks}
use Rattle.class_radio.specs.Outcome.{is_panic, is_fault, how_many_end}
use Rattle.class_radio.specs.Closing.{AreLed, stands_same, how_many_stand}

-- one that the clock ends stands as one that goes on
module _ (test : Option End → Bool) (quiet : test (Some Quietly) ≡ test None) (script : test (Some By_script) ≡ test None) where
  test_closed : (until : ℕ) (o : Outlook) → test (closed until o).end ≡ test o.board.end
  test_closed until o = by_end o.board.end o.next refl
    where
      by_end : (e : Option End) (n : Option ℕ) → o.board.end ≡ e → test (if is_some e then o.board else ended_when until n o.board).end ≡ test o.board.end
      by_end (Some e) n q = refl
      by_end None None q = quiet ∙ ap test (sym q)
      by_end None (Some m) q = script ∙ ap test (sym q)

  count_runs : {A S : Type 0} (until : ℕ) (ps : List (Played A S)) (os : List Outlook) → Paired (IsSeenAs until (suc until)) ps os
      → how_many_end test (map (λ (p : Played A S). (world_of until p).board) ps) ≡ how_many_end test (looks os)
  count_runs until [] [] h = refl
  count_runs until [] (o ∷ os) h = absurd h
  count_runs until (p ∷ ps) [] h = absurd h
  count_runs {A} {S} until (p ∷ ps) (o ∷ os) h =
      ap (λ (c : Bool). (if c then 1 else 0) + how_many_end test (map (λ (q : Played A S). (world_of until q).board) ps)) (ap test (closes until p o h.0).end ∙ test_closed until o)
      ∙ ap (λ (n : ℕ). (if test o.board.end then 1 else 0) + n) (count_runs until ps os h.1)

module _ (standing : Standing) (test : Option End → Bool) (same : (e : Option Stop) → stands_same (standing_of e) standing ≡ test (option_map end_of e)) where
  count_looks : (b : ℕ) (seen : List (List Observation)) (ps : List Player) → AreLed b ps → how_many_stand standing ps ≡ how_many_end test (looks (outlooks seen ps))
  count_looks b seen [] h = refl
  count_looks b [] (p ∷ ps) h =
      ap (λ (c : Bool). (if c then 1 else 0) + how_many_stand standing ps) (ap (λ (s : Standing). stands_same s standing) h.0.stands ∙ same p.board.engine.end)
      ∙ ap (λ (n : ℕ). (if test (option_map end_of p.board.engine.end) then 1 else 0) + n) (count_looks (suc b) [] ps h.1)
  count_looks b (os ∷ seen) (p ∷ ps) h =
      ap (λ (c : Bool). (if c then 1 else 0) + how_many_stand standing ps) (ap (λ (s : Standing). stands_same s standing) h.0.stands ∙ same p.board.engine.end)
      ∙ ap (λ (n : ℕ). (if test (option_map end_of p.board.engine.end) then 1 else 0) + n) (count_looks (suc b) seen ps h.1)

panic_same : (e : Option Stop) → stands_same (standing_of e) Panicked ≡ is_panic (option_map end_of e)
panic_same None = refl
panic_same (Some Quiet) = refl
panic_same (Some Script) = refl
panic_same (Some (Panic code)) = refl
panic_same (Some (Fault fault address)) = refl

fault_same : (e : Option Stop) → stands_same (standing_of e) Faulted ≡ is_fault (option_map end_of e)
fault_same None = refl
fault_same (Some Quiet) = refl
fault_same (Some Script) = refl
fault_same (Some (Panic code)) = refl
fault_same (Some (Fault fault address)) = refl

-- behind the class's end
module _ {A S : Type 0} (until : ℕ) (runs : List (Played A S)) (seen : List (List Observation)) (ps : List Player) (h : Paired (IsSeenAs until (suc until)) runs (outlooks seen ps)) (led : AreLed 0 ps) where
  pub panics_are : how_many_stand Panicked ps ≡ how_many_end is_panic (map (λ (p : Played A S). (world_of until p).board) runs)
  panics_are = count_looks Panicked is_panic panic_same 0 seen ps led ∙ sym (count_runs is_panic refl refl until runs (outlooks seen ps) h)

  pub faults_are : how_many_stand Faulted ps ≡ how_many_end is_fault (map (λ (p : Played A S). (world_of until p).board) runs)
  faults_are = count_looks Faulted is_fault fault_same 0 seen ps led ∙ sym (count_runs is_fault refl refl until runs (outlooks seen ps) h)

-- boards that have come to a moment have the leads of their numbers, and stand as their runs do
pub led_all : (budget t b : ℕ) (hs : List Past) (ps : List Player) → EachBoard (IsAtMoment budget t) b hs ps → AreLed b ps
led_all budget t b [] [] h = tt
led_all budget t b [] (p ∷ ps) h = absurd h
led_all budget t b (x ∷ hs) [] h = absurd h
led_all budget t b (x ∷ hs) (p ∷ ps) h = (record { lead = h.0.numbered.lead; stands = h.0.numbered.stands }, led_all budget t (suc b) hs ps h.1)
