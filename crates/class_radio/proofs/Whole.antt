-- A class all of whose boards have come behind its end.
use Rattle.std.proofs.Common.{◌≡◌, ◌≤◌, ℕ, suc, List, [], map, inl, Option, refl, ap, sym, ◌∙◌, subst, append-nil}
use Rattle.std.specs.List.{AllByRecursion}
use Rattle.board_world.specs.Observations.{Observation}
use Rattle.board_world.specs.Before.{IsRisingFrom}
use Rattle.board_world.specs.Simulation.{Paired}
use Rattle.bank_model.specs.Fibers.{Fiber, Shared}
use Rattle.event_script.specs.World.{world_entries}
use Rattle.tool_io.specs.Putting.{Took, TookPart}
use Rattle.tool_io.proofs.Laws.{took-then, part-then}
use Rattle.class_world.specs.Classes.{Class, Played, seen_before, Hear, IsWhole}
use Rattle.class_world.specs.Lines.{lines_before, closing_lines, whole_text}
use Rattle.class_steps.specs.Outlook.{Outlook, IsSeenAs, looks, last_line, text_of_looks}
use Rattle.class_steps.proofs.Laws.{ends_whole}
use Rattle.class_radio.specs.declared.player.Player.{Player}
use Rattle.class_radio.specs.Playing.{Setup}
use Rattle.class_radio.specs.Losses.{lost_by}
use Rattle.class_steps.specs.Texts.{boards_now}
use Rattle.class_radio.specs.Outcome.{members_of, class_of_parts, is_panic, is_fault, how_many_end, IsDone, IsStopped}
use Rattle.class_radio.specs.Stepped.{ClassPlan, IsSoundPlan, Past, seens, outlooks, IsAtMoment, AreIn}
use Rattle.class_radio.proofs.Runs.{runs_of, frees_of, Fits, fit_all, members_are, in_order, hear_all, looks_all, seen_all, within_come}

module _ (plan : ClassPlan) (sound : IsSoundPlan plan) (began : Option (List ℕ)) (pasts : List Past) (players : List Player) (taken : Option (List ℕ)) (are : AreIn plan began (suc plan.until) [] pasts [] players taken) where
  abbrev pub C : Class Fiber Shared
  C = class_of_parts plan.setups plan.losses plan.until (frees_of pasts)

  abbrev pub runs : List (Played Fiber Shared)
  runs = runs_of pasts players

  abbrev pub os : List Outlook
  os = outlooks (seens pasts) players

  fits : AllByRecursion (Fits plan.until) pasts
  fits = fit_all (lost_by plan.losses) (suc plan.until) plan.until (seens pasts) 0 pasts
      (subst (AllByRecursion (λ (s : Setup). s.script.end ≡ plan.until)) (sym are.setups) sound.ends)
      (subst (AllByRecursion (λ (s : Setup). IsRisingFrom 0 (world_entries s.script.entries))) (sym are.setups) sound.rising) are.heard

  boards : map (λ (p : Played Fiber Shared). p.member) runs ≡ C.members
  boards = members_are (IsAtMoment plan.budget (suc plan.until)) 0 pasts players are.come ∙ ap (λ (ss : List Setup). members_of ss (frees_of pasts)) are.setups

  pub looks_are : Paired (IsSeenAs plan.until (suc plan.until)) runs os
  looks_are = looks_all plan.until plan.until plan.budget 0 pasts players fits are.come

  hear : Hear C (suc plan.until) (map (seen_before plan.until (suc plan.until)) runs) 0 runs
  hear = subst (λ (S : List (List Observation)). Hear C (suc plan.until) S 0 runs) (sym (seen_all plan.until plan.until plan.budget 0 pasts players fits are.come))
      (hear_all C (suc plan.until) (seens pasts) (IsAtMoment plan.budget (suc plan.until)) 0 0 pasts players are.come are.heard)

  whole : IsWhole C runs × (whole_text plan.until (boards_now plan.until runs) ≡ text_of_looks plan.until os)
  whole = ends_whole C runs os (in_order plan.setups (frees_of pasts) sound.rising) boards hear looks_are

  within : AllByRecursion (λ (p : Played Fiber Shared). p.steps ≤ plan.budget) runs
  within = within_come C (suc plan.until) plan.budget 0 pasts players are.come

  so_far : Took began taken (lines_before (suc plan.until) (looks os))
  so_far = subst (Took began taken) (append-nil (lines_before (suc plan.until) (looks os))) are.written

  pub done : (taken' : Option (List ℕ)) (panics faults : ℕ) → Took taken taken' (closing_lines (last_line plan.until os) 0 (looks os))
      → panics ≡ how_many_end is_panic (boards_now plan.until runs) → faults ≡ how_many_end is_fault (boards_now plan.until runs) → IsDone plan.setups plan.losses plan.until plan.budget panics faults began taken'
  done taken' panics faults closed p f = record {
    frees = frees_of pasts;
    text = whole_text plan.until (boards_now plan.until runs);
    has = record { runs = runs; whole = whole.0; within = within; is = refl };
    panicked = p;
    faulted = f;
    written = subst (Took began taken') (sym whole.1) (took-then _ _ so_far closed);
  }

  pub stopped : (taken' : Option (List ℕ)) → TookPart taken taken' (closing_lines (last_line plan.until os) 0 (looks os)) → IsStopped plan.setups plan.losses plan.until plan.budget began taken'
  stopped taken' part = record {
    frees = frees_of pasts;
    text = whole_text plan.until (boards_now plan.until runs);
    is = inl (record { runs = runs; whole = whole.0; within = within; is = refl });
    written = subst (TookPart began taken') (sym whole.1) (part-then _ _ so_far part);
  }
