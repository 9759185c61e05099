-- The boards of a class between two moments, as they are stepped.
use Rattle.std.proofs.Common.{◌≡◌, ◌≤◌, ◌<◌, ℕ, suc, ◌+◌, ◌-◌, Bool, true, false, nat_lt, List, [], ◌∷◌, Option, Some, None, refl, ap, sym, ◌∙◌, subst, arith}
use Rattle.std.proofs.lemmas.Bool.Decides.{nat_tests}
use Rattle.std.specs.Prelude.{IfSome, map}
use Rattle.std.specs.List.{AllByRecursion}
use Rattle.class_file.specs.declared.class.Loss.{Loss}
use Rattle.class_radio.specs.declared.player.Player.{Player}
use Rattle.class_radio.specs.Playing.{said}
use Rattle.class_radio.specs.Losses.{lost_by}
use Rattle.class_radio.specs.Hearing.{all_hearing, IsNextOf}
use Rattle.class_radio.specs.Stepped.{ClassPlan, IsSoundPlan, Past, seens, AreIn}
use Rattle.class_radio.specs.declared.run.ClassEnd.{ClassEnd}
use Rattle.class_radio.specs.Stopping.{IsEnded, AreAt}
use Rattle.class_radio.proofs.Onward.{heard_on_by, hear_on, hear_no_more}
use Rattle.class_radio.proofs.Moments.{next_late, wait_longer}

-- all boards have come to the next moment, or behind the end where there is none
abbrev pub AreOnto : (plan : ClassPlan) → Option (List ℕ) → Option ℕ → List Past → List Player → Option (List ℕ) → Type 0
AreOnto plan began None pasts players taken = AreIn plan began (suc plan.until) [] pasts [] players taken
AreOnto plan began (Some t) pasts players taken = (t ≤ plan.until) × AreIn plan began t [] pasts [] players taken

pub record Onto (plan : ClassPlan) (began : Option (List ℕ)) (next : Option ℕ) (players : List Player) (taken : Option (List ℕ)) : Type 0 where
  pub pasts : List Past
  pub plan_is : IsSoundPlan plan
  pub are : AreOnto plan began next pasts players taken

-- how many moments are left
abbrev pub moments_left : (end : ℕ) → Option ℕ → ℕ
moments_left end None = 0
moments_left end (Some t) = (end + 1) - t

-- boards that have come to the moment behind t come to the next
pub come_next : (plan : ClassPlan) (sound : IsSoundPlan plan) (began : Option (List ℕ)) (t : ℕ) (pasts : List Past) (players : List Player) (taken : Option (List ℕ)) (next : Option ℕ) → t ≤ plan.until
    → AreIn plan began (suc t) [] pasts [] players taken → IsNextOf plan.until players next → Onto plan began next players taken
come_next plan sound began t pasts players taken None l are is = record { pasts = pasts; plan_is = sound; are = wait_longer plan began t pasts players taken are (suc plan.until) (omega (arith, l)) (past players is) }
  where
    past_one : (o : Option ℕ) → IfSome o (λ m. plan.until < m) → IfSome o (λ m. suc plan.until ≤ m)
    past_one None h = tt
    past_one (Some m) h = omega (arith, h)

    past : (ps : List Player) → AllByRecursion (λ (p : Player). IfSome p.due (λ m. plan.until < m)) ps → AllByRecursion (λ (p : Player). IfSome p.due (λ m. suc plan.until ≤ m)) ps
    past [] h = tt
    past (p ∷ ps) h = (past_one p.due h.0, past ps h.1)
come_next plan sound began t pasts players taken (Some u) l are is =
    record { pasts = pasts; plan_is = sound; are = (is.0, wait_longer plan began t pasts players taken are u (next_late plan began t pasts players taken are u is.2) is.1) }

-- and the next is behind t
pub next_behind : (plan : ClassPlan) (began : Option (List ℕ)) (t : ℕ) (pasts : List Past) (players : List Player) (taken : Option (List ℕ)) (next : Option ℕ) → t ≤ plan.until
    → AreIn plan began (suc t) [] pasts [] players taken → IsNextOf plan.until players next → moments_left plan.until next < moments_left plan.until (Some t)
next_behind plan began t pasts players taken None l are is = omega (arith, l)
next_behind plan began t pasts players taken (Some u) l are is = (let late : suc t ≤ u = next_late plan began t pasts players taken are u is.2 in let low : u ≤ plan.until = is.0 in omega (arith, l, late, low))

-- boards that have gone through a moment come to the one behind, with what they hear if it isn't the last
pub onward_from : (plan : ClassPlan) (sound : IsSoundPlan plan) (began : Option (List ℕ)) (t : ℕ) (pasts : List Past) (players new : List Player) (taken : Option (List ℕ)) → AreIn plan began t pasts [] players [] taken
    → (t < plan.until → new ≡ all_hearing (lost_by plan.losses) t (map (said t) players) 0 players) → (plan.until ≤ t → new ≡ players) → (later : List Past) × AreIn plan began (suc t) [] later [] new taken
onward_from plan sound began t pasts players new taken are heard kept = by_test (nat_lt t plan.until) refl
  where
    by_test : (c : Bool) → nat_lt t plan.until ≡ c → (later : List Past) × AreIn plan began (suc t) [] later [] new taken
    by_test true q = (
      heard_on_by (lost_by plan.losses) t plan.until (seens pasts) 0 pasts,
      subst (λ (ps : List Player). AreIn plan began (suc t) [] (heard_on_by (lost_by plan.losses) t plan.until (seens pasts) 0 pasts) [] ps taken) (sym (heard (grind (arith, nat_tests)))) (hear_on plan sound began t pasts players taken are q),
    )
    by_test false q = (
      heard_on_by (lost_by plan.losses) t plan.until (seens pasts) 0 pasts,
      subst (λ (ps : List Player). AreIn plan began (suc t) [] (heard_on_by (lost_by plan.losses) t plan.until (seens pasts) 0 pasts) [] ps taken) (sym (kept (grind (arith, nat_tests)))) (hear_no_more plan sound began t pasts players taken are q),
    )

-- boards that have come to a moment may have their turns at it
pub onto_at : (plan : ClassPlan) (began : Option (List ℕ)) (next : Option ℕ) (t : ℕ) (players : List Player) (taken : Option (List ℕ)) → Onto plan began next players taken → next ≡ Some t → (pasts : List Past) × AreAt plan began t pasts players taken
onto_at plan began next t players taken o e =
    (let here : (t ≤ plan.until) × AreIn plan began t [] o.pasts [] players taken = subst (λ (n : Option ℕ). AreOnto plan began n o.pasts players taken) e o.are in
    (o.pasts, record { plan_is = o.plan_is; within = here.0; are = here.1 }))

pub begins_at : (plan : ClassPlan) (began : Option (List ℕ)) (pasts : List Past) (players : List Player) (taken : Option (List ℕ)) → AreAt plan began 0 pasts players taken → Onto plan began (Some 0) players taken
begins_at plan began pasts players taken at = record { pasts = pasts; plan_is = at.plan_is; are = (at.within, at.are) }

pub ends_at : (plan : ClassPlan) (began : Option (List ℕ)) (next : Option ℕ) (players : List Player) (taken : Option (List ℕ)) → Onto plan began next players taken → next ≡ None → (pasts : List Past) × AreIn plan began (suc plan.until) [] pasts [] players taken
ends_at plan began next players taken o e = (o.pasts, subst (λ (n : Option ℕ). AreOnto plan began n o.pasts players taken) e o.are)

-- a whole moment: all had their turn, they heard what was sent, and wait for the next one
module _ (plan : ClassPlan) (sound : IsSoundPlan plan) (began : Option (List ℕ)) (losses : List Loss) (end t : ℕ) (same_losses : plan.losses ≡ losses) (same_end : plan.until ≡ end) (within : t ≤ plan.until) (players new : List Player) (taken : Option (List ℕ))
    (gone : (pasts : List Past) × AreIn plan began t pasts [] players [] taken) (heard : t < end → new ≡ all_hearing (lost_by losses) t (map (said t) players) 0 players) (kept : end ≤ t → new ≡ players) where
  moment_on : (later : List Past) × AreIn plan began (suc t) [] later [] new taken
  moment_on = onward_from plan sound began t gone.0 players new taken gone.1
      (λ l. heard (omega (arith, l, same_end)) ∙ ap (λ (ls : List Loss). all_hearing (lost_by ls) t (map (said t) players) 0 players) (sym same_losses))
      (λ l. kept (omega (arith, l, same_end)))

  pub then_next : (next : Option ℕ) → IsNextOf end new next → Onto plan began next new taken
  then_next next is = come_next plan sound began t moment_on.0 new taken next within moment_on.1 (subst (λ (u : ℕ). IsNextOf u new next) (sym same_end) is)

  pub then_less : (next : Option ℕ) → IsNextOf end new next → moments_left end next < moments_left end (Some t)
  then_less next is = subst (λ (u : ℕ). moments_left u next < moments_left u (Some t)) same_end
      (next_behind plan began t moment_on.0 new taken next within moment_on.1 (subst (λ (u : ℕ). IsNextOf u new next) (sym same_end) is))

-- a run that was ended in a later call was ended in this one
pub ended_later : (plan : ClassPlan) (began taken : Option (List ℕ)) (first fs fs' : ℕ) (end : ClassEnd) → first ≤ fs → IsEnded plan began taken fs fs' end → IsEnded plan began taken first fs' end
ended_later plan began taken first fs fs' end l h = record {
  t = h.t;
  within = h.within;
  gone = h.gone;
  here = h.here;
  still = h.still;
  first = h.first;
  player = h.player;
  rest = h.rest;
  between = h.between;
  faults = h.faults;
  later = (let k = h.later in omega (arith, l, k));
  are = h.are;
  on = h.on;
  ends = h.ends;
}
