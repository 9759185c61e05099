-- A run with arrivals goes on to meet moves behind those that it has met: what stands behind a line that was cut.
use Rattle.std.proofs.Common.{◌≡◌, ℕ, ◌-◌, Bool, true, false, List, [], ◌∷◌, ◌++◌, nat_le, refl, subst, append_assoc}
use Rattle.board_world.specs.Board.{Act, over}
use Rattle.board_world.specs.Kinds.{Kind}
use Rattle.board_world.specs.Activities.{World}
use Rattle.board_world.specs.Runs.{Arrival, acts, run}
use Rattle.board_world.proofs.Laws.{run_by_list}
use Rattle.board_outside.specs.Moves.{Move, HasMet}
use Rattle.board_outside.proofs.Laws.{goes_on_meeting}
use Rattle.board_run.specs.Ran.{MayArrive}
use Rattle.irq_arrival.specs.Along.{AllMay}
use Rattle.irq_arrival.proofs.Joins.{arrive_met}

acts_meet : {A S : Type 0} (act : Act) (met : List Move) (w : World A S) → MayArrive act → HasMet met w.board → HasMet met (acts act w).board
acts_meet act met w m h = by_test (over w.board) refl
  where
    by_test : (t : Bool) → over w.board ≡ t → HasMet met (acts act w).board
    by_test true e = rw e h
    by_test false e = rw e (arrive_met act met w.board m h)

pub with_meets : {A S : Type 0} (K : Kind A S) (left : List Arrival) (n m : ℕ) (w : World A S) (met : List Move) → AllMay left → HasMet met w.board → (more : List Move) × HasMet (met ++ more) (run_by_list K n left m w).board
with_meets K [] n m w met a h = goes_on_meeting K met (m - n) w h
with_meets K (x ∷ left) n m w met a h = by_test (nat_le x.count m) refl
    (let r = goes_on_meeting K met (x.count - n) w h in
    let v = run K (x.count - n) w in
    let q = with_meets K left x.count m (acts x.act v) (met ++ r.0) a.1 (acts_meet x.act (met ++ r.0) v a.0 r.1) in
    (r.0 ++ q.0, subst (λ ms. HasMet ms (run_by_list K x.count left m (acts x.act v)).board) (append_assoc met r.0 q.0) q.1))
  where
    by_test : (t : Bool) → nat_le x.count m ≡ t → ((more : List Move) × HasMet (met ++ more) (run_by_list K x.count left m (acts x.act (run K (x.count - n) w))).board) → (more : List Move) × HasMet (met ++ more) (run_by_list K n (x ∷ left) m w).board
    by_test true e others = (others.0, rw e others.1)
    by_test false e others = (let r = goes_on_meeting K met (m - n) w h in (r.0, rw e r.1))
