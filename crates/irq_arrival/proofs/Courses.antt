-- Runs with arrivals, cut into parts.
use Rattle.std.proofs.Common.{◌≡◌, ℕ, ◌+◌, ◌-◌, ◌<◌, ◌≤◌, Bool, true, false, List, [], ◌∷◌, nat_le, if◌then◌else◌, refl, ap, ◌∙◌, subst, arith}
use Rattle.std.proofs.lemmas.Bool.Decides.{nat_tests}
use Rattle.board_world.specs.Board.{over}
use Rattle.board_world.specs.Kinds.{Kind}
use Rattle.board_world.specs.Activities.{World}
use Rattle.board_world.specs.Runs.{Arrival, acts, Rises, since, run, run_with}
use Rattle.board_world.proofs.Laws.{run_sum, run_by_list, since_list, acts_over}
use Rattle.irq_arrival.specs.Along.{NoneBefore}

module _ {A S : Type 0} (K : Kind A S) where
  run_in_two : (n j k : ℕ) (w : World A S) → n ≡ j + k → run K n w ≡ run K k (run K j w)
  run_in_two n j k w e = (let z : n ≡ k + j = omega arith in ap (λ i. run K i w) z ∙ run_sum K j k w)

  -- where nothing arrives up to a moment, the course goes on from there
  pub with_moved : (left : List Arrival) (n k m : ℕ) (w : World A S) → NoneBefore (n + k) left → n + k ≤ m → run_by_list K n left m w ≡ run_by_list K (n + k) left m (run K k w)
  with_moved [] n k m w b l = run_in_two (m - n) k (m - (n + k)) w (omega arith)
  with_moved (a ∷ rest) n k m w b l =
      let x : run K (a.count - n) w ≡ run K (a.count - (n + k)) (run K k w) = run_in_two (a.count - n) k (a.count - (n + k)) w (omega arith) in
      let y : run K (m - n) w ≡ run K (m - (n + k)) (run K k w) = run_in_two (m - n) k (m - (n + k)) w (omega arith) in
      ap (λ v. if nat_le a.count m then run_by_list K a.count rest m (acts a.act v) else run K (m - n) w) x
      ∙ ap (λ v. if nat_le a.count m then run_by_list K a.count rest m (acts a.act (run K (a.count - (n + k)) (run K k w))) else v) y

  -- before anything arrives the course is a run
  pub with_before : (left : List Arrival) (n k m : ℕ) (w : World A S) → NoneBefore (n + k) left → n ≤ m → m < n + k → run_by_list K n left m w ≡ run K (m - n) w
  with_before [] n k m w b l h = refl
  with_before (a ∷ rest) n k m w b l h = (let e : nat_le a.count m ≡ false = grind (arith, nat_tests) in rw e refl)

  -- what arrives now
  pub with_now : (a : Arrival) (left : List Arrival) (n m : ℕ) (w : World A S) → a.count ≡ n → n ≤ m → run_by_list K n (a ∷ left) m w ≡ run_by_list K n left m (acts a.act w)
  with_now a left n m w e l =
      let t : nat_le a.count m ≡ true = grind (arith, nat_tests) in
      let z : a.count - n ≡ 0 = omega arith in
      rw (t, z) (ap (λ i. run_by_list K i left m (acts a.act w)) e)

  -- at the present moment, where nothing arrives or the run is over
  pub with_here : (left : List Arrival) (n : ℕ) (w : World A S) → NoneBefore (n + 1) left → run_by_list K n left n w ≡ w
  with_here [] n w b = (let z : n - n ≡ 0 = omega arith in ap (λ i. run K i w) z)
  with_here (a ∷ rest) n w b = (let e : nat_le a.count n ≡ false = grind (arith, nat_tests) in let z : n - n ≡ 0 = omega arith in rw e (ap (λ i. run K i w) z))

  pub with_over : (left : List Arrival) (n : ℕ) (w : World A S) → Rises n left → over w.board ≡ true → run_by_list K n left n w ≡ w
  with_over [] n w r o = (let z : n - n ≡ 0 = omega arith in ap (λ i. run K i w) z)
  with_over (a ∷ rest) n w r o = by_test (nat_le a.count n) refl (λ x. with_over rest n w x o)
    where
      by_test : (t : Bool) → nat_le a.count n ≡ t → (Rises n rest → run_by_list K n rest n w ≡ w) → run_by_list K n (a ∷ rest) n w ≡ w
      by_test false e others = (let z : n - n ≡ 0 = omega arith in rw e (ap (λ i. run K i w) z))
      by_test true e others =
          let l : a.count ≡ n = (let x = r.0 in grind (arith, nat_tests)) in
          with_now a rest n n w l (omega arith) ∙ (ap (λ v. run_by_list K n rest n v) (acts_over a.act w o) ∙ others (subst (λ i. Rises i rest) l r.1))

  -- what goes on from a moment goes on by the list of what is left
  pub onward_list : (left : List Arrival) (n m : ℕ) (w : World A S) → Rises n left → n ≤ m → run_with K (since n left) (m - n) w ≡ run_by_list K n left m w
  onward_list left n m w r l = (let sum : n + (m - n) ≡ m = omega arith in since_list K n (m - n) left w r ∙ ap (λ i. run_by_list K n left i w) sum)
