-- A run with arrivals by the list of them, from one arrival to the next: it is the run with arrivals, where their numbers don't fall.
use Rattle.std.proofs.Common.{◌≡◌, ℕ, zero, suc, ◌+◌, ◌-◌, ◌≤◌, ◌<◌, Bool, true, false, ◌&&◌, if◌then◌else◌, nat_le, nat_lt, ◌==◌, Option, Some, None, is_some, List, [], ◌∷◌, length, take, refl, ap, sym, ◌∙◌, subst, arith}
use Rattle.std.specs.Prelude.{not}
use Rattle.std.proofs.lemmas.Bool.Decides.{nat_tests}
use Rattle.board_world.specs.declared.events.Event.{Event}
use Rattle.board_world.specs.Board.{Board, Act, Down, Up, Raise, Unplug, over, arrive, raised, went_down, went_up}
use Rattle.board_world.specs.Kinds.{Kind}
use Rattle.board_world.specs.Activities.{World}
use Rattle.board_world.specs.World.{tick}
use Rattle.board_world.specs.Runs.{Arrival, acts, acts_at, run, run_with, board_with, Rises, RisesTo, since, applied}
use Rattle.board_world.proofs.Stays.{if_keeps, run_over}

module _ {A S : Type 0} (K : Kind A S) where
  -- after m steps, from the world after n steps on
  abbrev pub run_by_list : ℕ → List Arrival → ℕ → World A S → World A S
  run_by_list n [] m w = run K (m - n) w
  run_by_list n (a ∷ rest) m w =
      if nat_le a.count m then run_by_list a.count rest m (acts a.act (run K (a.count - n) w)) else run K (m - n) w

  -- those that are applied within m steps
  abbrev pub applied_by_list : ℕ → List Arrival → ℕ → World A S → List Arrival
  applied_by_list n [] m w = []
  applied_by_list n (a ∷ rest) m w =
      if nat_le a.count m && not (over (run K (a.count - n) w).board)
      then a ∷ applied_by_list a.count rest m (acts a.act (run K (a.count - n) w))
      else []

pub rises_le : (n : ℕ) (rest : List Arrival) (k : ℕ) → RisesTo n rest k → n ≤ k
rises_le n [] k h = h
rises_le n (a ∷ rest) k h = (let more : a.count ≤ k = rises_le a.count rest k h.1 in let first : n ≤ a.count = h.0 in omega arith)

-- places that rise to k rise
pub rises_from : (n : ℕ) (rest : List Arrival) (k : ℕ) → RisesTo n rest k → Rises n rest
rises_from n [] k h = tt
rises_from n (a ∷ rest) k h = (h.0, rises_from a.count rest k h.1)

-- no act ends a run
pub end_raised : (e : Event) (b : Board) → (raised e b).end ≡ b.end
end_raised e b = if_keeps (λ (x : Board). x.end ≡ b.end) (nat_lt (length b.queue) 32) _ _ refl refl

end_down : (k : ℕ) (o : Option ℕ) (b : Board) → (went_down k o b).end ≡ b.end
end_down k None b = end_raised _ b
end_down k (Some t) b = refl

end_up : (k : ℕ) (o : Option ℕ) (b : Board) → (went_up k o b).end ≡ b.end
end_up k None b = refl
end_up k (Some t) b = end_raised _ (raised _ b) ∙ end_raised _ b

pub end_arrive : (a : Act) (b : Board) → (arrive a b).end ≡ b.end
end_arrive (Down n) b = if_keeps (λ (x : Board). x.end ≡ b.end) (n == 1) _ _ (end_down 1 b.a_since b) (end_down 2 b.b_since b)
end_arrive (Up n) b = if_keeps (λ (x : Board). x.end ≡ b.end) (n == 1) _ _ (end_up 1 b.a_since b) (end_up 2 b.b_since b)
end_arrive (Raise e) b = end_raised e b
end_arrive (Unplug p) b = refl

module _ {A S : Type 0} where
  -- what has ended is left as it is
  pub acts_over : (a : Act) (w : World A S) → over w.board ≡ true → acts a w ≡ w
  acts_over a w e = rw e refl

  pub acts_at_over : (n : ℕ) (rest : List Arrival) (w : World A S) → over w.board ≡ true → acts_at n rest w ≡ w
  acts_at_over n [] w e = refl
  acts_at_over n (a ∷ rest) w e =
      ap (acts_at n rest) (if_keeps (λ v. v ≡ w) (a.count == n) (acts a.act w) w (acts_over a.act w e) refl) ∙ acts_at_over n rest w e

  pub over_acts : (a : Act) (w : World A S) → over (acts a w).board ≡ over w.board
  over_acts a w = if_keeps (λ (v : World A S). over v.board ≡ over w.board) (over w.board) w (record w { board = arrive a w.board }) refl (ap is_some (end_arrive a w.board))

  pub over_acts_at : (n : ℕ) (rest : List Arrival) (w : World A S) → over (acts_at n rest w).board ≡ over w.board
  over_acts_at n [] w = refl
  over_acts_at n (a ∷ rest) w =
      over_acts_at n rest (if a.count == n then acts a.act w else w)
      ∙ if_keeps (λ (v : World A S). over v.board ≡ over w.board) (a.count == n) (acts a.act w) w (over_acts a.act w) refl

  -- before the first there is none
  none_at : (k n : ℕ) (rest : List Arrival) (w : World A S) → Rises k rest → n < k → acts_at n rest w ≡ w
  none_at k n [] w r l = refl
  none_at k n (a ∷ rest) w r l =
      (let first : k ≤ a.count = r.0 in
      let other : (a.count == n) ≡ false = grind (arith, nat_tests) in
      rw other (none_at a.count n rest w r.1 (omega arith)))

  -- those of the present number
  one_at : (n : ℕ) (a : Arrival) (rest : List Arrival) (w : World A S) → a.count ≡ n → acts_at n (a ∷ rest) w ≡ acts_at n rest (acts a.act w)
  one_at n a rest w e = (let same : (a.count == n) ≡ true = grind (arith, nat_tests) in rw same refl)

  -- counted from n on
  since_at : (n j : ℕ) (rest : List Arrival) (w : World A S) → Rises n rest → acts_at j (since n rest) w ≡ acts_at (n + j) rest w
  since_at n j [] w r = refl
  since_at n j (a ∷ rest) w r =
      (let first : n ≤ a.count = r.0 in
      let same : (a.count - n == j) ≡ (a.count == n + j) = tests in
      ap (λ (c : Bool). acts_at j (since n rest) (if c then acts a.act w else w)) same
      ∙ since_at n j rest (if a.count == n + j then acts a.act w else w) (later n a.count rest first r.1))
    where
      tests : (a.count - n == j) ≡ (a.count == n + j)
      tests = (let first : n ≤ a.count = r.0 in grind (arith, nat_tests))

      later : (n k : ℕ) (rest : List Arrival) → n ≤ k → Rises k rest → Rises n rest
      later n k [] l h = tt
      later n k (b ∷ bs) l h = (let next : k ≤ b.count = h.0 in (omega arith, h.1))

module _ {A S : Type 0} (K : Kind A S) where
  list_begins : (n : ℕ) (rest : List Arrival) (w : World A S) → Rises n rest → run_by_list K n rest n w ≡ acts_at n rest w
  list_begins n [] w r = (let none : n - n ≡ 0 = omega arith in ap (λ i. run K i w) none)
  list_begins n (a ∷ rest) w r = by_test (nat_le a.count n) refl (λ v k. list_begins a.count rest v k)
    where
      by_test : (c : Bool) → nat_le a.count n ≡ c → ((v : World A S) → Rises a.count rest → run_by_list K a.count rest a.count v ≡ acts_at a.count rest v) → run_by_list K n (a ∷ rest) n w ≡ acts_at n (a ∷ rest) w
      by_test true e others =
          (let first : n ≤ a.count = r.0 in
          let now : a.count ≡ n = grind (arith, nat_tests) in
          let none : a.count - n ≡ 0 = omega arith in
          rw e (ap (λ i. run_by_list K a.count rest n (acts a.act (run K i w))) none
          ∙ subst (λ (i : ℕ). run_by_list K a.count rest i (acts a.act w) ≡ acts_at i rest (acts a.act w)) now (others (acts a.act w) r.1)
          ∙ sym (one_at n a rest w now)))
      by_test false e others =
          (let none : n - n ≡ 0 = omega arith in
          let later : n < a.count = grind (arith, nat_tests) in
          rw e (ap (λ i. run K i w) none ∙ sym (none_at a.count n (a ∷ rest) w (omega arith, r.1) later)))

  list_goes : (n m : ℕ) (rest : List Arrival) (w : World A S) → Rises n rest → n ≤ m → run_by_list K n rest (suc m) w ≡ acts_at (suc m) rest (tick K (run_by_list K n rest m w))
  list_goes n m [] w r l = (let one : suc m - n ≡ suc (m - n) = omega arith in ap (λ i. run K i w) one)
  list_goes n m (a ∷ rest) w r l = by_test (nat_le a.count m) (nat_le a.count (suc m)) refl refl (λ v k. list_goes a.count m rest v r.1 k)
    where
      one : suc m - n ≡ suc (m - n)
      one = omega arith

      by_test : (c d : Bool) → nat_le a.count m ≡ c → nat_le a.count (suc m) ≡ d
          → ((v : World A S) → a.count ≤ m → run_by_list K a.count rest (suc m) v ≡ acts_at (suc m) rest (tick K (run_by_list K a.count rest m v)))
          → run_by_list K n (a ∷ rest) (suc m) w ≡ acts_at (suc m) (a ∷ rest) (tick K (run_by_list K n (a ∷ rest) m w))
      by_test true true p q others =
          (let other : (a.count == suc m) ≡ false = grind (arith, nat_tests) in
          rw (p, q, other) (others (acts a.act (run K (a.count - n) w)) (grind (arith, nat_tests))))
      by_test true false p q others = absurd (let x : a.count ≤ m = grind (arith, nat_tests) in let y : suc m < a.count = grind (arith, nat_tests) in omega (arith, x, y))
      by_test false true p q others =
          (let now : a.count ≡ suc m = grind (arith, nat_tests) in
          let same : (a.count == suc m) ≡ true = grind (arith, nat_tests) in
          let step : a.count - n ≡ suc (m - n) = omega arith in
          rw (p, q, same) (ap (λ i. run_by_list K a.count rest (suc m) (acts a.act (run K i w))) step
          ∙ subst (λ (i : ℕ). run_by_list K a.count rest i (acts a.act (tick K (run K (m - n) w))) ≡ acts_at i rest (acts a.act (tick K (run K (m - n) w)))) now
          (list_begins a.count rest (acts a.act (tick K (run K (m - n) w))) r.1)))
      by_test false false p q others =
          (let other : (a.count == suc m) ≡ false = grind (arith, nat_tests) in
          let later : suc m < a.count = grind (arith, nat_tests) in
          rw (p, q, other) (ap (λ i. run K i w) one ∙ sym (none_at a.count (suc m) rest (tick K (run K (m - n) w)) r.1 later)))

  -- from any step on
  pub since_list : (n j : ℕ) (rest : List Arrival) (w : World A S) → Rises n rest → run_with K (since n rest) j w ≡ run_by_list K n rest (n + j) w
  since_list n zero rest w r =
      (let sum : n + 0 ≡ n = omega arith in
      since_at n 0 rest w r ∙ ap (λ i. acts_at i rest w) sum ∙ sym (list_begins n rest w r) ∙ ap (λ i. run_by_list K n rest i w) (sym sum))
  since_list n (suc j) rest w r =
      (let sum : n + suc j ≡ suc (n + j) = omega arith in
      ap (λ v. acts_at (suc j) (since n rest) (tick K v)) (since_list n j rest w r)
      ∙ since_at n (suc j) rest (tick K (run_by_list K n rest (n + j) w)) r
      ∙ ap (λ i. acts_at i rest (tick K (run_by_list K n rest (n + j) w))) sum
      ∙ sym (list_goes n (n + j) rest w r (omega arith))
      ∙ ap (λ i. run_by_list K n rest i w) (sym sum))

  -- from the start
  pub with_list : (m : ℕ) (rest : List Arrival) (w : World A S) → Rises 0 rest → run_with K rest m w ≡ run_by_list K 0 rest m w
  with_list zero rest w r = sym (list_begins 0 rest w r)
  with_list (suc m) rest w r = ap (λ v. acts_at (suc m) rest (tick K v)) (with_list m rest w r) ∙ sym (list_goes 0 m rest w r (omega arith))

  -- where nothing arrives
  pub with_nothing : (m : ℕ) (w : World A S) → run_with K [] m w ≡ run K m w
  with_nothing zero w = refl
  with_nothing (suc m) w = ap (tick K) (with_nothing m w)

  -- a run that has ended stays so
  pub with_over : (m : ℕ) (rest : List Arrival) (w : World A S) → over (run_with K rest m w).board ≡ true → run_with K rest (suc m) w ≡ run_with K rest m w
  with_over m rest w e =
      (let stays : tick K (run_with K rest m w) ≡ run_with K rest m w = run_over K 1 (run_with K rest m w) e in
      ap (acts_at (suc m) rest) stays ∙ acts_at_over (suc m) rest (run_with K rest m w) e)

  pub with_over_later : (n j : ℕ) (rest : List Arrival) (w : World A S) → over (run_with K rest n w).board ≡ true → run_with K rest (j + n) w ≡ run_with K rest n w
  with_over_later n zero rest w e = (let sum : 0 + n ≡ n = omega arith in ap (λ i. run_with K rest i w) sum)
  with_over_later n (suc j) rest w e =
      (let sum : suc j + n ≡ suc (j + n) = omega arith in
      let before : run_with K rest (j + n) w ≡ run_with K rest n w = with_over_later n j rest w e in
      ap (λ i. run_with K rest i w) sum ∙ with_over (j + n) rest w (ap (λ (v : World A S). over v.board) before ∙ e) ∙ before)

  pub over_by_list : (n : ℕ) (rest : List Arrival) (m : ℕ) (w : World A S) → over w.board ≡ true → run_by_list K n rest m w ≡ w
  over_by_list n [] m w e = run_over K (m - n) w e
  over_by_list n (a ∷ rest) m w e =
      (let r = run_over K (a.count - n) w e in
      let s = run_over K (m - n) w e in
      let t = acts_over a.act w e in
      let ih = over_by_list a.count rest m w e in
      if_keeps (λ v. v ≡ w) (nat_le a.count m) _ _ (rw (r, t) ih) s)

  -- none of those that come late is applied
  none_applied : (board : ℕ → Board) (k m : ℕ) (rest : List Arrival) → Rises k rest → ((c : ℕ) → k ≤ c → (nat_le c m && not (over (board c))) ≡ false) → applied board rest m ≡ []
  none_applied board k m [] r h = refl
  none_applied board k m (a ∷ rest) r h =
      (let first : k ≤ a.count = r.0 in
      let late : (nat_le a.count m && not (over (board a.count))) ≡ false = h a.count first in
      rw late (none_applied board a.count m rest r.1 (λ c l. h c (omega (arith, first, l)))))

  applied_from : (board : ℕ → Board) (n m : ℕ) (rest : List Arrival) (w : World A S) → Rises n rest → ((c : ℕ) → n ≤ c → over (board c) ≡ over (run_by_list K n rest c w).board) → applied board rest m ≡ applied_by_list K n rest m w
  applied_from board n m [] w r same = refl
  applied_from board n m (a ∷ rest) w r same = by_test (nat_le a.count m && not (over u.board)) refl (applied_from board a.count m rest (acts a.act u) r.1 (λ c l. at_rest c l ∙ sym (goes c l)))
    where
      u : World A S
      u = run K (a.count - n) w

      goes : (c : ℕ) → a.count ≤ c → over (run_by_list K a.count rest c (acts a.act u)).board ≡ over (run_by_list K n (a ∷ rest) c w).board
      goes c l = (let come : nat_le a.count c ≡ true = grind (arith, nat_tests) in rw come refl)

      at_rest : (c : ℕ) → a.count ≤ c → over (board c) ≡ over (run_by_list K n (a ∷ rest) c w).board
      at_rest c l = (let first : n ≤ a.count = r.0 in same c (omega (arith, first, l)))

      here : over (board a.count) ≡ over u.board
      here =
          at_rest a.count (omega arith) ∙ sym (goes a.count (omega arith))
          ∙ ap (λ (v : World A S). over v.board) (list_begins a.count rest (acts a.act u) r.1)
          ∙ over_acts_at a.count rest (acts a.act u) ∙ over_acts a.act u

      tested : (c : Bool) → (nat_le a.count m && not (over u.board)) ≡ c → (nat_le a.count m && not (over (board a.count))) ≡ c
      tested c e = ap (λ (o : Bool). nat_le a.count m && not o) here ∙ e

      ended : (c : ℕ) → a.count ≤ c → (o : Bool) → over u.board ≡ o → (nat_le a.count m && not (over u.board)) ≡ false → (nat_le c m && not (over (board c))) ≡ false
      ended c l true o e = (let f : over (board c) ≡ true = at_rest c l ∙ sym (goes c l) ∙ stays c in rw f (grind (arith, nat_tests)))
        where
          stays : (c : ℕ) → over (run_by_list K a.count rest c (acts a.act u)).board ≡ true
          stays c = ap (λ (v : World A S). over v.board) (over_by_list a.count rest c (acts a.act u) (over_acts a.act u ∙ o)) ∙ (over_acts a.act u ∙ o)
      ended c l false o e = grind (arith, nat_tests)

      by_test : (c : Bool) → (nat_le a.count m && not (over u.board)) ≡ c → applied board rest m ≡ applied_by_list K a.count rest m (acts a.act u) → applied board (a ∷ rest) m ≡ applied_by_list K n (a ∷ rest) m w
      by_test true e others = (let t = tested true e in rw (e, t) (ap (λ xs. a ∷ xs) others))
      by_test false e others = (let t = tested false e in rw (e, t) (none_applied board a.count m rest r.1 (λ c l. ended c l (over u.board) refl e)))

  pub applied_list : (m : ℕ) (rest : List Arrival) (w : World A S) → Rises 0 rest → applied (board_with K w rest) rest m ≡ applied_by_list K 0 rest m w
  applied_list m rest w r = applied_from (board_with K w rest) 0 m rest w r (λ c l. ap (λ (v : World A S). over v.board) (with_list c rest w r))

  -- up to the first arrival a run is the plain one, and behind it the run from there
  pub list_before : (a : Arrival) (rest : List Arrival) (m : ℕ) (w : World A S) → Rises 0 (a ∷ rest) → m < a.count → run_with K (a ∷ rest) m w ≡ run K m w
  list_before a rest m w r l =
      (let late : nat_le a.count m ≡ false = grind (arith, nat_tests) in
      let all : m - 0 ≡ m = omega arith in
      with_list m (a ∷ rest) w r ∙ rw late (ap (λ i. run K i w) all))

  pub list_behind : (a : Arrival) (rest : List Arrival) (m : ℕ) (w : World A S) → Rises 0 (a ∷ rest) → a.count ≤ m → run_with K (a ∷ rest) m w ≡ run_with K (since a.count rest) (m - a.count) (acts a.act (run K a.count w))
  list_behind a rest m w r l =
      (let come : nat_le a.count m ≡ true = grind (arith, nat_tests) in
      let all : a.count - 0 ≡ a.count = omega arith in
      let sum : a.count + (m - a.count) ≡ m = omega arith in
      with_list m (a ∷ rest) w r ∙ rw come (ap (λ i. run_by_list K a.count rest m (acts a.act (run K i w))) all
      ∙ ap (λ i. run_by_list K a.count rest i (acts a.act (run K a.count w))) (sym sum)
      ∙ sym (since_list a.count (m - a.count) rest (acts a.act (run K a.count w)) r.1)))

  -- those that are applied are the first so many
  first_by_list : (n : ℕ) (rest : List Arrival) (m : ℕ) (w : World A S) → applied_by_list K n rest m w ≡ take (length (applied_by_list K n rest m w)) rest
  first_by_list n [] m w = refl
  first_by_list n (a ∷ rest) m w = by_test (nat_le a.count m && not (over (run K (a.count - n) w).board)) (first_by_list a.count rest m (acts a.act (run K (a.count - n) w)))
    where
      by_test : (t : Bool) → applied_by_list K a.count rest m (acts a.act (run K (a.count - n) w)) ≡ take (length (applied_by_list K a.count rest m (acts a.act (run K (a.count - n) w)))) rest
          → (if t then a ∷ applied_by_list K a.count rest m (acts a.act (run K (a.count - n) w)) else []) ≡ take (length (if t then a ∷ applied_by_list K a.count rest m (acts a.act (run K (a.count - n) w)) else [])) (a ∷ rest)
      by_test true h = ap (λ xs. a ∷ xs) h
      by_test false h = refl

  pub applied_first : (m : ℕ) (rest : List Arrival) (w : World A S) → Rises 0 rest → applied (board_with K w rest) rest m ≡ take (length (applied (board_with K w rest) rest m)) rest
  applied_first m rest w r = (let same = applied_list m rest w r in same ∙ (first_by_list 0 rest m w ∙ ap (λ xs. take (length xs) rest) (sym same)))
