-- The calls on keys do what the same calls do to what stands for the keys.
use Rattle.std.proofs.Common.{◌≡◌, ℕ, zero, suc, ◌+◌, ◌≤◌, nat_le, Option, Some, None, List, [], ◌∷◌, ◌++◌, length, map, drop, take, get_or, ◌↔◌, refl, sym, ap, ◌∙◌, arith, append_assoc}
use Rattle.std.proofs.lemmas.List.{append-nil, map-append}
use Rattle.std.specs.Option.{option_to_list}
use Rattle.board_world.specs.declared.events.Event.{Event}
use Rattle.board_world.specs.Waiting.{chosen, left, least, hears}
use Rattle.board_world.specs.Rules.{earlier}
use Rattle.fiber_queues.specs.Lists.{ListsOf, IsFirst, first_chosen, without_first}
use Rattle.fiber_queues.specs.Calls.{Call, Ready, Sleep, Wait, Next, WakeDue, WakeWaiter, called, after, times, waiter_woken, all_woken, keyed, meant, meant_call}
use Rattle.fiber_queues.proofs.ChosenKeys.{chosen-keyed, left-keyed, first-keyed, without-keyed}
use Rattle.fiber_queues.proofs.Chosen.{chosen-split, left-without_first, none-chosen, first-none, without-all, left-all, first-at, without-at, left-moved}

pub same_lists : {Y : Type 0} (r r' : List Y) (s s' : List (ℕ × Y)) (w w' : List (Event × Y)) → r ≡ r' → s ≡ s' → w ≡ w'
    → (let q : ListsOf Y = record { ready = r; sleepers = s; waiters = w } in let q' : ListsOf Y = record { ready = r'; sleepers = s'; waiters = w' } in q ≡ q')
same_lists r r' s s' w w' e f g = rw (e, f, g) refl

module _ {X Y : Type 0} (f : X → Y) where
  drop-map : (xs : List X) → map f (drop 1 xs) ≡ drop 1 (map f xs)
  drop-map [] = refl
  drop-map (x ∷ xs) = refl

  -- one call
  pub meant-called : (c : Call X) (q : ListsOf X) → meant f (called c q) ≡ called (meant_call f c) (meant f q)
  meant-called (Ready who) q = same_lists _ _ _ _ _ _ (map-append f q.ready (who ∷ [])) refl refl
  meant-called (Sleep who wake) q = same_lists _ _ _ _ _ _ refl (map-append (λ p. (p.0, f p.1)) q.sleepers ((wake, who) ∷ [])) refl
  meant-called (Wait who event) q = same_lists _ _ _ _ _ _ refl refl (map-append (λ p. (p.0, f p.1)) q.waiters ((event, who) ∷ []))
  meant-called Next q = same_lists _ _ _ _ _ _ (drop-map q.ready) refl refl
  meant-called (WakeDue now) q =
      let due = λ (wake : ℕ). nat_le wake now in
      same_lists _ _ _ _ _ _ (map-append f q.ready (chosen due q.sleepers) ∙ ap (λ l. map f q.ready ++ l) (sym (chosen-keyed due f q.sleepers))) (sym (left-keyed due f q.sleepers)) refl
  meant-called (WakeWaiter event) q =
      same_lists _ _ _ _ _ _ (map-append f q.ready (option_to_list (first_chosen (hears event) q.waiters)) ∙ ap (λ l. map f q.ready ++ l) (sym (first-keyed (hears event) f q.waiters)))
      refl (sym (without-keyed (hears event) f q.waiters))

  -- any list of calls
  pub meant-after : (cs : List (Call X)) (q : ListsOf X) → meant f (after cs q) ≡ after (map (meant_call f) cs) (meant f q)
  meant-after [] q = refl
  meant-after (c ∷ cs) q = meant-after cs (called c q) ∙ ap (after (map (meant_call f) cs)) (meant-called c q)

  pub least-keyed : (ps : List (ℕ × X)) → least (keyed f ps) ≡ least ps
  least-keyed [] = refl
  least-keyed (p ∷ ps) = ap (earlier (Some p.0)) (least-keyed ps)

module _ {Y : Type 0} (e : Event) where
  fewer : (o : Option Y) (xs ys : List Y) (n : ℕ) → xs ≡ option_to_list o ++ ys → length xs ≤ suc n → (o ≡ None → ys ≡ []) → length ys ≤ n
  fewer None xs ys n s h k = rw (k refl) (omega arith)
  fewer (Some y) xs ys n s h k = omega (arith, ap length s)

  -- as many wakings as there are waiters that hear
  pub woken-all : (n : ℕ) (q : ListsOf Y) → length (chosen (hears e) q.waiters) ≤ n →
      after (times n (WakeWaiter e)) q ≡ all_woken e q
  woken-all zero q h =
      let test = hears e in
      let nobody : chosen test q.waiters ≡ [] = none_of (chosen test q.waiters) h in
      same_lists _ _ _ _ _ _ (sym (append-nil q.ready) ∙ ap (λ l. q.ready ++ l) (sym nobody)) refl (sym (left-all test q.waiters nobody))
    where
      none_of : (xs : List Y) → length xs ≤ zero → xs ≡ []
      none_of [] h = refl
      none_of (x ∷ xs) h = absurd (omega arith)
  woken-all (suc n) q h =
      let test = hears e in
      let first = first_chosen test q.waiters in
      let rest = without_first test q.waiters in
      let split = chosen-split test q.waiters in
      let nobody : first ≡ None → chosen test rest ≡ [] = λ none. (let here = none-chosen test q.waiters none in ap (chosen test) (without-all test q.waiters here) ∙ here) in
      let more = woken-all n (waiter_woken e q) (fewer first (chosen test q.waiters) (chosen test rest) n split h nobody) in
      more ∙ same_lists _ _ _ _ _ _ (append_assoc q.ready (option_to_list first) (chosen test rest) ∙ ap (λ l. q.ready ++ l) (sym split)) refl (left-without_first test q.waiters)

-- nobody sleeps where there is no least wake time
pub least-iff : {Y : Type 0} (ps : List (ℕ × Y)) → (least ps ≡ None) ↔ (ps ≡ [])
least-iff [] = (λ e. refl, λ e. refl)
least-iff (p ∷ ps) = by_rest (least ps)
  where
    by_rest : (o : Option ℕ) → (earlier (Some p.0) o ≡ None) ↔ (p ∷ ps ≡ [])
    by_rest None = (λ e. absurd (cc), λ e. absurd (cc))
    by_rest (Some t) = (λ e. absurd (cc), λ e. absurd (cc))

-- the first waiter that hears is taken out and becomes ready
pub record Taken (e : Event) (q q' : ListsOf ℕ) (key : ℕ) : Type 0 where
  pub first : Some key ≡ first_chosen (hears e) q.waiters
  pub none : (Some key ≡ None) ↔ (chosen (hears e) q.waiters ≡ [])
  pub woken : q' ≡ waiter_woken e q
  pub others : chosen (hears e) q.waiters ≡ key ∷ chosen (hears e) q'.waiters
  pub left_as_before : left (hears e) q'.waiters ≡ left (hears e) q.waiters

pub taken : (e : Event) (q q' : ListsOf ℕ) (ys : List (Event × ℕ)) (at : ℕ) (d : Event × ℕ) → IsFirst (hears e) ys at → ys ≡ q.waiters
    → q'.waiters ≡ take at q.waiters ++ drop (at + 1) q.waiters → d ≡ get_or q.waiters at d → q'.ready ≡ q.ready ++ d.1 ∷ [] → q'.sleepers ≡ q.sleepers → Taken e q q' d.1
taken e q q' ys at d f s w k r z =
    let first = first-at (hears e) ys q.waiters at d f s k in
    let without = without-at (hears e) ys q.waiters q'.waiters at d f s w in
    let others : chosen (hears e) q.waiters ≡ d.1 ∷ chosen (hears e) q'.waiters = chosen-split (hears e) q.waiters ∙ rw (first, without) refl in
    record {
      first = sym first;
      none = (λ e. absurd (cc), λ none. absurd (cc (others, none)));
      woken = same_lists _ _ _ _ _ _ (r ∙ ap (λ o. q.ready ++ option_to_list o) (sym first)) z (sym without);
      others = others;
      left_as_before = left-moved (hears e) ys q.waiters q'.waiters at d f s w;
    }

-- where no waiter hears, nothing changes
pub record Stayed (e : Event) (q : ListsOf ℕ) : Type 0 where
  pub first : (let none : Option ℕ = None in none ≡ first_chosen (hears e) q.waiters)
  pub woken : q ≡ waiter_woken e q

pub stayed : (e : Event) (q : ListsOf ℕ) → chosen (hears e) q.waiters ≡ [] → Stayed e q
stayed e q h =
    let first = first-none (hears e) q.waiters h in
    record {
      first = sym first;
      woken = same_lists _ _ _ _ _ _ (sym (ap (λ o. q.ready ++ option_to_list o) first ∙ append-nil q.ready)) refl (sym (without-all (hears e) q.waiters h));
    }
