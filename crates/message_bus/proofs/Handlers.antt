-- The listeners that begin or hold: those of a bus as those of a world that agrees with it, one by one.
use Rattle.std.proofs.Common.{◌≡◌, ℕ, zero, suc, ◌+◌, ◌<◌, Bool, true, false, not, ◌&&◌, ◌||◌, ◌==◌, nat_lt, if◌then◌else◌, Some, List, [], ◌∷◌, ◌++◌, length, map, refl, sym, ap, ◌∙◌, arith, zero-add}
use Rattle.std.specs.Ordering.{int_eq}
use Rattle.std.proofs.lemmas.Bool.Decides.{nat_tests}
use Rattle.board_world.specs.declared.events.Event.{Event}
use Rattle.board_world.specs.declared.events.Listener.{Listener}
use Rattle.board_world.specs.Limits.{held_limit}
use Rattle.board_world.specs.Rules.{drops_if_busy}
use Rattle.std.specs.List.{list_any}
use Rattle.board_world.specs.Waiting.{how_many, none, handler_of}
use Rattle.board_world.specs.Activities.{Activity, World, is_of, busy, begins_for, handlers, holds, holding}
use Rattle.message_bus.specs.ListenerState.{fresh, ListenerState, wants, begins_new, holds_it, with_held, heard, ended}
use Rattle.message_bus.specs.BusState.{changed, alive_at}
use Rattle.message_bus.specs.Agreement.{hearings, living, begun}
use Rattle.message_bus.proofs.Counting.{is_zero, zero-test, none-many}
use Rattle.message_bus.specs.ListenerState.{ended_with}
use Rattle.message_bus.specs.Numbers.{beginning}
use Rattle.message_bus.specs.Agreement.{handler_activity}

-- the activities that are begun: one of each listener that begins
module _ {A : Type 0} (make : ℕ → A) (e : Event) where
  begun-behind : (ls : List ListenerState) (i j : ℕ) → i < j → how_many (is_of i) (begun make e j ls) ≡ 0
  begun-behind [] i j h = refl
  begun-behind (l ∷ ls) i j h = by_first (begins_new e l) (begun-behind ls i (suc j) (omega arith))
    where
      other : (j == i) ≡ false
      other = grind (arith, nat_tests)

      by_first : (b : Bool) → how_many (is_of i) (begun make e (suc j) ls) ≡ 0
          → how_many (is_of i) (if b then record { self = make l.hearing.listener.handler; value = e.value; listener = Some j; seated = false; suspended = false } ∷ begun make e (suc j) ls else begun make e (suc j) ls) ≡ 0
      by_first true k = rw other k
      by_first false k = k

  pub grown : (ls : List ListenerState) (i k j : ℕ) → i ≡ k + j → alive_at k (map (heard e) ls) ≡ alive_at k ls + how_many (is_of i) (begun make e j ls)
  grown [] i k j h = refl
  grown (l ∷ ls) i zero j h = by_first (begins_new e l) (holds_it e l) (begun-behind ls i (suc j) (omega arith))
    where
      same : (j == i) ≡ true
      same = grind (arith, nat_tests)

      by_first : (b c : Bool) → how_many (is_of i) (begun make e (suc j) ls) ≡ 0
          → (if b then record l { alive = suc l.alive } else if c then with_held (l.hearing.held ++ e ∷ []) l else l).alive
          ≡ l.alive + how_many (is_of i) (if b then record { self = make l.hearing.listener.handler; value = e.value; listener = Some j; seated = false; suspended = false } ∷ begun make e (suc j) ls else begun make e (suc j) ls)
      by_first true c k = rw same (omega (arith, k))
      by_first false true k = omega (arith, k)
      by_first false false k = omega (arith, k)
  grown (l ∷ ls) i (suc k) j h = by_first (begins_new e l) (grown ls i k (suc j) (omega arith))
    where
      other : (j == i) ≡ false
      other = grind (arith, nat_tests)

      by_first : (b : Bool) → alive_at k (map (heard e) ls) ≡ alive_at k ls + how_many (is_of i) (begun make e (suc j) ls)
          → alive_at k (map (heard e) ls)
          ≡ alive_at k ls + how_many (is_of i) (if b then record { self = make l.hearing.listener.handler; value = e.value; listener = Some j; seated = false; suspended = false } ∷ begun make e (suc j) ls else begun make e (suc j) ls)
      by_first true m = rw other m
      by_first false m = m

module _ {A S : Type 0} (e : Event) (w : World A S) where
  -- a listener is busy where an activity of it is alive
  pub idle-living : (i : ℕ) → not (busy w i) ≡ (living i w == 0)
  idle-living i =
      by_counts _ _ _ (how_many (is_of i) w.ready) (how_many (λ (p : ℕ × Activity A). is_of i p.1) w.sleepers) (how_many (λ (p : Event × Activity A). is_of i p.1) w.waiters)
      (none-many (is_of i) w.ready) (none-many (λ (p : ℕ × Activity A). is_of i p.1) w.sleepers) (none-many (λ (p : Event × Activity A). is_of i p.1) w.waiters) ∙ zero-test (living i w)
    where
      by_numbers : (k m n : ℕ) → (is_zero k && (is_zero m && is_zero n)) ≡ is_zero (k + (m + n))
      by_numbers zero zero n = rw (zero-add, zero-add) refl
      by_numbers zero (suc m) n = (let sum : zero + (suc m + n) ≡ suc (m + n) = omega arith in rw sum refl)
      by_numbers (suc k) m n = (let sum : suc k + (m + n) ≡ suc (k + (m + n)) = omega arith in rw sum refl)

      by_tests : (a b c : Bool) → not (a || (b || c)) ≡ (not a && (not b && not c))
      by_tests true b c = refl
      by_tests false true c = refl
      by_tests false false c = refl

      by_counts : (a b c : Bool) (k m n : ℕ) → not a ≡ is_zero k → not b ≡ is_zero m → not c ≡ is_zero n → not (a || (b || c)) ≡ is_zero (k + (m + n))
      by_counts a b c k m n e f g = by_tests a b c ∙ rw (e, f, g) (by_numbers k m n)

  -- a listener of the bus begins and holds as that of the world
  same-begins : (i : ℕ) (l : ListenerState) → living i w ≡ l.alive → begins_for e w i l.hearing.listener ≡ begins_new e l
  same-begins i l h =
      let idle : not (busy w i) ≡ (l.alive == 0) = idle-living i ∙ ap (λ (n : ℕ). n == 0) h in
      rw idle refl

  same-held : (i : ℕ) (l : ListenerState) → living i w ≡ l.alive → holds e w i l.hearing ≡ (heard e l).hearing
  same-held i l h =
      let begins = same-begins i l h in
      rw begins (by_cases (wants e l) (begins_new e l) (not (int_eq l.hearing.listener.mode drops_if_busy) && nat_lt (length l.hearing.held) held_limit))
    where
      by_cases : (wanted b m : Bool)
          → (if wanted && (not b && m) then record l.hearing { held = l.hearing.held ++ e ∷ [] } else l.hearing)
          ≡ (if b then record l { alive = suc l.alive } else if wanted && (not b && m) then with_held (l.hearing.held ++ e ∷ []) l else l).hearing
      by_cases true true m = refl
      by_cases true false true = refl
      by_cases true false false = refl
      by_cases false true m = refl
      by_cases false false m = refl

  pub handlers-begun : (make : ℕ → A) (ls : List ListenerState) (j : ℕ) → ((i k : ℕ) → i ≡ k + j → k < length ls → living i w ≡ alive_at k ls) → handlers make e w j (hearings ls) ≡ begun make e j ls
  handlers-begun make [] j h = refl
  handlers-begun make (l ∷ ls) j h =
      let first = same-begins j l (h j 0 (sym (zero-add j)) (omega arith)) in
      let others = handlers-begun make ls (suc j) (λ i k e lt. h i (suc k) (omega arith) (omega arith)) in
      rw (first, others) refl

  pub holding-heard : (ls : List ListenerState) (j : ℕ) → ((i k : ℕ) → i ≡ k + j → k < length ls → living i w ≡ alive_at k ls) → holding e w j (hearings ls) ≡ hearings (map (heard e) ls)
  holding-heard [] j h = refl
  holding-heard (l ∷ ls) j h =
      let first = same-held j l (h j 0 (sym (zero-add j)) (omega arith)) in
      let others = holding-heard ls (suc j) (λ i k e lt. h i (suc k) (omega arith) (omega arith)) in
      rw (first, others) refl

-- whether a listener begins a new activity is whether the world has one for the event
pub none-begun : {A : Type 0} (make : ℕ → A) (e : Event) (i : ℕ) (ls : List ListenerState) → none (begun make e i ls) ≡ not (list_any (begins_new e) ls)
none-begun make e i [] = refl
none-begun {A} make e i (l ∷ ls) = by_first (begins_new e l) (none-begun make e (suc i) ls)
  where
    by_first : (c : Bool) → none (begun make e (suc i) ls) ≡ not (list_any (begins_new e) ls)
        → none (if c then record { self = make l.hearing.listener.handler; value = e.value; listener = Some i; seated = false; suspended = false } ∷ begun make e (suc i) ls else begun make e (suc i) ls) ≡ not (c || list_any (begins_new e) ls)
    by_first true h = refl
    by_first false h = h

-- the activities that begin are those of these numbers; f gives the function of each number's handler
pub begun-mapped : {A : Type 0} (make : ℕ → A) (e : Event) (k : ℕ) (ls : List ListenerState) (f : ℕ → ℕ) → ((j : ℕ) → f (k + j) ≡ handler_of j (hearings ls))
    → begun make e k ls ≡ map (λ i. handler_activity (make (f i)) e i) (beginning e k ls)
begun-mapped make e k [] f h = refl
begun-mapped {A} make e k (l ∷ ls) f h = by_first (begins_new e l) (begun-mapped make e (suc k) ls f (λ j. (let s : suc k + j ≡ k + suc j = omega arith in ap f s ∙ h (suc j))))
  where
    here : f k ≡ l.hearing.listener.handler
    here = (let s : k ≡ k + zero = omega arith in ap f s ∙ h zero)

    by_first : (c : Bool) → begun make e (suc k) ls ≡ map (λ i. handler_activity (make (f i)) e i) (beginning e (suc k) ls)
        → (if c then handler_activity (make l.hearing.listener.handler) e k ∷ begun make e (suc k) ls else begun make e (suc k) ls)
        ≡ map (λ i. handler_activity (make (f i)) e i) (if c then k ∷ beginning e (suc k) ls else beginning e (suc k) ls)
    by_first true g = rw (here, g) refl
    by_first false g = g

-- a listener's function stays when it hears, when an activity of it ends, and when others come
heard-listener : (e : Event) (l : ListenerState) → (heard e l).hearing.listener ≡ l.hearing.listener
heard-listener e l = by_tests (begins_new e l) (holds_it e l)
  where
    by_tests : (c d : Bool) → (if c then record l { alive = suc l.alive } else if d then with_held (l.hearing.held ++ e ∷ []) l else l).hearing.listener ≡ l.hearing.listener
    by_tests true d = refl
    by_tests false true = refl
    by_tests false false = refl

pub handler-heard : (e : Event) (j : ℕ) (ls : List ListenerState) → handler_of j (hearings (map (heard e) ls)) ≡ handler_of j (hearings ls)
handler-heard e j [] = refl
handler-heard e zero (l ∷ ls) = ap (λ x. x.handler) (heard-listener e l)
handler-heard e (suc j) (l ∷ ls) = handler-heard e j ls

ended-listener : (l : ListenerState) (held : List Event) → (ended_with held l).hearing.listener ≡ l.hearing.listener
ended-listener l [] = refl
ended-listener l (e ∷ rest) = refl

pub handler-ended : (i j : ℕ) (ls : List ListenerState) → handler_of j (hearings (changed ended i ls)) ≡ handler_of j (hearings ls)
handler-ended i j [] = refl
handler-ended zero zero (l ∷ ls) = ap (λ x. x.handler) (ended-listener l l.hearing.held)
handler-ended zero (suc j) (l ∷ ls) = refl
handler-ended (suc i) zero (l ∷ ls) = refl
handler-ended (suc i) (suc j) (l ∷ ls) = handler-ended i j ls

pub handler-more : (l : Listener) (j : ℕ) (ls : List ListenerState) → j < length ls → handler_of j (hearings (ls ++ fresh l ∷ [])) ≡ handler_of j (hearings ls)
handler-more l j [] h = absurd (omega arith)
handler-more l zero (x ∷ xs) h = refl
handler-more l (suc j) (x ∷ xs) h = handler-more l j xs (omega arith)
