-- Few activities of a listener are alive, so the bus may dispatch.
use Rattle.std.proofs.Common.{◌≡◌, ℕ, zero, suc, ◌+◌, ◌*◌, ◌<◌, ◌≤◌, ◌==◌, Bool, true, false, if◌then◌else◌, List, [], ◌∷◌, ◌++◌, length, map, All, get_or, Option, Some, None, refl, ap, ◌∙◌, subst, arith, length-append}
use Rattle.std.proofs.lemmas.Bool.Decides.{nat_tests}
use Rattle.std.proofs.lemmas.List.{length-map}
use Rattle.board_world.specs.declared.events.Event.{Event}
use Rattle.board_world.specs.Waiting.{Hearing, how_many}
use Rattle.board_world.specs.Activities.{Activity, World, is_of}
use Rattle.bank_model.specs.Fibers.{Fiber, Shared}
use Rattle.thumb_code.specs.Machine.{State as Machine, base_of}
use Rattle.message_bus.specs.ListenerState.{ListenerState}
use Rattle.message_bus.specs.BusState.{alive_at}
use Rattle.message_bus.specs.Agreement.{hearings, living}
use Rattle.message_bus.proofs.Laws.{many-append}
use Rattle.fiber_runtime.specs.declared.turning.Turning.{Turning}
use Rattle.fiber_runtime.specs.declared.turning.Raiser.{Raiser}
use Rattle.board_run.specs.Shown.{PendingDispatch, ArePlaces, running_of, of_raiser, of_key, begun_as, unbegun, standing}
use Rattle.message_bus.specs.Numbers.{IsRising}
use Rattle.board_run.specs.Represents.{BoardState, Represents}

most_all : {X : Type 0} (test : X → Bool) (xs : List X) → how_many test xs ≤ length xs
most_all test [] = omega arith
most_all {X} test (x ∷ xs) = by_test (test x) (most_all test xs)
  where
    by_test : (c : Bool) → how_many test xs ≤ length xs → (if c then suc (how_many test xs) else how_many test xs) ≤ suc (length xs)
    by_test true h = omega (arith, h)
    by_test false h = omega (arith, h)

module _ (image : List ℕ) (i : ℕ) where
  none_behind : (base : ℕ) (e : Event) (hs : List Hearing) (k n : ℕ) (is : List ℕ) → i < k → IsRising k is n → how_many (is_of i) (map (begun_as image base e hs) is) ≡ 0
  none_behind base e hs k n [] l h = refl
  none_behind base e hs k n (j ∷ is) l h =
      let other : (j == i) ≡ false = (let a = h.0 in grind (arith, nat_tests, a, l)) in
      rw other (none_behind base e hs (suc j) n is (omega (arith, l, h.0)) h.2)

  one_of : (base : ℕ) (e : Event) (hs : List Hearing) (k n : ℕ) (is : List ℕ) → IsRising k is n → how_many (is_of i) (map (begun_as image base e hs) is) ≤ 1
  one_of base e hs k n [] h = omega arith
  one_of base e hs k n (j ∷ is) h = by_test (j == i) refl (one_of base e hs (suc j) n is h.2)
    where
      by_test : (c : Bool) → (j == i) ≡ c → how_many (is_of i) (map (begun_as image base e hs) is) ≤ 1 → (if c then suc (how_many (is_of i) (map (begun_as image base e hs) is)) else how_many (is_of i) (map (begun_as image base e hs) is)) ≤ 1
      by_test true e1 g = (let l : i < suc j = grind (arith, nat_tests, e1) in let z = none_behind base e hs (suc j) n is l h.2 in omega (arith, z))
      by_test false e1 g = g

  standing_few : (hs : List Hearing) (stack : List ℕ) (n : ℕ) (rs : List Raiser) (ps : List PendingDispatch) → ArePlaces n rs ps → how_many (is_of i) (standing image hs stack rs ps) ≤ 2 * length rs + 1
  standing_few hs stack n [] [] a = absurd a
  standing_few hs stack n [] (p ∷ []) a = one_of (base_of image) p.event hs 0 n p.left a
  standing_few hs stack n [] (p ∷ (q ∷ ps)) a = absurd a
  standing_few hs stack n (r ∷ rs) [] a = absurd a
  standing_few hs stack n (r ∷ rs) (p ∷ ps) a =
      let s = many-append (is_of i) (unbegun image r.registers.sp hs p) (of_raiser stack r ∷ standing image hs stack rs ps) in
      let one = one_of r.registers.sp p.event hs 0 n p.left a.0 in
      let more = standing_few hs stack n rs ps a.1 in
      let head = most_all (is_of i) (of_raiser stack r ∷ []) in
      let front = many-append (is_of i) (of_raiser stack r ∷ []) (standing image hs stack rs ps) in
      omega (arith, s, one, more, head, front)

  running_few : (o : Option Turning) (m : Machine) (mark : Bool) → how_many (is_of i) (running_of o m mark) ≤ 1
  running_few None m mark = omega arith
  running_few (Some t) m mark = most_all (is_of i) (running_of (Some t) m mark)

  pub living_few : (b : BoardState) (w : World Fiber Shared) → Represents image b w → living i w < 1000
  living_few b w h =
      let test : Activity Fiber → Bool = is_of i in
      let runs = running_of b.runtime.running b.runtime.machine h.mark in
      let stand = standing image (hearings b.bus.listeners) b.runtime.machine.memory.stack b.runtime.raisers b.places in
      let keys = map (of_key b.runtime.pool) b.runtime.lists.ready in
      let r = ap (how_many test) h.ready in
      let a = many-append test runs (stand ++ keys) in
      let c = many-append test stand keys in
      let one = running_few b.runtime.running b.runtime.machine h.mark in
      let few = standing_few (hearings b.bus.listeners) b.runtime.machine.memory.stack (length b.bus.listeners) b.runtime.raisers b.places h.places in
      let k = most_all test keys in
      let kl = length-map b.runtime.lists.ready (of_key b.runtime.pool) in
      let s = most_all (λ (p : ℕ × Activity Fiber). is_of i p.1) w.sleepers in
      let sl : length w.sleepers ≡ length b.runtime.lists.sleepers = ap length h.sleepers ∙ length-map b.runtime.lists.sleepers (λ p. (p.0, of_key b.runtime.pool p.1)) in
      let v = most_all (λ (p : Event × Activity Fiber). is_of i p.1) w.waiters in
      let vl : length w.waiters ≡ length b.runtime.lists.waiters = ap length h.waiters ∙ length-map b.runtime.lists.waiters (λ p. (p.0, of_key b.runtime.pool p.1)) in
      let q = b.runtime.lists in
      let l1 = length-append q.ready (map (λ p. p.1) q.sleepers ++ map (λ p. p.1) q.waiters) in
      let l2 = length-append (map (λ p. p.1) q.sleepers) (map (λ p. p.1) q.waiters) in
      let l3 = length-map q.sleepers (λ (p : ℕ × ℕ). p.1) in
      let l4 = length-map q.waiters (λ (p : Event × ℕ). p.1) in
      omega (arith, r, a, c, one, few, k, kl, s, sl, v, vl, l1, l2, l3, l4, h.sound.count, h.sound.most, h.sound.suspended)

-- So `Bus::dispatch` may be called.
alive_get : (ls : List ListenerState) (k : ℕ) (d : ListenerState) → k < length ls → alive_at k ls ≡ (get_or ls k d).alive
alive_get [] k d l = absurd (omega arith)
alive_get (x ∷ xs) zero d l = refl
alive_get (x ∷ xs) (suc k) d l = alive_get xs k d (omega arith)

each_few : (ls : List ListenerState) → ((i : ℕ) → alive_at i ls < 1000) → All (λ l. l.alive < 1000) ls
each_few ls h = λ k d l. subst (λ n. n < 1000) (alive_get ls k d l) (h k)

pub may_dispatch : (image : List ℕ) (b : BoardState) (w : World Fiber Shared) → Represents image b w → All (λ l. l.alive < 1000) b.bus.listeners
may_dispatch image b w h = each_few b.bus.listeners (λ i. subst (λ n. n < 1000) (h.hears.alive i) (living_few image i b w h))
