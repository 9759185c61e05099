-- A turn and idle moves leave all others as they are.
use Rattle.std.proofs.Common.{◌≡◌, ℕ, zero, suc, ◌+◌, ◌≤◌, Bool, true, false, not, ◌&&◌, if◌then◌else◌, nat_le, nat_lt, List, [], ◌∷◌, ◌++◌, length, map, Option, Some, None, ℤ, refl, sym, ap, ◌∙◌, subst, arith}
use Rattle.board_world.specs.declared.events.Event.{Event}
use Rattle.board_world.specs.declared.clock.Idle.{Idle}
use Rattle.board_world.specs.declared.clock.Idle.TheVariants.{Jump, Quiet, Script}
use Rattle.board_world.specs.Rules.{clock_move}
use Rattle.board_world.specs.Board.{over, next_entry}
use Rattle.board_world.specs.Kinds.{Kind, Turn, Goes, Asks, Takes, Pauses, Waits, Spawns, Listens, RaisesNow, Ends, Panics, Faults}
use Rattle.board_world.specs.Waiting.{least, how_many, none, held_by, handler_of, chosen, left, hears}
use Rattle.board_world.specs.Activities.{Activity, World, handlers, woken}
use Rattle.board_world.specs.World.{moved, clock_moves, idle_while, idle_bound, idled, lacks_seat, ends_with, ends, acted, stepped, tick}
use Rattle.board_world.proofs.Laws.{if_keeps}
use Rattle.board_run.specs.Shown.{standing_in}

-- how many of these activities there are whose own state passes a test
abbrev many : {A : Type 0} → (A → Bool) → List (Activity A) → ℕ
many test xs = how_many (λ a. test a.self) xs

-- the same of activities that stand beside what they wait for
abbrev many_waiting : {A W : Type 0} → (A → Bool) → List (W × Activity A) → ℕ
many_waiting test xs = how_many (λ x. test x.1.self) xs

module _ {X : Type 0} (test : X → Bool) where
  grows : (x : X) (xs : List X) → how_many test xs ≤ how_many test (x ∷ xs)
  grows x xs = if_keeps (λ n. how_many test xs ≤ n) (test x) (suc (how_many test xs)) (how_many test xs) (omega arith) (omega arith)

  joined : (xs ys : List X) → how_many test (xs ++ ys) ≡ how_many test xs + how_many test ys
  joined [] ys = omega arith
  joined (x ∷ xs) ys = by_test (test x) (joined xs ys)
    where
      by_test : (b : Bool) → how_many test (xs ++ ys) ≡ how_many test xs + how_many test ys
          → (if b then suc (how_many test (xs ++ ys)) else how_many test (xs ++ ys)) ≡ (if b then suc (how_many test xs) else how_many test xs) + how_many test ys
      by_test true e = omega (arith, e)
      by_test false e = e

module _ {A : Type 0} (test : A → Bool) where
  parted : {W : Type 0} (wakes : W → Bool) (xs : List (W × Activity A)) → many test (chosen wakes xs) + many_waiting test (left wakes xs) ≡ many_waiting test xs
  parted wakes [] = refl
  parted wakes (x ∷ xs) = by_test (wakes x.0) (test x.1.self) (parted wakes xs)
    where
      m : ℕ
      m = many test (chosen wakes xs)

      n : ℕ
      n = many_waiting test (left wakes xs)

      by_test : (b c : Bool) → m + n ≡ many_waiting test xs
          → many test (if b then x.1 ∷ chosen wakes xs else chosen wakes xs) + many_waiting test (if b then left wakes xs else x ∷ left wakes xs) ≡ many_waiting test (x ∷ xs)
      by_test true c e = by_state (test x.1.self)
        where
          by_state : (d : Bool) → (if d then suc m else m) + n ≡ (if d then suc (many_waiting test xs) else many_waiting test xs)
          by_state true = omega (arith, e)
          by_state false = e
      by_test false c e = by_state (test x.1.self)
        where
          by_state : (d : Bool) → m + (if d then suc n else n) ≡ (if d then suc (many_waiting test xs) else many_waiting test xs)
          by_state true = omega (arith, e)
          by_state false = e

  waking : (value : ℤ) (xs : List (Activity A)) → many test (map (woken value) xs) ≡ many test xs
  waking value [] = refl
  waking value (x ∷ xs) = ap (λ n. if test x.self then suc n else n) (waking value xs)

  module _ {S : Type 0} (K : Kind A S) where
    abbrev All : World A S → ℕ
    All w = standing_in test w.ready w

    clock_leaves : (i : Idle) (w : World A S) → All w ≤ All (clock_moves i w)
    clock_leaves Quiet w = omega arith
    clock_leaves Script w = omega arith
    clock_leaves (Jump t) w =
        let j = joined (λ (a : Activity A). test a.self) w.ready (chosen (λ wake. nat_le wake t) w.sleepers) in
        let p = parted (λ wake. nat_le wake t) w.sleepers in
        omega (arith, j, p)

    woken_waiters : (e : Event) (w : World A S) → many test (map (woken e.value) (chosen (hears e) w.waiters)) + many_waiting test (left (hears e) w.waiters) ≡ many_waiting test w.waiters
    woken_waiters e w = ap (λ n. n + many_waiting test (left (hears e) w.waiters)) (waking e.value (chosen (hears e) w.waiters)) ∙ parted (hears e) w.waiters

    pub idle_leaves : (queue : List Event) (w : World A S) → All w ≤ All (moved K queue w)
    idle_leaves (e ∷ rest) w =
        let T = λ (a : Activity A). test a.self in
        let new = handlers K.begin e w 0 w.listeners in
        let awake = map (woken e.value) (chosen (hears e) w.waiters) in
        let j = joined T w.ready (new ++ awake) in
        let k = joined T new awake in
        let p = woken_waiters e w in
        omega (arith, j, k, p)
    idle_leaves [] w = clock_leaves (clock_move (least w.sleepers) (next_entry w.board.script) w.board.until) w

    idles_leave : (n : ℕ) (xs : List (Activity A)) (w : World A S) → All w ≤ All (idle_while K n xs w)
    idles_leave zero xs w = omega arith
    idles_leave (suc n) (x ∷ xs) w = omega arith
    idles_leave (suc n) [] w =
        let v = moved K w.board.queue w in
        let one = idle_leaves w.board.queue w in
        let more = idles_leave n v.ready v in
        if_keeps (λ u. All w ≤ All u) (over w.board) w (idle_while K n v.ready v) (omega arith) (omega (arith, one, more))

    pub rest_leaves : (w : World A S) → All w ≤ All (idled K w)
    rest_leaves w = idles_leave (idle_bound w.board) w.ready w

    module _ (a : Activity A) (others : List (Activity A)) (w : World A S) (first : w.ready ≡ a ∷ others) where
      abbrev Kept : World A S → Type 0
      Kept v = standing_in test others w ≤ All v

      -- nobody is taken away from the ready ones
      stopped : standing_in test others w ≤ All w
      stopped =
          let g = grows (λ (b : Activity A). test b.self) a others in
          let e : many test w.ready ≡ many test (a ∷ others) = ap (many test) first in
          omega (arith, g, e)

      with_first : (x : A) → standing_in test others w ≤ (if test x then suc (many test others) else many test others) + many_waiting test w.sleepers + many_waiting test w.waiters
      with_first x = if_keeps (λ n. standing_in test others w ≤ n + many_waiting test w.sleepers + many_waiting test w.waiters) (test x) (suc (many test others)) (many test others) (omega arith) (omega arith)

      with_more : (x : A) (more : List (Activity A))
          → standing_in test others w ≤ (if test x then suc (many test (others ++ more)) else many test (others ++ more)) + many_waiting test w.sleepers + many_waiting test w.waiters
      with_more x more =
          let j = joined (λ (c : Activity A). test c.self) others more in
          if_keeps (λ n. standing_in test others w ≤ n + many_waiting test w.sleepers + many_waiting test w.waiters) (test x) (suc (many test (others ++ more))) (many test (others ++ more)) (omega (arith, j)) (omega (arith, j))

      asleep : (t : ℕ) (b : Activity A) → standing_in test others w ≤ many test others + many_waiting test (w.sleepers ++ (t, b) ∷ []) + many_waiting test w.waiters
      asleep t b = (let j = joined (λ (x : ℕ × Activity A). test x.1.self) w.sleepers ((t, b) ∷ []) in omega (arith, j))

      waiting : (e : Event) (b : Activity A) → standing_in test others w ≤ many test others + many_waiting test w.sleepers + many_waiting test (w.waiters ++ (e, b) ∷ [])
      waiting e b = (let j = joined (λ (x : Event × Activity A). test x.1.self) w.waiters ((e, b) ∷ []) in omega (arith, j))

      ending : (es : List Event) (i : ℕ) (again : ℕ → A) (s : S) → Kept (ends_with es i a others again s w)
      ending [] i again s = omega arith
      ending (e ∷ rest) i again s = with_first (again (handler_of i w.listeners))

      ends_leaves : (again : ℕ → A) (s : S) (o : Option ℕ) → Kept (ends a others again s o w)
      ends_leaves again s None = omega arith
      ends_leaves again s (Some i) = ending (held_by i w.listeners) i again s

      raises_leaves : (new : List (Activity A)) (b : Activity A) (e : Event)
          → standing_in test others w ≤ many test (new ++ (b ∷ (others ++ map (woken e.value) (chosen (hears e) w.waiters)))) + many_waiting test w.sleepers + many_waiting test (left (hears e) w.waiters)
      raises_leaves new b e =
          let T = λ (c : Activity A). test c.self in
          let awake = map (woken e.value) (chosen (hears e) w.waiters) in
          let g = grows T b (others ++ awake) in
          let j = joined T others awake in
          let k = joined T new (b ∷ (others ++ awake)) in
          let p = woken_waiters e w in
          omega (arith, g, j, k, p)

      acts_leave : (u : Turn A S) → Kept (acted K a others w u)
      acts_leave (Goes x s) = with_first _
      acts_leave (Asks q next) = with_first _
      acts_leave (Takes k next) = if_keeps Kept (nat_le (w.board.used + k) 2816) _ _ (with_first _) stopped
      acts_leave (Pauses k x s) = if_keeps Kept (lacks_seat a w.board) _ _ stopped (asleep _ _)
      acts_leave (Waits e x s) = if_keeps Kept (lacks_seat a w.board) _ _ stopped (waiting _ _)
      acts_leave (Spawns f x s) = if_keeps Kept (nat_lt w.board.seats 24) _ _ (with_more _ _) stopped
      acts_leave (Listens l x s) = if_keeps Kept (nat_lt (length w.listeners) 32) _ _ (with_first _) stopped
      acts_leave (RaisesNow e above x s) =
          (let new = handlers above e w 0 w.listeners in
          if_keeps Kept (not (none new) && nat_le 32 (how_many (λ b. b.suspended) others)) _ _ stopped (raises_leaves new _ e))
      acts_leave (Ends again s) = ends_leaves again s a.listener
      acts_leave (Panics c) = stopped
      acts_leave (Faults k x) = stopped

      pub turn_leaves : over w.board ≡ false → Kept (tick K w)
      turn_leaves going =
          let v = acted K a others w (K.step a.self w.shared) in
          let one = acts_leave (K.step a.self w.shared) in
          let more = rest_leaves v in
          let step : tick K w ≡ idled K v = rw going (ap (λ l. stepped K l w) first) in
          subst Kept (sym step) (omega (arith, one, more))
