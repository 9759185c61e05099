-- The clock doesn't go back, and a run below a moment is the one that stops before it.
use Rattle.std.proofs.Common.{◌≡◌, ℕ, zero, suc, ◌+◌, ◌-◌, ◌≤◌, ◌<◌, ◌⊎◌, inl, inr, ℤ, pos, negsuc, Bool, true, false, not, ◌&&◌, if◌then◌else◌, nat_le, nat_lt, ◌==◌, List, [], ◌∷◌, ◌++◌, length, Option, Some, None, refl, ap, sym, ◌∙◌, subst, arith}
use Rattle.std.proofs.lemmas.Bool.Decides.{nat_tests}
use Rattle.std.specs.Prelude.{IfSome, is_some}
use Rattle.std.specs.List.Sorted.{IsNonDecreasingBy}
use Rattle.board_world.specs.declared.events.Event.{Event}
use Rattle.board_world.specs.declared.clock.Idle.{Idle}
use Rattle.board_world.specs.declared.clock.Idle.TheVariants.{Jump, Quiet, Script}
use Rattle.board_world.specs.Observations.{End}
use Rattle.board_world.specs.Limits.{queue_limit, click_limit, pin_limit, raiser_limit, arena_limit, seat_limit, listener_limit}
use Rattle.board_world.specs.Rules.{clock_move, wake_time}
use Rattle.board_world.specs.Frame.{plotted}
use Rattle.board_world.specs.Board.{Board, Act, Entry, Down, Up, Raise, Unplug, event, raised, went_down, went_up, arrive, arrive_all, next_entry, over}
use Rattle.board_world.specs.Kinds.{Kind, Question, Raises, Plots, Displays, Writes, Sets, Sends, Time, Value, Pressed, answer, showed, Turn, Goes, Asks, Takes, Pauses, Waits, Spawns, Listens, RaisesNow, Ends, Panics, Faults}
use Rattle.board_world.specs.Waiting.{left, least, none, how_many, held_by}
use Rattle.board_world.specs.Activities.{Activity, World, handlers}
use Rattle.board_world.specs.World.{lacks_seat, jump, clock_moves, ends_with, ends, moved, idle_while, idle_bound, idled, blocks, acted, stepped, tick}
use Rattle.board_world.specs.Runs.{run}
use Rattle.board_world.specs.Simulation.{IsSettled}
use Rattle.board_world.specs.Before.{IsFrom, IsRisingFrom, then_later, is_by_clock, is_jump_before, moves_before, idle_before, stepped_before, tick_before, run_before}
use Rattle.board_world.proofs.Stays.{if_keeps, over_stays}
use Rattle.board_world.proofs.Settle.{jump_from, jump_soonest, least_from, settles}
use Rattle.board_world.proofs.Before.{run_then, run_settled}

-- nobody wakes before the moment
abbrev pub WakeFrom : {Y : Type 0} → ℕ → List (ℕ × Y) → Type 0
WakeFrom t [] = Unit {0}
WakeFrom t (p ∷ ps) = (t ≤ p.0) × WakeFrom t ps

-- nobody is to wake, and no entry to come, before the present, and the entries stand in order
pub record IsTimely {A S : Type 0} (w : World A S) : Type 0 where
  pub sleepers : WakeFrom w.board.clock w.sleepers
  pub script : IsRisingFrom w.board.clock w.board.script

-- what an act or an answer leaves of the board: the clock and the script
abbrev Untouched : ℕ → List Entry → Board → Type 0
Untouched c es b = (b.clock ≡ c) × (b.script ≡ es)

untouched_raised : (c : ℕ) (es : List Entry) (e : Event) (b : Board) → Untouched c es b → Untouched c es (raised e b)
untouched_raised c es e b h = if_keeps (Untouched c es) (nat_lt (length b.queue) queue_limit) _ _ h h

untouched_down : (c : ℕ) (es : List Entry) (k : ℕ) (o : Option ℕ) (b : Board) → Untouched c es b → Untouched c es (went_down k o b)
untouched_down c es k None b h = untouched_raised c es (event k 1) b h
untouched_down c es k (Some s) b h = h

untouched_up : (c : ℕ) (es : List Entry) (k : ℕ) (o : Option ℕ) (b : Board) → Untouched c es b → Untouched c es (went_up k o b)
untouched_up c es k None b h = h
untouched_up c es k (Some s) b h = untouched_raised c es (event k (if nat_lt (b.clock - s) click_limit then 3 else 4)) (raised (event k 2) b) (untouched_raised c es (event k 2) b h)

untouched_arrive : (c : ℕ) (es : List Entry) (a : Act) (b : Board) → Untouched c es b → Untouched c es (arrive a b)
untouched_arrive c es (Down n) b h = if_keeps (Untouched c es) (n == 1) _ _ (untouched_down c es 1 b.a_since b h) (untouched_down c es 2 b.b_since b h)
untouched_arrive c es (Up n) b h = if_keeps (Untouched c es) (n == 1) _ _ (untouched_up c es 1 b.a_since b h) (untouched_up c es 2 b.b_since b h)
untouched_arrive c es (Raise e) b h = untouched_raised c es e b h
untouched_arrive c es (Unplug p) b h = h

untouched_showed : (c : ℕ) (es : List Entry) (f : ℕ) (b : Board) → Untouched c es b → Untouched c es (showed f b)
untouched_showed c es f b h = if_keeps (Untouched c es) (f == b.frame) _ _ h h

untouched_answer : (c : ℕ) (es : List Entry) (q : Question) (v : ℤ) (b : Board) → Untouched c es b → Untouched c es (answer q v b).0
untouched_answer c es (Raises e) v b h = untouched_raised c es e b h
untouched_answer c es (Plots x y mode) v b h = untouched_showed c es (plotted b.frame x y mode) b h
untouched_answer c es (Displays f) v b h = untouched_showed c es f b h
untouched_answer c es (Writes []) v b h = h
untouched_answer c es (Writes (d ∷ ds)) v b h = h
untouched_answer c es (Sets (pos p) l) v b h = if_keeps (Untouched c es) (nat_lt p pin_limit) _ _ h h
untouched_answer c es (Sets (negsuc p) l) v b h = h
untouched_answer c es (Sends n) v b h = h
untouched_answer c es Time v b h = h
untouched_answer c es Value v b h = h
untouched_answer c es (Pressed (pos n)) v b h = h
untouched_answer c es (Pressed (negsuc n)) v b h = h

-- the entries of a moment leave the clock, and what is left of a list in order isn't before
pub clock_all : (s : ℕ) (es : List Entry) (b : Board) → (arrive_all s es b).clock ≡ b.clock
clock_all s [] b = refl
clock_all s (e ∷ es) b = if_keeps (λ (x : Board). x.clock ≡ b.clock) (e.at == s) _ _ (clock_all s es (arrive e.act b) ∙ (untouched_arrive b.clock b.script e.act b (refl, refl)).0) refl

rising_all : (s : ℕ) (es : List Entry) (b : Board) → IsRisingFrom s es → IsRisingFrom s (arrive_all s es b).script
rising_all s [] b h = tt
rising_all s (e ∷ es) b h = by_at (e.at == s) refl (λ r. rising_all s es (arrive e.act b) r)
  where
    by_at : (c : Bool) → (e.at == s) ≡ c → (IsRisingFrom s es → IsRisingFrom s (arrive_all s es (arrive e.act b)).script) → IsRisingFrom s (if c then arrive_all s es (arrive e.act b) else record b { script = e ∷ es }).script
    by_at true q ih = ih (let same : e.at ≡ s = grind (arith, nat_tests) in subst (λ (k : ℕ). IsRisingFrom k es) same h.1)
    by_at false q ih = h

rising_on : (c s : ℕ) (es : List Entry) → IsRisingFrom c es → IfSome (next_entry es) (λ u. s ≤ u) → IsRisingFrom s es
rising_on c s [] h k = tt
rising_on c s (e ∷ es) h k = (k, h.1)

-- sleepers
least_after : {Y : Type 0} (c s : ℕ) (ps : List (ℕ × Y)) → WakeFrom c ps → least ps ≡ Some s → c ≤ s
least_after c s [] h e = cc
least_after c s (p ∷ ps) h e = by_which (λ k. least_after c s ps h.1 k) (least_from p.0 (least ps) s e)
  where
    by_which : (least ps ≡ Some s → c ≤ s) → (p.0 ≡ s) ⊎ (least ps ≡ Some s) → c ≤ s
    by_which ih (inl k) = (let first : c ≤ p.0 = h.0 in omega (arith, k, first))
    by_which ih (inr k) = ih k

left_after : {Y : Type 0} (s : ℕ) (ps : List (ℕ × Y)) → WakeFrom s (left (λ wake. nat_le wake s) ps)
left_after s [] = tt
left_after {Y = Y} s (p ∷ ps) = by_test (nat_le p.0 s) refl (left_after s ps)
  where
    by_test : (c : Bool) → nat_le p.0 s ≡ c → WakeFrom s (left (λ wake. nat_le wake s) ps) → WakeFrom s (if c then left (λ wake. nat_le wake s) ps else p ∷ left (λ wake. nat_le wake s) ps)
    by_test true e h = h
    by_test false e h = (grind (arith, nat_tests), h)

wake_append : {Y : Type 0} (c : ℕ) (ps : List (ℕ × Y)) (q : ℕ × Y) → WakeFrom c ps → c ≤ q.0 → WakeFrom c (ps ++ q ∷ [])
wake_append c [] q h k = (k, tt)
wake_append c (p ∷ ps) q h k = (h.0, wake_append c ps q h.1 k)

wakes_later : (now : ℕ) (n : ℤ) → now ≤ wake_time now n
wakes_later now (pos m) = omega arith
wakes_later now (negsuc m) = omega arith

-- who ended by the clock has ended
pub by_clock_over : (o : Option End) → is_some o ≡ false → is_by_clock o ≡ false
by_clock_over None h = refl
by_clock_over (Some e) h = cc

module _ {A S : Type 0} where
  -- a later world with the same clock, script and sleepers
  timely_same : (w v : World A S) → IsTimely w → Untouched w.board.clock w.board.script v.board → v.sleepers ≡ w.sleepers → IsTimely v
  timely_same w v h k e =
      record {
        sleepers = subst (λ (c : ℕ). WakeFrom c v.sleepers) (sym k.0) (subst (λ (ps : List (ℕ × Activity A)). WakeFrom w.board.clock ps) (sym e) h.sleepers);
        script = subst (λ (c : ℕ). IsRisingFrom c v.board.script) (sym k.0) (subst (λ (es : List Entry). IsRisingFrom w.board.clock es) (sym k.1) h.script);
      }

  -- timely still, and the clock hasn't gone back
  pub record On (w v : World A S) : Type 0 where
    pub timely : IsTimely v
    pub clock : w.board.clock ≤ v.board.clock

  on_same : (w v : World A S) → IsTimely w → Untouched w.board.clock w.board.script v.board → v.sleepers ≡ w.sleepers → On w v
  on_same w v h k e = record { timely = timely_same w v h k e; clock = (let same : v.board.clock ≡ w.board.clock = k.0 in omega (arith, same)) }

  on_if : (c : Bool) (w x y : World A S) → On w x → On w y → On w (if c then x else y)
  on_if true w x y p q = p
  on_if false w x y p q = q

  pub on_trans : (w v u : World A S) → On w v → On v u → On w u
  on_trans w v u p q = record { timely = q.timely; clock = (let first : w.board.clock ≤ v.board.clock = p.clock in let more : v.board.clock ≤ u.board.clock = q.clock in omega (arith, first, more)) }

  jump_on : (s : ℕ) (w : World A S) → IsTimely w → clock_move (least w.sleepers) (next_entry w.board.script) w.board.until ≡ Jump s → On w (jump s w)
  jump_on s w h f =
      (let soon = jump_soonest (least w.sleepers) (next_entry w.board.script) w.board.until s f in
      let here : (arrive_all s w.board.script (record w.board { clock = s })).clock ≡ s = clock_all s w.board.script (record w.board { clock = s }) in
      let late : w.board.clock ≤ s = by_which (jump_from (least w.sleepers) (next_entry w.board.script) w.board.until s f) in
      record {
        timely = record {
          sleepers = subst (λ (c : ℕ). WakeFrom c (left (λ wake. nat_le wake s) w.sleepers)) (sym here) (left_after s w.sleepers);
          script = subst (λ (c : ℕ). IsRisingFrom c (arrive_all s w.board.script (record w.board { clock = s })).script) (sym here)
              (rising_all s w.board.script (record w.board { clock = s }) (rising_on w.board.clock s w.board.script h.script soon.1));
        };
        clock = omega (arith, here, late);
      })
    where
      first_late : (es : List Entry) → IsRisingFrom w.board.clock es → next_entry es ≡ Some s → w.board.clock ≤ s
      first_late [] r e = cc
      first_late (x ∷ xs) r e = (let first : w.board.clock ≤ x.at = r.0 in let same : x.at ≡ s = cc in omega (arith, first, same))

      by_which : (least w.sleepers ≡ Some s) ⊎ (next_entry w.board.script ≡ Some s) → w.board.clock ≤ s
      by_which (inl e) = least_after w.board.clock s w.sleepers h.sleepers e
      by_which (inr e) = first_late w.board.script h.script e

module _ {A S : Type 0} (K : Kind A S) where
  -- an idle move that doesn't end the run
  pub moved_on : (queue : List Event) (w : World A S) → IsTimely w → is_by_clock (moved K queue w).board.end ≡ false → On w (moved K queue w)
  moved_on (e ∷ rest) w h k = on_same w (moved K (e ∷ rest) w) h (refl, refl) refl
  moved_on [] w h k = by_move (clock_move (least w.sleepers) (next_entry w.board.script) w.board.until) refl k
    where
      by_move : (i : Idle) → clock_move (least w.sleepers) (next_entry w.board.script) w.board.until ≡ i → is_by_clock (clock_moves i w).board.end ≡ false → On w (clock_moves i w)
      by_move (Jump s) f k' = jump_on s w h f
      by_move Quiet f k' = absurd (cc)
      by_move Script f k' = absurd (cc)

  -- who goes on behind an end goes nowhere
  not_yet : (n : ℕ) (v : World A S) → is_by_clock (idle_while K n v.ready v).board.end ≡ false → is_by_clock v.board.end ≡ false
  not_yet n v k = by_over (over v.board) refl
    where
      by_over : (c : Bool) → over v.board ≡ c → is_by_clock v.board.end ≡ false
      by_over true o = subst (λ (u : World A S). is_by_clock u.board.end ≡ false) (over_stays K n v.ready v o) k
      by_over false o = by_clock_over v.board.end o

  pub idle_on : (n : ℕ) (xs : List (Activity A)) (w : World A S) → IsTimely w → is_by_clock (idle_while K n xs w).board.end ≡ false → On w (idle_while K n xs w)
  idle_on zero xs w h k = on_same w w h (refl, refl) refl
  idle_on (suc n) (x ∷ xs) w h k = on_same w w h (refl, refl) refl
  idle_on (suc n) [] w h k = by_over (over w.board) (λ v p q. idle_on n v.ready v p q) k
    where
      by_over : (c : Bool) → ((v : World A S) → IsTimely v → is_by_clock (idle_while K n v.ready v).board.end ≡ false → On v (idle_while K n v.ready v))
          → is_by_clock (if c then w else (let v = moved K w.board.queue w in idle_while K n v.ready v)).board.end ≡ false → On w (if c then w else (let v = moved K w.board.queue w in idle_while K n v.ready v))
      by_over true ih k' = on_same w w h (refl, refl) refl
      by_over false ih k' =
          (let v = moved K w.board.queue w in
          let m : On w v = moved_on w.board.queue w h (not_yet n v k') in
          on_trans w v (idle_while K n v.ready v) m (ih v m.timely k'))

  -- idle moves that stay below t are those before t
  idle_same : (t n : ℕ) (xs : List (Activity A)) (w : World A S) → IsTimely w → is_by_clock (idle_while K n xs w).board.end ≡ false → (idle_while K n xs w).board.clock < t → idle_before K t n xs w ≡ idle_while K n xs w
  idle_same t zero xs w h k lt = refl
  idle_same t (suc n) (x ∷ xs) w h k lt = refl
  idle_same t (suc n) [] w h k lt = by_over (over w.board) (λ v p q r. idle_same t n v.ready v p q r) k lt
    where
      Next : World A S
      Next = moved K w.board.queue w

      below : (queue : List Event) → is_by_clock (moved K queue w).board.end ≡ false → (moved K queue w).board.clock < t → moves_before t queue w ≡ true
      below (e ∷ rest) q r = refl
      below [] q r = by_move (clock_move (least w.sleepers) (next_entry w.board.script) w.board.until) q r
        where
          by_move : (i : Idle) → is_by_clock (clock_moves i w).board.end ≡ false → (clock_moves i w).board.clock < t → is_jump_before t i ≡ true
          by_move (Jump s) q' r' = (let here : (arrive_all s w.board.script (record w.board { clock = s })).clock ≡ s = clock_all s w.board.script (record w.board { clock = s }) in let less : s < t = omega (arith, here, r') in grind (arith, nat_tests))
          by_move Quiet q' r' = absurd (cc)
          by_move Script q' r' = absurd (cc)

      by_over : (c : Bool) → ((v : World A S) → IsTimely v → is_by_clock (idle_while K n v.ready v).board.end ≡ false → (idle_while K n v.ready v).board.clock < t → idle_before K t n v.ready v ≡ idle_while K n v.ready v)
          → is_by_clock (if c then w else idle_while K n Next.ready Next).board.end ≡ false → (if c then w else idle_while K n Next.ready Next).board.clock < t
          → (if not c && moves_before t w.board.queue w then idle_before K t n Next.ready Next else w) ≡ (if c then w else idle_while K n Next.ready Next)
      by_over true ih k' lt' = refl
      by_over false ih k' lt' =
          (let still = not_yet n Next k' in
          let m : On w Next = moved_on w.board.queue w h still in
          let rest : On Next (idle_while K n Next.ready Next) = idle_on n Next.ready Next m.timely k' in
          let early : Next.board.clock < t = (let later : Next.board.clock ≤ (idle_while K n Next.ready Next).board.clock = rest.clock in omega (arith, later, lt')) in
          rw (below w.board.queue still early) (ih Next m.timely k' lt'))

  untouched_blocks : (a : Activity A) (b : Board) → Untouched b.clock b.script (blocks K a b)
  untouched_blocks a b = if_keeps (Untouched b.clock b.script) a.seated _ _ (refl, refl) (refl, refl)

  ends_on : (held : List Event) (i : ℕ) (a : Activity A) (others : List (Activity A)) (again : ℕ → A) (s : S) (w : World A S) → IsTimely w → On w (ends_with held i a others again s w)
  ends_on [] i a others again s w h = on_same w (ends_with [] i a others again s w) h (refl, refl) refl
  ends_on (e ∷ rest) i a others again s w h = on_same w (ends_with (e ∷ rest) i a others again s w) h (refl, refl) refl

  ended_on : (listener : Option ℕ) (a : Activity A) (others : List (Activity A)) (again : ℕ → A) (s : S) (w : World A S) → IsTimely w → On w (ends a others again s listener w)
  ended_on None a others again s w h = on_same w (ends a others again s None w) h (refl, refl) refl
  ended_on (Some i) a others again s w h = ends_on (held_by i w.listeners) i a others again s w h

  slept_on : (w v : World A S) (q : ℕ × Activity A) → IsTimely w → Untouched w.board.clock w.board.script v.board → v.sleepers ≡ w.sleepers ++ q ∷ [] → w.board.clock ≤ q.0 → On w v
  slept_on w v q h k e late =
      record {
        timely = record {
          sleepers = subst (λ (c : ℕ). WakeFrom c v.sleepers) (sym k.0) (subst (λ (ps : List (ℕ × Activity A)). WakeFrom w.board.clock ps) (sym e) (wake_append w.board.clock w.sleepers q h.sleepers late));
          script = subst (λ (c : ℕ). IsRisingFrom c v.board.script) (sym k.0) (subst (λ (es : List Entry). IsRisingFrom w.board.clock es) (sym k.1) h.script);
        };
        clock = (let same : v.board.clock ≡ w.board.clock = k.0 in omega (arith, same));
      }

  pub acted_on : (a : Activity A) (others : List (Activity A)) (w : World A S) (turn : Turn A S) → IsTimely w → On w (acted K a others w turn)
  acted_on a others w (Goes self s) h = on_same w (acted K a others w (Goes self s)) h (refl, refl) refl
  acted_on a others w (Asks q next) h = on_same w (acted K a others w (Asks q next)) h (untouched_answer w.board.clock w.board.script q a.value w.board (refl, refl)) refl
  acted_on a others w (Takes n next) h = on_if (nat_le (w.board.used + n) arena_limit) w _ _ (on_same w _ h (refl, refl) refl) (on_same w _ h (refl, refl) refl)
  acted_on a others w (Pauses n self s) h =
      on_if (lacks_seat a w.board) w _ _ (on_same w _ h (refl, refl) refl)
      (slept_on w _ (wake_time w.board.clock n, record a { self = self; seated = true; suspended = false }) h (untouched_blocks (record a { self = self }) w.board) refl (wakes_later w.board.clock n))
  acted_on a others w (Waits e self s) h = on_if (lacks_seat a w.board) w _ _ (on_same w _ h (refl, refl) refl) (on_same w _ h (untouched_blocks (record a { self = self }) w.board) refl)
  acted_on a others w (Spawns f self s) h = on_if (nat_lt w.board.seats seat_limit) w _ _ (on_same w _ h (refl, refl) refl) (on_same w _ h (refl, refl) refl)
  acted_on a others w (Listens l self s) h = on_if (nat_lt (length w.listeners) listener_limit) w _ _ (on_same w _ h (refl, refl) refl) (on_same w _ h (refl, refl) refl)
  acted_on a others w (RaisesNow e above self s) h =
      (let new = handlers above e w 0 w.listeners in
      on_if (not (none new) && nat_le raiser_limit (how_many (λ b. b.suspended) others)) w _ _ (on_same w _ h (refl, refl) refl) (on_same w _ h (refl, refl) refl))
  acted_on a others w (Ends again s) h = ended_on a.listener a others again s w h
  acted_on a others w (Panics code) h = on_same w _ h (refl, refl) refl
  acted_on a others w (Faults kind address) h = on_same w _ h (refl, refl) refl

  stepped_on : (xs : List (Activity A)) (w : World A S) → IsTimely w → is_by_clock (stepped K xs w).board.end ≡ false → On w (stepped K xs w)
  stepped_on [] w h k = on_same w w h (refl, refl) refl
  stepped_on (a ∷ rest) w h k =
      (let v = acted K a rest w (K.step a.self w.shared) in
      let m : On w v = acted_on a rest w (K.step a.self w.shared) h in
      on_trans w v (idled K v) m (idle_on (idle_bound v.board) v.ready v m.timely k))

  -- a counted step that doesn't end the run by the clock
  pub tick_on : (w : World A S) → IsTimely w → is_by_clock (tick K w).board.end ≡ false → On w (tick K w)
  tick_on w h k = by_over (over w.board) k
    where
      by_over : (c : Bool) → is_by_clock (if c then w else stepped K w.ready w).board.end ≡ false → On w (if c then w else stepped K w.ready w)
      by_over true k' = on_same w w h (refl, refl) refl
      by_over false k' = stepped_on w.ready w h k'

  tick_not_yet : (w : World A S) → is_by_clock (tick K w).board.end ≡ false → is_by_clock w.board.end ≡ false
  tick_not_yet w k = by_over (over w.board) refl k
    where
      by_over : (c : Bool) → over w.board ≡ c → is_by_clock (if c then w else stepped K w.ready w).board.end ≡ false → is_by_clock w.board.end ≡ false
      by_over true o k' = k'
      by_over false o k' = by_clock_over w.board.end o

  pub run_timely : (n : ℕ) (w : World A S) → IsTimely w → is_by_clock (run K n w).board.end ≡ false → IsTimely (run K n w)
  run_timely zero w h k = h
  run_timely (suc n) w h k = (tick_on (run K n w) (run_timely n w h (tick_not_yet (run K n w) k)) k).timely

  stepped_same : (t : ℕ) (xs : List (Activity A)) (w : World A S) → IsTimely w → is_by_clock (stepped K xs w).board.end ≡ false → (stepped K xs w).board.clock < t → stepped_before K t xs w ≡ stepped K xs w
  stepped_same t [] w h k lt = refl
  stepped_same t (a ∷ rest) w h k lt =
      (let v = acted K a rest w (K.step a.self w.shared) in
      let m : On w v = acted_on a rest w (K.step a.self w.shared) h in
      idle_same t (idle_bound v.board) v.ready v m.timely k lt)

  tick_same : (t : ℕ) (w : World A S) → IsTimely w → is_by_clock (tick K w).board.end ≡ false → (tick K w).board.clock < t → tick_before K t w ≡ tick K w
  tick_same t w h k lt = by_over (over w.board) k lt
    where
      by_over : (c : Bool) → is_by_clock (if c then w else stepped K w.ready w).board.end ≡ false → (if c then w else stepped K w.ready w).board.clock < t → (if c then w else stepped_before K t w.ready w) ≡ (if c then w else stepped K w.ready w)
      by_over true k' lt' = refl
      by_over false k' lt' = stepped_same t w.ready w h k' lt'

  -- a run that stays below t is the one that stops before t
  pub run_same : (t n : ℕ) (w : World A S) → IsTimely w → is_by_clock (run K n w).board.end ≡ false → (run K n w).board.clock < t → run_before K t n w ≡ run K n w
  run_same t zero w h k lt = refl
  run_same t (suc n) w h k lt =
      (let k' = tick_not_yet (run K n w) k in
      let h' : IsTimely (run K n w) = run_timely n w h k' in
      let m : On (run K n w) (tick K (run K n w)) = tick_on (run K n w) h' k in
      let later : (run K n w).board.clock ≤ (tick K (run K n w)).board.clock = m.clock in
      ap (tick_before K t) (run_same t n w h k' (omega (arith, later, lt))) ∙ tick_same t (run K n w) h' k lt)

  -- and settled
  tick_settles : (w : World A S) → IsSettled w → IsSettled (tick K w)
  tick_settles w h = by_case (over w.board) w.ready refl refl
    where
      by_case : (c : Bool) (xs : List (Activity A)) → over w.board ≡ c → w.ready ≡ xs → IsSettled (if c then w else stepped K xs w)
      by_case true xs o e = (λ p. absurd (cc))
      by_case false [] o e = (let long : 0 < length w.ready = h o in let short : length w.ready ≡ 0 = ap length e in absurd (omega (arith, long, short)))
      by_case false (a ∷ rest) o e = settles K (acted K a rest w (K.step a.self w.shared))

  pub run_settles : (n : ℕ) (w : World A S) → IsSettled w → IsSettled (run K n w)
  run_settles zero w h = h
  run_settles (suc n) w h = tick_settles (run K n w) (run_settles n w h)

  -- a run that the clock hasn't ended, and whose clock stays below t, is the same with entries from t on behind
  pub later_waits : (t : ℕ) (later : List Entry) (n : ℕ) (w : World A S) → IsTimely w → IsSettled w → IsFrom t later → is_by_clock (run K n w).board.end ≡ false → (run K n w).board.clock < t
      → run K n (then_later later w) ≡ then_later later (run K n w)
  later_waits t later n w h s from k lt =
      (let cut : run_before K t n (then_later later w) ≡ then_later later (run K n w) = run_then K t later from n w ∙ ap (then_later later) (run_same t n w h k lt) in
      let settled : IsSettled (then_later later (run K n w)) = run_settles n w s in
      sym (run_settled K t n (then_later later w) (subst IsSettled (sym cut) settled)) ∙ cut)

-- a list in order
pub rises_in_order : (t : ℕ) (es : List Entry) → IfSome (next_entry es) (λ u. t ≤ u) → IsNonDecreasingBy (λ (e : Entry). e.at) es → IsRisingFrom t es
rises_in_order t [] k h = tt
rises_in_order t (e ∷ []) k h = (k, tt)
rises_in_order t (e ∷ (f ∷ es)) k h = (k, rises_in_order e.at (f ∷ es) (h 0 1 e (omega arith) (omega arith)) (λ i j d le lt. h (suc i) (suc j) d (omega (arith, le)) (omega (arith, lt))))
