-- While the clock stands: a run that stops before the first moment makes no move of the clock.
use Rattle.std.proofs.Common.{◌≡◌, ℕ, zero, suc, ◌+◌, ◌≤◌, ◌<◌, ℤ, pos, negsuc, Bool, true, false, not, ◌&&◌, if◌then◌else◌, nat_le, nat_lt, ◌==◌, List, [], ◌∷◌, ◌++◌, length, Option, Some, None, refl, ◌∙◌, ap, subst, arith}
use Rattle.std.proofs.lemmas.Bool.Decides.{nat_tests}
use Rattle.board_world.specs.declared.events.Event.{Event}
use Rattle.board_world.specs.declared.clock.Idle.{Idle}
use Rattle.board_world.specs.declared.clock.Idle.TheVariants.{Jump, Quiet, Script}
use Rattle.board_world.specs.Observations.{End, Panicked, Faulted}
use Rattle.board_world.specs.Limits.{queue_limit, pin_limit, raiser_limit, arena_limit, seat_limit, listener_limit}
use Rattle.board_world.specs.Panics.{arena_panic, seat_panic, listener_panic, raiser_panic}
use Rattle.board_world.specs.Rules.{clock_move, wake_time}
use Rattle.board_world.specs.Frame.{plotted}
use Rattle.board_world.specs.Board.{Board, Entry, arrive, arrive_all, next_entry, over}
use Rattle.board_world.specs.Kinds.{Kind, Question, Raises, Plots, Displays, Writes, Sets, Sends, Time, Value, Pressed, answer, Turn, Goes, Asks, Takes, Pauses, Waits, Spawns, Listens, RaisesNow, Ends, Panics, Faults}
use Rattle.board_world.specs.Waiting.{left, least, none, how_many, held_by}
use Rattle.board_world.specs.Activities.{Activity, World, handlers}
use Rattle.board_world.specs.World.{lacks_seat, stops, jump, clock_moves, ends_with, ends, moved, idle_bound, blocks, acted}
use Rattle.board_world.specs.Before.{IsRisingFrom, is_by_clock, is_jump_before, moves_before, idle_before, idled_before, stepped_before, tick_before, run_before}
use Rattle.board_world.proofs.Laws.{WakeFrom, if_keeps, clock_all}
use Rattle.class_world.proofs.Moments.{until_all, end_all}

-- what no turn changes of a board but by ending the run
module _ (P : ℕ → ℕ → List Entry → Option End → Type 0) where
  abbrev Of : Board → Type 0
  Of b = P b.clock b.until b.script b.end

  of_answer : (q : Question) (v : ℤ) (b : Board) → Of b → Of (answer q v b).0
  of_answer (Raises e) v b h = if_keeps Of (nat_lt (length b.queue) queue_limit) _ _ h h
  of_answer (Plots x y mode) v b h = if_keeps Of (plotted b.frame x y mode == b.frame) _ _ h h
  of_answer (Displays f) v b h = if_keeps Of (f == b.frame) _ _ h h
  of_answer (Writes []) v b h = h
  of_answer (Writes (c ∷ cs)) v b h = h
  of_answer (Sets (pos p) l) v b h = if_keeps Of (nat_lt p pin_limit) _ _ h h
  of_answer (Sets (negsuc p) l) v b h = h
  of_answer (Sends n) v b h = h
  of_answer Time v b h = h
  of_answer Value v b h = h
  of_answer (Pressed (pos n)) v b h = h
  of_answer (Pressed (negsuc n)) v b h = h

wake_append : {Y : Type 0} (c : ℕ) (ps : List (ℕ × Y)) (q : ℕ × Y) → WakeFrom c ps → c ≤ q.0 → WakeFrom c (ps ++ q ∷ [])
wake_append c [] q h k = (k, tt)
wake_append c (p ∷ ps) q h k = (h.0, wake_append c ps q h.1 k)

wakes_later : (now : ℕ) (n : ℤ) → suc now ≤ wake_time now n
wakes_later now (pos m) = omega arith
wakes_later now (negsuc m) = omega arith

-- the clock stands at a moment, with this script's end and these entries left; nobody who sleeps is due, and the clock hasn't ended the run
pub record IsStanding {A S : Type 0} (clock until : ℕ) (script : List Entry) (w : World A S) : Type 0 where
  pub clock_is : w.board.clock ≡ clock
  pub until_is : w.board.until ≡ until
  pub script_is : w.board.script ≡ script
  pub goes : is_by_clock w.board.end ≡ false
  pub later : WakeFrom (suc clock) w.sleepers

module _ {A S : Type 0} (K : Kind A S) (clock until : ℕ) (script : List Entry) where
  abbrev Same : ℕ → ℕ → List Entry → Option End → Type 0
  Same c u es e = (c ≡ clock) × (u ≡ until) × (es ≡ script) × (is_by_clock e ≡ false)

  abbrev Stands : World A S → Type 0
  Stands w = Of Same w.board × WakeFrom (suc clock) w.sleepers

  stopped : (w : World A S) (e : End) → is_by_clock (Some e) ≡ false → Stands w → Stands (stops e w)
  stopped w e k h = ((h.0.0, h.0.1, h.0.2, k), h.1)

  stands_blocks : (a : Activity A) (b : Board) → Of Same b → Of Same (blocks K a b)
  stands_blocks a b h = if_keeps (Of Same) a.seated _ _ h h

  stands_ends_with : (es : List Event) (i : ℕ) (a : Activity A) (others : List (Activity A)) (again : ℕ → A) (s : S) (w : World A S) → Stands w → Stands (ends_with es i a others again s w)
  stands_ends_with [] i a others again s w h = h
  stands_ends_with (e ∷ rest) i a others again s w h = h

  stands_ends : (o : Option ℕ) (a : Activity A) (others : List (Activity A)) (again : ℕ → A) (s : S) (w : World A S) → Stands w → Stands (ends a others again s o w)
  stands_ends None a others again s w h = h
  stands_ends (Some i) a others again s w h = stands_ends_with (held_by i w.listeners) i a others again s w h

  stands_acted : (a : Activity A) (others : List (Activity A)) (w : World A S) (turn : Turn A S) → Stands w → Stands (acted K a others w turn)
  stands_acted a others w (Goes self s) h = h
  stands_acted a others w (Asks q next) h = (of_answer Same q a.value w.board h.0, h.1)
  stands_acted a others w (Takes n next) h = if_keeps Stands (nat_le (w.board.used + n) arena_limit) _ _ h (stopped w (Panicked arena_panic) refl h)
  stands_acted a others w (Pauses n self s) h =
      (let here : w.board.clock ≡ clock = h.0.0 in
      let late : suc w.board.clock ≤ wake_time w.board.clock n = wakes_later w.board.clock n in
      if_keeps Stands (lacks_seat a w.board) _ _ (stopped w (Panicked seat_panic) refl h) (stands_blocks (record a { self = self }) w.board h.0, wake_append (suc clock) w.sleepers _ h.1 (omega (arith, here, late))))
  stands_acted a others w (Waits e self s) h = if_keeps Stands (lacks_seat a w.board) _ _ (stopped w (Panicked seat_panic) refl h) (stands_blocks (record a { self = self }) w.board h.0, h.1)
  stands_acted a others w (Spawns f self s) h = if_keeps Stands (nat_lt w.board.seats seat_limit) _ _ h (stopped w (Panicked seat_panic) refl h)
  stands_acted a others w (Listens l self s) h = if_keeps Stands (nat_lt (length w.listeners) listener_limit) _ _ h (stopped w (Panicked listener_panic) refl h)
  stands_acted a others w (RaisesNow e above self s) h =
      (let new = handlers above e w 0 w.listeners in
      if_keeps Stands (not (none new) && nat_le raiser_limit (how_many (λ b. b.suspended) others)) _ _ (stopped w (Panicked raiser_panic) refl h) h)
  stands_acted a others w (Ends again s) h = stands_ends a.listener a others again s w h
  stands_acted a others w (Panics code) h = stopped w (Panicked code) refl h
  stands_acted a others w (Faults kind address) h = stopped w (Faulted kind address) refl h

  -- before the first moment only events are dispatched
  stands_moved : (queue : List Event) (w : World A S) → moves_before 0 queue w ≡ true → Stands w → Stands (moved K queue w)
  stands_moved (e ∷ rest) w m h = h
  stands_moved [] w m h = by_move (clock_move (least w.sleepers) (next_entry w.board.script) w.board.until) m
    where
      by_move : (i : Idle) → is_jump_before 0 i ≡ true → Stands (clock_moves i w)
      by_move (Jump s) m' = (let never : s < 0 = grind (arith, nat_tests) in absurd (omega (arith, never)))
      by_move Quiet m' = absurd (cc)
      by_move Script m' = absurd (cc)

  stands_idle : (n : ℕ) (xs : List (Activity A)) (w : World A S) → Stands w → Stands (idle_before K 0 n xs w)
  stands_idle zero xs w h = h
  stands_idle (suc n) (x ∷ xs) w h = h
  stands_idle (suc n) [] w h = by_test (over w.board) (moves_before 0 w.board.queue w) refl (λ k. stands_idle n (moved K w.board.queue w).ready (moved K w.board.queue w) k)
    where
      Next : World A S
      Next = moved K w.board.queue w

      by_test : (c d : Bool) → moves_before 0 w.board.queue w ≡ d → (Stands Next → Stands (idle_before K 0 n Next.ready Next)) → Stands (if not c && d then idle_before K 0 n Next.ready Next else w)
      by_test true d m ih = h
      by_test false false m ih = h
      by_test false true m ih = ih (stands_moved w.board.queue w m h)

  stands_tick : (w : World A S) → Stands w → Stands (tick_before K 0 w)
  stands_tick w h = if_keeps Stands (over w.board) w (stepped_before K 0 w.ready w) h (by_ready w.ready)
    where
      by_ready : (xs : List (Activity A)) → Stands (stepped_before K 0 xs w)
      by_ready [] = h
      by_ready (a ∷ rest) = (let v = acted K a rest w (K.step a.self w.shared) in stands_idle (idle_bound v.board) v.ready v (stands_acted a rest w (K.step a.self w.shared) h))

  stands_run : (n : ℕ) (w : World A S) → Stands w → Stands (run_before K 0 n w)
  stands_run zero w h = h
  stands_run (suc n) w h = stands_tick (run_before K 0 n w) (stands_run n w h)

  pub standing_run : (n : ℕ) (w : World A S) → IsStanding clock until script w → IsStanding clock until script (run_before K 0 n w)
  standing_run n w h =
      (let r = stands_run n w ((h.clock_is, h.until_is, h.script_is, h.goes), h.later) in
      record { clock_is = r.0.0; until_is = r.0.1; script_is = r.0.2; goes = r.0.3; later = r.1 })

  pub standing_idled : (w : World A S) → IsStanding clock until script w → IsStanding clock until script (idled_before K 0 w)
  standing_idled w h =
      (let r = stands_idle (idle_bound w.board) w.ready w ((h.clock_is, h.until_is, h.script_is, h.goes), h.later) in
      record { clock_is = r.0.0; until_is = r.0.1; script_is = r.0.2; goes = r.0.3; later = r.1 })

-- where no event is queued, no idle move comes before the first moment
pub none_before_first : {A S : Type 0} (queue : List Event) (w : World A S) → queue ≡ [] → moves_before 0 queue w ≡ false
none_before_first (e ∷ rest) w h = cc
none_before_first [] w h = by_move (clock_move (least w.sleepers) (next_entry w.board.script) w.board.until)
  where
    by_move : (i : Idle) → is_jump_before 0 i ≡ false
    by_move (Jump s) = grind (arith, nat_tests)
    by_move Quiet = refl
    by_move Script = refl

-- a moment's entries leave those that come later, and its sleepers those that wake later
left_rising : (t : ℕ) (es : List Entry) (b : Board) → IsRisingFrom t es → IsRisingFrom (suc t) (arrive_all t es b).script
left_rising t [] b h = tt
left_rising t (e ∷ es) b h = by_at (e.at == t) refl (λ r. left_rising t es (arrive e.act b) r)
  where
    by_at : (c : Bool) → (e.at == t) ≡ c → (IsRisingFrom t es → IsRisingFrom (suc t) (arrive_all t es (arrive e.act b)).script)
        → IsRisingFrom (suc t) (if c then arrive_all t es (arrive e.act b) else record b { script = e ∷ es }).script
    by_at true q ih = ih (let same : e.at ≡ t = grind (arith, nat_tests) in subst (λ (k : ℕ). IsRisingFrom k es) same h.1)
    by_at false q ih = ((let first : t ≤ e.at = h.0 in let other : (e.at ≡ t) → ⊥ = (λ s. (let yes : (e.at == t) ≡ true = grind (arith, nat_tests) in cc)) in grind (arith, nat_tests)), h.1)

left_later : {Y : Type 0} (t : ℕ) (ps : List (ℕ × Y)) → WakeFrom (suc t) (left (λ wake. nat_le wake t) ps)
left_later t [] = tt
left_later {Y = Y} t (p ∷ ps) = by_test (nat_le p.0 t) refl (left_later t ps)
  where
    by_test : (c : Bool) → nat_le p.0 t ≡ c → WakeFrom (suc t) (left (λ wake. nat_le wake t) ps) → WakeFrom (suc t) (if c then left (λ wake. nat_le wake t) ps else p ∷ left (λ wake. nat_le wake t) ps)
    by_test true q h = h
    by_test false q h = (grind (arith, nat_tests), h)

-- behind a jump to a moment, before which no entry is, nothing is due up to it
pub standing_jump : {A S : Type 0} (t : ℕ) (w : World A S) → is_by_clock w.board.end ≡ false → IsStanding t w.board.until (jump t w).board.script (jump t w)
standing_jump t w h = (let now : Board = record w.board { clock = t } in record {
  clock_is = clock_all t w.board.script now;
  until_is = until_all t w.board.script now;
  script_is = refl;
  goes = ap is_by_clock (end_all t w.board.script now) ∙ h;
  later = left_later t w.sleepers;
})

pub jump_rising : {A S : Type 0} (t : ℕ) (w : World A S) → IsRisingFrom t w.board.script → IsRisingFrom (suc t) (jump t w).board.script
jump_rising t w h = left_rising t w.board.script (record w.board { clock = t }) h
