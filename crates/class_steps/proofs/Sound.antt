-- A run that is stopped before a moment isn't ended by the clock.
use Rattle.std.proofs.Common.{◌≡◌, ℕ, zero, suc, ◌+◌, ℤ, pos, negsuc, Bool, true, false, not, ◌&&◌, if◌then◌else◌, nat_le, nat_lt, ◌==◌, List, [], ◌∷◌, length, Option, Some, None, refl, ap, ◌∙◌}
use Rattle.board_world.specs.declared.events.Event.{Event}
use Rattle.board_world.specs.declared.clock.Idle.{Idle}
use Rattle.board_world.specs.declared.clock.Idle.TheVariants.{Jump, Quiet, Script}
use Rattle.board_world.specs.Limits.{queue_limit, pin_limit, raiser_limit, arena_limit, seat_limit, listener_limit}
use Rattle.board_world.specs.Rules.{clock_move}
use Rattle.board_world.specs.Frame.{plotted}
use Rattle.board_world.specs.Board.{Board, next_entry, over}
use Rattle.board_world.specs.Kinds.{Kind, Question, Raises, Plots, Displays, Writes, Sets, Sends, Time, Value, Pressed, answer, Turn, Goes, Asks, Takes, Pauses, Waits, Spawns, Listens, RaisesNow, Ends, Panics, Faults}
use Rattle.board_world.specs.Waiting.{least, none, how_many, held_by}
use Rattle.board_world.specs.Activities.{Activity, World, handlers}
use Rattle.board_world.specs.World.{lacks_seat, clock_moves, ends_with, ends, moved, idle_bound, blocks, acted}
use Rattle.board_world.specs.Before.{is_by_clock, is_jump_before, moves_before, idle_before, stepped_before, tick_before, run_before}
use Rattle.board_world.proofs.Laws.{if_keeps, by_clock_over}
use Rattle.class_world.proofs.Laws.{end_all}

abbrev Sound : Board → Type 0
Sound b = is_by_clock b.end ≡ false

sound_answer : (q : Question) (v : ℤ) (b : Board) → Sound b → Sound (answer q v b).0
sound_answer (Raises e) v b h = if_keeps Sound (nat_lt (length b.queue) queue_limit) _ _ h h
sound_answer (Plots x y mode) v b h = if_keeps Sound (plotted b.frame x y mode == b.frame) _ _ h h
sound_answer (Displays f) v b h = if_keeps Sound (f == b.frame) _ _ h h
sound_answer (Writes []) v b h = h
sound_answer (Writes (c ∷ cs)) v b h = h
sound_answer (Sets (pos p) l) v b h = if_keeps Sound (nat_lt p pin_limit) _ _ h h
sound_answer (Sets (negsuc p) l) v b h = h
sound_answer (Sends n) v b h = h
sound_answer Time v b h = h
sound_answer Value v b h = h
sound_answer (Pressed (pos n)) v b h = h
sound_answer (Pressed (negsuc n)) v b h = h

module _ {A S : Type 0} (K : Kind A S) where
  abbrev IsSoundWorld : World A S → Type 0
  IsSoundWorld w = Sound w.board

  sound_blocks : (a : Activity A) (b : Board) → Sound b → Sound (blocks K a b)
  sound_blocks a b h = if_keeps Sound a.seated _ _ h h

  sound_ends_with : (es : List Event) (i : ℕ) (a : Activity A) (others : List (Activity A)) (again : ℕ → A) (s : S) (w : World A S) → IsSoundWorld w → IsSoundWorld (ends_with es i a others again s w)
  sound_ends_with [] i a others again s w h = h
  sound_ends_with (e ∷ rest) i a others again s w h = h

  sound_ends : (o : Option ℕ) (a : Activity A) (others : List (Activity A)) (again : ℕ → A) (s : S) (w : World A S) → IsSoundWorld w → IsSoundWorld (ends a others again s o w)
  sound_ends None a others again s w h = h
  sound_ends (Some i) a others again s w h = sound_ends_with (held_by i w.listeners) i a others again s w h

  sound_acted : (a : Activity A) (others : List (Activity A)) (w : World A S) (turn : Turn A S) → IsSoundWorld w → IsSoundWorld (acted K a others w turn)
  sound_acted a others w (Goes self s) h = h
  sound_acted a others w (Asks q next) h = sound_answer q a.value w.board h
  sound_acted a others w (Takes n next) h = if_keeps IsSoundWorld (nat_le (w.board.used + n) arena_limit) _ _ h refl
  sound_acted a others w (Pauses n self s) h = if_keeps IsSoundWorld (lacks_seat a w.board) _ _ refl (sound_blocks (record a { self = self }) w.board h)
  sound_acted a others w (Waits e self s) h = if_keeps IsSoundWorld (lacks_seat a w.board) _ _ refl (sound_blocks (record a { self = self }) w.board h)
  sound_acted a others w (Spawns f self s) h = if_keeps IsSoundWorld (nat_lt w.board.seats seat_limit) _ _ h refl
  sound_acted a others w (Listens l self s) h = if_keeps IsSoundWorld (nat_lt (length w.listeners) listener_limit) _ _ h refl
  sound_acted a others w (RaisesNow e above self s) h =
      (let new = handlers above e w 0 w.listeners in
      if_keeps IsSoundWorld (not (none new) && nat_le raiser_limit (how_many (λ b. b.suspended) others)) _ _ refl h)
  sound_acted a others w (Ends again s) h = sound_ends a.listener a others again s w h
  sound_acted a others w (Panics code) h = refl
  sound_acted a others w (Faults kind address) h = refl

  module _ (u : ℕ) where
    sound_idle : (n : ℕ) (xs : List (Activity A)) (w : World A S) → IsSoundWorld w → IsSoundWorld (idle_before K u n xs w)
    sound_idle zero xs w h = h
    sound_idle (suc n) (x ∷ xs) w h = h
    sound_idle (suc n) [] w h = by_test (over w.board) (moves_before u w.board.queue w) refl refl (λ k. sound_idle n (moved K w.board.queue w).ready (moved K w.board.queue w) k)
      where
        Next : World A S
        Next = moved K w.board.queue w

        sound_moved : (queue : List Event) → over w.board ≡ false → moves_before u queue w ≡ true → is_by_clock (moved K queue w).board.end ≡ false
        sound_moved (e ∷ rest) o m = by_clock_over w.board.end o
        sound_moved [] o m = by_move (clock_move (least w.sleepers) (next_entry w.board.script) w.board.until) m
          where
            by_move : (i : Idle) → is_jump_before u i ≡ true → is_by_clock (clock_moves i w).board.end ≡ false
            by_move (Jump s) m' = ap is_by_clock (end_all s w.board.script (record w.board { clock = s })) ∙ by_clock_over w.board.end o
            by_move Quiet m' = absurd (cc)
            by_move Script m' = absurd (cc)

        by_test : (c d : Bool) → over w.board ≡ c → moves_before u w.board.queue w ≡ d → (IsSoundWorld Next → IsSoundWorld (idle_before K u n Next.ready Next)) → IsSoundWorld (if not c && d then idle_before K u n Next.ready Next else w)
        by_test true d o m ih = h
        by_test false false o m ih = h
        by_test false true o m ih = ih (sound_moved w.board.queue o m)

    sound_tick : (w : World A S) → IsSoundWorld w → IsSoundWorld (tick_before K u w)
    sound_tick w h = if_keeps IsSoundWorld (over w.board) w (stepped_before K u w.ready w) h (by_ready w.ready)
      where
        by_ready : (xs : List (Activity A)) → IsSoundWorld (stepped_before K u xs w)
        by_ready [] = h
        by_ready (a ∷ rest) = (let v = acted K a rest w (K.step a.self w.shared) in sound_idle (idle_bound v.board) v.ready v (sound_acted a rest w (K.step a.self w.shared) h))

    pub sound_run : (n : ℕ) (w : World A S) → IsSoundWorld w → IsSoundWorld (run_before K u n w)
    sound_run zero w h = h
    sound_run (suc n) w h = sound_tick (run_before K u n w) (sound_run n w h)
