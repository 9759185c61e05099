-- A panic changes nothing but the run's end.
use Rattle.std.proofs.Common.{◌≡◌, ℕ, zero, suc, ◌+◌, ◌<◌, ◌⊎◌, inl, inr, ℤ, pos, negsuc, not, ◌&&◌, ◌==◌, Bool, true, false, nat_le, nat_lt, List, [], ◌∷◌, length, Option, Some, None, is_some, refl, ap, sym, ◌∙◌, subst, arith}
use Rattle.board_world.specs.declared.events.Event.{Event}
use Rattle.board_world.specs.declared.clock.Idle.{Idle}
use Rattle.board_world.specs.declared.clock.Idle.TheVariants.{Jump, Quiet, Script}
use Rattle.board_world.specs.Limits.{arena_limit, seat_limit, listener_limit, raiser_limit, pin_limit}
use Rattle.board_world.specs.Panics.{arena_panic, seat_panic, listener_panic, raiser_panic}
use Rattle.board_world.specs.Observations.{End, Panicked}
use Rattle.board_world.specs.Rules.{clock_move}
use Rattle.board_world.specs.Frame.{plotted}
use Rattle.board_world.specs.Board.{Board, Entry, over, arrive, arrive_all, next_entry}
use Rattle.board_world.specs.Kinds.{Kind, Turn, Goes, Asks, Takes, Pauses, Waits, Spawns, Listens, RaisesNow, Ends, Panics, Faults, Question, answer, showed, Raises, Plots, Displays, Writes, Sets, Sends, Time, Value, Pressed, was_set}
use Rattle.board_world.specs.Panicking.{MayPanic, HasPanicked, FirstIs}
use Rattle.board_world.specs.Waiting.{least, how_many, none, held_by}
use Rattle.board_world.specs.Activities.{Activity, World, handlers}
use Rattle.board_world.specs.World.{moved, clock_moves, idle_while, idled, lacks_seat, blocks, ends_with, ends, stops, acted, stepped, tick}
use Rattle.board_world.specs.Runs.{Arrival, acts_at, run_with}
use Rattle.board_world.specs.Standing.{PanicsIn}
use Rattle.board_world.proofs.Stays.{if_keeps, over_stays}
use Rattle.board_world.proofs.ByList.{end_raised, end_arrive, acts_at_over, over_acts_at, with_over}

-- no answer and no entry ends a run
end_set : (p v : ℤ) (b : Board) → (was_set p v b).end ≡ b.end
end_set (pos p) v b = if_keeps (λ (x : Board). x.end ≡ b.end) (nat_lt p pin_limit) _ _ refl refl
end_set (negsuc p) v b = refl

end_showed : (f : ℕ) (b : Board) → (showed f b).end ≡ b.end
end_showed f b = if_keeps (λ (x : Board). x.end ≡ b.end) (f == b.frame) _ _ refl refl

end_answer : (q : Question) (n : ℤ) (b : Board) → (answer q n b).0.end ≡ b.end
end_answer (Raises e) n b = end_raised e b
end_answer (Plots x y mode) n b = end_showed (plotted b.frame x y mode) b
end_answer (Displays f) n b = end_showed f b
end_answer (Writes []) n b = refl
end_answer (Writes (c ∷ cs)) n b = refl
end_answer (Sets p v) n b = end_set p v b
end_answer (Sends m) n b = refl
end_answer Time n b = refl
end_answer Value n b = refl
end_answer (Pressed m) n b = refl

end_arrive_all : (t : ℕ) (es : List Entry) (b : Board) → (arrive_all t es b).end ≡ b.end
end_arrive_all t [] b = refl
end_arrive_all t (e ∷ es) b =
    if_keeps (λ (x : Board). x.end ≡ b.end) (e.at == t) _ _ (end_arrive_all t es (arrive e.act b) ∙ end_arrive e.act b) refl

module _ {A S : Type 0} (K : Kind A S) where
  -- a world whose run hasn't ended by a panic
  abbrev pub Calm : World A S → Type 0
  Calm w = HasPanicked w.board.end → ⊥

  calm_as : (w : World A S) (b : Board) → b.end ≡ w.board.end → Calm w → HasPanicked b.end → ⊥
  calm_as w b e h p = h (subst HasPanicked e p)

  -- no idle move is a panic
  clock_calm : (i : Idle) (w : World A S) → Calm w → Calm (clock_moves i w)
  clock_calm Quiet w h p = absurd p
  clock_calm Script w h p = absurd p
  clock_calm (Jump t) w h p = calm_as w (arrive_all t w.board.script (record w.board { clock = t })) (end_arrive_all t w.board.script (record w.board { clock = t })) h p

  moved_calm : (queue : List Event) (w : World A S) → Calm w → Calm (moved K queue w)
  moved_calm (e ∷ rest) w h p = h p
  moved_calm [] w h p = clock_calm (clock_move (least w.sleepers) (next_entry w.board.script) w.board.until) w h p

  idle_calm : (n : ℕ) (xs : List (Activity A)) (w : World A S) → Calm w → Calm (idle_while K n xs w)
  idle_calm zero xs w h = h
  idle_calm (suc n) (x ∷ xs) w h = h
  idle_calm (suc n) [] w h =
      (let v = moved K w.board.queue w in
      if_keeps Calm (over w.board) w (idle_while K n v.ready v) h (idle_calm n v.ready v (moved_calm w.board.queue w h)))

  -- a turn ends no run by a panic, or it may be one, and nothing but the end is new
  abbrev Calms : World A S → Turn A S → World A S → Type 0
  Calms w u z = Calm z ⊎ (MayPanic u × (code : ℕ) × (z ≡ stops (Panicked code) w))

  blocks_end : (a : Activity A) (b : Board) → (blocks K a b).end ≡ b.end
  blocks_end a b = if_keeps (λ (c : Board). c.end ≡ b.end) a.seated _ _ refl refl

  ends_calm : (a : Activity A) (others : List (Activity A)) (again : ℕ → A) (s : S) (o : Option ℕ) (w : World A S) → Calm w → Calm (ends a others again s o w)
  ends_calm a others again s None w h p = h p
  ends_calm a others again s (Some i) w h p = by_held (held_by i w.listeners) p
    where
      by_held : (es : List Event) → Calm (ends_with es i a others again s w)
      by_held [] q = h q
      by_held (e ∷ es) q = h q

  acted_calm : (a : Activity A) (others : List (Activity A)) (w : World A S) (u : Turn A S) → Calm w → Calms w u (acted K a others w u)
  acted_calm a others w (Goes x s) h = inl h
  acted_calm a others w (Asks q next) h = inl (calm_as w (answer q a.value w.board).0 (end_answer q a.value w.board) h)
  acted_calm a others w (Takes n next) h =
      if_keeps (Calms w (Takes n next)) (nat_le (w.board.used + n) arena_limit) _ _ (inl h) (inr (tt, arena_panic, refl))
  acted_calm a others w (Pauses n x s) h =
      if_keeps (Calms w (Pauses n x s)) (lacks_seat a w.board) _ _ (inr (tt, seat_panic, refl))
      (inl (calm_as w (blocks K (record a { self = x }) w.board) (blocks_end (record a { self = x }) w.board) h))
  acted_calm a others w (Waits e x s) h =
      if_keeps (Calms w (Waits e x s)) (lacks_seat a w.board) _ _ (inr (tt, seat_panic, refl))
      (inl (calm_as w (blocks K (record a { self = x }) w.board) (blocks_end (record a { self = x }) w.board) h))
  acted_calm a others w (Spawns f x s) h =
      if_keeps (Calms w (Spawns f x s)) (nat_lt w.board.seats seat_limit) _ _ (inl h) (inr (tt, seat_panic, refl))
  acted_calm a others w (Listens l x s) h =
      if_keeps (Calms w (Listens l x s)) (nat_lt (length w.listeners) listener_limit) _ _ (inl h) (inr (tt, listener_panic, refl))
  acted_calm a others w (RaisesNow e above x s) h =
      (let new = handlers above e w 0 w.listeners in
      if_keeps (Calms w (RaisesNow e above x s)) (not (none new) && nat_le raiser_limit (how_many (λ b. b.suspended) others)) _ _ (inr (tt, raiser_panic, refl)) (inl h))
  acted_calm a others w (Ends again s) h = inl (ends_calm a others again s a.listener w h)
  acted_calm a others w (Panics c) h = inr (tt, c, refl)
  acted_calm a others w (Faults k x) h = inl (λ p. absurd p)

  -- what isn't over hasn't ended by a panic
  pub going_calm : (w : World A S) → over w.board ≡ false → Calm w
  going_calm w o p = by w.board.end refl p
    where
      by : (e : Option End) → w.board.end ≡ e → HasPanicked e → ⊥
      by None q r = r
      by (Some e) q r = (let s : over w.board ≡ true = ap is_some q in cc)

  -- a step that ends the run by a panic: its turn may be one, and nothing but the end is new
  pub panics_here : (xs : List (Activity A)) (w : World A S) → over w.board ≡ false → HasPanicked (stepped K xs w).board.end
      → FirstIs (λ a. MayPanic (K.step a w.shared)) xs × (code : ℕ) × (stepped K xs w ≡ stops (Panicked code) w)
  panics_here [] w o p = absurd (going_calm w o p)
  panics_here (a ∷ others) w o p = elim (acted_calm a others w (K.step a.self w.shared) (going_calm w o)) [
    | inl calm ↦ absurd (idle_calm _ _ (acted K a others w (K.step a.self w.shared)) calm p)
    | inr q ↦ (q.0, q.1, ap (idled K) q.2 ∙ over_stays K _ w.ready (stops (Panicked q.1) w) refl)
  ]

  pub tick_is : (w : World A S) → over w.board ≡ false → tick K w ≡ stepped K w.ready w
  tick_is w o = rw o refl

  tick_panics : (w : World A S) → over w.board ≡ false → HasPanicked (tick K w).board.end → PanicsIn K w (tick K w)
  tick_panics w o p =
      (let h = panics_here w.ready w o (subst (λ (z : World A S). HasPanicked z.board.end) (tick_is w o) p) in
      record { going = o; first = h.0; step = refl; code = h.1; stands = tick_is w o ∙ h.2 })

  -- an act neither is a panic nor follows one
  acts_panic : (n : ℕ) (rest : List Arrival) (w : World A S) → HasPanicked (acts_at n rest w).board.end → acts_at n rest w ≡ w
  acts_panic n rest w p = by_end (over w.board) refl
    where
      by_end : (c : Bool) → over w.board ≡ c → acts_at n rest w ≡ w
      by_end true o = acts_at_over n rest w o
      by_end false o = absurd (going_calm (acts_at n rest w) (over_acts_at n rest w ∙ o) p)

  -- Where a run has ended by a panic, it was in the step after some k, and the world is as it was then.
  pub run_panics : (w : World A S) (rest : List Arrival) (n : ℕ) → over w.board ≡ false → HasPanicked (run_with K rest n w).board.end
      → (k : ℕ) × (k < n) × PanicsIn K (run_with K rest k w) (run_with K rest n w)
  run_panics w rest zero o p = absurd (going_calm w o (subst (λ (z : World A S). HasPanicked z.board.end) (acts_panic 0 rest w p) p))
  run_panics w rest (suc n) o p = by_end (over (run_with K rest n w).board) refl (run_panics w rest n o)
    where
      by_end : (c : Bool) → over (run_with K rest n w).board ≡ c
          → (HasPanicked (run_with K rest n w).board.end → (k : ℕ) × (k < n) × PanicsIn K (run_with K rest k w) (run_with K rest n w))
          → (k : ℕ) × (k < suc n) × PanicsIn K (run_with K rest k w) (run_with K rest (suc n) w)
      by_end true e before =
          (let same : run_with K rest (suc n) w ≡ run_with K rest n w = with_over K n rest w e in
          let h = before (subst (λ (z : World A S). HasPanicked z.board.end) same p) in
          let sooner : h.0 < n = h.1 in
          (h.0, omega arith, subst (PanicsIn K (run_with K rest h.0 w)) (sym same) h.2))
      by_end false e before =
          (let same = acts_panic (suc n) rest (tick K (run_with K rest n w)) p in
          (n, omega arith, subst (PanicsIn K (run_with K rest n w)) (sym same) (tick_panics (run_with K rest n w) e (subst (λ (z : World A S). HasPanicked z.board.end) same p))))
