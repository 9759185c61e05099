-- What comes before a moment doesn't hang on the script's end, if that is then or later.
use Rattle.std.proofs.Common.{◌≡◌, ℕ, zero, suc, ◌+◌, ◌-◌, max, ◌≤◌, ℤ, pos, negsuc, Bool, true, false, not, ◌&&◌, if◌then◌else◌, nat_le, nat_lt, ◌==◌, List, [], ◌∷◌, ◌++◌, length, Option, Some, None, refl, ap, sym, ◌∙◌, arith}
use Rattle.std.proofs.lemmas.Bool.Decides.{nat_tests}
use Rattle.board_world.specs.declared.events.Event.{Event}
use Rattle.board_world.specs.declared.clock.Idle.{Idle}
use Rattle.board_world.specs.declared.clock.Idle.TheVariants.{Jump, Quiet, Script}
use Rattle.board_world.specs.Observations.{Show, Pin}
use Rattle.board_world.specs.Limits.{queue_limit, click_limit, pin_limit, raiser_limit, arena_limit, seat_limit, listener_limit}
use Rattle.board_world.specs.Frame.{plotted}
use Rattle.board_world.specs.Rules.{earlier, up_to, clock_move, wake_time}
use Rattle.board_world.specs.Board.{Board, Act, Entry, Down, Up, Raise, Unplug, event, raised, went_down, went_up, held_since, arrive, arrive_all, next_entry, over}
use Rattle.board_world.specs.Kinds.{Kind, Question, Raises, Plots, Displays, Writes, Sets, Sends, Time, Value, Pressed, answer, showed, wrote, was_set, level, Turn, Goes, Asks, Takes, Pauses, Waits, Spawns, Listens, RaisesNow, Ends, Panics, Faults}
use Rattle.board_world.specs.Waiting.{chosen, left, least, none, how_many, held_by}
use Rattle.board_world.specs.Activities.{Activity, World, handlers}
use Rattle.board_world.specs.World.{lacks_seat, jump, clock_moves, goes_on, ends_with, ends, moved, idle_bound, blocks, acted}
use Rattle.board_world.specs.Before.{is_jump_before, moves_before, idle_before, idled_before, stepped_before, tick_before, run_before}

-- the same with another end of the script
abbrev pub end_at : ℕ → Board → Board
end_at u b = record b { until = u }

abbrev pub ending_at : {A S : Type 0} → ℕ → World A S → World A S
ending_at u w = record w { board = end_at u w.board }

-- the end has no part in what an act does
raised_end : (u : ℕ) (e : Event) (b : Board) → raised e (end_at u b) ≡ end_at u (raised e b)
raised_end u e b =
    elim (nat_lt (length b.queue) queue_limit) as (λ t. (if t then record (end_at u b) { queue = b.queue ++ e ∷ [] } else end_at u b) ≡ end_at u (if t then record b { queue = b.queue ++ e ∷ [] } else b)) [ true ↦ refl | false ↦ refl ]

down_end : (u source : ℕ) (since : Option ℕ) (b : Board) → went_down source since (end_at u b) ≡ end_at u (went_down source since b)
down_end u source None b = raised_end u (event source 1) b
down_end u source (Some since) b = refl

up_end : (u source : ℕ) (since : Option ℕ) (b : Board) → went_up source since (end_at u b) ≡ end_at u (went_up source since b)
up_end u source None b = refl
up_end u source (Some since) b =
    (let e : Event = event source (if nat_lt (b.clock - since) click_limit then 3 else 4) in
    ap (raised e) (raised_end u (event source 2) b) ∙ raised_end u e (raised (event source 2) b))

arrive_end : (u : ℕ) (act : Act) (b : Board) → arrive act (end_at u b) ≡ end_at u (arrive act b)
arrive_end u (Down n) b =
    elim (n == 1) as (λ t. (if t then record (went_down 1 b.a_since (end_at u b)) { a_since = held_since b.clock b.a_since }
    else record (went_down 2 b.b_since (end_at u b)) { b_since = held_since b.clock b.b_since }) ≡ end_at u (if t then record (went_down 1 b.a_since b) { a_since = held_since b.clock b.a_since }
    else record (went_down 2 b.b_since b) { b_since = held_since b.clock b.b_since })) [
      | true ↦ ap (λ (c : Board). record c { a_since = held_since b.clock b.a_since }) (down_end u 1 b.a_since b)
      | false ↦ ap (λ (c : Board). record c { b_since = held_since b.clock b.b_since }) (down_end u 2 b.b_since b)
    ]
arrive_end u (Up n) b =
    elim (n == 1) as (λ t. (if t then record (went_up 1 b.a_since (end_at u b)) { a_since = None } else record (went_up 2 b.b_since (end_at u b)) { b_since = None })
    ≡ end_at u (if t then record (went_up 1 b.a_since b) { a_since = None } else record (went_up 2 b.b_since b) { b_since = None })) [
      | true ↦ ap (λ (c : Board). record c { a_since = None }) (up_end u 1 b.a_since b)
      | false ↦ ap (λ (c : Board). record c { b_since = None }) (up_end u 2 b.b_since b)
    ]
arrive_end u (Raise e) b = raised_end u e b
arrive_end u (Unplug port) b = refl

all_end : (u s : ℕ) (es : List Entry) (b : Board) → arrive_all s es (end_at u b) ≡ end_at u (arrive_all s es b)
all_end u s [] b = refl
all_end u s (e ∷ es) b =
    elim (e.at == s) as (λ q. (if q then arrive_all s es (arrive e.act (end_at u b)) else record (end_at u b) { script = e ∷ es }) ≡ end_at u (if q then arrive_all s es (arrive e.act b) else record b { script = e ∷ es }))
    [ true ↦ ap (arrive_all s es) (arrive_end u e.act b) ∙ all_end u s es (arrive e.act b) | false ↦ refl ]

-- by either end the clock goes to the same moment before t, or to none
abbrev SameBefore : ℕ → Idle → Idle → Type 0
SameBefore t i j = (is_jump_before t i ≡ is_jump_before t j) × (is_jump_before t i ≡ true → i ≡ j)

clock_end : (t u v : ℕ) → t ≤ u → t ≤ v → (o : Option ℕ) → SameBefore t (up_to u o) (up_to v o)
clock_end t u v hu hv None = (refl, λ r. refl)
clock_end t u v hu hv (Some s) = by_ends (nat_lt u s) (nat_lt v s) refl refl
  where
    by_ends : (c d : Bool) → nat_lt u s ≡ c → nat_lt v s ≡ d → SameBefore t (if c then Script else Jump s) (if d then Script else Jump s)
    by_ends true true p q = (refl, λ r. refl)
    by_ends false false p q = (refl, λ r. refl)
    by_ends true false p q = (let late : nat_lt s t ≡ false = grind (arith, nat_tests) in (sym late, λ r. absurd (cc)))
    by_ends false true p q = (let late : nat_lt s t ≡ false = grind (arith, nat_tests) in (late, λ r. absurd (cc)))

-- an activity's turn doesn't look at the end
showed_end : (u f : ℕ) (b : Board) → showed f (end_at u b) ≡ end_at u (showed f b)
showed_end u f b = elim (f == b.frame) as (λ t. (if t then end_at u b else record (end_at u b) { frame = f; seen = b.seen ++ Show b.clock f ∷ [] }) ≡ end_at u (if t then b else record b { frame = f; seen = b.seen ++ Show b.clock f ∷ [] })) [ true ↦ refl | false ↦ refl ]

set_end : (u : ℕ) (pin value : ℤ) (b : Board) → was_set pin value (end_at u b) ≡ end_at u (was_set pin value b)
set_end u (pos p) v b =
    elim (nat_lt p pin_limit) as (λ t. (if t then record (end_at u b) { seen = b.seen ++ Pin b.clock p (level v) ∷ [] } else end_at u b) ≡ end_at u (if t then record b { seen = b.seen ++ Pin b.clock p (level v) ∷ [] } else b)) [ true ↦ refl | false ↦ refl ]
set_end u (negsuc p) v b = refl

wrote_end : (u : ℕ) (bytes : List ℕ) (b : Board) → wrote bytes (end_at u b) ≡ end_at u (wrote bytes b)
wrote_end u [] b = refl
wrote_end u (c ∷ cs) b = refl

abbrev told : Board → Board × ℤ
told b = (b, pos 0)

abbrev told_end : ℕ → Board × ℤ → Board × ℤ
told_end u r = (end_at u r.0, r.1)

answer_end : (u : ℕ) (q : Question) (value : ℤ) (b : Board) → answer q value (end_at u b) ≡ told_end u (answer q value b)
answer_end u (Raises e) value b = ap told (raised_end u e b)
answer_end u (Plots x y mode) value b = ap told (showed_end u (plotted b.frame x y mode) b)
answer_end u (Displays f) value b = ap told (showed_end u f b)
answer_end u (Writes bytes) value b = ap told (wrote_end u bytes b)
answer_end u (Sets pin v) value b = ap told (set_end u pin v b)
answer_end u (Sends n) value b = refl
answer_end u Time value b = refl
answer_end u Value value b = refl
answer_end u (Pressed (pos n)) value b = refl
answer_end u (Pressed (negsuc n)) value b = refl

module _ {A S : Type 0} (K : Kind A S) (u : ℕ) where
  blocks_end : (a : Activity A) (b : Board) → blocks K a (end_at u b) ≡ end_at u (blocks K a b)
  blocks_end a b =
      elim a.seated as (λ t. (if t then record (end_at u b) { words = b.words + K.depth a.self } else record (end_at u b) { words = b.words + K.depth a.self; blocked = suc b.blocked; seats = suc b.seats; most = max b.most (suc b.seats) })
      ≡ end_at u (if t then record b { words = b.words + K.depth a.self } else record b { words = b.words + K.depth a.self; blocked = suc b.blocked; seats = suc b.seats; most = max b.most (suc b.seats) })) [ true ↦ refl | false ↦ refl ]

  -- both ways of a test
  if_end : (c : Bool) (x y x' y' : World A S) → x' ≡ ending_at u x → y' ≡ ending_at u y → (if c then x' else y') ≡ ending_at u (if c then x else y)
  if_end true x y x' y' p q = p
  if_end false x y x' y' p q = q

  ends_with_end : (held : List Event) (i : ℕ) (a : Activity A) (others : List (Activity A)) (again : ℕ → A) (s : S) (w : World A S) → ends_with held i a others again s (ending_at u w) ≡ ending_at u (ends_with held i a others again s w)
  ends_with_end [] i a others again s w = refl
  ends_with_end (e ∷ rest) i a others again s w = refl

  ends_end : (listener : Option ℕ) (a : Activity A) (others : List (Activity A)) (again : ℕ → A) (s : S) (w : World A S) → ends a others again s listener (ending_at u w) ≡ ending_at u (ends a others again s listener w)
  ends_end None a others again s w = refl
  ends_end (Some i) a others again s w = ends_with_end (held_by i w.listeners) i a others again s w

  acted_end : (a : Activity A) (others : List (Activity A)) (w : World A S) (turn : Turn A S) → acted K a others (ending_at u w) turn ≡ ending_at u (acted K a others w turn)
  acted_end a others w (Goes self s) = refl
  acted_end a others w (Asks q next) = ap (λ (r : Board × ℤ). goes_on a others (next r.1) r.0 (ending_at u w)) (answer_end u q a.value w.board)
  acted_end a others w (Takes n next) = if_end (nat_le (w.board.used + n) arena_limit) _ _ _ _ refl refl
  acted_end a others w (Pauses n self s) =
      if_end (lacks_seat a w.board) _ _ _ _ refl
      (ap (λ (b : Board). record w { board = b; shared = s; ready = others; sleepers = w.sleepers ++ (wake_time w.board.clock n, record a { self = self; seated = true; suspended = false }) ∷ [] }) (blocks_end (record a { self = self }) w.board))
  acted_end a others w (Waits e self s) =
      if_end (lacks_seat a w.board) _ _ _ _ refl
      (ap (λ (b : Board). record w { board = b; shared = s; ready = others; waiters = w.waiters ++ (e, record a { self = self; seated = true; suspended = false }) ∷ [] }) (blocks_end (record a { self = self }) w.board))
  acted_end a others w (Spawns f self s) = if_end (nat_lt w.board.seats seat_limit) _ _ _ _ refl refl
  acted_end a others w (Listens l self s) = if_end (nat_lt (length w.listeners) listener_limit) _ _ _ _ refl refl
  acted_end a others w (RaisesNow e above self s) =
      (let new = handlers above e w 0 w.listeners in
      if_end (not (none new) && nat_le raiser_limit (how_many (λ b. b.suspended) others)) _ _ _ _ refl refl)
  acted_end a others w (Ends again s) = ends_end a.listener a others again s w
  acted_end a others w (Panics code) = refl
  acted_end a others w (Faults kind address) = refl

  jump_end : (s : ℕ) (w : World A S) → jump s (ending_at u w) ≡ ending_at u (jump s w)
  jump_end s w =
      ap (λ (b : Board). record w { board = b; ready = w.ready ++ chosen (λ wake. nat_le wake s) w.sleepers; sleepers = left (λ wake. nat_le wake s) w.sleepers })
      (all_end u s w.board.script (record w.board { clock = s }))

-- so a run up to t is the same by two ends from t on: what is told of it by u is what is told by v, with the end u
module _ {A S : Type 0} (K : Kind A S) (t : ℕ) where
  module _ (u v : ℕ) (hu : t ≤ u) (hv : t ≤ v) where
    moves_end : (queue : List Event) (w : World A S) → moves_before t queue (ending_at u w) ≡ moves_before t queue (ending_at v w)
    moves_end (e ∷ rest) w = refl
    moves_end [] w = (clock_end t u v hu hv (earlier (least w.sleepers) (next_entry w.board.script))).0

    moved_end : (queue : List Event) (w : World A S) → moves_before t queue (ending_at u w) ≡ true → moved K queue (ending_at u w) ≡ ending_at u (moved K queue (ending_at v w))
    moved_end (e ∷ rest) w h = refl
    moved_end [] w h =
        by_move (clock_move (least w.sleepers) (next_entry w.board.script) u) h
        ∙ ap (λ (i : Idle). ending_at u (clock_moves i (ending_at v w))) ((clock_end t u v hu hv (earlier (least w.sleepers) (next_entry w.board.script))).1 h)
      where
        by_move : (i : Idle) → is_jump_before t i ≡ true → clock_moves i (ending_at u w) ≡ ending_at u (clock_moves i (ending_at v w))
        by_move (Jump s) e = jump_end K u s w ∙ ap (ending_at u) (sym (jump_end K v s w))
        by_move Quiet e = absurd (cc)
        by_move Script e = absurd (cc)

  -- what the moves leave ends where it did
  moved_keeps : (v : ℕ) → t ≤ v → (queue : List Event) (w : World A S) → moves_before t queue (ending_at v w) ≡ true → ending_at v (moved K queue (ending_at v w)) ≡ moved K queue (ending_at v w)
  moved_keeps v hv queue w h = sym (moved_end v v hv hv queue w h)

  module _ (u v : ℕ) (hu : t ≤ u) (hv : t ≤ v) where
    idle_end : (n : ℕ) (xs : List (Activity A)) (w : World A S) → idle_before K t n xs (ending_at u w) ≡ ending_at u (idle_before K t n xs (ending_at v w))
    idle_end zero xs w = refl
    idle_end (suc n) (x ∷ xs) w = refl
    idle_end (suc n) [] w = by_moves (over w.board) (moves_before t w.board.queue (ending_at u w)) refl (moves_end u v hu hv w.board.queue w) (idle_end n (moved K w.board.queue (ending_at v w)).ready (moved K w.board.queue (ending_at v w)))
      where
        by_moves : (o c : Bool) → moves_before t w.board.queue (ending_at u w) ≡ c → moves_before t w.board.queue (ending_at u w) ≡ moves_before t w.board.queue (ending_at v w)
            → (let y = moved K w.board.queue (ending_at v w) in idle_before K t n y.ready (ending_at u y) ≡ ending_at u (idle_before K t n y.ready (ending_at v y)))
            → (if not o && moves_before t w.board.queue (ending_at u w) then (let x = moved K w.board.queue (ending_at u w) in idle_before K t n x.ready x) else ending_at u w)
            ≡ ending_at u (if not o && moves_before t w.board.queue (ending_at v w) then (let x = moved K w.board.queue (ending_at v w) in idle_before K t n x.ready x) else ending_at v w)
        by_moves true c e s ih = refl
        by_moves false false e s ih = (let other : moves_before t w.board.queue (ending_at v w) ≡ false = sym s ∙ e in rw (e, other) refl)
        by_moves false true e s ih =
            (let other : moves_before t w.board.queue (ending_at v w) ≡ true = sym s ∙ e in
            let first : moved K w.board.queue (ending_at u w) ≡ ending_at u (moved K w.board.queue (ending_at v w)) = moved_end u v hu hv w.board.queue w e in
            let kept : ending_at v (moved K w.board.queue (ending_at v w)) ≡ moved K w.board.queue (ending_at v w) = moved_keeps v hv w.board.queue w other in
            rw (e, other)
            (ap (λ (x : World A S). idle_before K t n x.ready x) first
            ∙ ih
            ∙ ap (λ (x : World A S). ending_at u (idle_before K t n (moved K w.board.queue (ending_at v w)).ready x)) kept))

    idled_end : (w : World A S) → idled_before K t (ending_at u w) ≡ ending_at u (idled_before K t (ending_at v w))
    idled_end w = idle_end (idle_bound w.board) w.ready w

    stepped_end : (xs : List (Activity A)) (w : World A S) → stepped_before K t xs (ending_at u w) ≡ ending_at u (stepped_before K t xs (ending_at v w))
    stepped_end [] w = refl
    stepped_end (a ∷ rest) w =
        (let turn = K.step a.self w.shared in
        ap (idled_before K t) (acted_end K u a rest w turn)
        ∙ idled_end (acted K a rest w turn)
        ∙ ap (λ (x : World A S). ending_at u (idled_before K t x)) (sym (acted_end K v a rest w turn)))

    tick_end : (w : World A S) → tick_before K t (ending_at u w) ≡ ending_at u (tick_before K t (ending_at v w))
    tick_end w = if_end K u (over w.board) (ending_at v w) (stepped_before K t w.ready (ending_at v w)) _ _ refl (stepped_end w.ready w)

  run_on : (u v : ℕ) → t ≤ u → t ≤ v → (w : World A S) → ((x : World A S) → (x' : World A S) → x ≡ ending_at u x' → ending_at v x' ≡ x' → tick_before K t x ≡ ending_at u (tick_before K t x'))
  run_on u v hu hv w x x' e k = ap (tick_before K t) e ∙ tick_end u v hu hv x' ∙ ap (λ (y : World A S). ending_at u (tick_before K t y)) k

  run_keeps : (v : ℕ) → t ≤ v → (n : ℕ) (w : World A S) → run_before K t n (ending_at v w) ≡ ending_at v (run_before K t n (ending_at v w))
  run_keeps v hv zero w = refl
  run_keeps v hv (suc n) w = (let ih = run_keeps v hv n w in run_on v v hv hv w (run_before K t n (ending_at v w)) (run_before K t n (ending_at v w)) ih (sym ih))

  pub run_end : (u v : ℕ) → t ≤ u → t ≤ v → (n : ℕ) (w : World A S) → run_before K t n (ending_at u w) ≡ ending_at u (run_before K t n (ending_at v w))
  run_end u v hu hv zero w = refl
  run_end u v hu hv (suc n) w = run_on u v hu hv w (run_before K t n (ending_at u w)) (run_before K t n (ending_at v w)) (run_end u v hu hv n w) (sym (run_keeps v hv n w))
