-- What comes before a moment doesn't hang on the script's entries from that moment on.
use Rattle.std.proofs.Common.{◌≡◌, ℕ, zero, suc, ◌+◌, ◌-◌, max, ◌≤◌, ◌<◌, inl, inr, ℤ, pos, negsuc, Bool, true, false, not, ◌&&◌, if◌then◌else◌, nat_le, nat_lt, ◌==◌, List, [], ◌∷◌, ◌++◌, length, Option, Some, None, refl, ap, sym, ◌∙◌, subst, arith, length-append}
use Rattle.std.proofs.lemmas.Bool.Decides.{nat_tests}
use Rattle.board_world.specs.declared.events.Event.{Event}
use Rattle.board_world.specs.declared.clock.Idle.{Idle}
use Rattle.board_world.specs.declared.clock.Idle.TheVariants.{Jump, Quiet, Script}
use Rattle.board_world.specs.Observations.{Show, Pin}
use Rattle.board_world.specs.Limits.{queue_limit, click_limit, pin_limit, raiser_limit, arena_limit, seat_limit, listener_limit}
use Rattle.board_world.specs.Frame.{plotted}
use Rattle.board_world.specs.Rules.{clock_move, up_to, wake_time}
use Rattle.board_world.specs.Board.{Board, Act, Entry, Down, Up, Raise, Unplug, event, raised, went_down, went_up, held_since, arrive, arrive_all, next_entry, over}
use Rattle.board_world.specs.Kinds.{Kind, Question, Raises, Plots, Displays, Writes, Sets, Sends, Time, Value, Pressed, answer, showed, wrote, was_set, level, Turn, Goes, Asks, Takes, Pauses, Waits, Spawns, Listens, RaisesNow, Ends, Panics, Faults}
use Rattle.board_world.specs.Waiting.{chosen, left, least, none, how_many, held_by}
use Rattle.board_world.specs.Activities.{Activity, World, handlers}
use Rattle.board_world.specs.World.{lacks_seat, jump, clock_moves, goes_on, ends_with, ends, moved, idle_while, idle_bound, idled, blocks, acted, tick}
use Rattle.board_world.specs.Runs.{run}
use Rattle.board_world.specs.Simulation.{IsSettled}
use Rattle.board_world.specs.Before.{IsFrom, board_then, then_later, is_jump_before, moves_before, idle_before, idled_before, stepped_before, tick_before, run_before}
use Rattle.board_world.proofs.Settle.{progress, due}

-- the rest of a script has no part in what an act does
abbrev scripted : List Entry → Board → Board
scripted es b = record b { script = es }

raised_scripted : (e : Event) (b : Board) (es : List Entry) → raised e (scripted es b) ≡ scripted es (raised e b)
raised_scripted e b es =
    elim (nat_lt (length b.queue) queue_limit) as (λ t. (if t then record (scripted es b) { queue = b.queue ++ e ∷ [] } else scripted es b) ≡ scripted es (if t then record b { queue = b.queue ++ e ∷ [] } else b)) [ true ↦ refl | false ↦ refl ]

down_scripted : (source : ℕ) (since : Option ℕ) (b : Board) (es : List Entry) → went_down source since (scripted es b) ≡ scripted es (went_down source since b)
down_scripted source None b es = raised_scripted (event source 1) b es
down_scripted source (Some since) b es = refl

up_scripted : (source : ℕ) (since : Option ℕ) (b : Board) (es : List Entry) → went_up source since (scripted es b) ≡ scripted es (went_up source since b)
up_scripted source None b es = refl
up_scripted source (Some since) b es =
    (let e : Event = event source (if nat_lt (b.clock - since) click_limit then 3 else 4) in
    ap (raised e) (raised_scripted (event source 2) b es) ∙ raised_scripted e (raised (event source 2) b) es)

arrive_scripted : (act : Act) (b : Board) (es : List Entry) → arrive act (scripted es b) ≡ scripted es (arrive act b)
arrive_scripted (Down n) b es =
    elim (n == 1) as (λ t. (if t then record (went_down 1 b.a_since (scripted es b)) { a_since = held_since b.clock b.a_since }
    else record (went_down 2 b.b_since (scripted es b)) { b_since = held_since b.clock b.b_since }) ≡ scripted es (if t then record (went_down 1 b.a_since b) { a_since = held_since b.clock b.a_since }
    else record (went_down 2 b.b_since b) { b_since = held_since b.clock b.b_since })) [
      | true ↦ ap (λ (c : Board). record c { a_since = held_since b.clock b.a_since }) (down_scripted 1 b.a_since b es)
      | false ↦ ap (λ (c : Board). record c { b_since = held_since b.clock b.b_since }) (down_scripted 2 b.b_since b es)
    ]
arrive_scripted (Up n) b es =
    elim (n == 1) as (λ t. (if t then record (went_up 1 b.a_since (scripted es b)) { a_since = None } else record (went_up 2 b.b_since (scripted es b)) { b_since = None })
    ≡ scripted es (if t then record (went_up 1 b.a_since b) { a_since = None } else record (went_up 2 b.b_since b) { b_since = None })) [
      | true ↦ ap (λ (c : Board). record c { a_since = None }) (up_scripted 1 b.a_since b es)
      | false ↦ ap (λ (c : Board). record c { b_since = None }) (up_scripted 2 b.b_since b es)
    ]
arrive_scripted (Raise e) b es = raised_scripted e b es
arrive_scripted (Unplug port) b es = refl

all_scripted : (t : ℕ) (rest : List Entry) (b : Board) (es : List Entry) → arrive_all t rest (scripted es b) ≡ arrive_all t rest b
all_scripted t [] b es = refl
all_scripted t (e ∷ rest) b es =
    elim (e.at == t) as (λ q. (if q then arrive_all t rest (arrive e.act (scripted es b)) else scripted (e ∷ rest) b) ≡ (if q then arrive_all t rest (arrive e.act b) else scripted (e ∷ rest) b))
    [ true ↦ ap (arrive_all t rest) (arrive_scripted e.act b es) ∙ all_scripted t rest (arrive e.act b) es | false ↦ refl ]

-- entries from t on aren't applied at a moment before
arrive_later : (s t : ℕ) (later : List Entry) → IsFrom t later → s < t → (b : Board) → arrive_all s later b ≡ record b { script = later }
arrive_later s t [] h lt b = refl
arrive_later s t (g ∷ gs) h lt b = (let first : t ≤ g.at = h 0 g (omega arith) in let other : (g.at == s) ≡ false = grind (arith, nat_tests) in rw other refl)

arrive_then : (s t : ℕ) (later : List Entry) → IsFrom t later → s < t → (es : List Entry) (b : Board) → arrive_all s (es ++ later) b ≡ board_then later (arrive_all s es b)
arrive_then s t later h lt [] b = arrive_later s t later h lt b
arrive_then s t later h lt (e ∷ es) b =
    elim (e.at == s) as (λ q. (if q then arrive_all s (es ++ later) (arrive e.act b) else record b { script = (e ∷ es) ++ later }) ≡ board_then later (if q then arrive_all s es (arrive e.act b) else record b { script = e ∷ es }))
    [ true ↦ arrive_then s t later h lt es (arrive e.act b) | false ↦ refl ]

-- nor does the clock go elsewhere before t
jump_late : (t until s : ℕ) → t ≤ s → is_jump_before t (up_to until (Some s)) ≡ false
jump_late t until s h = elim (nat_lt until s) as (λ c. is_jump_before t (if c then Script else Jump s) ≡ false) [ true ↦ refl | false ↦ grind (arith, nat_tests) ]

abbrev SameBefore : ℕ → Idle → Idle → Type 0
SameBefore t i j = (is_jump_before t i ≡ is_jump_before t j) × (is_jump_before t j ≡ true → i ≡ j)

late_both : (t : ℕ) (i j : Idle) → is_jump_before t i ≡ false → is_jump_before t j ≡ false → SameBefore t i j
late_both t i j p q = (p ∙ sym q, λ r. cc)

clock_later : (t until : ℕ) (later : List Entry) → IsFrom t later → (wake : Option ℕ) (es : List Entry) → SameBefore t (clock_move wake (next_entry (es ++ later)) until) (clock_move wake (next_entry es) until)
clock_later t until later h wake (e ∷ es) = (refl, λ r. refl)
clock_later t until [] h wake [] = (refl, λ r. refl)
clock_later t until (g ∷ gs) h None [] = late_both t (up_to until (Some g.at)) Quiet (jump_late t until g.at (h 0 g (omega arith))) refl
clock_later t until (g ∷ gs) h (Some a) [] = by_first (nat_lt g.at a) refl
  where
    by_first : (c : Bool) → nat_lt g.at a ≡ c → SameBefore t (up_to until (Some (if c then g.at else a))) (up_to until (Some a))
    by_first true e = (let first : t ≤ g.at = h 0 g (omega arith) in let more : t ≤ a = grind (arith, nat_tests) in late_both t (up_to until (Some g.at)) (up_to until (Some a)) (jump_late t until g.at first) (jump_late t until a more))
    by_first false e = (refl, λ r. refl)

module _ {A S : Type 0} (K : Kind A S) (t : ℕ) (later : List Entry) (from : IsFrom t later) where
  moves_same : (queue : List Event) (w : World A S) → moves_before t queue (then_later later w) ≡ moves_before t queue w
  moves_same (e ∷ rest) w = refl
  moves_same [] w = (clock_later t w.board.until later from (least w.sleepers) w.board.script).0

  jump_then : (s : ℕ) (w : World A S) → s < t → jump s (then_later later w) ≡ then_later later (jump s w)
  jump_then s w lt =
      ap (λ (b : Board). record w { board = b; ready = w.ready ++ chosen (λ wake. nat_le wake s) w.sleepers; sleepers = left (λ wake. nat_le wake s) w.sleepers })
      (all_scripted s (w.board.script ++ later) (record w.board { clock = s }) (w.board.script ++ later) ∙ arrive_then s t later from lt w.board.script (record w.board { clock = s }))

  moved_then : (queue : List Event) (w : World A S) → moves_before t queue w ≡ true → moved K queue (then_later later w) ≡ then_later later (moved K queue w)
  moved_then (e ∷ rest) w h = refl
  moved_then [] w h =
      ap (λ (i : Idle). clock_moves i (then_later later w)) ((clock_later t w.board.until later from (least w.sleepers) w.board.script).1 h)
      ∙ by_move (clock_move (least w.sleepers) (next_entry w.board.script) w.board.until) h
    where
      by_move : (i : Idle) → is_jump_before t i ≡ true → clock_moves i (then_later later w) ≡ then_later later (clock_moves i w)
      by_move (Jump s) e = jump_then s w (grind (arith, nat_tests))
      by_move Quiet e = absurd (cc)
      by_move Script e = absurd (cc)

  idle_then : (n : ℕ) (xs : List (Activity A)) (w : World A S) → idle_before K t n xs (then_later later w) ≡ then_later later (idle_before K t n xs w)
  idle_then zero xs w = refl
  idle_then (suc n) (x ∷ xs) w = refl
  idle_then (suc n) [] w = by_moves (moves_before t w.board.queue w) refl (moves_same w.board.queue w) (idle_then n (moved K w.board.queue w).ready (moved K w.board.queue w))
    where
      by_moves : (c : Bool) → moves_before t w.board.queue w ≡ c → moves_before t w.board.queue (then_later later w) ≡ moves_before t w.board.queue w
          → idle_before K t n (moved K w.board.queue w).ready (then_later later (moved K w.board.queue w)) ≡ then_later later (idle_before K t n (moved K w.board.queue w).ready (moved K w.board.queue w))
          → idle_before K t (suc n) [] (then_later later w) ≡ then_later later (idle_before K t (suc n) [] w)
      by_moves true e s ih = elim (over w.board) as (λ c. (let v = moved K w.board.queue (then_later later w) in if not c && moves_before t w.board.queue (then_later later w) then idle_before K t n v.ready v else then_later later w) ≡ then_later later (let v = moved K w.board.queue w in if not c && moves_before t w.board.queue w then idle_before K t n v.ready v else w)) [ true ↦ refl | false ↦ rw (s, e) (ap (λ (v : World A S). idle_before K t n v.ready v) (moved_then w.board.queue w e) ∙ ih) ]
      by_moves false e s ih = elim (over w.board) as (λ c. (let v = moved K w.board.queue (then_later later w) in if not c && moves_before t w.board.queue (then_later later w) then idle_before K t n v.ready v else then_later later w) ≡ then_later later (let v = moved K w.board.queue w in if not c && moves_before t w.board.queue w then idle_before K t n v.ready v else w)) [ true ↦ refl | false ↦ rw (s, e) refl ]

-- an activity's turn doesn't look at the script
showed_then : (later : List Entry) (f : ℕ) (b : Board) → showed f (board_then later b) ≡ board_then later (showed f b)
showed_then later f b = elim (f == b.frame) as (λ t. (if t then board_then later b else record (board_then later b) { frame = f; seen = b.seen ++ Show b.clock f ∷ [] }) ≡ board_then later (if t then b else record b { frame = f; seen = b.seen ++ Show b.clock f ∷ [] })) [ true ↦ refl | false ↦ refl ]

raised_then : (later : List Entry) (e : Event) (b : Board) → raised e (board_then later b) ≡ board_then later (raised e b)
raised_then later e b =
    elim (nat_lt (length b.queue) queue_limit) as (λ t. (if t then record (board_then later b) { queue = b.queue ++ e ∷ [] } else board_then later b) ≡ board_then later (if t then record b { queue = b.queue ++ e ∷ [] } else b)) [ true ↦ refl | false ↦ refl ]

set_then : (later : List Entry) (pin value : ℤ) (b : Board) → was_set pin value (board_then later b) ≡ board_then later (was_set pin value b)
set_then later (pos p) v b =
    elim (nat_lt p pin_limit) as (λ t. (if t then record (board_then later b) { seen = b.seen ++ Pin b.clock p (level v) ∷ [] } else board_then later b) ≡ board_then later (if t then record b { seen = b.seen ++ Pin b.clock p (level v) ∷ [] } else b)) [ true ↦ refl | false ↦ refl ]
set_then later (negsuc p) v b = refl

wrote_then : (later : List Entry) (bytes : List ℕ) (b : Board) → wrote bytes (board_then later b) ≡ board_then later (wrote bytes b)
wrote_then later [] b = refl
wrote_then later (c ∷ cs) b = refl

abbrev told : Board → Board × ℤ
told b = (b, pos 0)

abbrev told_then : List Entry → Board × ℤ → Board × ℤ
told_then later r = (board_then later r.0, r.1)

answer_then : (later : List Entry) (q : Question) (value : ℤ) (b : Board) → answer q value (board_then later b) ≡ told_then later (answer q value b)
answer_then later (Raises e) value b = ap told (raised_then later e b)
answer_then later (Plots x y mode) value b = ap told (showed_then later (plotted b.frame x y mode) b)
answer_then later (Displays f) value b = ap told (showed_then later f b)
answer_then later (Writes bytes) value b = ap told (wrote_then later bytes b)
answer_then later (Sets pin v) value b = ap told (set_then later pin v b)
answer_then later (Sends n) value b = refl
answer_then later Time value b = refl
answer_then later Value value b = refl
answer_then later (Pressed (pos n)) value b = refl
answer_then later (Pressed (negsuc n)) value b = refl

module _ {A S : Type 0} (K : Kind A S) (later : List Entry) where
  blocks_then : (a : Activity A) (b : Board) → blocks K a (board_then later b) ≡ board_then later (blocks K a b)
  blocks_then a b =
      elim a.seated as (λ t. (if t then record (board_then later b) { words = b.words + K.depth a.self } else record (board_then later b) { words = b.words + K.depth a.self; blocked = suc b.blocked; seats = suc b.seats; most = max b.most (suc b.seats) })
      ≡ board_then later (if t then record b { words = b.words + K.depth a.self } else record b { words = b.words + K.depth a.self; blocked = suc b.blocked; seats = suc b.seats; most = max b.most (suc b.seats) })) [ true ↦ refl | false ↦ refl ]

  -- both ways of a test
  if_then : (c : Bool) (x y x' y' : World A S) → x' ≡ then_later later x → y' ≡ then_later later y → (if c then x' else y') ≡ then_later later (if c then x else y)
  if_then true x y x' y' p q = p
  if_then false x y x' y' p q = q

  ends_with_then : (held : List Event) (i : ℕ) (a : Activity A) (others : List (Activity A)) (again : ℕ → A) (s : S) (w : World A S) → ends_with held i a others again s (then_later later w) ≡ then_later later (ends_with held i a others again s w)
  ends_with_then [] i a others again s w = refl
  ends_with_then (e ∷ rest) i a others again s w = refl

  ends_then : (listener : Option ℕ) (a : Activity A) (others : List (Activity A)) (again : ℕ → A) (s : S) (w : World A S) → ends a others again s listener (then_later later w) ≡ then_later later (ends a others again s listener w)
  ends_then None a others again s w = refl
  ends_then (Some i) a others again s w = ends_with_then (held_by i w.listeners) i a others again s w

  acted_then : (a : Activity A) (others : List (Activity A)) (w : World A S) (turn : Turn A S) → acted K a others (then_later later w) turn ≡ then_later later (acted K a others w turn)
  acted_then a others w (Goes self s) = refl
  acted_then a others w (Asks q next) = ap (λ (r : Board × ℤ). goes_on a others (next r.1) r.0 (then_later later w)) (answer_then later q a.value w.board)
  acted_then a others w (Takes n next) = if_then (nat_le (w.board.used + n) arena_limit) _ _ _ _ refl refl
  acted_then a others w (Pauses n self s) =
      if_then (lacks_seat a w.board) _ _ _ _ refl
      (ap (λ (b : Board). record w { board = b; shared = s; ready = others; sleepers = w.sleepers ++ (wake_time w.board.clock n, record a { self = self; seated = true; suspended = false }) ∷ [] }) (blocks_then (record a { self = self }) w.board))
  acted_then a others w (Waits e self s) =
      if_then (lacks_seat a w.board) _ _ _ _ refl
      (ap (λ (b : Board). record w { board = b; shared = s; ready = others; waiters = w.waiters ++ (e, record a { self = self; seated = true; suspended = false }) ∷ [] }) (blocks_then (record a { self = self }) w.board))
  acted_then a others w (Spawns f self s) = if_then (nat_lt w.board.seats seat_limit) _ _ _ _ refl refl
  acted_then a others w (Listens l self s) = if_then (nat_lt (length w.listeners) listener_limit) _ _ _ _ refl refl
  acted_then a others w (RaisesNow e above self s) =
      (let new = handlers above e w 0 w.listeners in
      if_then (not (none new) && nat_le raiser_limit (how_many (λ b. b.suspended) others)) _ _ _ _ refl refl)
  acted_then a others w (Ends again s) = ends_then a.listener a others again s w
  acted_then a others w (Panics code) = refl
  acted_then a others w (Faults kind address) = refl

-- more idle moves than enough are as good as enough
module _ {A S : Type 0} (K : Kind A S) (t : ℕ) where
  pub rests : (n : ℕ) (v : World A S) → IsSettled v → idle_before K t n v.ready v ≡ v
  rests n v h = by_over (over v.board) refl
    where
      ended : (m : ℕ) (xs : List (Activity A)) → over v.board ≡ true → idle_before K t m xs v ≡ v
      ended zero xs o = refl
      ended (suc m) (x ∷ xs) o = refl
      ended (suc m) [] o = rw o refl

      busy : (m : ℕ) (xs : List (Activity A)) → 0 < length xs → idle_before K t m xs v ≡ v
      busy zero xs k = refl
      busy (suc m) [] k = absurd (omega (arith, k))
      busy (suc m) (x ∷ xs) k = refl

      by_over : (c : Bool) → over v.board ≡ c → idle_before K t n v.ready v ≡ v
      by_over true o = ended n v.ready o
      by_over false o = busy n v.ready (h o)

  pub enough_before : (n m : ℕ) (xs : List (Activity A)) (w : World A S) → due w.board + 2 ≤ n → n ≤ m → idle_before K t m xs w ≡ idle_before K t n xs w
  enough_before zero m xs w h k = absurd (omega (arith, h))
  enough_before (suc n) zero xs w h k = absurd (omega (arith, k))
  enough_before (suc n) (suc m) (x ∷ xs) w h k = refl
  enough_before (suc n) (suc m) [] w h k = by_move (not (over w.board) && moves_before t w.board.queue w) (λ v l. enough_before n m v.ready v l (omega arith))
    where
      by_move : (c : Bool) → ((v : World A S) → due v.board + 2 ≤ n → idle_before K t m v.ready v ≡ idle_before K t n v.ready v)
          → (if c then (let v = moved K w.board.queue w in idle_before K t m v.ready v) else w) ≡ (if c then (let v = moved K w.board.queue w in idle_before K t n v.ready v) else w)
      by_move false ih = refl
      by_move true ih =
          (let v = moved K w.board.queue w in
          elim (progress K w.board.queue w refl) [
            | inl s ↦ rests m v s ∙ sym (rests n v s)
            | inr l ↦ ih v (omega (arith, l, h))
          ])

-- so a run up to a moment is the same with entries from then on behind
module _ {A S : Type 0} (K : Kind A S) (t : ℕ) (later : List Entry) (from : IsFrom t later) where
  idled_then : (w : World A S) → idled_before K t (then_later later w) ≡ then_later later (idled_before K t w)
  idled_then w =
      idle_then K t later from (idle_bound (board_then later w.board)) w.ready w
      ∙ ap (then_later later) (enough_before K t (idle_bound w.board) (idle_bound (board_then later w.board)) w.ready w (omega arith) (omega (arith, length-append w.board.script later)))

  stepped_then : (xs : List (Activity A)) (w : World A S) → stepped_before K t xs (then_later later w) ≡ then_later later (stepped_before K t xs w)
  stepped_then [] w = refl
  stepped_then (a ∷ rest) w = ap (idled_before K t) (acted_then K later a rest w (K.step a.self w.shared)) ∙ idled_then (acted K a rest w (K.step a.self w.shared))

  tick_then : (w : World A S) → tick_before K t (then_later later w) ≡ then_later later (tick_before K t w)
  tick_then w = if_then K later (over w.board) w (stepped_before K t w.ready w) _ _ refl (stepped_then w.ready w)

  pub run_then : (n : ℕ) (w : World A S) → run_before K t n (then_later later w) ≡ then_later later (run_before K t n w)
  run_then zero w = refl
  run_then (suc n) w = ap (tick_before K t) (run_then n w) ∙ tick_then (run_before K t n w)

-- where somebody is ready, or the run is over, nothing was left out
module _ {A S : Type 0} (K : Kind A S) (t : ℕ) where
  idle_settled : (n : ℕ) (xs : List (Activity A)) (w : World A S) → w.ready ≡ xs → IsSettled (idle_before K t n xs w) → idle_before K t n xs w ≡ idle_while K n xs w
  idle_settled zero xs w e h = refl
  idle_settled (suc n) (x ∷ xs) w e h = refl
  idle_settled (suc n) [] w e h = by_case (over w.board) (moves_before t w.board.queue w) refl (idle_settled n (moved K w.board.queue w).ready (moved K w.board.queue w) refl) h
    where
      Next : World A S
      Next = moved K w.board.queue w

      by_case : (c d : Bool) → over w.board ≡ c → (IsSettled (idle_before K t n Next.ready Next) → idle_before K t n Next.ready Next ≡ idle_while K n Next.ready Next)
          → IsSettled (if not c && d then idle_before K t n Next.ready Next else w) → (if not c && d then idle_before K t n Next.ready Next else w) ≡ (if c then w else idle_while K n Next.ready Next)
      by_case true d o ih k = refl
      by_case false true o ih k = ih k
      by_case false false o ih k = (let long : 0 < length w.ready = k o in let short : length w.ready ≡ 0 = ap length e in absurd (omega (arith, long, short)))

  tick_settled : (u v : World A S) → IsSettled (tick_before K t u) → (IsSettled u → u ≡ v) → tick_before K t u ≡ tick K v
  tick_settled u v h same = by_case (over u.board) u.ready refl refl h
    where
      by_case : (c : Bool) (xs : List (Activity A)) → over u.board ≡ c → u.ready ≡ xs → IsSettled (if c then u else stepped_before K t xs u) → (if c then u else stepped_before K t xs u) ≡ tick K v
      by_case true xs o e k = subst (λ (x : World A S). u ≡ tick K x) (same (λ p. absurd (cc))) (rw o refl)
      by_case false [] o e k = (let long : 0 < length u.ready = k o in let short : length u.ready ≡ 0 = ap length e in absurd (omega (arith, long, short)))
      by_case false (a ∷ rest) o e k =
          (let v' = acted K a rest u (K.step a.self u.shared) in
          let there : length u.ready ≡ suc (length rest) = ap length e in
          idle_settled (idle_bound v'.board) v'.ready v' refl k
          ∙ subst (λ (x : World A S). idled K (acted K a rest u (K.step a.self u.shared)) ≡ tick K x) (same (λ p. omega (arith, there))) (rw o (rw e refl)))

  pub run_settled : (n : ℕ) (w : World A S) → IsSettled (run_before K t n w) → run_before K t n w ≡ run K n w
  run_settled zero w h = refl
  run_settled (suc n) w h = tick_settled (run_before K t n w) (run K n w) h (run_settled n w)
