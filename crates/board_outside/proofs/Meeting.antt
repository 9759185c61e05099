-- Whatever a world does, what it has met it has met in some order, and more comes behind it.
use Rattle.std.proofs.Common.{◌≡◌, ℕ, zero, suc, ◌+◌, not, ◌&&◌, nat_le, nat_lt, ◌==◌, ℤ, pos, negsuc, List, [], ◌∷◌, ◌++◌, length, Option, Some, None, sym, ap, ◌∙◌, append_assoc, arith}
use Rattle.std.proofs.lemmas.List.{append-nil}
use Rattle.board_world.specs.declared.events.Event.{Event}
use Rattle.board_world.specs.declared.clock.Idle.{Idle}
use Rattle.board_world.specs.declared.clock.Idle.TheVariants.{Jump, Quiet, Script}
use Rattle.board_world.specs.Observations.{Observation, Show, Serial, Pin, Radio}
use Rattle.board_world.specs.Rules.{clock_move}
use Rattle.board_world.specs.Frame.{plotted}
use Rattle.board_world.specs.Board.{Board, Entry, Act, Down, Up, Raise, Unplug, over, raised, arrive, arrive_all, next_entry, went_down, went_up}
use Rattle.board_world.specs.Kinds.{Kind, Turn, Goes, Asks, Takes, Pauses, Waits, Spawns, Listens, RaisesNow, Ends, Panics, Faults, Question, answer, showed, Raises, Plots, Displays, Writes, Sets, Sends, Time, Value, Pressed, was_set, level}
use Rattle.board_world.specs.Waiting.{least, how_many, none, held_by}
use Rattle.board_world.specs.Activities.{Activity, World, handlers}
use Rattle.board_world.specs.World.{moved, clock_moves, idle_while, idle_bound, idled, lacks_seat, blocks, ends_with, ends, acted, stepped}
use Rattle.board_world.specs.Runs.{run}
use Rattle.board_world.proofs.Laws.{if_keeps}
use Rattle.board_outside.specs.Moves.{Move, Seen, Unplugged, seen_of, unplugged_of, HasMet}
use Rattle.board_outside.proofs.Moving.{seen_of-append, unplugged_of-append}

module _ (first : List Move) where
  abbrev Met : List Observation → List (ℕ × ℕ) → Type 0
  Met s u = (more : List Move) × (s ≡ seen_of (first ++ more)) × (u ≡ unplugged_of 0 (first ++ more))

  abbrev Fine : Board → Type 0
  Fine b = Met b.seen b.unplugged

  sees : (s : List Observation) (u : List (ℕ × ℕ)) (o : Observation) → Met s u → Met (s ++ o ∷ []) u
  sees s u o h =
      let moves = first ++ h.0 in
      let same : moves ++ Seen o ∷ [] ≡ first ++ (h.0 ++ Seen o ∷ []) = append_assoc first h.0 (Seen o ∷ []) in (
        h.0 ++ Seen o ∷ [],
        ap (λ l. l ++ o ∷ []) h.1 ∙ sym (seen_of-append moves (Seen o ∷ [])) ∙ ap seen_of same,
        h.2 ∙ sym (append-nil (unplugged_of 0 moves)) ∙ sym (unplugged_of-append 0 moves (Seen o ∷ [])) ∙ ap (unplugged_of 0) same,
      )

  unplugs : (s : List Observation) (u : List (ℕ × ℕ)) (port : ℕ) → Met s u → Met s (u ++ (port, length s) ∷ [])
  unplugs s u port h =
      let moves = first ++ h.0 in
      let same : moves ++ Unplugged port ∷ [] ≡ first ++ (h.0 ++ Unplugged port ∷ []) = append_assoc first h.0 (Unplugged port ∷ []) in
      let count : length s ≡ 0 + length (seen_of moves) = (let e = ap length h.1 in omega (arith, e)) in (
        h.0 ++ Unplugged port ∷ [],
        h.1 ∙ sym (append-nil (seen_of moves)) ∙ sym (seen_of-append moves (Unplugged port ∷ [])) ∙ ap seen_of same,
        ap (λ l. l ++ (port, length s) ∷ []) h.2 ∙ ap (λ k. unplugged_of 0 moves ++ (port, k) ∷ []) count ∙ sym (unplugged_of-append 0 moves (Unplugged port ∷ [])) ∙ ap (unplugged_of 0) same,
      )

  met_raised : (e : Event) (b : Board) → Fine b → Fine (raised e b)
  met_raised e b h = if_keeps Fine (nat_lt (length b.queue) 32) _ _ h h

  met_down : (k : ℕ) (o : Option ℕ) (b : Board) → Fine b → Fine (went_down k o b)
  met_down k None b h = met_raised _ b h
  met_down k (Some t) b h = h

  met_up : (k : ℕ) (o : Option ℕ) (b : Board) → Fine b → Fine (went_up k o b)
  met_up k None b h = h
  met_up k (Some t) b h = met_raised _ _ (met_raised _ b h)

  met_arrive : (a : Act) (b : Board) → Fine b → Fine (arrive a b)
  met_arrive (Down n) b h = if_keeps Fine (n == 1) _ _ (met_down 1 b.a_since b h) (met_down 2 b.b_since b h)
  met_arrive (Up n) b h = if_keeps Fine (n == 1) _ _ (met_up 1 b.a_since b h) (met_up 2 b.b_since b h)
  met_arrive (Raise e) b h = met_raised e b h
  met_arrive (Unplug p) b h = unplugs b.seen b.unplugged p h

  met_arrive_all : (t : ℕ) (es : List Entry) (b : Board) → Fine b → Fine (arrive_all t es b)
  met_arrive_all t [] b h = h
  met_arrive_all t (e ∷ es) b h = if_keeps Fine (e.at == t) _ _ (met_arrive_all t es (arrive e.act b) (met_arrive e.act b h)) h

  met_set : (p v : ℤ) (b : Board) → Fine b → Fine (was_set p v b)
  met_set (pos p) v b h = if_keeps Fine (nat_lt p 21) _ _ (sees b.seen b.unplugged (Pin b.clock p (level v)) h) h
  met_set (negsuc p) v b h = h

  met_showed : (f : ℕ) (b : Board) → Fine b → Fine (showed f b)
  met_showed f b h = if_keeps Fine (f == b.frame) _ _ h (sees b.seen b.unplugged (Show b.clock f) h)

  met_answer : (q : Question) (n : ℤ) (b : Board) → Fine b → Fine (answer q n b).0
  met_answer (Raises e) n b h = met_raised e b h
  met_answer (Plots x y mode) n b h = met_showed (plotted b.frame x y mode) b h
  met_answer (Displays f) n b h = met_showed f b h
  met_answer (Writes []) n b h = h
  met_answer (Writes (c ∷ cs)) n b h = sees b.seen b.unplugged (Serial b.clock (c ∷ cs)) h
  met_answer (Sets p v) n b h = met_set p v b h
  met_answer (Sends m) n b h = sees b.seen b.unplugged (Radio b.clock m) h
  met_answer Time n b h = h
  met_answer Value n b h = h
  met_answer (Pressed m) n b h = h

  module _ {A S : Type 0} (K : Kind A S) where
    abbrev Holds : World A S → Type 0
    Holds w = Fine w.board

    met_clock : (i : Idle) (w : World A S) → Fine w.board → Fine (clock_moves i w).board
    met_clock Quiet w h = h
    met_clock Script w h = h
    met_clock (Jump t) w h = met_arrive_all t w.board.script (record w.board { clock = t }) h

    met_moved : (queue : List Event) (w : World A S) → Fine w.board → Fine (moved K queue w).board
    met_moved (e ∷ rest) w h = h
    met_moved [] w h = met_clock (clock_move (least w.sleepers) (next_entry w.board.script) w.board.until) w h

    met_idle : (n : ℕ) (xs : List (Activity A)) (w : World A S) → Fine w.board → Fine (idle_while K n xs w).board
    met_idle zero xs w h = h
    met_idle (suc n) (x ∷ xs) w h = h
    met_idle (suc n) [] w h =
        (let v = moved K w.board.queue w in
        if_keeps Holds (over w.board) w (idle_while K n v.ready v) h (met_idle n v.ready v (met_moved w.board.queue w h)))

    met_blocks : (a : Activity A) (b : Board) → Fine b → Fine (blocks K a b)
    met_blocks a b h = if_keeps Fine a.seated _ _ h h

    met_ends_with : (es : List Event) (i : ℕ) (a : Activity A) (others : List (Activity A)) (again : ℕ → A) (s : S) (w : World A S) → Fine w.board → Fine (ends_with es i a others again s w).board
    met_ends_with [] i a others again s w h = h
    met_ends_with (e ∷ rest) i a others again s w h = h

    met_ends : (a : Activity A) (others : List (Activity A)) (again : ℕ → A) (s : S) (o : Option ℕ) (w : World A S) → Fine w.board → Fine (ends a others again s o w).board
    met_ends a others again s None w h = h
    met_ends a others again s (Some i) w h = met_ends_with (held_by i w.listeners) i a others again s w h

    met_acted : (a : Activity A) (others : List (Activity A)) (w : World A S) (u : Turn A S) → Fine w.board → Fine (acted K a others w u).board
    met_acted a others w (Goes x s) h = h
    met_acted a others w (Asks q next) h = met_answer q a.value w.board h
    met_acted a others w (Takes k next) h = if_keeps Holds (nat_le (w.board.used + k) 2816) _ _ h h
    met_acted a others w (Pauses k x s) h = if_keeps Holds (lacks_seat a w.board) _ _ h (met_blocks (record a { self = x }) w.board h)
    met_acted a others w (Waits e x s) h = if_keeps Holds (lacks_seat a w.board) _ _ h (met_blocks (record a { self = x }) w.board h)
    met_acted a others w (Spawns f x s) h = if_keeps Holds (nat_lt w.board.seats 24) _ _ h h
    met_acted a others w (Listens l x s) h = if_keeps Holds (nat_lt (length w.listeners) 32) _ _ h h
    met_acted a others w (RaisesNow e above x s) h =
        (let new = handlers above e w 0 w.listeners in if_keeps Holds (not (none new) && nat_le 32 (how_many (λ b. b.suspended) others)) _ _ h h)
    met_acted a others w (Ends again s) h = met_ends a others again s a.listener w h
    met_acted a others w (Panics c) h = h
    met_acted a others w (Faults k x) h = h

    met_stepped : (xs : List (Activity A)) (w : World A S) → Fine w.board → Fine (stepped K xs w).board
    met_stepped [] w h = h
    met_stepped (x ∷ xs) w h = (let v = acted K x xs w (K.step x.self w.shared) in met_idle (idle_bound v.board) v.ready v (met_acted x xs w (K.step x.self w.shared) h))

    met_run : (n : ℕ) (w : World A S) → Fine w.board → Fine (run K n w).board
    met_run zero w h = h
    met_run (suc n) w h = (let v = run K n w in let k = met_run n w h in if_keeps Holds (over v.board) v (stepped K v.ready v) k (met_stepped v.ready v k))

-- what a world has met stands first among all that it has met behind its idle moves
pub idles_meeting : {A S : Type 0} (K : Kind A S) (met : List Move) (w : World A S) → HasMet met w.board → (more : List Move) × HasMet (met ++ more) (idled K w).board
idles_meeting K met w h =
    let start : Fine met w.board = ([], h.seen ∙ ap seen_of (sym (append-nil met)), h.unplugged ∙ ap (unplugged_of 0) (sym (append-nil met))) in
    let r = met_idle met K (idle_bound w.board) w.ready w start in
    (r.0, record { seen = r.1; unplugged = r.2 })

-- a run goes on to meet moves behind those that it has met
pub goes_on_meeting : {A S : Type 0} (K : Kind A S) (met : List Move) (n : ℕ) (w : World A S) → HasMet met w.board → (more : List Move) × HasMet (met ++ more) (run K n w).board
goes_on_meeting K met n w h =
    let start : Fine met w.board = ([], h.seen ∙ ap seen_of (sym (append-nil met)), h.unplugged ∙ ap (unplugged_of 0) (sym (append-nil met))) in
    let r = met_run met K n w start in
    (r.0, record { seen = r.1; unplugged = r.2 })
