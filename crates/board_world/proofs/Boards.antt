-- What every move of the world keeps of the board.
use Rattle.std.proofs.Common.{◌≡◌, ℕ, zero, suc, ◌+◌, ◌-◌, max, ℤ, pos, negsuc, not, ◌&&◌, if◌then◌else◌, nat_le, nat_lt, ◌==◌, List, [], ◌∷◌, ◌++◌, length, Option, Some, None, ap, sym, ◌∙◌, append_assoc, subst}
use Rattle.board_world.specs.declared.events.Event.{Event}
use Rattle.board_world.specs.declared.clock.Idle.{Idle}
use Rattle.board_world.specs.declared.clock.Idle.TheVariants.{Jump, Quiet, Script}
use Rattle.board_world.specs.Observations.{Observation, End, Quietly, By_script, Panicked, Faulted, Show, Serial, Pin, Radio}
use Rattle.board_world.specs.Rules.{clock_move}
use Rattle.board_world.specs.Frame.{plotted}
use Rattle.board_world.specs.Board.{Board, Entry, ended_by, Act, Down, Up, Raise, Unplug, over, raised, arrive, arrive_all, next_entry, went_down, went_up, held_since}
use Rattle.board_world.specs.Kinds.{Kind, Turn, Goes, Asks, Takes, Pauses, Waits, Spawns, Listens, RaisesNow, Ends, Panics, Faults, Question, answer, showed, Raises, Plots, Displays, Writes, Sets, Sends, Time, Value, Pressed, was_set, level}
use Rattle.board_world.specs.Waiting.{least, how_many, none, held_by}
use Rattle.board_world.specs.Activities.{Activity, World, handlers}
use Rattle.board_world.specs.World.{moved, clock_moves, idle_while, idle_bound, lacks_seat, blocks, leaves, ends_with, ends, acted, stepped}
use Rattle.board_world.specs.Runs.{run}
use Rattle.board_world.specs.Sound.{MayEnd, FaultsWithin, SoundEnd, Extends}
use Rattle.std.proofs.lemmas.List.{append-nil}
use Rattle.board_world.proofs.Stays.{if_keeps, run_sum}

-- a property of the board that holds on however the world changes one of its parts
pub record Closed (Fine : ℕ → ℕ → Type 0) (P : Board → Type 0) : Type 0 where
  pub queue : (b : Board) (q : List Event) → P b → P (record b { queue = q })
  pub a_since : (b : Board) (since : Option ℕ) → P b → P (record b { a_since = since })
  pub b_since : (b : Board) (since : Option ℕ) → P b → P (record b { b_since = since })
  pub script : (b : Board) (es : List Entry) → P b → P (record b { script = es })
  pub clock : (b : Board) (t : ℕ) → P b → P (record b { clock = t })
  pub seen : (b : Board) (frame : ℕ) (o : Observation) → P b → P (record b { frame = frame; seen = b.seen ++ o ∷ [] })
  pub unplugged : (b : Board) (u : ℕ × ℕ) → P b → P (record b { unplugged = b.unplugged ++ u ∷ [] })
  pub used : (b : Board) (n : ℕ) → P b → P (record b { used = n })
  pub counts : (b : Board) (seats spawned blocked words most : ℕ) → P b
      → P (record b { seats = seats; spawned = spawned; blocked = blocked; words = words; most = most })
  pub ends : (b : Board) (e : End) → MayEnd Fine e → P b → P (ended_by b e)

module _ (Fine : ℕ → ℕ → Type 0) (P : Board → Type 0) (closed : Closed Fine P) where
  kept_raised : (e : Event) (b : Board) → P b → P (raised e b)
  kept_raised e b h = if_keeps P (nat_lt (length b.queue) 32) _ _ (closed.queue b (b.queue ++ e ∷ []) h) h

  kept_down : (k : ℕ) (o : Option ℕ) (b : Board) → P b → P (went_down k o b)
  kept_down k None b h = kept_raised _ b h
  kept_down k (Some t) b h = h

  kept_up : (k : ℕ) (o : Option ℕ) (b : Board) → P b → P (went_up k o b)
  kept_up k None b h = h
  kept_up k (Some t) b h = kept_raised _ _ (kept_raised _ b h)

  pub kept_arrive : (a : Act) (b : Board) → P b → P (arrive a b)
  kept_arrive (Down n) b h =
      if_keeps P (n == 1) _ _ (closed.a_since (went_down 1 b.a_since b) (held_since b.clock b.a_since) (kept_down 1 b.a_since b h))
      (closed.b_since (went_down 2 b.b_since b) (held_since b.clock b.b_since) (kept_down 2 b.b_since b h))
  kept_arrive (Up n) b h =
      if_keeps P (n == 1) _ _ (closed.a_since (went_up 1 b.a_since b) None (kept_up 1 b.a_since b h)) (closed.b_since (went_up 2 b.b_since b) None (kept_up 2 b.b_since b h))
  kept_arrive (Raise e) b h = kept_raised e b h
  kept_arrive (Unplug p) b h = closed.unplugged b (p, length b.seen) h

  kept_arrive_all : (t : ℕ) (es : List Entry) (b : Board) → P b → P (arrive_all t es b)
  kept_arrive_all t [] b h = closed.script b [] h
  kept_arrive_all t (e ∷ es) b h = if_keeps P (e.at == t) _ _ (kept_arrive_all t es (arrive e.act b) (kept_arrive e.act b h)) (closed.script b (e ∷ es) h)

  kept_set : (p v : ℤ) (b : Board) → P b → P (was_set p v b)
  kept_set (pos p) v b h = if_keeps P (nat_lt p 21) _ _ (closed.seen b b.frame (Pin b.clock p (level v)) h) h
  kept_set (negsuc p) v b h = h

  kept_showed : (f : ℕ) (b : Board) → P b → P (showed f b)
  kept_showed f b h = if_keeps P (f == b.frame) _ _ h (closed.seen b f (Show b.clock f) h)

  kept_answer : (q : Question) (n : ℤ) (b : Board) → P b → P (answer q n b).0
  kept_answer (Raises e) n b h = kept_raised e b h
  kept_answer (Plots x y mode) n b h = kept_showed (plotted b.frame x y mode) b h
  kept_answer (Displays f) n b h = kept_showed f b h
  kept_answer (Writes []) n b h = h
  kept_answer (Writes (c ∷ cs)) n b h = closed.seen b b.frame (Serial b.clock (c ∷ cs)) h
  kept_answer (Sets p v) n b h = kept_set p v b h
  kept_answer (Sends m) n b h = closed.seen b b.frame (Radio b.clock m) h
  kept_answer Time n b h = h
  kept_answer Value n b h = h
  kept_answer (Pressed m) n b h = h

  module _ {A S : Type 0} (K : Kind A S) where
    abbrev Holds : World A S → Type 0
    Holds w = P w.board

    kept_clock : (i : Idle) (w : World A S) → P w.board → P (clock_moves i w).board
    kept_clock Quiet w h = closed.ends w.board Quietly tt h
    kept_clock Script w h = closed.ends (record w.board { clock = w.board.until }) By_script tt (closed.clock w.board w.board.until h)
    kept_clock (Jump t) w h = kept_arrive_all t w.board.script (record w.board { clock = t }) (closed.clock w.board t h)

    kept_moved : (queue : List Event) (w : World A S) → P w.board → P (moved K queue w).board
    kept_moved (e ∷ rest) w h = closed.queue w.board rest h
    kept_moved [] w h = kept_clock (clock_move (least w.sleepers) (next_entry w.board.script) w.board.until) w h

    kept_idle : (n : ℕ) (xs : List (Activity A)) (w : World A S) → P w.board → P (idle_while K n xs w).board
    kept_idle zero xs w h = h
    kept_idle (suc n) (x ∷ xs) w h = h
    kept_idle (suc n) [] w h =
        (let v = moved K w.board.queue w in
        if_keeps Holds (over w.board) w (idle_while K n v.ready v) h (kept_idle n v.ready v (kept_moved w.board.queue w h)))

    kept_blocks : (a : Activity A) (b : Board) → P b → P (blocks K a b)
    kept_blocks a b h =
        if_keeps P a.seated _ _ (closed.counts b b.seats b.spawned b.blocked (b.words + K.depth a.self) b.most h)
        (closed.counts b (suc b.seats) b.spawned (suc b.blocked) (b.words + K.depth a.self) (max b.most (suc b.seats)) h)

    kept_leaves : (a : Activity A) (others : List (Activity A)) (s : S) (w : World A S) → P w.board → P (leaves a others s w).board
    kept_leaves a others s w h = closed.counts w.board (if a.seated then w.board.seats - 1 else w.board.seats) w.board.spawned w.board.blocked w.board.words w.board.most h

    kept_ends_with : (es : List Event) (i : ℕ) (a : Activity A) (others : List (Activity A)) (again : ℕ → A) (s : S) (w : World A S) → P w.board → P (ends_with es i a others again s w).board
    kept_ends_with [] i a others again s w h = kept_leaves a others s w h
    kept_ends_with (e ∷ rest) i a others again s w h = h

    kept_ends : (a : Activity A) (others : List (Activity A)) (again : ℕ → A) (s : S) (o : Option ℕ) (w : World A S) → P w.board → P (ends a others again s o w).board
    kept_ends a others again s None w h = kept_leaves a others s w h
    kept_ends a others again s (Some i) w h = kept_ends_with (held_by i w.listeners) i a others again s w h

    kept_acted : (a : Activity A) (others : List (Activity A)) (w : World A S) (u : Turn A S) → FaultsWithin Fine u → P w.board → P (acted K a others w u).board
    kept_acted a others w (Goes x s) n h = h
    kept_acted a others w (Asks q next) n h = kept_answer q a.value w.board h
    kept_acted a others w (Takes k next) n h =
        if_keeps Holds (nat_le (w.board.used + k) 2816) _ _ (closed.used w.board (w.board.used + k) h) (closed.ends w.board (Panicked 20) tt h)
    kept_acted a others w (Pauses k x s) n h =
        if_keeps Holds (lacks_seat a w.board) _ _ (closed.ends w.board (Panicked 101) tt h) (kept_blocks (record a { self = x }) w.board h)
    kept_acted a others w (Waits e x s) n h =
        if_keeps Holds (lacks_seat a w.board) _ _ (closed.ends w.board (Panicked 101) tt h) (kept_blocks (record a { self = x }) w.board h)
    kept_acted a others w (Spawns f x s) n h =
        if_keeps Holds (nat_lt w.board.seats 24) _ _ (closed.counts w.board (suc w.board.seats) (suc w.board.spawned) w.board.blocked w.board.words (max w.board.most (suc w.board.seats)) h) (closed.ends w.board (Panicked 101) tt h)
    kept_acted a others w (Listens l x s) n h = if_keeps Holds (nat_lt (length w.listeners) 32) _ _ h (closed.ends w.board (Panicked 103) tt h)
    kept_acted a others w (RaisesNow e above x s) n h =
        (let new = handlers above e w 0 w.listeners in
        if_keeps Holds (not (none new) && nat_le 32 (how_many (λ b. b.suspended) others)) _ _ (closed.ends w.board (Panicked 106) tt h) h)
    kept_acted a others w (Ends again s) n h = kept_ends a others again s a.listener w h
    kept_acted a others w (Panics c) n h = closed.ends w.board (Panicked c) tt h
    kept_acted a others w (Faults k x) n h = closed.ends w.board (Faulted k x) n h

    kept_stepped : (xs : List (Activity A)) (w : World A S) → ((x : A) (s : S) → FaultsWithin Fine (K.step x s)) → P w.board → P (stepped K xs w).board
    kept_stepped [] w n h = h
    kept_stepped (x ∷ xs) w n h = (let v = acted K x xs w (K.step x.self w.shared) in kept_idle (idle_bound v.board) v.ready v (kept_acted x xs w (K.step x.self w.shared) (n x.self w.shared) h))

    pub kept_run : ((x : A) (s : S) → FaultsWithin Fine (K.step x s)) → (n : ℕ) (w : World A S) → P w.board → P (run K n w).board
    kept_run f zero w h = h
    kept_run f (suc n) w h =
        (let v = run K n w in let k = kept_run f n w h in if_keeps Holds (over v.board) v (stepped K v.ready v) k (kept_stepped v.ready v f k))

-- two instances: a run ends as it may, and what was seen and unplugged stays
module _ (Fine : ℕ → ℕ → Type 0) where
  pub sound_closed : Closed Fine (λ b. SoundEnd Fine b.end)
  sound_closed =
      record {
        queue = λ b q h. h;
        a_since = λ b x h. h;
        b_since = λ b x h. h;
        script = λ b es h. h;
        clock = λ b t h. h;
        seen = λ b f o h. h;
        unplugged = λ b u h. h;
        used = λ b n h. h;
        counts = λ b s p l w m h. h;
        ends = λ b e n h. n;
      }

  extends_closed : (first : Board) → Closed Fine (Extends first)
  extends_closed first =
      record {
        queue = λ b q h. record { seen = h.seen; unplugged = h.unplugged };
        a_since = λ b x h. record { seen = h.seen; unplugged = h.unplugged };
        b_since = λ b x h. record { seen = h.seen; unplugged = h.unplugged };
        script = λ b es h. record { seen = h.seen; unplugged = h.unplugged };
        clock = λ b t h. record { seen = h.seen; unplugged = h.unplugged };
        seen = λ b f o h. record { seen = more first.seen o b.seen h.seen; unplugged = h.unplugged };
        unplugged = λ b u h. record { seen = h.seen; unplugged = more first.unplugged u b.unplugged h.unplugged };
        used = λ b n h. record { seen = h.seen; unplugged = h.unplugged };
        counts = λ b s p l w m h. record { seen = h.seen; unplugged = h.unplugged };
        ends = λ b e n h. record { seen = h.seen; unplugged = h.unplugged };
      }
    where
      more : {X : Type 0} (xs : List X) (x : X) (ys : List X) → (rest : List X) × (xs ++ rest ≡ ys) → (rest : List X) × (xs ++ rest ≡ ys ++ x ∷ [])
      more {X = X} xs x ys h = (h.0 ++ x ∷ [], sym (append_assoc xs h.0 (x ∷ [])) ∙ ap (λ (zs : List X). zs ++ x ∷ []) h.1)

  -- where no turn of a kind is another fault than these, no run of it ends by another
  pub ends_soundly : {A S : Type 0} (K : Kind A S) → ((x : A) (s : S) → FaultsWithin Fine (K.step x s)) → (n : ℕ) (w : World A S) → SoundEnd Fine w.board.end → SoundEnd Fine (run K n w).board.end
  ends_soundly K f n w h = kept_run Fine (λ b. SoundEnd Fine b.end) sound_closed K f n w h

-- nothing that was seen or unplugged is ever taken back
abbrev no_bound : ℕ → ℕ → Type 0
no_bound k a = Unit {0}

any_fault : {A S : Type 0} (u : Turn A S) → FaultsWithin no_bound u
any_fault (Faults k a) = tt
any_fault (Goes a s) = tt
any_fault (Asks q f) = tt
any_fault (Takes n f) = tt
any_fault (Pauses n a s) = tt
any_fault (Waits e a s) = tt
any_fault (Spawns f a s) = tt
any_fault (Listens l a s) = tt
any_fault (RaisesNow e f a s) = tt
any_fault (Ends f s) = tt
any_fault (Panics c) = tt

extends_refl : (b : Board) → Extends b b
extends_refl b = record { seen = ([], append-nil b.seen); unplugged = ([], append-nil b.unplugged) }

pub extends_run : {A S : Type 0} (K : Kind A S) (n j : ℕ) (w : World A S) → Extends (run K n w).board (run K (j + n) w).board
extends_run {A = A} {S = S} K n j w =
    subst (λ (v : World A S). Extends (run K n w).board v.board) (sym (run_sum K n j w))
    (kept_run no_bound (Extends (run K n w).board) (extends_closed no_bound (run K n w).board) K (λ x s. any_fault (K.step x s)) j (run K n w) (extends_refl (run K n w).board))

pub extends_arrive : (act : Act) (b : Board) → Extends b (arrive act b)
extends_arrive act b = kept_arrive no_bound (Extends b) (extends_closed no_bound b) act b (extends_refl b)
