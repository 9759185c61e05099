-- What one board sees before a moment, whether its run goes on behind it or stops before it.
use Rattle.std.proofs.Common.{◌≡◌, ℕ, zero, suc, ◌+◌, ◌≤◌, ◌<◌, ◌⊎◌, inl, inr, ℤ, pos, negsuc, Bool, true, false, not, ◌&&◌, if◌then◌else◌, nat_le, nat_lt, ◌==◌, List, [], ◌∷◌, ◌++◌, length, Option, Some, None, refl, ap, sym, ◌∙◌, subst, arith}
use Rattle.std.proofs.lemmas.Bool.Decides.{nat_tests}
use Rattle.std.proofs.lemmas.List.{append-nil}
use Rattle.std.specs.Prelude.{is_some}
use Rattle.board_world.specs.declared.events.Event.{Event}
use Rattle.board_world.specs.declared.clock.Idle.{Idle}
use Rattle.board_world.specs.declared.clock.Idle.TheVariants.{Jump, Quiet, Script}
use Rattle.board_world.specs.Observations.{Observation, End, Show, Serial, Pin, Radio}
use Rattle.board_world.specs.Limits.{queue_limit, pin_limit, raiser_limit, arena_limit, seat_limit, listener_limit}
use Rattle.board_world.specs.Rules.{clock_move}
use Rattle.board_world.specs.Frame.{plotted}
use Rattle.board_world.specs.Board.{Board, Act, Entry, Down, Up, Raise, Unplug, raised, went_down, went_up, arrive, arrive_all, next_entry, over}
use Rattle.board_world.specs.Kinds.{Kind, Question, Raises, Plots, Displays, Writes, Sets, Sends, Time, Value, Pressed, answer, level, Turn, Goes, Asks, Takes, Pauses, Waits, Spawns, Listens, RaisesNow, Ends, Panics, Faults}
use Rattle.board_world.specs.Waiting.{least, none, how_many, held_by}
use Rattle.board_world.specs.Activities.{Activity, World, handlers}
use Rattle.board_world.specs.World.{lacks_seat, clock_moves, ends_with, ends, moved, idle_while, idle_bound, idled, blocks, acted, stepped, tick}
use Rattle.board_world.specs.Runs.{run}
use Rattle.board_world.specs.Simulation.{IsSettled}
use Rattle.board_world.specs.Before.{is_by_clock, is_jump_before, moves_before, idle_before, idled_before, stepped_before, tick_before, run_before}
use Rattle.board_world.proofs.Laws.{IsTimely, jump_soonest, if_keeps, over_stays, busy_stays, idled_first, progress, due, On, by_clock_over, clock_all, moved_on, idle_on, acted_on, tick_on}
use Rattle.class_world.specs.Hearing.{moment_of, before}
use Rattle.class_world.specs.Classes.{Passes}
use Rattle.board_world.specs.Transcript.{closing_line}
use Rattle.class_world.specs.Lines.{numbered, is_stopped, stopped_at}

-- what a turn adds to what was seen, it adds at the present moment
module _ (P : ℕ → ℕ → List Entry → List Observation → Type 0) where
  abbrev Now : Board → Type 0
  Now b = P b.clock b.until b.script b.seen

  abbrev Adds : Board → Type 0
  Adds b = (o : Observation) → moment_of o ≡ b.clock → P b.clock b.until b.script (b.seen ++ o ∷ [])

  now_answer : (q : Question) (v : ℤ) (b : Board) → Now b → Adds b → Now (answer q v b).0
  now_answer (Raises e) v b h k = if_keeps Now (nat_lt (length b.queue) queue_limit) _ _ h h
  now_answer (Plots x y mode) v b h k = if_keeps Now (plotted b.frame x y mode == b.frame) _ _ h (k (Show b.clock (plotted b.frame x y mode)) refl)
  now_answer (Displays f) v b h k = if_keeps Now (f == b.frame) _ _ h (k (Show b.clock f) refl)
  now_answer (Writes []) v b h k = h
  now_answer (Writes (c ∷ cs)) v b h k = k (Serial b.clock (c ∷ cs)) refl
  now_answer (Sets (pos p) l) v b h k = if_keeps Now (nat_lt p pin_limit) _ _ (k (Pin b.clock p (level l)) refl) h
  now_answer (Sets (negsuc p) l) v b h k = h
  now_answer (Sends n) v b h k = k (Radio b.clock n) refl
  now_answer Time v b h k = h
  now_answer Value v b h k = h
  now_answer (Pressed (pos n)) v b h k = h
  now_answer (Pressed (negsuc n)) v b h k = h

  module _ {A S : Type 0} (K : Kind A S) where
    abbrev Holds : World A S → Type 0
    Holds w = Now w.board

    now_blocks : (a : Activity A) (b : Board) → Now b → Now (blocks K a b)
    now_blocks a b h = if_keeps Now a.seated _ _ h h

    now_ends_with : (es : List Event) (i : ℕ) (a : Activity A) (others : List (Activity A)) (again : ℕ → A) (s : S) (w : World A S) → Holds w → Holds (ends_with es i a others again s w)
    now_ends_with [] i a others again s w h = h
    now_ends_with (e ∷ rest) i a others again s w h = h

    now_ends : (o : Option ℕ) (a : Activity A) (others : List (Activity A)) (again : ℕ → A) (s : S) (w : World A S) → Holds w → Holds (ends a others again s o w)
    now_ends None a others again s w h = h
    now_ends (Some i) a others again s w h = now_ends_with (held_by i w.listeners) i a others again s w h

    pub now_acted : (a : Activity A) (others : List (Activity A)) (w : World A S) (turn : Turn A S) → Holds w → Adds w.board → Holds (acted K a others w turn)
    now_acted a others w (Goes self s) h k = h
    now_acted a others w (Asks q next) h k = now_answer q a.value w.board h k
    now_acted a others w (Takes n next) h k = if_keeps Holds (nat_le (w.board.used + n) arena_limit) _ _ h h
    now_acted a others w (Pauses n self s) h k = if_keeps Holds (lacks_seat a w.board) _ _ h (now_blocks (record a { self = self }) w.board h)
    now_acted a others w (Waits e self s) h k = if_keeps Holds (lacks_seat a w.board) _ _ h (now_blocks (record a { self = self }) w.board h)
    now_acted a others w (Spawns f self s) h k = if_keeps Holds (nat_lt w.board.seats seat_limit) _ _ h h
    now_acted a others w (Listens l self s) h k = if_keeps Holds (nat_lt (length w.listeners) listener_limit) _ _ h h
    now_acted a others w (RaisesNow e above self s) h k =
        (let new = handlers above e w 0 w.listeners in
        if_keeps Holds (not (none new) && nat_le raiser_limit (how_many (λ b. b.suspended) others)) _ _ h h)
    now_acted a others w (Ends again s) h k = now_ends a.listener a others again s w h
    now_acted a others w (Panics code) h k = h
    now_acted a others w (Faults kind address) h k = h

-- no idle move adds anything
seen_arrive : (act : Act) (b : Board) → (arrive act b).seen ≡ b.seen
seen_arrive act b = by_act act
  where
    Same : Board → Type 0
    Same c = c.seen ≡ b.seen

    of_raised : (e : Event) (c : Board) → Same c → Same (raised e c)
    of_raised e c h = if_keeps Same (nat_lt (length c.queue) queue_limit) _ _ h h

    of_down : (n : ℕ) (o : Option ℕ) → Same (went_down n o b)
    of_down n None = of_raised _ b refl
    of_down n (Some since) = refl

    of_up : (n : ℕ) (o : Option ℕ) → Same (went_up n o b)
    of_up n None = refl
    of_up n (Some since) = of_raised _ _ (of_raised _ b refl)

    by_act : (act : Act) → Same (arrive act b)
    by_act (Down n) = if_keeps Same (n == 1) _ _ (of_down 1 b.a_since) (of_down 2 b.b_since)
    by_act (Up n) = if_keeps Same (n == 1) _ _ (of_up 1 b.a_since) (of_up 2 b.b_since)
    by_act (Raise e) = of_raised e b refl
    by_act (Unplug port) = refl

pub seen_all : (s : ℕ) (es : List Entry) (b : Board) → (arrive_all s es b).seen ≡ b.seen
seen_all s [] b = refl
seen_all s (e ∷ es) b = if_keeps (λ (c : Board). c.seen ≡ b.seen) (e.at == s) _ _ (seen_all s es (arrive e.act b) ∙ seen_arrive e.act b) refl

-- nor does an entry move the script's end
until_arrive : (act : Act) (b : Board) → (arrive act b).until ≡ b.until
until_arrive act b = by_act act
  where
    Same : Board → Type 0
    Same c = c.until ≡ b.until

    of_raised : (e : Event) (c : Board) → Same c → Same (raised e c)
    of_raised e c h = if_keeps Same (nat_lt (length c.queue) queue_limit) _ _ h h

    of_down : (n : ℕ) (o : Option ℕ) → Same (went_down n o b)
    of_down n None = of_raised _ b refl
    of_down n (Some since) = refl

    of_up : (n : ℕ) (o : Option ℕ) → Same (went_up n o b)
    of_up n None = refl
    of_up n (Some since) = of_raised _ _ (of_raised _ b refl)

    by_act : (act : Act) → Same (arrive act b)
    by_act (Down n) = if_keeps Same (n == 1) _ _ (of_down 1 b.a_since) (of_down 2 b.b_since)
    by_act (Up n) = if_keeps Same (n == 1) _ _ (of_up 1 b.a_since) (of_up 2 b.b_since)
    by_act (Raise e) = of_raised e b refl
    by_act (Unplug port) = refl

pub until_all : (s : ℕ) (es : List Entry) (b : Board) → (arrive_all s es b).until ≡ b.until
until_all s [] b = refl
until_all s (e ∷ es) b = if_keeps (λ (c : Board). c.until ≡ b.until) (e.at == s) _ _ (until_all s es (arrive e.act b) ∙ until_arrive e.act b) refl

-- nor does an entry end the run
end_arrive : (act : Act) (b : Board) → (arrive act b).end ≡ b.end
end_arrive act b = by_act act
  where
    Same : Board → Type 0
    Same c = c.end ≡ b.end

    of_raised : (e : Event) (c : Board) → Same c → Same (raised e c)
    of_raised e c h = if_keeps Same (nat_lt (length c.queue) queue_limit) _ _ h h

    of_down : (n : ℕ) (o : Option ℕ) → Same (went_down n o b)
    of_down n None = of_raised _ b refl
    of_down n (Some since) = refl

    of_up : (n : ℕ) (o : Option ℕ) → Same (went_up n o b)
    of_up n None = refl
    of_up n (Some since) = of_raised _ _ (of_raised _ b refl)

    by_act : (act : Act) → Same (arrive act b)
    by_act (Down n) = if_keeps Same (n == 1) _ _ (of_down 1 b.a_since) (of_down 2 b.b_since)
    by_act (Up n) = if_keeps Same (n == 1) _ _ (of_up 1 b.a_since) (of_up 2 b.b_since)
    by_act (Raise e) = of_raised e b refl
    by_act (Unplug port) = refl

pub end_all : (s : ℕ) (es : List Entry) (b : Board) → (arrive_all s es b).end ≡ b.end
end_all s [] b = refl
end_all s (e ∷ es) b = if_keeps (λ (c : Board). c.end ≡ b.end) (e.at == s) _ _ (end_all s es (arrive e.act b) ∙ end_arrive e.act b) refl

module _ {A S : Type 0} (K : Kind A S) where
  seen_moved : (queue : List Event) (w : World A S) → (moved K queue w).board.seen ≡ w.board.seen
  seen_moved (e ∷ rest) w = refl
  seen_moved [] w = by_move (clock_move (least w.sleepers) (next_entry w.board.script) w.board.until)
    where
      by_move : (i : Idle) → (clock_moves i w).board.seen ≡ w.board.seen
      by_move (Jump s) = seen_all s w.board.script (record w.board { clock = s })
      by_move Quiet = refl
      by_move Script = refl

  seen_idle : (n : ℕ) (xs : List (Activity A)) (w : World A S) → (idle_while K n xs w).board.seen ≡ w.board.seen
  seen_idle zero xs w = refl
  seen_idle (suc n) (x ∷ xs) w = refl
  seen_idle (suc n) [] w =
      (let v = moved K w.board.queue w in
      if_keeps (λ (u : World A S). u.board.seen ≡ w.board.seen) (over w.board) w (idle_while K n v.ready v) refl (seen_idle n v.ready v ∙ seen_moved w.board.queue w))

  module _ (t : ℕ) where
    pub seen_idle_before : (n : ℕ) (xs : List (Activity A)) (w : World A S) → (idle_before K t n xs w).board.seen ≡ w.board.seen
    seen_idle_before zero xs w = refl
    seen_idle_before (suc n) (x ∷ xs) w = refl
    seen_idle_before (suc n) [] w =
        (let v = moved K w.board.queue w in
        if_keeps (λ (u : World A S). u.board.seen ≡ w.board.seen) (not (over w.board) && moves_before t w.board.queue w) (idle_before K t n v.ready v) w (seen_idle_before n v.ready v ∙ seen_moved w.board.queue w) refl)

    -- idle moves before t stay below it
    clock_moved : (queue : List Event) (w : World A S) → w.board.clock < t → moves_before t queue w ≡ true → (moved K queue w).board.clock < t
    clock_moved (e ∷ rest) w h m = h
    clock_moved [] w h m = by_move (clock_move (least w.sleepers) (next_entry w.board.script) w.board.until) m
      where
        by_move : (i : Idle) → is_jump_before t i ≡ true → (clock_moves i w).board.clock < t
        by_move (Jump s) m' =
            (let here : (arrive_all s w.board.script (record w.board { clock = s })).clock ≡ s = clock_all s w.board.script (record w.board { clock = s }) in
            let less : s < t = grind (arith, nat_tests) in
            omega (arith, here, less))
        by_move Quiet m' = absurd (cc)
        by_move Script m' = absurd (cc)

    clock_idle_before : (n : ℕ) (xs : List (Activity A)) (w : World A S) → w.board.clock < t → (idle_before K t n xs w).board.clock < t
    clock_idle_before zero xs w h = h
    clock_idle_before (suc n) (x ∷ xs) w h = h
    clock_idle_before (suc n) [] w h = by_test (over w.board) (moves_before t w.board.queue w) refl (λ k. clock_idle_before n (moved K w.board.queue w).ready (moved K w.board.queue w) k)
      where
        Next : World A S
        Next = moved K w.board.queue w

        by_test : (c d : Bool) → moves_before t w.board.queue w ≡ d → (Next.board.clock < t → (idle_before K t n Next.ready Next).board.clock < t)
            → (if not c && d then idle_before K t n Next.ready Next else w).board.clock < t
        by_test true d m ih = h
        by_test false false m ih = h
        by_test false true m ih = ih (clock_moved w.board.queue w h m)

    -- nor do they end the run, and nothing is left to come back to
    timely_idle_before : (n : ℕ) (xs : List (Activity A)) (w : World A S) → IsTimely w → IsTimely (idle_before K t n xs w)
    timely_idle_before zero xs w h = h
    timely_idle_before (suc n) (x ∷ xs) w h = h
    timely_idle_before (suc n) [] w h = by_test (over w.board) (moves_before t w.board.queue w) refl refl (λ k. timely_idle_before n (moved K w.board.queue w).ready (moved K w.board.queue w) k)
      where
        Next : World A S
        Next = moved K w.board.queue w

        not_ended : (queue : List Event) → over w.board ≡ false → moves_before t queue w ≡ true → is_by_clock (moved K queue w).board.end ≡ false
        not_ended (e ∷ rest) o m = by_clock_over w.board.end o
        not_ended [] o m = by_move (clock_move (least w.sleepers) (next_entry w.board.script) w.board.until) m
          where
            by_move : (i : Idle) → is_jump_before t i ≡ true → is_by_clock (clock_moves i w).board.end ≡ false
            by_move (Jump s) m' = ap is_by_clock (end_all s w.board.script (record w.board { clock = s })) ∙ by_clock_over w.board.end o
            by_move Quiet m' = absurd (cc)
            by_move Script m' = absurd (cc)

        by_test : (c d : Bool) → over w.board ≡ c → moves_before t w.board.queue w ≡ d → (IsTimely Next → IsTimely (idle_before K t n Next.ready Next))
            → IsTimely (if not c && d then idle_before K t n Next.ready Next else w)
        by_test true d o m ih = h
        by_test false false o m ih = h
        by_test false true o m ih = ih (moved_on K w.board.queue w h (not_ended w.board.queue o m)).timely

    -- behind them nothing is left to do before t
    abbrev IsAtRest : World A S → Type 0
    IsAtRest w = over w.board ≡ false → w.ready ≡ [] → moves_before t w.board.queue w ≡ false

    settled_rests : (w : World A S) → IsSettled w → IsAtRest w
    settled_rests w h o e = (let long : 0 < length w.ready = h o in let short : length w.ready ≡ 0 = ap length e in absurd (omega (arith, long, short)))

    settled_stays : (n : ℕ) (w : World A S) → IsSettled w → idle_before K t n w.ready w ≡ w
    settled_stays n w h = by_case n w.ready (over w.board) refl refl
      where
        by_case : (n : ℕ) (xs : List (Activity A)) (c : Bool) → w.ready ≡ xs → over w.board ≡ c → idle_before K t n xs w ≡ w
        by_case zero xs c e o = refl
        by_case (suc n) (x ∷ xs) c e o = refl
        by_case (suc n) [] true e o = rw o refl
        by_case (suc n) [] false e o = (let long : 0 < length w.ready = h o in let short : length w.ready ≡ 0 = ap length e in absurd (omega (arith, long, short)))

    rests_enough : (n : ℕ) (xs : List (Activity A)) (w : World A S) → w.ready ≡ xs → due w.board + 2 ≤ n → IsAtRest (idle_before K t n xs w)
    rests_enough zero xs w e h = absurd (omega (arith, h))
    rests_enough (suc n) (x ∷ xs) w e h = (λ o r. (let there : length w.ready ≡ suc (length xs) = ap length e in let short : length w.ready ≡ 0 = ap length r in absurd (omega (arith, there, short))))
    rests_enough (suc n) [] w e h = by_test (over w.board) (moves_before t w.board.queue w) refl refl (λ v k. rests_enough n v.ready v refl k)
      where
        Next : World A S
        Next = moved K w.board.queue w

        by_test : (c d : Bool) → over w.board ≡ c → moves_before t w.board.queue w ≡ d → ((v : World A S) → due v.board + 2 ≤ n → IsAtRest (idle_before K t n v.ready v))
            → IsAtRest (if not c && d then idle_before K t n Next.ready Next else w)
        by_test true d o m ih = (λ o' r. absurd (cc))
        by_test false false o m ih = (λ o' r. m)
        by_test false true o m ih =
            elim (progress K w.board.queue w refl) [
              | inl s ↦ subst IsAtRest (sym (settled_stays n Next s)) (settled_rests Next s)
              | inr l ↦ ih Next (omega (arith, l, h))
            ]

    -- and all idle moves go on from there
    pub idle_goes_on : (n : ℕ) (xs : List (Activity A)) (w : World A S) → w.ready ≡ xs → idled K (idle_before K t n xs w) ≡ idled K w
    idle_goes_on zero xs w e = refl
    idle_goes_on (suc n) (x ∷ xs) w e = refl
    idle_goes_on (suc n) [] w e = by_test (over w.board) (moves_before t w.board.queue w) refl refl (idle_goes_on n (moved K w.board.queue w).ready (moved K w.board.queue w) refl)
      where
        Next : World A S
        Next = moved K w.board.queue w

        by_test : (c d : Bool) → over w.board ≡ c → moves_before t w.board.queue w ≡ d → idled K (idle_before K t n Next.ready Next) ≡ idled K Next
            → idled K (if not c && d then idle_before K t n Next.ready Next else w) ≡ idled K w
        by_test true d o m ih = refl
        by_test false false o m ih = refl
        by_test false true o m ih = ih ∙ sym (idled_first K w o e)

-- what was seen before a moment
pub before_split : (t : ℕ) (xs ys : List Observation) → before t (xs ++ ys) ≡ before t xs ++ before t ys
before_split t [] ys = refl
before_split t (x ∷ xs) ys =
    elim (nat_lt (moment_of x) t) as (λ c. (if c then x ∷ before t (xs ++ ys) else before t (xs ++ ys)) ≡ (if c then x ∷ before t xs else before t xs) ++ before t ys)
    [ true ↦ ap (λ (l : List Observation). x ∷ l) (before_split t xs ys) | false ↦ before_split t xs ys ]

pub before_later : (t : ℕ) (o : Observation) (xs : List Observation) → t ≤ moment_of o → before t (xs ++ o ∷ []) ≡ before t xs
before_later t o xs h =
    (let none : before t (o ∷ []) ≡ [] = (let late : nat_lt (moment_of o) t ≡ false = grind (arith, nat_tests) in rw late refl) in
    before_split t xs (o ∷ []) ∙ ap (λ (l : List Observation). before t xs ++ l) none ∙ append-nil (before t xs))

before_sooner : (t : ℕ) (o : Observation) (xs : List Observation) → moment_of o < t → before t xs ≡ xs → before t (xs ++ o ∷ []) ≡ xs ++ o ∷ []
before_sooner t o xs h e =
    (let one : before t (o ∷ []) ≡ o ∷ [] = (let soon : nat_lt (moment_of o) t ≡ true = grind (arith, nat_tests) in rw soon refl) in
    before_split t xs (o ∷ []) ∙ ap (λ (l : List Observation). l ++ before t (o ∷ [])) e ∙ ap (λ (l : List Observation). xs ++ l) one)

-- a run that hasn't ended has no panic, and one that the clock ended neither; one that panicked has the line at the moment of that alone
no_line_going : (s b : ℕ) (w : Board) → over w ≡ false → stopped_at s b w ≡ []
no_line_going s b w o = rw o refl

no_line_by_clock : (s b : ℕ) (w : Board) → is_by_clock w.end ≡ true → stopped_at s b w ≡ []
no_line_by_clock s b w c = by_over (over w)
  where
    by_over : (d : Bool) → (if (d && not (is_by_clock w.end)) && (w.clock == s) then numbered b (closing_line w.clock w.end) else []) ≡ []
    by_over true = rw c refl
    by_over false = refl

no_line_elsewhere : (s b : ℕ) (w : Board) → s < w.clock → stopped_at s b w ≡ []
no_line_elsewhere s b w l = by_stop (is_stopped w)
  where
    by_stop : (d : Bool) → (if d && (w.clock == s) then numbered b (closing_line w.clock w.end) else []) ≡ []
    by_stop true = (let other : (w.clock == s) ≡ false = grind (arith, nat_tests) in rw other refl)
    by_stop false = refl

module _ {A S : Type 0} (K : Kind A S) (t : ℕ) where
  -- a run that the clock has ended, or that has come to t, has no panic before t
  abbrev IsLate : World A S → Type 0
  IsLate u = (is_by_clock u.board.end ≡ true) ⊎ (t ≤ u.board.clock)

  no_line_late : (s b : ℕ) (u : World A S) → s < t → IsLate u → stopped_at s b u.board ≡ []
  no_line_late s b u l (inl c) = no_line_by_clock s b u.board c
  no_line_late s b u l (inr h) = no_line_elsewhere s b u.board (omega (arith, l, h))

  -- two runs have the same lines of panics before t
  abbrev pub StopsAlike : World A S → World A S → Type 0
  StopsAlike v u = (s b : ℕ) → s < t → stopped_at s b u.board ≡ stopped_at s b v.board

  -- all that was seen was before t, and so is the present
  pub record IsEarly (w : World A S) : Type 0 where
    pub clock : w.board.clock < t
    pub seen : before t w.board.seen ≡ w.board.seen

  early_acted : (a : Activity A) (others : List (Activity A)) (w : World A S) (turn : Turn A S) → IsEarly w → IsEarly (acted K a others w turn)
  early_acted a others w turn h =
      (let r = now_acted (λ c u es os. (c < t) × (before t os ≡ os)) K a others w turn (h.clock, h.seen) (λ o e. (h.clock, before_sooner t o w.board.seen (let less : w.board.clock < t = h.clock in omega (arith, e, less)) h.seen)) in
      record { clock = r.0; seen = r.1 })

  early_idle : (n : ℕ) (xs : List (Activity A)) (w : World A S) → IsEarly w → IsEarly (idle_before K t n xs w)
  early_idle n xs w h =
      (let same = seen_idle_before K t n xs w in
      record { clock = clock_idle_before K t n xs w h.clock; seen = ap (before t) same ∙ h.seen ∙ sym same })

  early_tick : (w : World A S) → IsEarly w → IsEarly (tick_before K t w)
  early_tick w h = if_keeps IsEarly (over w.board) w (stepped_before K t w.ready w) h (by_ready w.ready)
    where
      by_ready : (xs : List (Activity A)) → IsEarly (stepped_before K t xs w)
      by_ready [] = h
      by_ready (a ∷ rest) = (let v = acted K a rest w (K.step a.self w.shared) in early_idle (idle_bound v.board) v.ready v (early_acted a rest w (K.step a.self w.shared) h))

  pub early_run : (n : ℕ) (w : World A S) → IsEarly w → IsEarly (run_before K t n w)
  early_run zero w h = h
  early_run (suc n) w h = early_tick (run_before K t n w) (early_run n w h)

  -- where a run that stops before t has stopped
  abbrev pub IsStopped : World A S → Type 0
  IsStopped v = (over v.board ≡ true) ⊎ (v.ready ≡ [])

  stopped_stays : (v : World A S) → IsStopped v → tick_before K t v ≡ v
  stopped_stays v h = by_case (over v.board) refl h
    where
      by_case : (c : Bool) → over v.board ≡ c → IsStopped v → tick_before K t v ≡ v
      by_case true o h' = rw o refl
      by_case false o (inl h') = absurd (cc)
      by_case false o (inr h') = rw o (rw h' refl)

  pub stopped_for_good : (k n : ℕ) (w : World A S) → IsStopped (run_before K t n w) → run_before K t (k + n) w ≡ run_before K t n w
  stopped_for_good zero n w h = (let same : zero + n ≡ n = omega arith in ap (λ (j : ℕ). run_before K t j w) same)
  stopped_for_good (suc k) n w h =
      (let ih = stopped_for_good k n w h in
      let count : suc k + n ≡ suc (k + n) = omega arith in
      ap (λ (j : ℕ). run_before K t j w) count ∙ ap (tick_before K t) ih ∙ stopped_stays (run_before K t n w) h)

  -- the run that stops before t, v, beside the one that goes on, u
  pub record IsPast (v u : World A S) : Type 0 where
    pub stopped : IsStopped v
    pub seen : before t u.board.seen ≡ v.board.seen
    pub stops : StopsAlike v u
    pub passes : Passes t u
    pub timely : over u.board ≡ false → IsTimely u

  -- behind t
  seen_late : (u : World A S) → t ≤ u.board.clock → before t (tick K u).board.seen ≡ before t u.board.seen
  seen_late u h = if_keeps (λ (x : World A S). before t x.board.seen ≡ before t u.board.seen) (over u.board) u (stepped K u.ready u) refl (by_ready u.ready)
    where
      by_ready : (xs : List (Activity A)) → before t (stepped K xs u).board.seen ≡ before t u.board.seen
      by_ready [] = refl
      by_ready (a ∷ rest) =
          (let v = acted K a rest u (K.step a.self u.shared) in
          let r = now_acted (λ c u' es os. (t ≤ c) × (before t os ≡ before t u.board.seen)) K a rest u (K.step a.self u.shared) (h, refl) (λ o e. (h, before_later t o u.board.seen (omega (arith, e, h)))) in
          ap (before t) (seen_idle K (idle_bound v.board) v.ready v) ∙ r.1)

  past_on : (v u : World A S) → IsPast v u → IsPast (tick_before K t v) (tick K u)
  past_on v u h = subst (λ (x : World A S). IsPast x (tick K u)) (sym (stopped_stays v h.stopped)) (by_over (over u.board) refl)
    where
      alike : over u.board ≡ false → IsLate (tick K u) → StopsAlike v (tick K u)
      alike o late = λ s b l. no_line_late s b (tick K u) l late ∙ sym (no_line_going s b u.board o) ∙ h.stops s b l

      by_end : over u.board ≡ false → t ≤ u.board.clock → (c : Bool) → is_by_clock (tick K u).board.end ≡ c → IsPast v (tick K u)
      by_end o late true e = record { stopped = h.stopped; seen = seen_late u late ∙ h.seen; stops = alike o (inl e); passes = inl (ended (tick K u).board.end e); timely = λ o'. absurd (let e' = ended (tick K u).board.end e in cc) }
        where
          ended : (x : Option End) → is_by_clock x ≡ true → is_some x ≡ true
          ended None q = cc
          ended (Some y) q = refl
      by_end o late false e =
          (let r : On u (tick K u) = tick_on K u (h.timely o) e in
          let on : t ≤ (tick K u).board.clock = (let l : u.board.clock ≤ (tick K u).board.clock = r.clock in omega (arith, l, late)) in
          record { stopped = h.stopped; seen = seen_late u late ∙ h.seen; stops = alike o (inr on); passes = inr on; timely = λ o'. r.timely })

      by_pass : over u.board ≡ false → Passes t u → IsPast v (tick K u)
      by_pass o (inl e) = absurd (cc)
      by_pass o (inr l) = by_end o l (is_by_clock (tick K u).board.end) refl

      by_over : (c : Bool) → over u.board ≡ c → IsPast v (tick K u)
      by_over true o = subst (λ (x : World A S). IsPast v x) (let still : u ≡ tick K u = rw o refl in still) h
      by_over false o = by_pass o h.passes

  -- where idle moves before t have left nobody ready, those that go on come past t
  next_move : (v : World A S) (queue : List Event) → moves_before t queue v ≡ false → over v.board ≡ false → is_by_clock (moved K queue v).board.end ≡ false → t ≤ (moved K queue v).board.clock
  next_move v (x ∷ xs) m o e = absurd (cc)
  next_move v [] m o e = by_move (clock_move (least v.sleepers) (next_entry v.board.script) v.board.until) m e
    where
      by_move : (i : Idle) → is_jump_before t i ≡ false → is_by_clock (clock_moves i v).board.end ≡ false → t ≤ (clock_moves i v).board.clock
      by_move (Jump s) m' e' =
          (let here : (arrive_all s v.board.script (record v.board { clock = s })).clock ≡ s = clock_all s v.board.script (record v.board { clock = s }) in
          let late : t ≤ s = grind (arith, nat_tests) in
          omega (arith, here, late))
      by_move Quiet m' e' = absurd (cc)
      by_move Script m' e' = absurd (cc)

  ended_so : (x : Option End) → is_by_clock x ≡ true → is_some x ≡ true
  ended_so None q = cc
  ended_so (Some y) q = refl

  late_passes : (u : World A S) → IsLate u → Passes t u
  late_passes u (inl c) = inl (ended_so u.board.end c)
  late_passes u (inr l) = inr l

  record IsBeyond (u : World A S) : Type 0 where
    pub late : IsLate u
    pub timely : over u.board ≡ false → IsTimely u

  beyond : (v : World A S) → IsTimely v → IsAtRest K t v → over v.board ≡ false → v.ready ≡ [] → IsBeyond (idled K v)
  beyond v k rest o e = subst IsBeyond (sym (idled_first K v o e)) (by_first (is_by_clock Next.board.end) refl)
    where
      Next : World A S
      Next = moved K v.board.queue v

      by_last : On v Next → t ≤ Next.board.clock → (c : Bool) → is_by_clock (idled K Next).board.end ≡ c → IsBeyond (idled K Next)
      by_last m late true q = record { late = inl q; timely = λ o'. absurd (let q' = ended_so (idled K Next).board.end q in cc) }
      by_last m late false q =
          (let r : On Next (idled K Next) = idle_on K (idle_bound Next.board) Next.ready Next m.timely q in
          record { late = inr (let l : Next.board.clock ≤ (idled K Next).board.clock = r.clock in omega (arith, l, late)); timely = λ o'. r.timely })

      by_first : (c : Bool) → is_by_clock Next.board.end ≡ c → IsBeyond (idled K Next)
      by_first true q =
          (let over_now : over Next.board ≡ true = ended_so Next.board.end q in
          let stays : idled K Next ≡ Next = over_stays K (idle_bound Next.board) Next.ready Next over_now in
          subst IsBeyond (sym stays) (record { late = inl q; timely = λ o'. absurd (cc) }))
      by_first false q = by_last (moved_on K v.board.queue v k q) (next_move v v.board.queue (rest o e) o q) (is_by_clock (idled K Next).board.end) refl

  leaves_behind : (v : World A S) → IsEarly v → IsTimely v → IsAtRest K t v → over v.board ≡ false → v.ready ≡ [] → IsPast v (idled K v)
  leaves_behind v h k rest o e =
      (let b : IsBeyond (idled K v) = beyond v k rest o e in
      record {
        stopped = inr e;
        seen = ap (before t) (seen_idle K (idle_bound v.board) v.ready v) ∙ h.seen;
        stops = λ s n l. no_line_late s n (idled K v) l b.late ∙ sym (no_line_going s n v.board o);
        passes = late_passes (idled K v) b.late;
        timely = b.timely;
      })

  abbrev IsTimelyOrOver : World A S → Type 0
  IsTimelyOrOver u = over u.board ≡ false → IsTimely u

  -- both runs are one and settled, or one has gone past t
  abbrev Beside : ℕ → World A S → Type 0
  Beside n w = ((run_before K t n w ≡ run K n w) × IsSettled (run K n w) × IsTimelyOrOver (run K n w)) ⊎ IsPast (run_before K t n w) (run K n w)

  over_past : (x : World A S) → IsEarly x → over x.board ≡ true → IsPast x x
  over_past x h o = record { stopped = inl o; seen = h.seen; stops = λ s b l. refl; passes = inl o; timely = λ o'. absurd (cc) }

  -- one step of both from one world
  step_beside : (x : World A S) → IsEarly x → IsSettled x → IsTimely x → over x.board ≡ false
      → ((tick_before K t x ≡ tick K x) × IsSettled (tick K x) × IsTimelyOrOver (tick K x)) ⊎ IsPast (tick_before K t x) (tick K x)
  step_beside x h s k o = by_ready x.ready refl
    where
      Goal : World A S → World A S → Type 0
      Goal v u = ((v ≡ u) × IsSettled u × IsTimelyOrOver u) ⊎ IsPast v u

      by_ready : (xs : List (Activity A)) → x.ready ≡ xs → Goal (tick_before K t x) (tick K x)
      by_ready [] e = (let long : 0 < length x.ready = s o in let short : length x.ready ≡ 0 = ap length e in absurd (omega (arith, long, short)))
      by_ready (a ∷ rest) e = subst (λ (v : World A S). Goal v (tick K x)) (sym first) (subst (λ (u : World A S). Goal (idled_before K t Y) u) (sym second) (by_case (over V.board) V.ready refl refl))
        where
          Y : World A S
          Y = acted K a rest x (K.step a.self x.shared)

          V : World A S
          V = idled_before K t (acted K a rest x (K.step a.self x.shared))

          first : tick_before K t x ≡ idled_before K t (acted K a rest x (K.step a.self x.shared))
          first = rw o (rw e refl)

          second : tick K x ≡ idled K (acted K a rest x (K.step a.self x.shared))
          second = rw o (rw e refl)

          goes : idled K (idled_before K t (acted K a rest x (K.step a.self x.shared))) ≡ idled K (acted K a rest x (K.step a.self x.shared))
          goes = (let y = acted K a rest x (K.step a.self x.shared) in idle_goes_on K t (idle_bound y.board) y.ready y refl)

          timely_v : IsTimely (idled_before K t (acted K a rest x (K.step a.self x.shared)))
          timely_v = (let y = acted K a rest x (K.step a.self x.shared) in timely_idle_before K t (idle_bound y.board) y.ready y (acted_on K a rest x (K.step a.self x.shared) k).timely)

          early_v : IsEarly (idled_before K t (acted K a rest x (K.step a.self x.shared)))
          early_v = (let y = acted K a rest x (K.step a.self x.shared) in early_idle (idle_bound y.board) y.ready y (early_acted a rest x (K.step a.self x.shared) h))

          rest_v : IsAtRest K t (idled_before K t (acted K a rest x (K.step a.self x.shared)))
          rest_v = (let y = acted K a rest x (K.step a.self x.shared) in rests_enough K t (idle_bound y.board) y.ready y refl (omega arith))

          settled_case : IsSettled (idled_before K t (acted K a rest x (K.step a.self x.shared))) → Goal (idled_before K t (acted K a rest x (K.step a.self x.shared))) (idled K (acted K a rest x (K.step a.self x.shared)))
          settled_case q =
              (let y = acted K a rest x (K.step a.self x.shared) in
              let v = idled_before K t y in
              let same : idled K v ≡ v = settled_idled v q in
              let one : v ≡ idled K y = sym same ∙ goes in
              inl (one, subst IsSettled one q, λ o'. subst IsTimely one timely_v))
            where
              settled_idled : (v : World A S) → IsSettled v → idled K v ≡ v
              settled_idled v q' = by_c (over v.board) v.ready refl refl
                where
                  by_c : (c : Bool) (xs : List (Activity A)) → over v.board ≡ c → v.ready ≡ xs → idle_while K (idle_bound v.board) v.ready v ≡ v
                  by_c true xs o' e' = over_stays K (idle_bound v.board) v.ready v o'
                  by_c false (z ∷ zs) o' e' = ap (λ (l : List (Activity A)). idle_while K (idle_bound v.board) l v) e' ∙ busy_stays K (idle_bound v.board) z zs v
                  by_c false [] o' e' = (let long : 0 < length v.ready = q' o' in let short : length v.ready ≡ 0 = ap length e' in absurd (omega (arith, long, short)))

          by_case : (c : Bool) (xs : List (Activity A)) → (let v = idled_before K t (acted K a rest x (K.step a.self x.shared)) in over v.board ≡ c → v.ready ≡ xs → Goal v (idled K (acted K a rest x (K.step a.self x.shared))))
          by_case true xs o' e' = settled_case (λ p. absurd (cc))
          by_case false (z ∷ zs) o' e' = settled_case (λ p. (let v = idled_before K t (acted K a rest x (K.step a.self x.shared)) in let there : length v.ready ≡ suc (length zs) = ap length e' in omega (arith, there)))
          by_case false [] o' e' =
              (let y = acted K a rest x (K.step a.self x.shared) in
              let v = idled_before K t y in
              inr (subst (λ (u : World A S). IsPast v u) goes (leaves_behind v early_v timely_v rest_v o' e')))

  beside : (n : ℕ) (w : World A S) → IsEarly w → IsSettled w → IsTimely w → Beside n w
  beside zero w h s k = inl (refl, s, λ o. k)
  beside (suc n) w h s k = elim (beside n w h s k) [
    | inr p ↦ inr (past_on (run_before K t n w) (run K n w) p)
    | inl q ↦ by_over (run_before K t n w) (run K n w) q (early_run n w h) (over (run K n w).board) refl
  ]
    where
      by_over : (v u : World A S) → (v ≡ u) × IsSettled u × IsTimelyOrOver u → IsEarly v → (c : Bool) → over u.board ≡ c
          → ((tick_before K t v ≡ tick K u) × IsSettled (tick K u) × IsTimelyOrOver (tick K u)) ⊎ IsPast (tick_before K t v) (tick K u)
      by_over v u q h' true o =
          (let p : IsPast u u = over_past u (subst IsEarly q.0 h') o in
          inr (past_on v u (subst (λ (x : World A S). IsPast x u) (sym q.0) p)))
      by_over v u q h' false o =
          subst (λ (x : World A S). ((tick_before K t x ≡ tick K u) × IsSettled (tick K u) × IsTimelyOrOver (tick K u)) ⊎ IsPast (tick_before K t x) (tick K u)) (sym q.0) (step_beside u (subst IsEarly q.0 h') q.1 (q.2 o) o)

  -- what a run that passes t saw before t is what the run that stops before t saw, and so is a panic before t
  pub record IsCutAt (n : ℕ) (w : World A S) : Type 0 where
    pub stopped : IsStopped (run_before K t n w)
    pub seen : before t (run K n w).board.seen ≡ (run_before K t n w).board.seen
    pub stops : StopsAlike (run_before K t n w) (run K n w)

  pub cut_at : (n : ℕ) (w : World A S) → IsEarly w → IsSettled w → IsTimely w → Passes t (run K n w) → IsCutAt n w
  cut_at n w h s k p = elim (beside n w h s k) [
    | inr q ↦ record { stopped = q.stopped; seen = q.seen; stops = q.stops }
    | inl q ↦ (let r = by_pass (run_before K t n w) (run K n w) q.0 (early_run n w h) p in record { stopped = r.0; seen = r.1; stops = λ s b l. ap (λ (x : World A S). stopped_at s b x.board) (sym q.0) })
  ]
    where
      by_pass : (v u : World A S) → v ≡ u → IsEarly v → Passes t u → IsStopped v × (before t u.board.seen ≡ v.board.seen)
      by_pass v u e h' (inl o) = (inl (ap (λ (x : World A S). over x.board) e ∙ o), ap (λ (x : World A S). before t x.board.seen) (sym e) ∙ h'.seen)
      by_pass v u e h' (inr l) = (let below : v.board.clock < t = h'.clock in let same : v.board.clock ≡ u.board.clock = ap (λ (x : World A S). x.board.clock) e in absurd (omega (arith, l, below, same)))

  -- and a run that has stopped before t passes it where it goes on
  pub passes_on : (n : ℕ) (w : World A S) → IsEarly w → IsSettled w → IsTimely w → IsStopped (run_before K t n w) → Passes t (run K n w)
  passes_on n w h s k p = elim (beside n w h s k) [
    | inr q ↦ q.passes
    | inl q ↦ by_stop (run_before K t n w) (run K n w) q.0 q.1 p
  ]
    where
      by_stop : (v u : World A S) → v ≡ u → IsSettled u → IsStopped v → Passes t u
      by_stop v u e q (inl o) = inl (ap (λ (x : World A S). over x.board) (sym e) ∙ o)
      by_stop v u e q (inr r) = by_over (over u.board) refl
        where
          none : length u.ready ≡ 0
          none = ap (λ (x : World A S). length x.ready) (sym e) ∙ ap length r

          by_over : (c : Bool) → over u.board ≡ c → Passes t u
          by_over true o = inl o
          by_over false o = (let long : 0 < length u.ready = q o in let short : length u.ready ≡ 0 = none in absurd (omega (arith, long, short)))

-- the clock never passes the script's end
module _ {A S : Type 0} (K : Kind A S) where
  pub record IsWithin (until : ℕ) (w : World A S) : Type 0 where
    pub end : w.board.until ≡ until
    pub clock : w.board.clock ≤ until

  within_moved : (until : ℕ) (queue : List Event) (w : World A S) → IsWithin until w → IsWithin until (moved K queue w)
  within_moved until (e ∷ rest) w h = record { end = h.end; clock = h.clock }
  within_moved until [] w h = by_move (clock_move (least w.sleepers) (next_entry w.board.script) w.board.until) refl
    where
      by_move : (i : Idle) → clock_move (least w.sleepers) (next_entry w.board.script) w.board.until ≡ i → IsWithin until (clock_moves i w)
      by_move Quiet f = record { end = h.end; clock = h.clock }
      by_move Script f = record { end = h.end; clock = (let e : w.board.until ≡ until = h.end in omega (arith, e)) }
      by_move (Jump s) f =
          (let soon = jump_soonest (least w.sleepers) (next_entry w.board.script) w.board.until s f in
          let low : s ≤ w.board.until = soon.2 in
          let here : (arrive_all s w.board.script (record w.board { clock = s })).clock ≡ s = clock_all s w.board.script (record w.board { clock = s }) in
          let e : w.board.until ≡ until = h.end in
          record { end = until_all s w.board.script (record w.board { clock = s }) ∙ e; clock = omega (arith, here, low, e) })

  within_idle : (until n : ℕ) (xs : List (Activity A)) (w : World A S) → IsWithin until w → IsWithin until (idle_while K n xs w)
  within_idle until zero xs w h = h
  within_idle until (suc n) (x ∷ xs) w h = h
  within_idle until (suc n) [] w h = (let v = moved K w.board.queue w in if_keeps (IsWithin until) (over w.board) w (idle_while K n v.ready v) h (within_idle until n v.ready v (within_moved until w.board.queue w h)))

  within_tick : (until : ℕ) (w : World A S) → IsWithin until w → IsWithin until (tick K w)
  within_tick until w h = if_keeps (IsWithin until) (over w.board) w (stepped K w.ready w) h (by_ready w.ready)
    where
      by_ready : (xs : List (Activity A)) → IsWithin until (stepped K xs w)
      by_ready [] = h
      by_ready (a ∷ rest) =
          (let v = acted K a rest w (K.step a.self w.shared) in
          let r = now_acted (λ c u es os. (u ≡ until) × (c ≤ until)) K a rest w (K.step a.self w.shared) (h.end, h.clock) (λ o e. (h.end, h.clock)) in
          within_idle until (idle_bound v.board) v.ready v (record { end = r.0; clock = r.1 }))

  pub within_run : (until n : ℕ) (w : World A S) → IsWithin until w → IsWithin until (run K n w)
  within_run until zero w h = h
  within_run until (suc n) w h = within_tick until (run K n w) (within_run until n w h)

-- what is left of a script was in it
abbrev pub Each : (Entry → Type 0) → List Entry → Type 0
Each Q [] = Unit {0}
Each Q (e ∷ es) = Q e × Each Q es

each_all : (Q : Entry → Type 0) (s : ℕ) (es : List Entry) (b : Board) → Each Q es → Each Q (arrive_all s es b).script
each_all Q s [] b h = tt
each_all Q s (e ∷ es) b h = if_keeps (λ (c : Board). Each Q c.script) (e.at == s) _ _ (each_all Q s es (arrive e.act b) h.1) h

module _ {A S : Type 0} (K : Kind A S) (Q : Entry → Type 0) where
  abbrev Left : World A S → Type 0
  Left w = Each Q w.board.script

  left_moved : (queue : List Event) (w : World A S) → Left w → Left (moved K queue w)
  left_moved (e ∷ rest) w h = h
  left_moved [] w h = by_move (clock_move (least w.sleepers) (next_entry w.board.script) w.board.until)
    where
      by_move : (i : Idle) → Left (clock_moves i w)
      by_move (Jump s) = each_all Q s w.board.script (record w.board { clock = s }) h
      by_move Quiet = h
      by_move Script = h

  left_idle : (t n : ℕ) (xs : List (Activity A)) (w : World A S) → Left w → Left (idle_before K t n xs w)
  left_idle t zero xs w h = h
  left_idle t (suc n) (x ∷ xs) w h = h
  left_idle t (suc n) [] w h = (let v = moved K w.board.queue w in if_keeps Left (not (over w.board) && moves_before t w.board.queue w) (idle_before K t n v.ready v) w (left_idle t n v.ready v (left_moved w.board.queue w h)) h)

  left_tick : (t : ℕ) (w : World A S) → Left w → Left (tick_before K t w)
  left_tick t w h = if_keeps Left (over w.board) w (stepped_before K t w.ready w) h (by_ready w.ready)
    where
      by_ready : (xs : List (Activity A)) → Left (stepped_before K t xs w)
      by_ready [] = h
      by_ready (a ∷ rest) = (let v = acted K a rest w (K.step a.self w.shared) in left_idle t (idle_bound v.board) v.ready v (now_acted (λ c u es os. Each Q es) K a rest w (K.step a.self w.shared) h (λ o e. h)))

  pub left_run : (t n : ℕ) (w : World A S) → Left w → Left (run_before K t n w)
  left_run t zero w h = h
  left_run t (suc n) w h = left_tick t (run_before K t n w) (left_run t n w h)
