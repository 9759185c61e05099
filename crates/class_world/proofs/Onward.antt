-- A run goes on from moment to moment, and ends by the clock.
use Rattle.std.proofs.Common.{◌≡◌, ℕ, suc, ◌+◌, ◌≤◌, ◌<◌, Bool, true, false, if◌then◌else◌, nat_lt, ◌==◌, List, [], ◌∷◌, ◌++◌, length, length-append, Option, Some, None, refl, ap, sym, ◌∙◌, arith}
use Rattle.std.proofs.lemmas.Bool.Decides.{nat_tests}
use Rattle.board_world.specs.declared.events.Event.{Event}
use Rattle.board_world.specs.declared.clock.Idle.{Idle}
use Rattle.board_world.specs.declared.clock.Idle.TheVariants.{Jump}
use Rattle.board_world.specs.Limits.{queue_limit}
use Rattle.board_world.specs.Rules.{clock_move}
use Rattle.board_world.specs.Board.{Board, Act, Entry, Down, Up, Raise, Unplug, raised, went_down, went_up, held_since, arrive, arrive_all, next_entry, over}
use Rattle.board_world.specs.Waiting.{least}
use Rattle.board_world.specs.Kinds.{Kind}
use Rattle.board_world.specs.Activities.{Activity, World}
use Rattle.board_world.specs.World.{start, jump, clock_moves, moved, idle_bound, idled, acted, tick, stepped}
use Rattle.board_world.specs.Runs.{run}
use Rattle.board_world.specs.Simulation.{IsSettled}
use Rattle.board_world.specs.Before.{IsRisingFrom, is_jump_before, moves_before, then_later, idled_before, stepped_before, run_before}
use Rattle.board_world.proofs.Laws.{over_stays, first_before, run_on_to, run_settled, idled_first}
use Rattle.class_world.specs.Hearing.{with_heard, raised_at}
use Rattle.class_world.specs.Keeping.{raised_all, with_kept, moment_run}
use Rattle.class_world.proofs.Arriving.{kept_arrives, raised_scripted}
use Rattle.class_world.proofs.Moments.{left_run, idle_goes_on}
use Rattle.class_world.proofs.Scripts.{early, late, rising_heard, early_heard}
use Rattle.class_world.proofs.Once.{world_early}
use Rattle.class_world.proofs.Kept.{early_raised, late_raised, raised_behind, each_early, before_sum}

module _ {A S : Type 0} (K : Kind A S) where
  -- the run on a script with events of a moment to which it hasn't come is the run without them, in whose script they are still to come
  pub given_so_far : (main : ℕ) (shared : S) (until t n : ℕ) (events : List Event) (own : List Entry) → IsRisingFrom 0 own
      → run_before K t n (start K main shared until (with_heard (raised_at t events) own)) ≡ with_kept t events (run_before K t n (start K main shared until own))
  given_so_far main shared until t n events own h =
      (let ks = raised_at t events in
      let more = with_heard ks own in
      let rising = rising_heard ks own h in
      let u = λ (j : ℕ). run_before K t j (start K main shared until (early t own)) in
      let same : early t more ≡ early t own = early_heard t ks own h ∙ ap (λ (es : List Entry). with_heard es (early t own)) (early_raised t events) in
      let plain = world_early K main shared until t n own h in
      let kept = world_early K main shared until t n more rising ∙ ap (λ (es : List Entry). then_later (late t more) (run_before K t n (start K main shared until es))) same in
      let behind : with_heard ks ((u n).board.script ++ late t own) ≡ (u n).board.script ++ late t more =
      raised_behind t events (u n).board.script (late t own) (left_run K (λ e. e.at < t) t n (start K main shared until (early t own)) (each_early t own))
      ∙ ap (λ (es : List Entry). (u n).board.script ++ es) (sym (late_raised t events own h)) in
      sym (ap (with_kept t events) plain
      ∙ ap (λ (es : List Entry). record (u n) { board = record (u n).board { script = es } }) behind
      ∙ sym kept))

  -- a run whose last step was settled goes on behind it through the moment
  pub goes_through : (t m k : ℕ) (w : World A S) → IsSettled (run_before K t m w) → run_before K (t + 1) (k + suc m) w ≡ run_before K (t + 1) k (idled_before K (t + 1) (run_before K t (suc m) w))
  goes_through t m k w s = before_sum K (t + 1) (suc m) k w ∙ ap (run_before K (t + 1) k) (run_on_to K t (t + 1) (omega arith) m w s)

  -- one that waits for what comes past the script's end ends by the clock
  pub ends_by_clock : (t m : ℕ) (w : World A S) → IsSettled (run_before K t m w) → (let v = run_before K t (suc m) w in over v.board ≡ false → v.ready ≡ [] → v.board.queue ≡ []
      → (i : Idle) → clock_move (least v.sleepers) (next_entry v.board.script) v.board.until ≡ i → over (clock_moves i v).board ≡ true → run K (suc m) w ≡ clock_moves i v)
  ends_by_clock t m w s on nobody none i says ends =
      (let x = run_before K t m w in
      let v = run_before K t (suc m) w in
      let one : run K (suc m) w ≡ idled K v = ap (tick K) (sym (run_settled K t m w s)) ∙ by_ready (over x.board) x.ready refl refl in
      let is : moved K v.board.queue v ≡ clock_moves i v = ap (λ l. moved K l v) none ∙ ap (λ j. clock_moves j v) says in
      let last : idled K (clock_moves i v) ≡ clock_moves i v = over_stays K (idle_bound (clock_moves i v).board) (clock_moves i v).ready (clock_moves i v) ends in
      one ∙ idled_first K v on nobody ∙ ap (idled K) is ∙ last)
    where
      X : World A S
      X = run_before K t m w

      by_ready : (c : Bool) (xs : List (Activity A)) → over (run_before K t m w).board ≡ c → (run_before K t m w).ready ≡ xs → tick K (run_before K t m w) ≡ idled K (run_before K t (suc m) w)
      by_ready true xs o e = absurd (let same : run_before K t (suc m) w ≡ run_before K t m w = rw o refl in let ended : over (run_before K t (suc m) w).board ≡ true = ap (λ v. over v.board) same ∙ o in cc)
      by_ready false [] o e = absurd (let long : 0 < length (run_before K t m w).ready = s o in let short : length (run_before K t m w).ready ≡ 0 = ap length e in omega (arith, long, short))
      by_ready false (a ∷ rest) o e =
          (let y = acted K a rest (run_before K t m w) (K.step a.self (run_before K t m w).shared) in
          let mine : tick K (run_before K t m w) ≡ idled K y = (let x = run_before K t m w in ap (λ (c : Bool). if c then x else stepped K x.ready x) o ∙ ap (λ (xs : List (Activity A)). stepped K xs x) e) in
          let its : run_before K t (suc m) w ≡ idled_before K t y = (let x = run_before K t m w in ap (λ (c : Bool). if c then x else stepped_before K t x.ready x) o ∙ ap (λ (xs : List (Activity A)). stepped_before K t xs x) e) in
          mine ∙ sym (idle_goes_on K t (idle_bound y.board) y.ready y refl) ∙ ap (idled K) (sym its))

-- behind as many events as the queue holds, more change nothing
full_all : (events more : List Event) (b : Board) → queue_limit ≤ length b.queue → raised_all more b ≡ b
full_all events [] b h = refl
full_all events (e ∷ es) b h = (let full : nat_lt (length b.queue) queue_limit ≡ false = grind (arith, nat_tests) in rw full (full_all events es b h))

pub raised_enough : (events more : List Event) (b : Board) → queue_limit ≤ length b.queue + length events → raised_all (events ++ more) b ≡ raised_all events b
raised_enough [] more b h = full_all [] more b (omega (arith, h))
raised_enough (e ∷ es) more b h = by_room (nat_lt (length b.queue) queue_limit) refl (λ c k. raised_enough es more c k)
  where
    by_room : (c : Bool) → nat_lt (length b.queue) queue_limit ≡ c → ((d : Board) → queue_limit ≤ length d.queue + length es → raised_all (es ++ more) d ≡ raised_all es d)
        → raised_all (es ++ more) (if c then record b { queue = b.queue ++ e ∷ [] } else b) ≡ raised_all es (if c then record b { queue = b.queue ++ e ∷ [] } else b)
    by_room true q ih = ih (record b { queue = b.queue ++ e ∷ [] }) (let l = length-append b.queue (e ∷ []) in omega (arith, l, h))
    by_room false q ih = ih b (let full : queue_limit ≤ length b.queue = grind (arith, nat_tests) in omega (arith, full))

-- what stands in a board's script is replaced by what is left of a moment's entries
if_scripted : (es : List Entry) (c : Bool) (x y x' y' : Board) → x ≡ record x' { script = es } → y ≡ record y' { script = es } → (if c then x else y) ≡ record (if c then x' else y') { script = es }
if_scripted es true x y x' y' h k = h
if_scripted es false x y x' y' h k = k

arrive_script : (act : Act) (es : List Entry) (b : Board) → arrive act (record b { script = es }) ≡ record (arrive act b) { script = es }
arrive_script act es b = by_act act
  where
    of_raised : (e : Event) (c : Board) → raised e (record c { script = es }) ≡ record (raised e c) { script = es }
    of_raised e c = raised_scripted e c es

    of_down : (n : ℕ) (o : Option ℕ) → went_down n o (record b { script = es }) ≡ record (went_down n o b) { script = es }
    of_down n None = of_raised _ b
    of_down n (Some since) = refl

    of_up : (n : ℕ) (o : Option ℕ) → went_up n o (record b { script = es }) ≡ record (went_up n o b) { script = es }
    of_up n None = refl
    of_up n (Some since) = ap (raised _) (of_raised _ b) ∙ of_raised _ (raised _ b)

    by_act : (act : Act) → arrive act (record b { script = es }) ≡ record (arrive act b) { script = es }
    by_act (Down n) =
        if_scripted es (n == 1) _ _ (record (went_down 1 b.a_since b) { a_since = held_since b.clock b.a_since }) (record (went_down 2 b.b_since b) { b_since = held_since b.clock b.b_since })
        (ap (λ (c : Board). record c { a_since = held_since b.clock b.a_since }) (of_down 1 b.a_since)) (ap (λ (c : Board). record c { b_since = held_since b.clock b.b_since }) (of_down 2 b.b_since))
    by_act (Up n) =
        if_scripted es (n == 1) _ _ (record (went_up 1 b.a_since b) { a_since = None }) (record (went_up 2 b.b_since b) { b_since = None })
        (ap (λ (c : Board). record c { a_since = None }) (of_up 1 b.a_since)) (ap (λ (c : Board). record c { b_since = None }) (of_up 2 b.b_since))
    by_act (Raise e) = of_raised e b
    by_act (Unplug port) = refl

all_scripted : (t : ℕ) (xs : List Entry) (es : List Entry) (b : Board) → arrive_all t xs (record b { script = es }) ≡ arrive_all t xs b
all_scripted t [] es b = refl
all_scripted t (x ∷ xs) es b = by_at (x.at == t) (ap (arrive_all t xs) (arrive_script x.act es b) ∙ all_scripted t xs es (arrive x.act b))
  where
    by_at : (c : Bool) → arrive_all t xs (arrive x.act (record b { script = es })) ≡ arrive_all t xs (arrive x.act b)
        → (if c then arrive_all t xs (arrive x.act (record b { script = es })) else record b { script = x ∷ xs }) ≡ (if c then arrive_all t xs (arrive x.act b) else record b { script = x ∷ xs })
    by_at true ih = ih
    by_at false ih = refl

-- so a moment's events behind as many as the queue holds change nothing where the clock comes to it next
module _ {A S : Type 0} (K : Kind A S) (t : ℕ) (events more : List Event) (w : World A S) (nobody : w.ready ≡ []) (on : over w.board ≡ false) (none : w.board.queue ≡ []) (rising : IsRisingFrom t w.board.script) where
  abbrev IsDue : List Event → Type 0
  IsDue es = clock_move (least w.sleepers) (next_entry (with_heard (raised_at t es) w.board.script)) w.board.until ≡ Jump t

  come : (es : List Event) → IsDue es → idled_before K (t + 1) (with_kept t es w) ≡ idled_before K (t + 1) (jump t (with_kept t es w))
  come es says =
      (let v = with_kept t es w in
      let soon : nat_lt t (t + 1) ≡ true = grind (arith, nat_tests) in
      let moves : moves_before (t + 1) v.board.queue v ≡ true = ap (λ l. moves_before (t + 1) l v) none ∙ ap (is_jump_before (t + 1)) says ∙ soon in
      let is : moved K v.board.queue v ≡ jump t v = ap (λ l. moved K l v) none ∙ ap (λ i. clock_moves i v) says in
      sym (first_before K (t + 1) (t + 1) (omega arith) v nobody on moves) ∙ ap (idled_before K (t + 1)) is)

  abbrev arrived_with : List Event → Board
  arrived_with es = arrive_all t (with_heard (raised_at t es) w.board.script) (record w.board { clock = t })

  same_board : queue_limit ≤ length events → arrived_with (events ++ more) ≡ arrived_with events
  same_board l =
      (let now : Board = record w.board { clock = t } in
      kept_arrives t (events ++ more) w.board.script now rising
      ∙ raised_enough events more (arrive_all t w.board.script now) (omega (arith, l))
      ∙ sym (kept_arrives t events w.board.script now rising))

  at_moment : (es : List Event) → jump t (with_kept t es w) ≡ record (jump t w) { board = arrived_with es }
  at_moment es = ap (λ (b : Board). record (jump t w) { board = b }) (all_scripted t (with_heard (raised_at t es) w.board.script) (with_heard (raised_at t es) w.board.script) (record w.board { clock = t }))

  pub kept_enough : (k : ℕ) → queue_limit ≤ length events → IsDue events → IsDue (events ++ more) → moment_run K t k (events ++ more) w ≡ moment_run K t k events w
  kept_enough k l due due' =
      ap (run_before K (t + 1) k)
      (come (events ++ more) due'
      ∙ ap (idled_before K (t + 1)) (at_moment (events ++ more) ∙ ap (λ (b : Board). record (jump t w) { board = b }) (same_board l) ∙ sym (at_moment events))
      ∙ sym (come events due))
