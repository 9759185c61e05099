-- A board that is given events from moment to moment is the run on its script with these events as entries.
use Rattle.std.proofs.Common.{◌≡◌, ℕ, zero, suc, ◌+◌, ◌≤◌, ◌<◌, Bool, true, false, if◌then◌else◌, nat_le, nat_lt, List, [], ◌∷◌, ◌++◌, refl, ap, sym, ◌∙◌, subst, arith, not, ◌&&◌}
use Rattle.std.proofs.lemmas.Bool.Decides.{nat_tests}
use Rattle.board_world.specs.declared.events.Event.{Event}
use Rattle.board_world.specs.Board.{Entry, Raise, over}
use Rattle.board_world.specs.Kinds.{Kind}
use Rattle.board_world.specs.Activities.{Activity, World}
use Rattle.board_world.specs.World.{start, moved, idle_bound}
use Rattle.board_world.specs.Simulation.{IsSettled}
use Rattle.board_world.specs.Before.{IsRisingFrom, then_later, idled_before, tick_before, run_before, moves_before, idle_before}
use Rattle.board_world.proofs.Laws.{run_alike, run_on_to}
use Rattle.class_world.specs.Hearing.{inserted, with_heard, raised_at}
use Rattle.class_world.specs.Keeping.{with_kept, moment_run}
use Rattle.class_world.proofs.Moments.{Each, left_run}
use Rattle.class_world.proofs.Scripts.{early, late, rising_heard, early_heard, late_placed}
use Rattle.class_world.proofs.Once.{world_early}

-- events of a moment aren't before it
pub early_raised : (t : ℕ) (es : List Event) → early t (raised_at t es) ≡ []
early_raised t [] = refl
early_raised t (e ∷ es) = (let test : nat_lt t t ≡ false = grind (arith, nat_tests) in rw test (early_raised t es))

pub late_raised : (t : ℕ) (es : List Event) (own : List Entry) → IsRisingFrom 0 own → late t (with_heard (raised_at t es) own) ≡ with_heard (raised_at t es) (late t own)
late_raised t [] own h = refl
late_raised t (e ∷ es) own h =
    (let x : Entry = record { at = t; act = Raise e } in
    late_raised t es (inserted x own) (rising_heard (x ∷ []) own h) ∙ ap (with_heard (raised_at t es)) (late_placed t x own (omega arith)))

-- they stand behind all that comes before
placed_behind : (t : ℕ) (x : Entry) (xs ys : List Entry) → t ≤ x.at → Each (λ e. e.at < t) xs → inserted x (xs ++ ys) ≡ xs ++ inserted x ys
placed_behind t x [] ys l h = refl
placed_behind t x (e ∷ es) ys l h =
    (let first : e.at < t = h.0 in
    let test : nat_le e.at x.at ≡ true = grind (arith, nat_tests) in
    rw test (ap (λ (l' : List Entry). e ∷ l') (placed_behind t x es ys l h.1)))

pub raised_behind : (t : ℕ) (es : List Event) (xs ys : List Entry) → Each (λ e. e.at < t) xs → with_heard (raised_at t es) (xs ++ ys) ≡ xs ++ with_heard (raised_at t es) ys
raised_behind t [] xs ys h = refl
raised_behind t (e ∷ es) xs ys h =
    (let x : Entry = record { at = t; act = Raise e } in
    ap (with_heard (raised_at t es)) (placed_behind t x xs ys (omega arith) h) ∙ raised_behind t es xs (inserted x ys) h)

pub each_early : (t : ℕ) (es : List Entry) → Each (λ e. e.at < t) (early t es)
each_early t [] = tt
each_early t (e ∷ es) = by_test (nat_lt e.at t) refl (each_early t es)
  where
    by_test : (c : Bool) → nat_lt e.at t ≡ c → Each (λ x. x.at < t) (early t es) → Each (λ x. x.at < t) (if c then e ∷ early t es else early t es)
    by_test true q h = (grind (arith, nat_tests), h)
    by_test false q h = h

module _ {A S : Type 0} (K : Kind A S) where
  -- n steps and then k
  pub before_sum : (t n k : ℕ) (w : World A S) → run_before K t (k + n) w ≡ run_before K t k (run_before K t n w)
  before_sum t n zero w = (let same : zero + n ≡ n = omega arith in ap (λ (j : ℕ). run_before K t j w) same)
  before_sum t n (suc k) w = (let count : suc k + n ≡ suc (k + n) = omega arith in ap (λ (j : ℕ). run_before K t j w) count ∙ ap (tick_before K t) (before_sum t n k w))

  module _ (main : ℕ) (shared : S) (until : ℕ) where
    abbrev Begun : List Entry → World A S
    Begun es = start K main shared until es

    -- the run that has stopped before t goes on through t with these events as it would have with them in its script
    pub moment_on : (t n k : ℕ) (events : List Event) (own : List Entry) → IsRisingFrom 0 own → IsSettled (run_before K t n (Begun own))
        → run_before K (t + 1) (k + suc n) (Begun (with_heard (raised_at t events) own)) ≡ moment_run K t k events (run_before K t (suc n) (Begun own))
    moment_on t n k events own h s =
        (let ks = raised_at t events in
        let more = with_heard ks own in
        let rising = rising_heard ks own h in
        let u = λ (j : ℕ). run_before K t j (Begun (early t own)) in
        let same : early t more ≡ early t own = early_heard t ks own h ∙ ap (λ (es : List Entry). with_heard es (early t own)) (early_raised t events) in
        let plain = λ (j : ℕ). world_early K main shared until t j own h in
        let kept = λ (j : ℕ). world_early K main shared until t j more rising ∙ ap (λ (es : List Entry). then_later (late t more) (run_before K t j (Begun es))) same in
        let settled : IsSettled (run_before K t n (Begun more)) = subst IsSettled (sym (kept n)) (subst IsSettled (plain n) s) in
        let behind : with_heard ks ((u (suc n)).board.script ++ late t own) ≡ (u (suc n)).board.script ++ late t more =
        raised_behind t events (u (suc n)).board.script (late t own) (left_run K (λ e. e.at < t) t (suc n) (Begun (early t own)) (each_early t own))
        ∙ ap (λ (es : List Entry). (u (suc n)).board.script ++ es) (sym (late_raised t events own h)) in
        let shown : with_kept t events (run_before K t (suc n) (Begun own)) ≡ run_before K t (suc n) (Begun more) =
        ap (with_kept t events) (plain (suc n))
        ∙ ap (λ (es : List Entry). record (u (suc n)) { board = record (u (suc n)).board { script = es } }) behind
        ∙ sym (kept (suc n)) in
        before_sum (t + 1) (suc n) k (Begun more)
        ∙ ap (run_before K (t + 1) k) (run_on_to K t (t + 1) (omega arith) n (Begun more) settled)
        ∙ ap (λ (w : World A S). run_before K (t + 1) k (idled_before K (t + 1) w)) (sym shown))

  -- nobody is left to go on, and nothing comes before t
  waits : (t n : ℕ) (xs : List (Activity A)) (v : World A S) → v.ready ≡ xs → (xs ≡ []) → moves_before t v.board.queue v ≡ false → idle_before K t n xs v ≡ v
  waits t zero xs v r e m = refl
  waits t (suc n) (x ∷ xs) v r e m = cc
  waits t (suc n) [] v r e m = rw m (by_over (over v.board))
    where
      by_over : (c : Bool) → (if not c && false then (let u = moved K v.board.queue v in idle_before K t n u.ready u) else v) ≡ v
      by_over true = refl
      by_over false = refl

  pub rests : (t : ℕ) (v : World A S) → v.ready ≡ [] → moves_before t v.board.queue v ≡ false → idled_before K t v ≡ v
  rests t v e m = ap (λ (xs : List (Activity A)). idle_before K t (idle_bound v.board) xs v) e ∙ waits t (idle_bound v.board) [] v e refl m

  -- a later moment before which nothing comes is as good
  pub waits_on : (t u n : ℕ) (w : World A S) → t ≤ u → IsSettled (run_before K t n w) → (let v = run_before K t (suc n) w in v.ready ≡ [] → moves_before u v.board.queue v ≡ false → run_before K u (suc n) w ≡ v)
  waits_on t u n w l s e m =
      (let v = run_before K t (suc n) w in
      run_on_to K t u l n w s ∙ ap (λ (xs : List (Activity A)). idle_before K u (idle_bound v.board) xs v) e ∙ waits u (idle_bound v.board) [] v e refl m)

  pub settled_later : (t u n : ℕ) (w : World A S) → t ≤ u → IsSettled (run_before K t n w) → IsSettled (run_before K u n w)
  settled_later t u n w l s = subst IsSettled (sym (run_alike K t u l n w s)) s
