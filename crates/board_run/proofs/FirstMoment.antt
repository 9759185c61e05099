-- The first moment: main goes on before anything comes, with the kept events as entries behind it.
use Rattle.std.proofs.Common.{◌≡◌, ℕ, zero, suc, ◌+◌, ◌-◌, ◌<◌, ◌≤◌, ◌⊎◌, inl, inr, false, List, [], ◌∷◌, ◌++◌, length, Some, refl, sym, ap, ◌∙◌, subst, arith, append_assoc}
use Rattle.std.specs.Prelude.{IfSome}
use Rattle.board_world.specs.declared.events.Event.{Event}
use Rattle.board_world.specs.Observations.{Observation}
use Rattle.board_world.specs.Board.{Board as WorldBoard}
use Rattle.board_world.specs.Activities.{Activity, World}
use Rattle.board_world.specs.World.{idle_bound}
use Rattle.board_world.specs.Simulation.{IsSettled}
use Rattle.board_world.specs.Before.{IsRisingFrom, idled_before, run_before, moves_before}
use Rattle.class_world.specs.Keeping.{with_kept, moment_run}
use Rattle.class_world.proofs.Laws.{seen_idle_before, given_early, given_still, waits_on, none_before_first}
use Rattle.bank_model.specs.Fibers.{Fiber, Shared}
use Rattle.bank_model.specs.BoardMachine.{fibers}
use Rattle.board_outside.specs.Moves.{Move, seen_of}
use Rattle.board_outside.proofs.Laws.{seen_of-append}
use Rattle.board_run.specs.declared.engine.Engine.{Engine}
use Rattle.board_run.specs.Represents.{BoardState, Represents, entries_left, state_of}
use Rattle.board_run.specs.Run.{Reaches}
use Rattle.board_run.specs.Advancing.{IsBusy, IsStayed}
use Rattle.board_run.specs.Going.{next_moment, IsResting, Shows, LeadsTo, Sees}
use Rattle.board_run.proofs.Raises.{nobody_ready}
use Rattle.board_run.proofs.Further.{MakesTo, before_or_not}
use Rattle.board_run.proofs.Course.{busy_to}
use Rattle.board_run.proofs.AtMoment.{stayed_rests, none_up_to}

-- where somebody is ready no idle move is made
busy_rests : (image : List ℕ) (t : ℕ) (w : World Fiber Shared) → IsBusy w → idled_before (fibers image) t w ≡ w
busy_rests image t w b = by_ready w.ready refl
  where
    by_ready : (xs : List (Activity Fiber)) → w.ready ≡ xs → idled_before (fibers image) t w ≡ w
    by_ready (a ∷ others) e = busy_to image (Some t) w a others e
    by_ready [] e = (let long : 0 < length w.ready = b.1 in let short : length w.ready ≡ 0 = ap length e in absurd (omega (arith, long, short)))

busy_settled : (w : World Fiber Shared) → IsBusy w → IsSettled w
busy_settled w b o = b.1

module _ (image : List ℕ) (events : List Event) (old mid : Engine) (n : ℕ) (more : List Move) (busy_old : (w : World Fiber Shared) → Represents image (state_of old) w → IsBusy w)
    (rising : IsRisingFrom 0 (entries_left old)) (at : List ℕ → World Fiber Shared) (met : List Move) (s : Shows image (state_of old) at met) where
  enters : Reaches (Some 0) image at 0 [] met (state_of old)
  enters = record { at = at; shows = s.shows; free = s.free; met = s.met; settles = λ rest. refl }

  at_rises : (us : List ℕ) → IsRisingFrom 0 (at us).board.script
  at_rises us = subst (IsRisingFrom 0) (sym (ap (λ (p : WorldBoard). p.script) (s.shows us).board)) rising

  at_stays : (t : ℕ) (us : List ℕ) → idled_before (fibers image) t (at us) ≡ at us
  at_stays t us = busy_rests image t (at us) (busy_old (at us) (s.shows us))

  kept_stays : (us : List ℕ) → idled_before (fibers image) 1 (with_kept 0 events (at us)) ≡ with_kept 0 events (at us)
  kept_stays us = busy_rests image 1 (with_kept 0 events (at us)) (busy_old (at us) (s.shows us))

  -- a moment's run is the run of main with the kept events behind it, as long as main goes on
  still : (us : List ℕ) (j : ℕ) → IsSettled (run_before (fibers image) 0 j (at us)) → moment_run (fibers image) 0 j events (at us) ≡ with_kept 0 events (run_before (fibers image) 0 j (at us))
  still us j settled = ap (run_before (fibers image) 1 j) (kept_stays us) ∙ given_still (fibers image) 0 events (at us) (at_rises us) j settled

  later : (us : List ℕ) (j k : ℕ) → IsSettled (run_before (fibers image) 0 j (at us)) → moment_run (fibers image) 0 (k + suc j) events (at us) ≡ moment_run (fibers image) 0 k events (run_before (fibers image) 0 (suc j) (at us))
  later us j k settled = ap (run_before (fibers image) 1 (k + suc j)) (kept_stays us) ∙ given_early (fibers image) 0 events (at us) (at_rises us) j k settled

  module _ (b : BoardState) (makes : MakesTo (Some 0) image n more (state_of old) b) where
    pub made : (further : List ℕ) × Reaches (Some 0) image at (n + 0) ([] ++ further) (met ++ more) b × ((rest : List ℕ) (j : ℕ) → 0 ≤ j → j < n + 0 → IsBusy (run_before (fibers image) 0 j (idled_before (fibers image) 0 (at (([] ++ further) ++ rest)))))
    made = makes at 0 [] met enters

    busy_first : (rest : List ℕ) (j : ℕ) → j < n → IsBusy (run_before (fibers image) 0 j (at (made.0 ++ rest)))
    busy_first rest j l = subst (λ (w : World Fiber Shared). IsBusy (run_before (fibers image) 0 j w)) (at_stays 0 (made.0 ++ rest)) (made.2 rest j (omega arith) (omega (arith, l)))

    busy_moment : (rest : List ℕ) (j : ℕ) → j < n → IsBusy (moment_run (fibers image) 0 j events (at (made.0 ++ rest)))
    busy_moment rest j l =
        let b' = busy_first rest j l in
        subst IsBusy (sym (still (made.0 ++ rest) j (busy_settled (run_before (fibers image) 0 j (at (made.0 ++ rest))) b'))) (b'.0, b'.1)

    ran : (rest : List ℕ) → idled_before (fibers image) 0 (made.1.at rest) ≡ run_before (fibers image) 0 n (at (made.0 ++ rest))
    ran rest =
        let count : n + 0 ≡ n = omega arith in
        made.1.settles rest ∙ ap (run_before (fibers image) 0 (n + 0)) (at_stays 0 (made.0 ++ rest)) ∙ ap (λ k. run_before (fibers image) 0 k (at (made.0 ++ rest))) count

    -- what was seen, wherever the last of it was cut
    pub first_sees : Sees image 0 n events (seen_of more) at
    first_sees = record {
      used = made.0;
      saw = λ rest.
          let us = made.0 ++ rest in
          let w = made.1.at rest in
          let seen : (run_before (fibers image) 0 n (at us)).board.seen ≡ (at us).board.seen ++ seen_of more =
          ap (λ (v : World Fiber Shared). v.board.seen) (sym (ran rest)) ∙ seen_idle_before (fibers image) 0 (idle_bound w.board) w.ready w ∙ (made.1.met rest).seen ∙ seen_of-append met more
          ∙ ap (λ l. l ++ seen_of more) (sym (s.met us).seen) in
          by_count rest n refl ∙ seen;
      busy = busy_moment;
    }
      where
        by_count : (rest : List ℕ) (k : ℕ) → n ≡ k → (moment_run (fibers image) 0 n events (at (made.0 ++ rest))).board.seen ≡ (run_before (fibers image) 0 n (at (made.0 ++ rest))).board.seen
        by_count rest zero q =
            let us = made.0 ++ rest in
            let b' = busy_old (at us) (s.shows us) in
            let none : IsSettled (run_before (fibers image) 0 0 (at us)) = busy_settled (at us) b' in
            ap (λ k. (moment_run (fibers image) 0 k events (at us)).board.seen) q ∙ ap (λ (v : World Fiber Shared). v.board.seen) (still us 0 none) ∙ ap (λ k. (run_before (fibers image) 0 k (at us)).board.seen) (sym q)
        by_count rest (suc k) q =
            let us = made.0 ++ rest in
            let b' = busy_first rest k (omega (arith, q)) in
            let w = with_kept 0 events (run_before (fibers image) 0 (suc k) (at us)) in
            let same : suc k ≡ 0 + suc k = omega arith in
            ap (λ j. (moment_run (fibers image) 0 j events (at us)).board.seen) (q ∙ same)
            ∙ ap (λ (v : World Fiber Shared). v.board.seen) (later us k 0 (busy_settled (run_before (fibers image) 0 k (at us)) b'))
            ∙ seen_idle_before (fibers image) 1 (idle_bound w.board) w.ready w
            ∙ ap (λ j. (run_before (fibers image) 0 j (at us)).board.seen) (sym q)

  module _ (makes : MakesTo (Some 0) image n more (state_of old) (state_of mid)) (stayed : IsStayed mid) where
    abbrev pub used : List ℕ
    used = (made (state_of mid) makes).0

    abbrev pub worlds : List ℕ → World Fiber Shared
    worlds = (made (state_of mid) makes).1.at

    pub shows_mid : Shows image (state_of mid) worlds (met ++ more)
    shows_mid = (let r = (made (state_of mid) makes).1 in record { shows = r.shows; free = r.free; met = r.met })

    is_run : (rest : List ℕ) → worlds rest ≡ run_before (fibers image) 0 n (at (used ++ rest))
    is_run rest =
        let w = worlds rest in
        let h = shows_mid.shows rest in
        sym (stayed_rests image 0 mid w stayed h (λ q. none_before_first w.board.queue w (h.hears.queue ∙ q))) ∙ ran (state_of mid) makes rest

    -- main goes on still, or has ended the run: the events are still to come
    pub leads_early : ((w : World Fiber Shared) → Represents image (state_of mid) w → IsSettled w) → LeadsTo image 0 n events events (met ++ more) at (state_of mid)
    leads_early settled = record {
      used = used;
      worlds = worlds;
      shown = shows_mid;
      is = λ rest.
          let settled' : IsSettled (run_before (fibers image) 0 n (at (used ++ rest))) = subst IsSettled (is_run rest) (settled (worlds rest) (shows_mid.shows rest)) in
          ap (with_kept 0 events) (is_run rest) ∙ sym (still (used ++ rest) n settled');
      busy = busy_moment (state_of mid) makes;
    }

    -- nobody is left to go on: some instruction was made
    some_made : IsResting mid → (k : ℕ) × (n ≡ suc k)
    some_made r = by_count n refl
      where
        by_count : (k : ℕ) → n ≡ k → (k : ℕ) × (n ≡ suc k)
        by_count (suc k) q = (k, q)
        by_count zero q =
            let us = used ++ [] in
            let same : worlds [] ≡ at us = is_run [] ∙ ap (λ k. run_before (fibers image) 0 k (at us)) q in
            let nobody = nobody_ready image (state_of mid) (worlds []) (shows_mid.shows []) r.empty.running r.empty.raisers r.empty.spent r.empty.ready in
            let long : 0 < length (at us).ready = (busy_old (at us) (s.shows us)).1 in
            let short : length (at us).ready ≡ 0 = ap (λ (w : World Fiber Shared). length w.ready) (sym same) ∙ ap length nobody in
            absurd (omega (arith, long, short))

    settled_before : (k : ℕ) → n ≡ suc k → (rest : List ℕ) → IsSettled (run_before (fibers image) 0 k (at (used ++ rest)))
    settled_before k q rest = busy_settled (run_before (fibers image) 0 k (at (used ++ rest))) (busy_first (state_of mid) makes rest k (omega (arith, q)))

    -- and nothing comes at the first moment
    pub leads_idle : IsResting mid → IfSome (next_moment mid) (λ m. 0 < m) → events ≡ [] → LeadsTo image 0 n events events (met ++ more) at (state_of mid)
    leads_idle r late none =
        let c = some_made r in
        record {
          used = used;
          worlds = worlds;
          shown = shows_mid;
          is = λ rest.
              let us = used ++ rest in
              let w = worlds rest in
              let h = shows_mid.shows rest in
              let v = run_before (fibers image) 0 (suc c.0) (at us) in
              let same : w ≡ v = is_run rest ∙ ap (λ k. run_before (fibers image) 0 k (at us)) c.1 in
              let nobody : v.ready ≡ [] = subst (λ (x : World Fiber Shared). x.ready ≡ []) same (nobody_ready image (state_of mid) w h r.empty.running r.empty.raisers r.empty.spent r.empty.ready) in
              let quiet : moves_before 1 v.board.queue v ≡ false = subst (λ (x : World Fiber Shared). moves_before 1 x.board.queue x ≡ false) same (none_up_to image 0 mid w h late r.quiet) in
              let on : run_before (fibers image) 1 (suc c.0) (at us) ≡ v = waits_on (fibers image) 0 1 c.0 (at us) (omega arith) (settled_before c.0 c.1 rest) nobody quiet in
              subst (λ (es : List Event). with_kept 0 es w ≡ moment_run (fibers image) 0 n es (at us)) (sym none)
              (same ∙ sym on ∙ ap (λ k. run_before (fibers image) 1 k (at us)) (sym c.1) ∙ ap (run_before (fibers image) 1 n) (sym (at_stays 1 us)));
          busy = busy_moment (state_of mid) makes;
        }

    -- or the moment's events come behind main
    split : (j k : ℕ) → n ≤ j → j < k + n → (i : ℕ) × (i < k) × (j ≡ i + n)
    split j k l h = (j - n, omega (arith, l, h), omega (arith, l))

    pub leads_on : IsResting mid → (k : ℕ) (left : List Event) (all : List Move) (new : BoardState) → LeadsTo image 0 k events left all worlds new → LeadsTo image 0 (k + n) events left all at new
    leads_on r k left all new l =
        let c = some_made r in
        let words : (rest : List ℕ) → (used ++ l.used) ++ rest ≡ used ++ (l.used ++ rest) = λ rest. append_assoc used l.used rest in
        let join : (i : ℕ) (rest : List ℕ) → moment_run (fibers image) 0 i events (worlds (l.used ++ rest)) ≡ moment_run (fibers image) 0 (i + n) events (at ((used ++ l.used) ++ rest)) = λ i rest.
        let us = used ++ (l.used ++ rest) in
        ap (moment_run (fibers image) 0 i events) (is_run (l.used ++ rest) ∙ ap (λ k. run_before (fibers image) 0 k (at us)) c.1)
        ∙ sym (later us c.0 i (settled_before c.0 c.1 (l.used ++ rest)))
        ∙ ap (λ k. moment_run (fibers image) 0 (i + k) events (at us)) (sym c.1)
        ∙ ap (λ ws. moment_run (fibers image) 0 (i + n) events (at ws)) (sym (words rest)) in
        record {
          used = used ++ l.used;
          worlds = l.worlds;
          shown = l.shown;
          is = λ rest. l.is rest ∙ join k rest;
          busy = λ rest j h. by_half rest j h (before_or_not j n) words join;
        }
      where
        by_half : (rest : List ℕ) (j : ℕ) → j < k + n → (j < n) ⊎ (n ≤ j) → ((rest : List ℕ) → (used ++ l.used) ++ rest ≡ used ++ (l.used ++ rest))
            → ((i : ℕ) (rest : List ℕ) → moment_run (fibers image) 0 i events (worlds (l.used ++ rest)) ≡ moment_run (fibers image) 0 (i + n) events (at ((used ++ l.used) ++ rest)))
            → IsBusy (moment_run (fibers image) 0 j events (at ((used ++ l.used) ++ rest)))
        by_half rest j h (inl e) words join = subst (λ ws. IsBusy (moment_run (fibers image) 0 j events (at ws))) (sym (words rest)) (busy_moment (state_of mid) makes (l.used ++ rest) j e)
        by_half rest j h (inr e) words join =
            (let x = split j k e h in
            subst (λ i. IsBusy (moment_run (fibers image) 0 i events (at ((used ++ l.used) ++ rest)))) (sym x.2) (subst IsBusy (join x.0 rest) (l.busy rest x.0 x.1)))

    pub sees_on : IsResting mid → (k : ℕ) (seen : List Observation) → Sees image 0 k events seen worlds → Sees image 0 (k + n) events (seen_of more ++ seen) at
    sees_on r k seen l =
        let c = some_made r in
        let words : (rest : List ℕ) → (used ++ l.used) ++ rest ≡ used ++ (l.used ++ rest) = λ rest. append_assoc used l.used rest in
        let join : (i : ℕ) (rest : List ℕ) → moment_run (fibers image) 0 i events (worlds (l.used ++ rest)) ≡ moment_run (fibers image) 0 (i + n) events (at ((used ++ l.used) ++ rest)) = λ i rest.
        let us = used ++ (l.used ++ rest) in
        ap (moment_run (fibers image) 0 i events) (is_run (l.used ++ rest) ∙ ap (λ k. run_before (fibers image) 0 k (at us)) c.1)
        ∙ sym (later us c.0 i (settled_before c.0 c.1 (l.used ++ rest)))
        ∙ ap (λ k. moment_run (fibers image) 0 (i + k) events (at us)) (sym c.1)
        ∙ ap (λ ws. moment_run (fibers image) 0 (i + n) events (at ws)) (sym (words rest)) in
        record {
          used = used ++ l.used;
          saw = λ rest.
              ap (λ (v : World Fiber Shared). v.board.seen) (sym (join k rest)) ∙ l.saw rest
              ∙ ap (λ os. os ++ seen) ((shows_mid.met (l.used ++ rest)).seen ∙ seen_of-append met more ∙ ap (λ os. os ++ seen_of more) (sym (s.met ((used ++ l.used) ++ rest)).seen))
              ∙ append_assoc (at ((used ++ l.used) ++ rest)).board.seen (seen_of more) seen;
          busy = λ rest j h. by_half rest j h (before_or_not j n) words join;
        }
      where
        by_half : (rest : List ℕ) (j : ℕ) → j < k + n → (j < n) ⊎ (n ≤ j) → ((rest : List ℕ) → (used ++ l.used) ++ rest ≡ used ++ (l.used ++ rest))
            → ((i : ℕ) (rest : List ℕ) → moment_run (fibers image) 0 i events (worlds (l.used ++ rest)) ≡ moment_run (fibers image) 0 (i + n) events (at ((used ++ l.used) ++ rest)))
            → IsBusy (moment_run (fibers image) 0 j events (at ((used ++ l.used) ++ rest)))
        by_half rest j h (inl e) words join = subst (λ ws. IsBusy (moment_run (fibers image) 0 j events (at ws))) (sym (words rest)) (busy_moment (state_of mid) makes (l.used ++ rest) j e)
        by_half rest j h (inr e) words join =
            (let x = split j k e h in
            subst (λ i. IsBusy (moment_run (fibers image) 0 i events (at ((used ++ l.used) ++ rest)))) (sym x.2) (subst IsBusy (join x.0 rest) (l.busy rest x.0 x.1)))
