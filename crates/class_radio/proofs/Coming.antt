-- A player that has come to a moment: whether it may go, and what its worlds lead to.
use Rattle.std.proofs.Common.{◌≡◌, ℕ, zero, suc, ◌+◌, ◌≤◌, ◌<◌, ◌⊎◌, inl, inr, Bool, true, false, if◌then◌else◌, nat_lt, List, [], ◌∷◌, ◌++◌, length, Option, Some, None, is_some, refl, ap, sym, ◌∙◌, subst, arith, append-nil, append_assoc}
use Rattle.std.proofs.lemmas.Bool.Decides.{nat_tests}
use Rattle.std.specs.Prelude.{IfSome, codes}
use Rattle.class_world.specs.Lines.{board_lead}
use Rattle.std.specs.Option.{option_map}
use Rattle.std.proofs.lemmas.Fmt.{decimal_digit}
use Rattle.board_world.specs.declared.events.Event.{Event}
use Rattle.board_world.specs.declared.clock.Idle.TheVariants.{Jump, Script}
use Rattle.board_world.specs.Limits.{queue_limit}
use Rattle.board_world.specs.Observations.{Observation}
use Rattle.board_world.specs.Rules.{earlier, up_to, clock_move}
use Rattle.board_world.specs.Board.{Board as WorldBoard, Entry, next_entry, over}
use Rattle.board_world.specs.Waiting.{least}
use Rattle.board_world.specs.Kinds.{Kind}
use Rattle.board_world.specs.Activities.{Activity, World}
use Rattle.board_world.specs.World.{idle_bound}
use Rattle.board_world.specs.Simulation.{IsSettled}
use Rattle.board_world.specs.Before.{IsRisingFrom, idle_before, idled_before, run_before}
use Rattle.board_world.proofs.Laws.{IsTimely}
use Rattle.class_world.specs.Hearing.{moment_of, before, with_heard, raised_at}
use Rattle.class_world.specs.Classes.{world_before}
use Rattle.class_world.specs.Keeping.{moment_run}
use Rattle.class_world.proofs.Laws.{kept_enough, goes_through, settled_later, seen_from, on_run, begins_timely}
use Rattle.class_steps.specs.Outlook.{IsSeenAs, next_with}
use Rattle.class_steps.proofs.Laws.{next_given, seen_early, clock_from}
use Rattle.bank_model.specs.Fibers.{Fiber, Shared}
use Rattle.bank_model.specs.BoardMachine.{fibers, bank_start}
use Rattle.fiber_queues.proofs.Laws.{least-keyed}
use Rattle.event_script.specs.World.{world_entries}
use Rattle.board_outside.specs.Moves.{Move, seen_of}
use Rattle.board_run.specs.declared.engine.Engine.{Engine}
use Rattle.board_run.specs.declared.end.Stop.{Stop}
use Rattle.board_run.specs.Shown.{of_key}
use Rattle.board_run.specs.Advancing.{IsWhole, IsBusy}
use Rattle.board_run.specs.Going.{queued_all, next_moment, IsDueAt, Shows, MayGo}
use Rattle.board_run.specs.Represents.{entries_left, state_of, end_of}
use Rattle.board_run.proofs.Laws.{mounted_busy, nobody_ready, due_rising}
use Rattle.class_radio.specs.declared.player.Player.{Player}
use Rattle.class_radio.specs.Playing.{Setup, member_of, run_given, standing_of, IsNumbered, outlook, IsInWait, HasPlayed, IsFresh, HasCome}
use Rattle.class_radio.specs.Stepping.{MayGoOn, world_behind}

none_mapped : {X Y : Type 0} (f : X → Y) (o : Option X) → None ≡ option_map f o → o ≡ None
none_mapped f None h = refl
none_mapped f (Some x) h = absurd (cc)

mounted_on : (setup : Setup) (p : Player) → IsFresh setup p → p.board.engine.end ≡ None
mounted_on setup p f = none_mapped end_of p.board.engine.end (ap (λ (b : WorldBoard). b.end) (f.mounted.begins []).board)

-- a moment that isn't past the end, and comes next
jumps : (t end : ℕ) (o : Option ℕ) → o ≡ Some t → t ≤ end → up_to end o ≡ Jump t
jumps t end o e l = ap (up_to end) e ∙ (let early : nat_lt end t ≡ false = grind (arith, nat_tests) in ap (λ c. if c then Script else Jump t) early)

-- what a queue keeps of events: the first of them, and where it lets some go it is full
pub record Keeps (all kept : List Event) : Type 0 where
  pub more : List Event
  pub is : kept ++ more ≡ all
  pub full : (more ≡ []) ⊎ (queue_limit ≤ length kept)

full_queue : (events q : List Event) → nat_lt (length q) 32 ≡ false → queued_all events q ≡ q
full_queue [] q h = refl
full_queue (e ∷ es) q h = rw h (full_queue es q h)

queue_keeps : (events q : List Event) → Keeps (q ++ events) (queued_all events q)
queue_keeps [] q = record { more = []; is = refl; full = inl refl }
queue_keeps (e ∷ es) q = by_room (nat_lt (length q) 32) refl (λ r. queue_keeps es r)
  where
    by_room : (c : Bool) → nat_lt (length q) 32 ≡ c → ((r : List Event) → Keeps (r ++ es) (queued_all es r))
        → Keeps (q ++ (e ∷ es)) (queued_all es (if c then q ++ e ∷ [] else q))
    by_room true p ih = (let k = ih (q ++ e ∷ []) in record { more = k.more; is = k.is ∙ append_assoc q (e ∷ []) es; full = k.full })
    by_room false p ih = subst (λ r. Keeps (q ++ (e ∷ es)) r) (sym (full_queue es q p)) (record { more = e ∷ es; is = refl; full = inr (grind (arith, nat_tests)) })

keeps_all : (events : List Event) → Keeps events (queued_all events [])
keeps_all events = queue_keeps events []

-- the first one stays
kept_first : (es : List Event) (x : Event) (q : List Event) → (ks : List Event) × (queued_all es (x ∷ q) ≡ x ∷ ks)
kept_first [] x q = (q, refl)
kept_first (e ∷ es) x q = by_room (nat_lt (length (x ∷ q)) 32) (λ r. kept_first es x r)
  where
    by_room : (c : Bool) → ((r : List Event) → (ks : List Event) × (queued_all es (x ∷ r) ≡ x ∷ ks)) → (ks : List Event) × (queued_all es (if c then (x ∷ q) ++ e ∷ [] else x ∷ q) ≡ x ∷ ks)
    by_room true ih = ih (q ++ e ∷ [])
    by_room false ih = ih q

-- with kept events that are none exactly where no events were given
next_kept : (t : ℕ) (events : List Event) (own : Option ℕ) → next_with t (queued_all events []) own ≡ next_with t events own
next_kept t [] own = refl
next_kept t (e ∷ es) own = (let k = kept_first es e [] in ap (λ q. next_with t q own) k.1)

due_with : (t : ℕ) (events : List Event) (wake : Option ℕ) (own : List Entry) → IfSome (earlier wake (next_entry own)) (λ m. t ≤ m) → next_with t events (earlier wake (next_entry own)) ≡ Some t
    → earlier wake (next_entry (with_heard (raised_at t events) own)) ≡ Some t
due_with t [] wake own late e = e
due_with t (x ∷ xs) wake own late e = next_given t wake x xs own late

module _ (number budget : ℕ) (setup : Setup) (script : List Entry) (t : ℕ) (used : List ℕ) (seen : List Observation) (p : Player) (may : MayGoOn number budget setup script t used seen p) where
  abbrev e : Engine
  e = p.board.engine

  -- it hasn't ended, since something comes to it
  not_ended : HasPlayed setup script t used seen p → p.board.engine.end ≡ None
  not_ended h = cases p.board.engine.end refl
    where
      cases : (o : Option Stop) → p.board.engine.end ≡ o → o ≡ None
      cases None q = refl
      cases (Some stop) q =
          absurd (let none : p.due ≡ None = (h.looks []).ended (ap (λ o. is_some (option_map end_of o)) q) in let some : p.due ≡ Some t = may.due in cc)

  waiting : HasPlayed setup script t used seen p → IsInWait setup script t used seen p
  waiting h = h.waits (not_ended h)

  is_due : IsInWait setup script t used seen p → IsDueAt t p.board.kept p.board.engine
  is_due w =
      (let own = entries_left p.board.engine in
      let wake = least p.board.engine.runtime.lists.sleepers in
      let says : next_with t p.board.kept (next_moment p.board.engine) ≡ Some t = ap (λ q. next_with t q (next_moment p.board.engine)) w.kept ∙ next_kept t w.events (next_moment p.board.engine) ∙ sym w.due ∙ may.due in
      jumps t p.board.engine.script.end (earlier wake (next_entry (with_heard (raised_at t p.board.kept) own))) (due_with t p.board.kept wake own w.late says)
      (let l = may.within in let u = w.until_is in omega (arith, l, u)))

  pub whole : IsWhole p.board.engine p.board.instructions
  whole = by_come may.come
    where
      by_come : HasCome setup script t used seen p → IsWhole p.board.engine p.board.instructions
      by_come (inl h) = (waiting h).whole
      by_come (inr f) = subst (IsWhole p.board.engine) (sym f.0.counted) f.0.mounted.whole

  pub may_go : MayGo t p.left p.board.kept p.board.engine
  may_go = by_come may.come
    where
      by_come : HasCome setup script t used seen p → MayGo t p.left p.board.kept p.board.engine
      by_come (inl h) = inr ((waiting h).resting, is_due (waiting h))
      by_come (inr f) = inl (setup.image, setup.script, f.0.mounted, f.1, (let a = may.numbered.left (mounted_on setup p f.0) in let b = f.0.counted in let c = may.some in omega (arith, a, b, c)))

-- What a player's worlds lead to, and that nothing of the moment was seen before.
pub record Course (setup : Setup) (script : List Entry) (t : ℕ) (used : List ℕ) (seen : List Observation) (p : Player) : Type 0 where
  pub at : List ℕ → World Fiber Shared
  pub met : List Move
  pub shown : Shows setup.image (state_of p.board.engine) at met
  pub is_seen : seen_of met ≡ seen
  pub leads : (rest : List ℕ) (k : ℕ) → moment_run (fibers setup.image) t k p.board.kept (at rest) ≡ world_behind setup script t (k + p.board.instructions) (used ++ rest)
  pub early : before t seen ≡ seen
  pub since : (rest : List ℕ) (k : ℕ) → before t (world_behind setup script t (k + p.board.instructions) (used ++ rest)).board.seen ≡ seen
  pub late : (rest : List ℕ) (k : ℕ) → t ≤ (world_behind setup script t (k + p.board.instructions) (used ++ rest)).board.clock
  pub settled : (m : ℕ) → p.board.instructions ≡ suc m → (rest : List ℕ) → IsSettled (world_behind setup script t m (used ++ rest))
  pub begins : p.board.instructions ≡ 0 → (rest : List ℕ) → IsBusy (at rest)
  pub until_is : p.board.engine.script.end ≡ setup.script.end
  pub on : p.board.engine.end ≡ None

pub busy_idle : {A S : Type 0} (K : Kind A S) (t n : ℕ) (xs : List (Activity A)) (w : World A S) → 0 < length xs → idle_before K t n xs w ≡ w
busy_idle K t zero xs w h = refl
busy_idle K t (suc n) [] w h = absurd (omega (arith, h))
busy_idle K t (suc n) (x ∷ xs) w h = refl

none_before : (os : List Observation) → before 0 os ≡ []
none_before [] = refl
none_before (o ∷ os) = (let late : nat_lt (moment_of o) 0 ≡ false = grind (arith, nat_tests) in rw late (none_before os))

module _ (number budget : ℕ) (setup : Setup) (script : List Entry) (t : ℕ) (used : List ℕ) (seen : List Observation) (p : Player) (may : MayGoOn number budget setup script t used seen p) where
  abbrev Ways : Type 0
  Ways = Course setup script t used seen p

  abbrev own : List Entry
  own = world_entries setup.script.entries

  begun : IsFresh setup p → t ≡ 0 → script ≡ world_entries setup.script.entries → used ≡ [] → seen ≡ [] → Ways
  begun f zero_t is_own none nothing =
      (let K = fibers setup.image in
      let at = λ (rest : List ℕ). bank_start setup.image setup.script.end (world_entries setup.script.entries) rest in
      record {
        at = at;
        met = [];
        shown = record { shows = λ rest. f.mounted.begins rest; free = λ _. λ rest. refl; met = λ rest. record { seen = refl; unplugged = refl } };
        is_seen = sym nothing;
        leads = λ rest k.
            ap (λ q. moment_run (fibers setup.image) t k q (at rest)) f.none
            ∙ ap (run_before (fibers setup.image) (t + 1) k) (busy_idle (fibers setup.image) (t + 1) (idle_bound (at rest).board) (at rest).ready (at rest) (omega arith))
            ∙ sym (ap (λ es. world_behind setup es t (k + p.board.instructions) (used ++ rest)) is_own
            ∙ ap (λ us. world_behind setup (world_entries setup.script.entries) t (k + p.board.instructions) (us ++ rest)) none
            ∙ ap (λ n. world_behind setup (world_entries setup.script.entries) t n rest) (let c : p.board.instructions ≡ 0 = f.counted in let z : k + p.board.instructions ≡ k = omega (arith, c) in z));
        early = ap (before t) nothing ∙ sym nothing;
        since = λ rest k. (let xs = (world_behind setup script t (k + p.board.instructions) (used ++ rest)).board.seen in ap (λ u. before u xs) zero_t ∙ none_before xs ∙ sym nothing);
        late = λ rest k. omega (arith, zero_t);
        settled = λ m q. absurd (let c = f.counted in cc);
        begins = λ q rest. mounted_busy setup.image setup.script p.board.engine f.mounted setup.image (at rest) (f.mounted.begins rest);
        until_is = sym (ap (λ (b : WorldBoard). b.until) (f.mounted.begins []).board);
        on = mounted_on setup p f;
      })

  module _ (w : IsInWait setup script t used seen p) (looks : (rest : List ℕ) → IsSeenAs setup.script.end t (run_given setup script p.board.instructions (used ++ rest)) (outlook seen p)) (rest : List ℕ) where
    abbrev W : World Fiber Shared
    W = w.worlds rest

    abbrev X : World Fiber Shared
    X = world_before setup.script.end t (run_given setup script p.board.instructions (used ++ rest))

    abbrev first : World Fiber Shared
    first = bank_start setup.image setup.script.end script (used ++ rest)

    on : p.board.engine.end ≡ None
    on = w.resting.goes

    -- what is due on the board is due in the world that it shows
    due_shown : (es : List Event) → earlier (least p.board.engine.runtime.lists.sleepers) (next_entry (with_heard (raised_at t es) (entries_left p.board.engine))) ≡ Some t
        → clock_move (least W.sleepers) (next_entry (with_heard (raised_at t es) W.board.script)) W.board.until ≡ Jump t
    due_shown es says =
        (let h = w.shown.shows rest in
        ap (λ x. clock_move x (next_entry (with_heard (raised_at t es) W.board.script)) W.board.until) (ap least h.sleepers ∙ least-keyed (of_key p.board.engine.runtime.pool) p.board.engine.runtime.lists.sleepers)
        ∙ ap (λ (b : WorldBoard). clock_move (least p.board.engine.runtime.lists.sleepers) (next_entry (with_heard (raised_at t es) b.script)) b.until) h.board
        ∙ jumps t p.board.engine.script.end _ says (let l = may.within in let u = w.until_is in omega (arith, l, u)))

    says_all : earlier (least p.board.engine.runtime.lists.sleepers) (next_entry (with_heard (raised_at t w.events) (entries_left p.board.engine))) ≡ Some t
    says_all = due_with t w.events (least p.board.engine.runtime.lists.sleepers) (entries_left p.board.engine) w.late (sym w.due ∙ may.due)

    kept : List Event
    kept = queued_all w.events []

    says_kept : earlier (least p.board.engine.runtime.lists.sleepers) (next_entry (with_heard (raised_at t (queued_all w.events [])) (entries_left p.board.engine))) ≡ Some t
    says_kept = due_with t (queued_all w.events []) (least p.board.engine.runtime.lists.sleepers) (entries_left p.board.engine) w.late (next_kept t w.events (next_moment p.board.engine) ∙ sym w.due ∙ may.due)

    -- the events that are kept are as good as all
    kept_good : (k : ℕ) → moment_run (fibers setup.image) t k w.events W ≡ moment_run (fibers setup.image) t k (queued_all w.events []) W
    kept_good k = by_full (keeps_all w.events)
      where
        by_full : Keeps w.events (queued_all w.events []) → moment_run (fibers setup.image) t k w.events W ≡ moment_run (fibers setup.image) t k (queued_all w.events []) W
        by_full q = cases q.full
          where
            cases : (q.more ≡ []) ⊎ (queue_limit ≤ length (queued_all w.events [])) → moment_run (fibers setup.image) t k w.events W ≡ moment_run (fibers setup.image) t k (queued_all w.events []) W
            cases (inl none) = ap (λ es. moment_run (fibers setup.image) t k es (w.worlds rest)) (sym q.is ∙ ap (λ m. queued_all w.events [] ++ m) none ∙ append-nil (queued_all w.events []))
            cases (inr l) =
                (let h = w.shown.shows rest in
                let r = w.resting in
                let nobody : (w.worlds rest).ready ≡ [] = nobody_ready setup.image (state_of p.board.engine) (w.worlds rest) h r.empty.running r.empty.raisers r.empty.spent r.empty.ready in
                let going : over (w.worlds rest).board ≡ false = ap (λ (b : WorldBoard). is_some b.end) h.board ∙ ap (λ o. is_some (option_map end_of o)) r.goes in
                let quiet : (w.worlds rest).board.queue ≡ [] = h.hears.queue ∙ r.quiet in
                let rising : IsRisingFrom t (w.worlds rest).board.script = subst (IsRisingFrom t) (sym (ap (λ (b : WorldBoard). b.script) h.board)) (due_rising t p.board.kept p.board.engine (is_due number budget setup script t used seen p may w) w.whole.script) in
                let all : clock_move (least (w.worlds rest).sleepers) (next_entry (with_heard (raised_at t (queued_all w.events [] ++ q.more)) (w.worlds rest).board.script)) (w.worlds rest).board.until ≡ Jump t =
                subst (λ es. clock_move (least (w.worlds rest).sleepers) (next_entry (with_heard (raised_at t es) (w.worlds rest).board.script)) (w.worlds rest).board.until ≡ Jump t) (sym q.is) (due_shown w.events says_all) in
                ap (λ es. moment_run (fibers setup.image) t k es (w.worlds rest)) (sym q.is)
                ∙ kept_enough (fibers setup.image) t (queued_all w.events []) q.more (w.worlds rest) nobody going quiet rising k l (due_shown (queued_all w.events []) says_kept) all)

    -- its run goes through the moment
    goes_so : (k : ℕ) → world_behind setup script t (k + p.board.instructions) (used ++ rest) ≡ run_before (fibers setup.image) (t + 1) k (idled_before (fibers setup.image) (t + 1) X)
    goes_so k =
        (let s = looks rest in
        ap (λ n. world_behind setup script t (k + n) (used ++ rest)) s.steps
        ∙ goes_through (fibers setup.image) t s.before k (bank_start setup.image setup.script.end script (used ++ rest)) s.settled
        ∙ ap (λ n. run_before (fibers setup.image) (t + 1) k (idled_before (fibers setup.image) (t + 1) (world_before setup.script.end t (run_given setup script n (used ++ rest))))) (sym s.steps))

    leads_so : (k : ℕ) → moment_run (fibers setup.image) t k p.board.kept W ≡ world_behind setup script t (k + p.board.instructions) (used ++ rest)
    leads_so k =
        ap (λ q. moment_run (fibers setup.image) t k q (w.worlds rest)) w.kept
        ∙ sym (kept_good k)
        ∙ ap (λ v. run_before (fibers setup.image) (t + 1) k (idled_before (fibers setup.image) (t + 1) v)) (sym (w.is rest))
        ∙ sym (goes_so k)

    -- it waits for the moment
    is_due_now : IsTimely X × (over X.board ≡ false) × (clock_move (least X.sleepers) (next_entry X.board.script) X.board.until ≡ Jump t)
    is_due_now =
        (let s = looks rest in
        let waits = s.waits (ap (option_map end_of) w.resting.goes) in
        let m = member_of setup (used ++ rest) in (
          (on_run (fibers setup.image) t p.board.instructions (bank_start setup.image setup.script.end script (used ++ rest)) (begins_timely (fibers setup.image) m.main m.shared setup.script.end script may.rising)).timely,
          ap is_some s.like.end ∙ ap (λ o. is_some (option_map end_of o)) w.resting.goes,
          ap (up_to X.board.until) (waits.comes ∙ may.due) ∙ ap (λ u. up_to u (Some t)) s.until_is ∙ jumps t setup.script.end (Some t) refl may.within,
        ))

    since_so : (k : ℕ) → before t (world_behind setup script t (k + p.board.instructions) (used ++ rest)).board.seen ≡ seen
    since_so k =
        (let s = looks rest in
        let waits = s.waits (ap (option_map end_of) w.resting.goes) in
        ap (λ v. before t v.board.seen) (goes_so k)
        ∙ seen_from (fibers setup.image) t k X is_due_now.0 waits.nobody is_due_now.1 waits.none is_due_now.2
        ∙ ap (before t) s.like.seen ∙ seen_early setup.script.end t (run_given setup script p.board.instructions (used ++ rest)) (outlook seen p) s)

    late_so : (k : ℕ) → t ≤ (world_behind setup script t (k + p.board.instructions) (used ++ rest)).board.clock
    late_so k =
        (let waits = (looks rest).waits (ap (option_map end_of) w.resting.goes) in
        subst (λ v. t ≤ v.board.clock) (sym (goes_so k)) (clock_from (fibers setup.image) t k X is_due_now.0 waits.nobody is_due_now.1 waits.none is_due_now.2))

    settled_so : (m : ℕ) → p.board.instructions ≡ suc m → IsSettled (world_behind setup script t m (used ++ rest))
    settled_so m q =
        (let s = looks rest in
        let same : s.before ≡ m = (let a : p.board.instructions ≡ suc s.before = s.steps in omega (arith, a, q)) in
        settled_later (fibers setup.image) t (t + 1) m (bank_start setup.image setup.script.end script (used ++ rest)) (omega arith) (subst (λ n. IsSettled (world_before setup.script.end t (run_given setup script n (used ++ rest)))) same s.settled))

  goes_on : IsInWait setup script t used seen p → ((rest : List ℕ) → IsSeenAs setup.script.end t (run_given setup script p.board.instructions (used ++ rest)) (outlook seen p)) → Ways
  goes_on w looks =
      record {
        at = w.worlds;
        met = w.met;
        shown = w.shown;
        is_seen = w.is_seen;
        leads = λ rest k. leads_so w looks rest k;
        early = seen_early setup.script.end t (run_given setup script p.board.instructions (used ++ [])) (outlook seen p) (looks []);
        since = λ rest k. since_so w looks rest k;
        late = λ rest k. late_so w looks rest k;
        settled = λ m q rest. settled_so w looks rest m q;
        begins = λ q rest. absurd (let s : p.board.instructions ≡ suc (looks rest).before = (looks rest).steps in omega (arith, s, q));
        until_is = w.until_is;
        on = w.resting.goes;
      }

  pub ways : Ways
  ways = by_come may.come
    where
      by_come : HasCome setup script t used seen p → Course setup script t used seen p
      by_come (inl h) = goes_on (waiting number budget setup script t used seen p may h) h.looks
      by_come (inr f) = begun f.0 f.1 f.2 f.3 f.4

-- a number below 10 has one digit
digit_text : (n : ℕ) → n < 10 → (48 + n) ∷ (32 ∷ []) ≡ board_lead n
digit_text n h = sym (ap (λ (l : List ℕ). l ++ codes " ") (decimal_digit n h))

-- what is left of its budget is no more than that
module _ (number budget : ℕ) (setup : Setup) (script : List Entry) (t : ℕ) (used : List ℕ) (seen : List Observation) (p : Player) (may : MayGoOn number budget setup script t used seen p) where
  pub left_most : p.left ≤ 2147483648
  left_most = (let c = ways number budget setup script t used seen p may in let a : p.left + p.board.instructions ≡ budget = may.numbered.left c.on in let m = may.numbered.most in omega (arith, a, m))

pub fresh_numbered : (number budget : ℕ) (setup : Setup) (p : Player) → IsFresh setup p → number < 10 → p.lead ≡ (48 + number) ∷ (32 ∷ []) → p.left ≡ budget → budget ≤ 2147483648 → p.standing ≡ standing_of None → IsNumbered number budget p
fresh_numbered number budget setup p f digit lead left most stands =
    (let none : p.board.instructions ≡ 0 = f.counted in
    record {
      lead = lead ∙ digit_text number digit;
      left = λ e. omega (arith, left, none);
      within = omega (arith, none);
      most = most;
      stands = stands ∙ ap standing_of (sym (mounted_on setup p f));
    })
