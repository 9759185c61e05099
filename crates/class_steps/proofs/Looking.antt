-- A board between two moments: it waits longer, and hears what is raised at the next one.
use Rattle.std.proofs.Common.{◌≡◌, ℕ, zero, suc, ◌≤◌, ◌<◌, inl, inr, Bool, true, false, if◌then◌else◌, nat_le, nat_lt, List, [], ◌∷◌, Option, Some, None, is_some, refl, ap, sym, ◌∙◌, subst, arith}
use Rattle.std.proofs.lemmas.Bool.Decides.{nat_tests}
use Rattle.std.specs.Prelude.{IfSome, IsSome}
use Rattle.board_world.specs.declared.events.Event.{Event}
use Rattle.board_world.specs.declared.clock.Idle.TheVariants.{Jump, Script}
use Rattle.board_world.specs.Observations.{End}
use Rattle.board_world.specs.Rules.{earlier, up_to}
use Rattle.board_world.specs.Board.{Entry, Raise, next_entry, over}
use Rattle.board_world.specs.Waiting.{least}
use Rattle.board_world.specs.Activities.{World}
use Rattle.board_world.specs.Simulation.{IsSettled}
use Rattle.board_world.specs.Before.{IsRisingFrom, is_jump_before, moves_before, run_before}
use Rattle.board_world.proofs.Laws.{run_alike}
use Rattle.class_world.specs.Hearing.{before, inserted, with_heard, raised_at}
use Rattle.class_world.specs.Classes.{Played, starting, world_before, IsAtRest}
use Rattle.class_world.specs.Keeping.{with_kept}
use Rattle.class_world.proofs.Laws.{waits_on, settled_later, given_so_far, early_run, begins_early}
use Rattle.class_steps.specs.Outlook.{Outlook, HasSameLook, IsWaiting, IsSeenAs, next_with}

-- what comes no sooner than a moment doesn't come before it
none_sooner : (u until : ℕ) (o : Option ℕ) → IfSome o (λ m. u ≤ m) → is_jump_before u (up_to until o) ≡ false
none_sooner u until None h = refl
none_sooner u until (Some m) h = by_end (nat_lt until m)
  where
    by_end : (d : Bool) → is_jump_before u (if d then Script else Jump m) ≡ false
    by_end true = refl
    by_end false = (let late : u ≤ m = h in grind (arith, nat_tests))

-- with events of a moment that isn't past, that moment comes next
placed_next : (t : ℕ) (e : Event) (es : List Entry) → IfSome (next_entry es) (λ m. t ≤ m) → (let x : Entry = record { at = t; act = Raise e } in next_entry (inserted x es) ≡ Some t)
placed_next t e [] h = refl
placed_next t e (y ∷ ys) h = by_test (nat_le y.at t) refl
  where
    k : Entry
    k = record { at = t; act = Raise e }

    by_test : (c : Bool) → nat_le y.at t ≡ c → next_entry (if c then y ∷ inserted k ys else k ∷ (y ∷ ys)) ≡ Some t
    by_test true q = (let late : t ≤ y.at = h in let same : y.at ≡ t = grind (arith, nat_tests) in ap Some same)
    by_test false q = refl

raised_next : (t : ℕ) (events : List Event) (es : List Entry) → next_entry es ≡ Some t → next_entry (with_heard (raised_at t events) es) ≡ Some t
raised_next t [] es h = h
raised_next t (e ∷ rest) es h = raised_next t rest _ (placed_next t e es (subst (λ (o : Option ℕ). IfSome o (λ m. t ≤ m)) (sym h) (omega arith)))

earlier_both : (t : ℕ) (a b : Option ℕ) → IfSome (earlier a b) (λ m. t ≤ m) → IfSome a (λ m. t ≤ m) × IfSome b (λ m. t ≤ m)
earlier_both t None b h = (tt, h)
earlier_both t (Some s) None h = (h, tt)
earlier_both t (Some s) (Some r) h = by_first (nat_lt r s) refl h
  where
    by_first : (c : Bool) → nat_lt r s ≡ c → t ≤ (if c then r else s) → (t ≤ s) × (t ≤ r)
    by_first true q l = (let less : r < s = grind (arith, nat_tests) in (omega (arith, l, less), l))
    by_first false q l = (let more : s ≤ r = grind (arith, nat_tests) in (l, omega (arith, l, more)))

earlier_here : (t : ℕ) (a b : Option ℕ) → IfSome a (λ m. t ≤ m) → b ≡ Some t → earlier a b ≡ Some t
earlier_here t None b h e = e
earlier_here t (Some s) b h e = ap (earlier (Some s)) e ∙ by_first (nat_lt t s) refl
  where
    by_first : (c : Bool) → nat_lt t s ≡ c → Some (if c then t else s) ≡ Some t
    by_first true q = refl
    by_first false q = (let late : t ≤ s = h in let same : s ≡ t = grind (arith, nat_tests) in ap Some same)

pub next_given : (t : ℕ) (wake : Option ℕ) (e : Event) (events : List Event) (es : List Entry) → IfSome (earlier wake (next_entry es)) (λ m. t ≤ m)
    → earlier wake (next_entry (with_heard (raised_at t (e ∷ events)) es)) ≡ Some t
next_given t wake e events es h = (let both = earlier_both t wake (next_entry es) h in earlier_here t wake _ both.0 (raised_next t events _ (placed_next t e es both.1)))

module _ {A S : Type 0} (until t : ℕ) (p : Played A S) (o : Outlook) (h : IsSeenAs until t p o) where
  abbrev world : World A S
  world = world_before until t p

  pub by_end : {X : Type 0} → (o.board.end ≡ None → X) → (IsSome o.board.end → X) → X
  by_end {X} f g = cases o.board.end refl
    where
      cases : (e : Option End) → o.board.end ≡ e → X
      cases None q = f q
      cases (Some x) q = g (ap is_some q)

  pub is_over : IsSome o.board.end → over world.board ≡ true
  is_over s = ap is_some h.like.end ∙ s

  pub at_rest : IsAtRest world
  at_rest = by_end (λ e. inr (h.waits e).nobody) (λ s. inl (is_over s))

  -- nothing seen so far was seen later
  pub seen_early : before t o.board.seen ≡ o.board.seen
  seen_early = subst (λ os. before t os ≡ os) h.like.seen (by_moment t h.early world refl)
    where
      by_moment : (u : ℕ) → o.board.clock < u → (v : World A S) → v ≡ run_before p.member.kind u p.steps (starting until p.member p.script) → before u v.board.seen ≡ v.board.seen
      by_moment zero l v e = absurd (omega (arith, l))
      by_moment (suc u) l v e = subst (λ x. before (suc u) x.board.seen ≡ x.board.seen) (sym e) (early_run p.member.kind (suc u) p.steps (starting until p.member p.script) (begins_early p.member.kind p.member.main p.member.shared until u p.script)).seen

  -- before a later moment, up to which nothing comes, it is the same
  pub same_later : (u : ℕ) → t ≤ u → (o.board.end ≡ None → IfSome o.next (λ m. u ≤ m)) → world_before until u p ≡ world
  same_later u l late = by_end waiting ended
    where
      waiting : o.board.end ≡ None → world_before until u p ≡ world_before until t p
      waiting e =
          (let w = h.waits e in
          let none : moves_before u (world_before until t p).board.queue (world_before until t p) ≡ false =
          ap (λ q. moves_before u q (world_before until t p)) w.none
          ∙ ap (λ n. is_jump_before u (up_to (world_before until t p).board.until n)) w.comes
          ∙ none_sooner u (world_before until t p).board.until o.next (late e) in
          ap (λ n. run_before p.member.kind u n (starting until p.member p.script)) h.steps
          ∙ waits_on p.member.kind t u h.before (starting until p.member p.script) l h.settled
          (subst (λ n. (run_before p.member.kind t n (starting until p.member p.script)).ready ≡ []) h.steps w.nobody)
          (subst (λ n. (let v = run_before p.member.kind t n (starting until p.member p.script) in moves_before u v.board.queue v ≡ false)) h.steps none)
          ∙ ap (λ n. run_before p.member.kind t n (starting until p.member p.script)) (sym h.steps))

      ended : IsSome o.board.end → world_before until u p ≡ world_before until t p
      ended s = run_alike p.member.kind t u l p.steps (starting until p.member p.script) (λ q. absurd (let on = is_over s in cc))

  pub waits_longer : (u : ℕ) → t ≤ u → (o.board.end ≡ None → IfSome o.next (λ m. u ≤ m)) → IsSeenAs until u p o
  waits_longer u l late =
      (let same = same_later u l late in
      record {
        before = h.before;
        steps = h.steps;
        settled = settled_later p.member.kind t u h.before (starting until p.member p.script) l h.settled;
        like = subst (λ w. HasSameLook w.board o.board) (sym same) h.like;
        until_is = ap (λ w. w.board.until) same ∙ h.until_is;
        early = (let e : o.board.clock < t = h.early in omega (arith, e, l));
        sound = h.sound;
        ended = h.ended;
        waits = λ e. (let w = h.waits e in subst (λ v. IsWaiting u o.next v) (sym same) (record { nobody = w.nobody; none = w.none; comes = w.comes; late = late e }));
      })

  -- events are raised at the moment
  abbrev given : List Event → Played A S
  given events = record p { script = with_heard (raised_at t events) p.script }

  abbrev pub next_after : List Event → Option ℕ
  next_after events = if is_some o.board.end then None else next_with t events o.next

  pub hears : (events : List Event) → IsRisingFrom 0 p.script → IsSeenAs until t (given events) (record o { next = next_after events })
  hears events rising =
      (let K = p.member.kind in
      let so_far = λ (n : ℕ). given_so_far K p.member.main p.member.shared until t n events p.script rising in
      let same : world_before until t (given events) ≡ with_kept t events world = so_far p.steps in
      record {
        before = h.before;
        steps = h.steps;
        settled = subst IsSettled (sym (so_far h.before)) h.settled;
        like = subst (λ w. HasSameLook w.board o.board) (sym same) (record { seen = h.like.seen; clock = h.like.clock; end = h.like.end });
        until_is = ap (λ w. w.board.until) same ∙ h.until_is;
        early = h.early;
        sound = h.sound;
        ended = λ s. ap (λ c. if c then None else next_with t events o.next) s;
        waits = λ e. subst (λ v. IsWaiting t (next_after events) v) (sym same) (subst (λ n. IsWaiting t n (with_kept t events world)) (sym (ap (λ c. if is_some c then None else next_with t events o.next) e)) (with_events events (h.waits e)));
      })
    where
      with_events : (es : List Event) → IsWaiting t o.next (world_before until t p) → IsWaiting t (next_with t es o.next) (with_kept t es (world_before until t p))
      with_events [] w = record { nobody = w.nobody; none = w.none; comes = w.comes; late = w.late }
      with_events (x ∷ xs) w = record {
        nobody = w.nobody;
        none = w.none;
        comes = next_given t (least (world_before until t p).sleepers) x xs (world_before until t p).board.script (subst (λ n. IfSome n (λ m. t ≤ m)) (sym w.comes) w.late);
        late = omega arith;
      }
