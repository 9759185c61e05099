-- Parts of a run, and acts between them.
use Rattle.std.proofs.Common.{◌≡◌, ℕ, ◌+◌, ◌-◌, ◌<◌, ◌≤◌, ◌⊎◌, inl, inr, Bool, true, false, List, [], ◌∷◌, ◌++◌, Option, Some, None, nat_lt, is_some, length, ◌==◌, refl, sym, ap, ◌∙◌, subst, arith, append_assoc}
use Rattle.std.proofs.lemmas.Bool.Decides.{nat_tests}
use Rattle.board_world.specs.Board.{Act, Down, Up, Raise, Unplug, Board, Entry, over, arrive, raised, event, went_down, went_up}
use Rattle.board_world.specs.declared.events.Event.{Event}
use Rattle.board_world.specs.Kinds.{Kind}
use Rattle.board_world.specs.Activities.{World}
use Rattle.board_world.specs.World.{idle_bound}
use Rattle.board_world.specs.Runs.{Arrival, acts, Rises, run}
use Rattle.board_world.proofs.Laws.{busy_stays, run_by_list, with_list}
use Rattle.bank_model.specs.Fibers.{Fiber, Shared}
use Rattle.bank_model.specs.BoardMachine.{fibers, bank_start}
use Rattle.board_outside.specs.Moves.{Move, HasMet}
use Rattle.board_run.specs.Represents.{BoardState, Represents}
use Rattle.board_run.specs.Run.{Reaches}
use Rattle.board_run.specs.Advancing.{of_run, ComesBy}
use Rattle.irq_arrival.specs.Along.{world_with, NoneBefore, Along, IsStill}
use Rattle.board_run.specs.Ran.{MayArrive, Arrives}
use Rattle.irq_arrival.proofs.Courses.{with_moved, with_before, with_now, with_here, with_over, onward_list}

pub begins : (image : List ℕ) (until : ℕ) (script : List Entry) (arrivals : List Arrival) (b : BoardState) → Rises 0 arrivals
    → ((free : List ℕ) → Represents image b (bank_start image until script free)) → Along image (world_with image until script arrivals) arrivals 0 [] [] b
begins image until script arrivals b r shown = record {
  at = λ rest. bank_start image until script rest;
  shows = shown;
  free = λ e rest. refl;
  met = λ rest. record { seen = refl; unplugged = refl };
  still = λ rest. busy_stays (fibers image) (idle_bound (bank_start image until script rest).board) _ [] (bank_start image until script rest);
  rises = r;
  onward = λ rest m l. onward_list (fibers image) arrivals 0 m (bank_start image until script rest) r l ∙ sym (with_list (fibers image) m arrivals (bank_start image until script rest) r);
  before = λ rest j l. absurd (omega (arith, l));
}

rises_later : (left : List Arrival) (n m : ℕ) → Rises n left → NoneBefore m left → Rises m left
rises_later [] n m r b = tt
rises_later (a ∷ rest) n m r b = (b, r.1)

-- what is left arrives by the list
pub listed : (image : List ℕ) (course : List ℕ → ℕ → World Fiber Shared) (left : List Arrival) (n : ℕ) (used : List ℕ) (met : List Move) (b : BoardState)
    → (h : Along image course left n used met b) → (rest : List ℕ) (m : ℕ) → n ≤ m → run_by_list (fibers image) n left m (h.at rest) ≡ course (used ++ rest) m
listed image course left n used met b h rest m l = sym (onward_list (fibers image) left n m (h.at rest) h.rises l) ∙ h.onward rest m l

module _ (image : List ℕ) (course : List ℕ → ℕ → World Fiber Shared) (left : List Arrival) (n count : ℕ) (used : List ℕ) (met moves : List Move) (b c : BoardState) (h : Along image course left n used met b) (x : ComesBy of_run image count moves b c) (still : IsStill image c) (none : NoneBefore (n + count) left) where
  K : Kind Fiber Shared
  K = fibers image

  -- the worlds that the part begins from
  from_here : Reaches None image h.at 0 [] met b
  from_here = record { at = h.at; shows = h.shows; free = h.free; met = h.met; settles = λ rest. refl }

  abbrev further : List ℕ
  further = (x None refl h.at 0 [] met from_here).0

  abbrev reached : Reaches None image h.at (count + 0) ([] ++ further) (met ++ moves) c
  reached = (x None refl h.at 0 [] met from_here).1

  at_is : (rest : List ℕ) → reached.at rest ≡ run (fibers image) count (h.at (further ++ rest))
  at_is rest =
      let z : count + 0 ≡ count = omega arith in
      sym (still (reached.at rest) (reached.shows rest)) ∙ (reached.settles rest ∙ (ap (run (fibers image) (count + 0)) (h.still (further ++ rest)) ∙ ap (λ i. run (fibers image) i (h.at (further ++ rest))) z))

  pub goes : (further : List ℕ) × Along image course left (n + count) (used ++ further) (met ++ moves) c
  goes = (
    further,
    record {
      at = reached.at;
      shows = reached.shows;
      free = reached.free;
      met = reached.met;
      still = λ rest. still (reached.at rest) (reached.shows rest);
      rises = rises_later left n (n + count) h.rises none;
      onward = λ rest m l.
          onward_list (fibers image) left (n + count) m (reached.at rest) (rises_later left n (n + count) h.rises none) l
          ∙ (ap (λ w. run_by_list (fibers image) (n + count) left m w) (at_is rest)
          ∙ (sym (with_moved (fibers image) left n count m (h.at (further ++ rest)) none l)
          ∙ (listed image course left n used met b h (further ++ rest) m (omega arith) ∙ ap (λ ws. course ws m) (sym (append_assoc used further rest)))));
      before = λ rest j l. by_test rest j l (nat_lt j n) refl;
    },
  )
    where
      by_test : (rest : List ℕ) (j : ℕ) → j < n + count → (t : Bool) → nat_lt j n ≡ t → over (course ((used ++ further) ++ rest) j).board ≡ false
      by_test rest j l true e = ap (λ ws. over (course ws j).board) (append_assoc used further rest) ∙ h.before (further ++ rest) j (grind (arith, nat_tests))
      by_test rest j l false e =
          let m : n ≤ j = grind (arith, nat_tests) in
          ap (λ ws. over (course ws j).board) (append_assoc used further rest)
          ∙ (ap (λ (w : World Fiber Shared). over w.board) (sym (listed image course left n used met b h (further ++ rest) j m) ∙ with_before (fibers image) left n count j (h.at (further ++ rest)) none m l)
          ∙ (ap (λ w. over (run (fibers image) (j - n) w).board) (sym (h.still (further ++ rest)))
          ∙ (x None refl h.at 0 [] met from_here).2 rest (j - n) (omega arith) (omega arith)))

-- an act that arrives shows nothing and unplugs nothing
raised_met : (e : Event) (moves : List Move) (b : Board) → HasMet moves b → HasMet moves (raised e b)
raised_met e moves b h = by_test (nat_lt (length b.queue) 32) refl
  where
    by_test : (t : Bool) → nat_lt (length b.queue) 32 ≡ t → HasMet moves (raised e b)
    by_test true q = rw q (record { seen = h.seen; unplugged = h.unplugged })
    by_test false q = rw q h

down_met : (source : ℕ) (since : Option ℕ) (moves : List Move) (b : Board) → HasMet moves b → HasMet moves (went_down source since b)
down_met source None moves b h = raised_met (event source 1) moves b h
down_met source (Some t) moves b h = h

up_met : (source : ℕ) (since : Option ℕ) (moves : List Move) (b : Board) → HasMet moves b → HasMet moves (went_up source since b)
up_met source None moves b h = h
up_met source (Some t) moves b h = raised_met _ moves _ (raised_met (event source 2) moves b h)

pub arrive_met : (act : Act) (moves : List Move) (b : Board) → MayArrive act → HasMet moves b → HasMet moves (arrive act b)
arrive_met (Down n) moves b m h = by_test (n == 1) refl
  where
    by_test : (t : Bool) → (n == 1) ≡ t → HasMet moves (arrive (Down n) b)
    by_test true e = (let x = down_met 1 b.a_since moves b h in rw e (record { seen = x.seen; unplugged = x.unplugged }))
    by_test false e = (let x = down_met 2 b.b_since moves b h in rw e (record { seen = x.seen; unplugged = x.unplugged }))
arrive_met (Up n) moves b m h = by_test (n == 1) refl
  where
    by_test : (t : Bool) → (n == 1) ≡ t → HasMet moves (arrive (Up n) b)
    by_test true e = (let x = up_met 1 b.a_since moves b h in rw e (record { seen = x.seen; unplugged = x.unplugged }))
    by_test false e = (let x = up_met 2 b.b_since moves b h in rw e (record { seen = x.seen; unplugged = x.unplugged }))
arrive_met (Raise e) moves b m h = raised_met e moves b h
arrive_met (Unplug port) moves b m h = absurd m

acts_met : (act : Act) (moves : List Move) (w : World Fiber Shared) → MayArrive act → over w.board ≡ false → HasMet moves w.board → HasMet moves (acts act w).board
acts_met act moves w m o h = rw o (arrive_met act moves w.board m h)

acts_free : (act : Act) (w : World Fiber Shared) → over w.board ≡ false → (acts act w).shared ≡ w.shared
acts_free act w o = rw o refl

pub arrives : (image : List ℕ) (course : List ℕ → ℕ → World Fiber Shared) (a : Arrival) (left : List Arrival) (n : ℕ) (used : List ℕ) (met : List Move) (b c : BoardState)
    → Along image course (a ∷ left) n used met b → a.count ≡ n → MayArrive a.act → b.plain.end ≡ None → Arrives a.act b c → IsStill image c → Along image course left n used met c
arrives image course a left n used met b c h e m going x still = record {
  at = λ rest. acts a.act (h.at rest);
  shows = λ rest. x image (h.at rest) (h.shows rest);
  free = λ _ rest. ap (λ (s : Shared). s.free) (acts_free a.act (h.at rest) (going_on rest)) ∙ h.free going rest;
  met = λ rest. acts_met a.act met (h.at rest) m (going_on rest) (h.met rest);
  still = λ rest. still (acts a.act (h.at rest)) (x image (h.at rest) (h.shows rest));
  rises = subst (λ i. Rises i left) e h.rises.1;
  onward = λ rest j l.
      onward_list (fibers image) left n j (acts a.act (h.at rest)) (subst (λ i. Rises i left) e h.rises.1) l
      ∙ (sym (with_now (fibers image) a left n j (h.at rest) e l) ∙ listed image course (a ∷ left) n used met b h rest j l);
  before = h.before;
}
  where
    going_on : (rest : List ℕ) → over (h.at rest).board ≡ false
    going_on rest = ap (λ (p : Board). is_some p.end) (h.shows rest).board ∙ ap (λ o. is_some o) going

pub shows : (image : List ℕ) (course : List ℕ → ℕ → World Fiber Shared) (left : List Arrival) (n : ℕ) (used : List ℕ) (met : List Move) (b : BoardState)
    → (h : Along image course left n used met b) → ((rest : List ℕ) → over (h.at rest).board ≡ true) ⊎ NoneBefore (n + 1) left
    → (rest : List ℕ) → Represents image b (course (used ++ rest) n) × HasMet met (course (used ++ rest) n).board
shows image course left n used met b h d rest =
    let e : course (used ++ rest) n ≡ h.at rest = sym (listed image course left n used met b h rest n (omega arith)) ∙ here in
    (subst (Represents image b) (sym e) (h.shows rest), subst (λ (w : World Fiber Shared). HasMet met w.board) (sym e) (h.met rest))
  where
    here : run_by_list (fibers image) n left n (h.at rest) ≡ h.at rest
    here = elim d [
      | inl o ↦ with_over (fibers image) left n (h.at rest) h.rises (o rest)
      | inr none ↦ with_here (fibers image) left n (h.at rest) none
    ]
