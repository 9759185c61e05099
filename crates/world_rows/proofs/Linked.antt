-- The operations at places do what the lists of requests do.
use Rattle.std.proofs.Common.{◌≡◌, ℕ, zero, suc, ◌+◌, ◌≤◌, ℤ, pos, ◌⊎◌, inl, inr, List, [], ◌∷◌, ◌++◌, length, refl, ap, sym, ◌∙◌, subst, arith, add-suc}
use Rattle.board_world.specs.declared.requests.Request.{Request}
use Rattle.board_world.specs.declared.requests.Request.TheVariants.{Pause, Wait, Spawn, Listen, Raise, RaiseNow, Plot, Show, WriteNumber, WriteText, PinWrite, Radio, Time as AskTime, EventValue, Button, TextGlyph, NumberGlyph, Allocate, Push, Panic, End}
use Rattle.board_world.specs.Board.{Entry}
use Rattle.board_world.specs.Kinds.{Goes}
use Rattle.board_world.specs.World.{start}
use Rattle.board_world.specs.Simulation.{Ties, ties, anywhere, Simulation, Follows, Matches, Onward, Going, Begins, Alike, one, always}
use Rattle.board_world.specs.Runs.{Arrival, Rises, Keeps}
use Rattle.board_world.specs.Implements.{boards_from}
use Rattle.world_rows.specs.Clerks.{Task, Ask, Tell, Keep, Recall, Become, Routine, routine_of, begun, Clerk, turn_of, clerks}
use Rattle.world_rows.specs.Workers.{Op, Enter, Worker, fetch, at_place, done, does, workers, with_places, task_ops, routine_ops, all_ops, address, linked}
use Rattle.board_world.proofs.Laws.{lifts_with}

-- these operations stand at this place
abbrev Stands : List Op → ℕ → List Op → Type 0
Stands code p [] = Unit {0}
Stands code p (o ∷ os) = (fetch code p ≡ o) × Stands code (suc p) os

fetch_behind : (xs ys : List Op) (n : ℕ) → fetch (xs ++ ys) (length xs + n) ≡ fetch ys n
fetch_behind [] ys n = ap (fetch ys) (omega arith)
fetch_behind (x ∷ xs) ys n = ap (fetch (x ∷ (xs ++ ys))) (rest_place (length xs)) ∙ fetch_behind xs ys n
  where
    rest_place : (k : ℕ) → suc k + n ≡ suc (k + n)
    rest_place k = omega arith

stands_behind : (xs ys : List Op) (n : ℕ) (os : List Op) → Stands ys n os → Stands (xs ++ ys) (length xs + n) os
stands_behind xs ys n [] h = tt
stands_behind xs ys n (o ∷ os) h =
    (fetch_behind xs ys n ∙ h.0, subst (λ (k : ℕ). Stands (xs ++ ys) k os) (add-suc (length xs) n) (stands_behind xs ys (suc n) os h.1))

-- operations stand where they are put
stands_first : (os ys : List Op) → Stands (os ++ ys) 0 os
stands_first [] ys = tt
stands_first (o ∷ os) ys = (refl, stands_behind (o ∷ []) (os ++ ys) 0 os (stands_first os ys))

sizes : (at : ℕ → ℕ) (ts : List Task) → length (task_ops at ts) ≡ length (task_ops (λ i. i) ts)
sizes at [] = refl
sizes at (t ∷ ts) = ap (λ k. suc (suc k)) (sizes at ts)

-- each function stands at its address
stands_all : (at : ℕ → ℕ) (program : List Routine) (f : ℕ) → Stands (all_ops at program) (address program f) (routine_ops at (routine_of program f))
stands_all at [] f = (refl, (refl, tt))
stands_all at (r ∷ rs) zero = stands_first (routine_ops at r) (all_ops at rs)
stands_all at (r ∷ rs) (suc f) =
    subst (λ (k : ℕ). Stands (all_ops at (r ∷ rs)) (k + address rs f) (routine_ops at (routine_of rs f))) (ap suc (sizes at r.tasks))
    (stands_behind (routine_ops at r) (all_ops at rs) (address rs f) (routine_ops at (routine_of rs f)) (stands_all at rs f))

module _ (program : List Routine) (code : List Op) (at : ℕ → ℕ) (here : (f : ℕ) → Stands code (at f) (routine_ops at (routine_of program f))) where
  -- a worker that has entered its function and is at these tasks
  record Entered (c : Clerk) (w : Worker) : Type 0 where
    pub frame : c.frame ≡ w.frame
    pub answer : c.answer ≡ w.answer
    pub tasks : Stands code w.place (task_ops at c.tasks)

  record Entering (c : Clerk) (w : Worker) : Type 0 where
    pub answer : c.answer ≡ w.answer
    pub tasks : Stands code w.place (Enter c.frame ∷ task_ops at c.tasks)

  abbrev tied : Ties Clerk ℤ Worker ℤ
  tied = ties (λ used s t. s ≡ t) (λ s t c w. Entered c w ⊎ Entering c w) (λ f p. p ≡ at f) anywhere

  onward : (used : ℕ) (s s' t t' : ℤ) → s' ≡ t' → Onward tied used s s' t t'
  onward used s s' t t' e = record { shared = e; others = λ c d h. h }

  going : (used : ℕ) (s t : ℤ) (c : Clerk) (w : Worker) (s' t' : ℤ) → s' ≡ t' → Entered c w → Going tied used s t (c, s') (w, t')
  going used s t c w s' t' e h = record { self = inl h; onward = onward used s s' t t' e }

  begins_at : (s t : ℤ) (f p : ℕ) → p ≡ at f → Entering (begun (routine_of program f)) (at_place p)
  begins_at s t f p e =
      record { answer = refl; tasks = subst (λ (k : ℕ). Stands code k (routine_ops at (routine_of program f))) (sym e) (here f) }

  begin_alike : (s t : ℤ) → Begins tied s t (λ f. begun (routine_of program f)) at_place
  begin_alike s t = record { each = λ f p e. inr (begins_at s t f p e) }

  module _ (used : ℕ) (s t : ℤ) (frame : ℕ) (answer : ℤ) (rest : List Task) (p : ℕ) (same : s ≡ t) (stands : Stands code (suc p) (task_ops at rest)) where
    abbrev upper : ℤ → Clerk
    upper n = record { frame = frame; answer = n; tasks = rest }

    abbrev lower : ℕ → ℤ → Worker
    lower q n = record { place = q; frame = frame; answer = n }

    on_with : (n : ℤ) → Going tied used s t (upper n, s) (lower (suc p) n, t)
    on_with n = going used s t (upper n) (lower (suc p) n) s t same (record { frame = refl; answer = refl; tasks = stands })

    abbrev Alike_turns : Task → Type 0
    Alike_turns task =
        Matches (clerks program) (workers code) tied used s t (turn_of program (task ∷ rest) (record { frame = frame; answer = answer; tasks = task ∷ rest }) s) (done (with_places at task) (lower p answer) t)

    request_alike : (r : Request) → Alike_turns (Ask r)
    request_alike (Pause n) = (refl, refl, on_with _)
    request_alike (Wait e) = (refl, refl, on_with _)
    request_alike (Spawn f) = (refl, on_with _)
    request_alike (Listen l) = (record { source = refl; value = refl; code = refl; mode = refl }, on_with _)
    request_alike (Raise e) = (refl, on_with)
    request_alike (RaiseNow e) = (refl, begin_alike s t, on_with _)
    request_alike (Plot x y m) = (refl, on_with)
    request_alike (Show f) = (refl, on_with)
    request_alike (WriteNumber n) = (refl, on_with)
    request_alike (WriteText n) = (refl, on_with)
    request_alike (PinWrite n v) = (refl, on_with)
    request_alike (Radio n) = (refl, on_with)
    request_alike AskTime = (refl, on_with)
    request_alike EventValue = (refl, on_with)
    request_alike (Button n) = (refl, on_with)
    request_alike (TextGlyph n i) = on_with _
    request_alike (NumberGlyph n i) = on_with _
    request_alike (Allocate n) = (refl, λ fits. record { self = (on_with _).self; onward = onward (used + n) s s t t same })
    request_alike (Push a v) = on_with answer
    request_alike (Panic n) = refl
    request_alike End = (begin_alike s t, onward used s s t t same)

    task_alike : (task : Task) → Alike_turns task
    task_alike (Ask r) = request_alike r
    task_alike Tell = (refl, on_with)
    task_alike Keep = record { self = inl (record { frame = refl; answer = refl; tasks = stands }); onward = onward used s answer t answer refl }
    task_alike Recall = record { self = inl (record { frame = refl; answer = same; tasks = stands }); onward = onward used s s t t same }
    task_alike (Become f) =
        going used s t (record { frame = frame; answer = answer; tasks = (routine_of program f).tasks }) (lower (suc (at f)) answer) s t same
        (record { frame = refl; answer = refl; tasks = (here f).1 })

  abbrev Does : ℕ → ℕ → ℤ → ℤ → Clerk → Worker → Type 0
  Does bound used s t c w = Follows (clerks program) (workers code) tied one bound used s t c w t

  -- from where it has entered
  entered_follows : (used : ℕ) (s t : ℤ) (frame : ℕ) (answer : ℤ) (tasks : List Task) (p : ℕ) → s ≡ t → Stands code p (task_ops at tasks)
      → Does 2 used s t (record { frame = frame; answer = answer; tasks = tasks }) (record { place = p; frame = frame; answer = answer })
  entered_follows used s t frame answer [] p e h =
      record {
        steps = 0;
        cost = 0;
        last = record { place = p; frame = frame; answer = answer };
        memory = t;
        path = (refl, refl, refl);
        light = omega arith;
        match = rw h.0 (begin_alike s t, onward used s s t t e);
        stands = λ m. tt;
      }
  entered_follows used s t frame answer (task ∷ rest) p e h =
      record {
        steps = 1;
        cost = 1;
        last = record { place = suc p; frame = frame; answer = answer };
        memory = t;
        path = (record { place = suc p; frame = frame; answer = answer }, t, 0, ap (λ (o : Op). does o (record { place = p; frame = frame; answer = answer }) t) h.0, refl, (refl, refl, refl));
        light = omega arith;
        match = rw h.1.0 (task_alike used s t frame answer rest (suc p) e h.1.1 task);
        stands = λ m. tt;
      }

  worker_is : (w : Worker) (frame : ℕ) (answer : ℤ) → frame ≡ w.frame → answer ≡ w.answer → record { place = w.place; frame = frame; answer = answer } ≡ w
  worker_is w frame answer x y =
      ap (λ (n : ℕ). record { place = w.place; frame = n; answer = answer }) x ∙ ap (λ (n : ℤ). record { place = w.place; frame = w.frame; answer = n }) y

  follows : (used : ℕ) (s t : ℤ) (c : Clerk) (w : Worker) → s ≡ t → Entered c w ⊎ Entering c w → Does 3 used s t c w
  follows used s t c w e (inl h) =
      (let C : Worker = record { place = w.place; frame = c.frame; answer = c.answer } in
      let f : Does 2 used s t c C = entered_follows used s t c.frame c.answer c.tasks w.place e h.tasks in
      let same : C ≡ w = worker_is w c.frame c.answer h.frame h.answer in
      subst (λ (v : Worker). Does 3 used s t c v) same
      (let light : f.cost + 1 ≤ 2 = f.light in
      record { steps = f.steps; cost = f.cost; last = f.last; memory = f.memory; path = f.path; light = omega arith; match = f.match; stands = f.stands }))
  follows used s t c w e (inr h) =
      (let C : Worker = record { place = suc w.place; frame = c.frame; answer = c.answer } in
      let f : Does 2 used s t c C = entered_follows used s t c.frame c.answer c.tasks (suc w.place) e h.tasks.1 in
      let light : f.cost + 1 ≤ 2 = f.light in
      let first : (workers code).step w t ≡ Goes C t = ap (λ (o : Op). does o w t) h.tasks.0 ∙ ap (λ (n : ℤ). Goes (record { place = suc w.place; frame = c.frame; answer = n }) t) (sym h.answer) in
      record {
        steps = suc f.steps;
        cost = suc f.cost;
        last = f.last;
        memory = f.memory;
        path = (C, t, f.cost, first, omega arith, f.path);
        light = omega arith;
        match = f.match;
        stands = f.stands;
      })

  simulation : Simulation (clerks program) (workers code) tied one (always 3)
  simulation = record { begins = λ used s t f p h e. inr (begins_at s t f p e); follows = follows }

  starts : (until : ℕ) (script : List Entry) → Alike tied (start (clerks program) 0 (pos 0) until script) (start (workers code) (at 0) (pos 0) until script)
  starts until script =
      record {
        board = refl;
        related = λ _. record {
          shared = refl;
          ready = (record { self = inr (begins_at (pos 0) (pos 0) 0 (at 0) refl); kept = record { value = refl; listener = refl; seated = refl }; suspended = refl }, tt);
          rest = record { listeners = tt; sleepers = tt; waiters = tt };
        };
      }

pub target_does : (program : List Routine) (until : ℕ) (script : List Entry) (arrivals : List Arrival) (m : ℕ) → Rises 0 arrivals
    → Keeps 3 (boards_from (clerks program) 0 (pos 0) until script) (boards_from (workers (linked program)) (address program 0) (pos 0) until script) arrivals m
target_does program until script arrivals m rises =
    (let here = stands_all (address program) program in
    lifts_with (clerks program) (workers (linked program)) 3 (omega arith) (tied program (linked program) (address program) here) (simulation program (linked program) (address program) here) _ _
    (starts program (linked program) (address program) here until script) arrivals rises m)
