-- Careful programs make no fault, and the kind below does what they do.
use Rattle.std.proofs.Common.{◌≡◌, ℕ, zero, suc, ◌+◌, ℤ, Bool, true, false, List, [], ◌∷◌, refl, ap, subst, arith}
use Rattle.board_world.specs.declared.requests.Request.{Request}
use Rattle.board_world.specs.declared.requests.Request.TheVariants.{Pause, Wait, Spawn, Listen, Raise, RaiseNow, Plot, Show, WriteNumber, WriteText, PinWrite, Radio, Time as AskTime, EventValue, Button, TextGlyph, NumberGlyph, Allocate, Push, Panic, End}
use Rattle.board_world.specs.Kinds.{Turn, Goes, Asks, Takes, Pauses, Waits, Spawns, Listens, RaisesNow, Ends, Panics, Faults}
use Rattle.board_world.specs.Requests.{asked}
use Rattle.board_world.specs.Simulation.{Ties, ties, anywhere, Follows, Matches, Onward, Going, Begins, one, always}
use Rattle.board_world.specs.Sound.{NoFault, PartialSimulation, Typing, typing, After, Further, Ready, Stays, Sound}
use Rattle.world_rows.specs.Clerks.{Task, Ask, Tell, Keep, Recall, Become, Routine, routine_of, begun, Clerk, clerk_asker, turn_of, clerks}
use Rattle.world_rows.specs.Careful.{Teller, teller, told, teller_turn, tellers, IsCareful, AreCareful}

-- what is careful stays so where there is an answer
known_careful : (known : Bool) (tasks : List Task) → IsCareful false tasks → IsCareful known tasks
known_careful false tasks h = h
known_careful true [] h = tt
known_careful true (Ask request ∷ rest) h = h
known_careful true (Tell ∷ rest) h = (refl, known_careful true rest h.1)
known_careful true (Keep ∷ rest) h = known_careful true rest h
known_careful true (Recall ∷ rest) h = h
known_careful true (Become f ∷ rest) h = known_careful true rest h

careful_routine : (program : List Routine) (f : ℕ) → AreCareful program → IsCareful false (routine_of program f).tasks
careful_routine [] f h = tt
careful_routine (r ∷ rs) zero h = h.0
careful_routine (r ∷ rs) (suc f) h = careful_routine rs f h.1

abbrev pub careful : Typing Teller ℤ
careful = typing (λ used s. Unit {0}) (λ s c. IsCareful c.known c.clerk.tasks) (λ f. Unit {0})

after_all : (used : ℕ) (s s' : ℤ) → After careful used s s'
after_all used s s' = record { shared = tt; others = λ a h. h }

further : (used : ℕ) (s s' : ℤ) (known : Bool) (c : Clerk) → IsCareful known c.tasks → Further careful used s (teller known c, s')
further used s s' known c h = record { self = h; after = after_all used s s' }

module _ (program : List Routine) (all : AreCareful program) where
  ready : (s : ℤ) → Ready careful s (λ g. teller false (begun (routine_of program g)))
  ready s = record { each = λ i h. careful_routine program i all }

  -- behind a request there is an answer
  request_stays : (request : Request) (used : ℕ) (c : Clerk) (s : ℤ) → IsCareful true c.tasks → Stays careful used s (told true (asked (clerk_asker program c s) request))
  request_stays (Pause time) used c s h = further used s s true _ h
  request_stays (Wait event) used c s h = further used s s true _ h
  request_stays (Spawn f) used c s h = (tt, further used s s true _ h)
  request_stays (Listen l) used c s h = (tt, further used s s true _ h)
  request_stays (Raise event) used c s h = (λ n. further used s s true _ h)
  request_stays (RaiseNow event) used c s h = (ready s, further used s s true _ h)
  request_stays (Plot x y mode) used c s h = (λ n. further used s s true _ h)
  request_stays (Show frame) used c s h = (λ n. further used s s true _ h)
  request_stays (WriteNumber number) used c s h = (λ n. further used s s true _ h)
  request_stays (WriteText text) used c s h = (λ n. further used s s true _ h)
  request_stays (PinWrite pin value) used c s h = (λ n. further used s s true _ h)
  request_stays (Radio number) used c s h = (λ n. further used s s true _ h)
  request_stays AskTime used c s h = (λ n. further used s s true _ h)
  request_stays EventValue used c s h = (λ n. further used s s true _ h)
  request_stays (Button button) used c s h = (λ n. further used s s true _ h)
  request_stays (TextGlyph text index) used c s h = further used s s true _ h
  request_stays (NumberGlyph number index) used c s h = further used s s true _ h
  request_stays (Allocate words) used c s h = further (used + words) s s true _ h
  request_stays (Push array value) used c s h = further used s s true _ h
  request_stays (Panic code) used c s h = tt
  request_stays End used c s h = (ready s, after_all used s s)

  turn_stays : (tasks : List Task) (known : Bool) (used : ℕ) (c : Clerk) (s : ℤ) → IsCareful known tasks → Stays careful used s (teller_turn program tasks (teller known c) s)
  turn_stays [] known used c s h = (ready s, after_all used s s)
  turn_stays (Ask request ∷ rest) known used c s h = request_stays request used (record c { tasks = rest }) s h
  turn_stays (Tell ∷ rest) true used c s h = (λ n. further used s s true _ h.1)
  turn_stays (Tell ∷ rest) false used c s h = absurd (let none : false ≡ true = h.0 in cc)
  turn_stays (Keep ∷ rest) known used c s h = further used s c.answer known (record c { tasks = rest }) h
  turn_stays (Recall ∷ rest) known used c s h = further used s s true (record c { tasks = rest; answer = s }) h
  turn_stays (Become f ∷ rest) known used c s h = further used s s known (record c { tasks = (routine_of program f).tasks }) (known_careful known (routine_of program f).tasks (careful_routine program f all))

  pub tellers_sound : Sound (tellers program) careful
  tellers_sound =
      record {
        begins = λ used s f h c. careful_routine program f all;
        steps = λ used s a h c. turn_stays a.clerk.tasks a.known used a.clerk s c;
      }

-- what ties a teller to a clerk
abbrev pub tied : Ties Teller ℤ Clerk ℤ
tied = ties (λ used s t. s ≡ t) (λ s t a c. a.clerk ≡ c) (λ f g. f ≡ g) anywhere

onward_same : (used : ℕ) (s s' t : ℤ) → Onward tied used s s' t s'
onward_same used s s' t = record { shared = refl; others = λ a c h. h }

going_same : (used : ℕ) (s s' t : ℤ) (known : Bool) (c : Clerk) → Going tied used s t (teller known c, s') (c, s')
going_same used s s' t known c = record { self = refl; onward = onward_same used s s' t }

begins_same : (s t : ℤ) (f : ℕ → Clerk) → Begins tied s t (λ g. teller false (f g)) f
begins_same s t f = record { each = λ i j e. ap f e }

module _ (program : List Routine) where
  told_matches : (used : ℕ) (s t : ℤ) (known : Bool) (u : Turn Clerk ℤ) → Matches (tellers program) (clerks program) tied used s t (told known u) u
  told_matches used s t known (Goes c s') = going_same used s s' t known c
  told_matches used s t known (Asks q f) = (refl, λ n. going_same used s (f n).1 t known (f n).0)
  told_matches used s t known (Takes n f) = (refl, λ fits. going_same (used + n) s (f used).1 t known (f used).0)
  told_matches used s t known (Pauses n c s') = (refl, refl, going_same used s s' t known c)
  told_matches used s t known (Waits e c s') = (refl, refl, going_same used s s' t known c)
  told_matches used s t known (Spawns f c s') = (refl, going_same used s s' t known c)
  told_matches used s t known (Listens l c s') = (record { source = refl; value = refl; code = refl; mode = refl }, going_same used s s' t known c)
  told_matches used s t known (RaisesNow e f c s') = (refl, begins_same s' s' f, going_same used s s' t known c)
  told_matches used s t known (Ends f s') = (begins_same s' s' f, onward_same used s s' t)
  told_matches used s t known (Panics code) = refl
  told_matches used s t known (Faults kind address) = (refl, refl)

  -- but where the upper turn is a fault, which is promised nothing
  turn_matches : (tasks : List Task) (known : Bool) (used : ℕ) (c : Clerk) (s t : ℤ) → NoFault (teller_turn program tasks (teller known c) s)
      → Matches (tellers program) (clerks program) tied used s t (teller_turn program tasks (teller known c) s) (turn_of program tasks c s)
  turn_matches [] known used c s t n = told_matches used s t known (turn_of program [] c s)
  turn_matches (Ask request ∷ rest) known used c s t n = told_matches used s t true (turn_of program (Ask request ∷ rest) c s)
  turn_matches (Tell ∷ rest) true used c s t n = told_matches used s t true (turn_of program (Tell ∷ rest) c s)
  turn_matches (Tell ∷ rest) false used c s t n = absurd n
  turn_matches (Keep ∷ rest) known used c s t n = told_matches used s t known (turn_of program (Keep ∷ rest) c s)
  turn_matches (Recall ∷ rest) known used c s t n = told_matches used s t true (turn_of program (Recall ∷ rest) c s)
  turn_matches (Become f ∷ rest) known used c s t n = told_matches used s t known (turn_of program (Become f ∷ rest) c s)

  at_once : (used : ℕ) (s : ℤ) (a : Teller) → NoFault ((tellers program).step a s) → Follows (tellers program) (clerks program) tied one 1 used s s a a.clerk s
  at_once used s a n =
      record {
        steps = 0;
        cost = 0;
        last = a.clerk;
        memory = s;
        path = (refl, refl, refl);
        light = omega arith;
        match = turn_matches a.clerk.tasks a.known used a.clerk s s n;
        stands = λ m. tt;
      }

  pub clerks_do : PartialSimulation (tellers program) (clerks program) tied one (always 1)
  clerks_do =
      record {
        begins = λ used s t f g h e. ap (λ i. begun (routine_of program i)) e;
        follows = λ used s t a c h k n.
            subst (λ (x : Clerk). Follows (tellers program) (clerks program) tied one 1 used s t a x t) k
            (subst (λ (u : ℤ). Follows (tellers program) (clerks program) tied one 1 used s u a a.clerk u) h (at_once used s a n));
      }
