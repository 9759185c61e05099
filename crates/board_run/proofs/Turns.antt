-- The board's moves under a world that stays: the next fiber is put into the machine.
use Rattle.std.proofs.Common.{◌≡◌, ℕ, suc, ◌<◌, Bool, true, false, ℤ, List, [], ◌∷◌, length, map, Option, Some, None, refl, sym, ap, ◌∙◌, subst, arith}
use Rattle.thumb_code.specs.declared.register_file.Registers.{Registers}
use Rattle.thumb_code.specs.Machine.{State as Machine, begun, base_of, return_of}
use Rattle.board_world.specs.Waiting.{Hearing, handler_of}
use Rattle.board_world.specs.Activities.{Activity, World}
use Rattle.bank_model.specs.Fibers.{Fiber, Shared}
use Rattle.message_bus.specs.Agreement.{hearings}
use Rattle.fiber_pool.specs.Kept.{Kept}
use Rattle.fiber_queues.specs.Lists.{ListsOf}
use Rattle.fiber_queues.specs.Calls.{keyed}
use Rattle.std.specs.List.{AllByRecursion}
use Rattle.fiber_runtime.specs.declared.turning.Turning.{Turning}
use Rattle.fiber_runtime.specs.declared.turning.Raiser.{Raiser}
use Rattle.bank_model.specs.Standing.{words_in, fiber_on}
use Rattle.fiber_runtime.specs.State.{State, ReachesBase, kept_of}
use Rattle.fiber_runtime.specs.Sound.{IsSound, IsNested, IsStanding}
use Rattle.fiber_runtime.specs.Moves.{Resumed, Holds, started, machine_started, reinstated, turning_of}
use Rattle.fiber_runtime.proofs.Laws.{sound_resumed, sound_started, sound_reinstated, no_words, inside_fits}
use Rattle.board_run.specs.Shown.{PendingDispatch, ArePlaces, IsSpent, acting, of_key, begun_as, standing}
use Rattle.message_bus.specs.Numbers.{IsRising}
use Rattle.fork_on_block.specs.Handlers.{base_for}
use Rattle.board_run.specs.Represents.{BoardState, IsRecorded, Represents}
use Rattle.board_run.proofs.Standing.{key_is, rising_from}

-- lists with a first item
pub same_activity : (f f' : Fiber) (v v' : ℤ) (l l' : Option ℕ) (s s' : Bool) → f ≡ f' → v ≡ v' → l ≡ l' → s ≡ s'
    → (let x : Activity Fiber = record { self = f; value = v; listener = l; seated = s; suspended = false } in let y : Activity Fiber = record { self = f'; value = v'; listener = l'; seated = s'; suspended = false } in x ≡ y)
same_activity f f' v v' l l' s s' p q r t = rw (p, q, r, t) refl

pub same_fiber : (r r' : Registers) (b b' : ℕ) (w w' : List ℕ) → r ≡ r' → b ≡ b' → w ≡ w'
    → (let x : Fiber = record { registers = r; base = b; bank = w } in let y : Fiber = record { registers = r'; base = b'; bank = w' } in x ≡ y)
same_fiber r r' b b' w w' p q s = rw (p, q, s) refl

-- where no raiser stands and no handler is left, nobody stands before the ready keys
pub nobody_before : (image : List ℕ) (hs : List Hearing) (stack : List ℕ) (n : ℕ) (ps : List PendingDispatch) → ArePlaces n [] ps → IsSpent ps → standing image hs stack [] ps ≡ []
nobody_before image hs stack n [] a e = absurd a
nobody_before image hs stack n (p ∷ []) a e = ap (map (begun_as image (base_of image) p.event hs)) e
nobody_before image hs stack n (p ∷ (q ∷ ps)) a e = absurd a

-- what a fiber that fits into its place keeps when it stands in the machine
fits_on : (k : Kept) (old new : Machine) (key : ℕ) → ReachesBase k → Holds k old new → ReachesBase (kept_of new (turning_of key k))
fits_on k old new key f h =
    let e : kept_of new (turning_of key k) ≡ k = same _ _ _ _ _ _ k.value k.listener (ap (λ (m : Machine). m.registers) h.rest) (ap (λ (m : Machine). m.memory.base) h.rest)
    (ap (λ (m : Machine). words_in new.memory.stack m.registers.sp m.memory.base) h.rest ∙ h.put.words) in
    subst ReachesBase (sym e) f
  where
    same : (r r' : Registers) (b b' : ℕ) (w w' : List ℕ) (v : ℤ) (l : Option ℕ) → r ≡ r' → b ≡ b' → w ≡ w'
        → (let x : Kept = record { registers = r; base = b; value = v; listener = l; words = w } in let y : Kept = record { registers = r'; base = b'; value = v; listener = l; words = w' } in x ≡ y)
    same r r' b b' w w' v l p q s = rw (p, q, s) refl

-- The next ready fiber is copied in: the world stays. No raiser stands and no handler is left.
pub resumed : (image : List ℕ) (b : BoardState) (w : World Fiber Shared) (new : State) (h : Represents image b w) → b.runtime.running ≡ None → b.runtime.raisers ≡ [] → IsSpent b.places → Resumed b.runtime new
    → Represents image (record b { runtime = new }) w
resumed image b w new h e f u m =
    let hs = hearings b.bus.listeners in
    let none = λ (stack : List ℕ). ap (λ rs. standing image hs stack rs b.places) f ∙ nobody_before image hs stack (length b.bus.listeners) b.places (subst (λ rs. ArePlaces (length b.bus.listeners) rs b.places) f h.places) u in
    let machine : new.machine ≡ record { registers = m.kept.registers; memory = record b.runtime.machine.memory { base = m.kept.base; stack = new.machine.memory.stack } } = m.holds.rest in
    let keys : b.runtime.lists.ready ≡ m.key ∷ new.lists.ready = ap (λ (q : ListsOf ℕ). q.ready) m.next.first in
    let self : fiber_on new.machine ≡ record { registers = m.kept.registers; base = m.kept.base; bank = m.kept.words } =
    same_fiber _ _ _ _ _ _ (ap (λ (x : Machine). x.registers) machine) (ap (λ (x : Machine). x.memory.base) machine)
    (ap (λ (x : Machine). words_in new.machine.memory.stack x.registers.sp x.memory.base) machine ∙ m.holds.put.words) in
    let first : acting (fiber_on new.machine) (turning_of m.key m.kept) false ≡ of_key b.runtime.pool m.key = ap (λ g. acting g (turning_of m.key m.kept) false) self ∙ sym (key_is b.runtime.pool m.key m.kept m.next.found) in
    let s : IsSound new = sound_resumed b.runtime new h.sound e f m in
    subst (λ n. Represents image (record b { runtime = n }) w) (sym m.next.rest) (record {
      sound = subst IsSound m.next.rest s;
      runner = λ _. refl;
      nested = h.nested;
      stands = (fits_on m.kept b.runtime.machine new.machine m.key m.fits m.holds, subst (IsNested new.machine.memory.base) (sym f) tt);
      stack = m.holds.put.size ∙ h.stack;
      places = h.places;
      flash = ap (λ (x : Machine). x.memory.flash) machine ∙ h.flash;
      globals = h.globals ∙ sym (ap (λ (x : Machine). x.memory.globals) machine);
      arena = h.arena ∙ sym (ap (λ (x : Machine). x.memory.arena) machine);
      used = h.used;
      board = h.board;
      seats = h.seats;
      hears = h.hears;
      mark = false;
      ready =
          h.ready ∙ rw (e, none b.runtime.machine.memory.stack, keys) (sym (rw (none new.machine.memory.stack, first) refl));
      sleepers = h.sleepers ∙ ap (λ (q : ListsOf ℕ). keyed (of_key b.runtime.pool) q.sleepers) m.next.first;
      waiters = h.waiters ∙ ap (λ (q : ListsOf ℕ). keyed (of_key b.runtime.pool) q.waiters) m.next.first;
    })

-- The innermost raiser goes on: the world stays. No handler is left at its place.
pub reinstates : (image : List ℕ) (b : BoardState) (w : World Fiber Shared) (r : Raiser) (rs : List Raiser) (p : PendingDispatch) (ps : List PendingDispatch) (h : Represents image b w) → b.runtime.running ≡ None
    → b.runtime.raisers ≡ r ∷ rs → b.places ≡ p ∷ ps → p.left ≡ []
    → Represents image (record b { runtime = reinstated r rs b.runtime; places = ps }) w
reinstates image b w r rs p ps h e f g u =
    let hs = hearings b.bus.listeners in
    let stack = b.runtime.machine.memory.stack in
    let nested : IsNested 0 (r ∷ rs) = subst (IsNested 0) f (subst (λ x. IsStanding x b.runtime.machine b.runtime.raisers) e h.stands) in
    let places : ArePlaces (length b.bus.listeners) (r ∷ rs) (p ∷ ps) = subst (λ x. ArePlaces (length b.bus.listeners) (r ∷ rs) x) g (subst (λ x. ArePlaces (length b.bus.listeners) x b.places) f h.places) in
    record {
      sound = sound_reinstated r rs b.runtime h.sound e f;
      stands = (inside_fits (reinstated r rs b.runtime).machine r.turning nested.1 h.stack, nested.2);
      runner = (subst (AllByRecursion (λ (r : Raiser). IsRecorded r.turning)) f h.nested).0;
      nested = (subst (AllByRecursion (λ (r : Raiser). IsRecorded r.turning)) f h.nested).1;
      stack = h.stack;
      places = places.1;
      flash = h.flash;
      globals = h.globals;
      arena = h.arena;
      used = h.used;
      board = h.board;
      seats = h.seats;
      hears = h.hears;
      mark = true;
      ready = h.ready ∙ rw (e, f, g, u) refl;
      sleepers = h.sleepers;
      waiters = h.waiters;
    }

-- the first handler of the innermost place stands first
pub first_standing : (image : List ℕ) (hs : List Hearing) (stack : List ℕ) (n : ℕ) (rs : List Raiser) (p : PendingDispatch) (ps : List PendingDispatch) (i : ℕ) (is : List ℕ) → ArePlaces n rs (p ∷ ps) → p.left ≡ i ∷ is
    → standing image hs stack rs (p ∷ ps) ≡ begun_as image (base_for image rs) p.event hs i ∷ standing image hs stack rs (record p { left = is } ∷ ps)
first_standing image hs stack n [] p ps i is a e = ap (map (begun_as image (base_of image) p.event hs)) e
first_standing image hs stack n (r ∷ rs) p ps i is a e = rw e refl

pub fewer_places : (n : ℕ) (rs : List Raiser) (p : PendingDispatch) (ps : List PendingDispatch) (i : ℕ) (is : List ℕ) → ArePlaces n rs (p ∷ ps) → p.left ≡ i ∷ is → ArePlaces n rs (record p { left = is } ∷ ps)
fewer_places n [] p [] i is a e = let r : IsRising 0 (i ∷ is) n = subst (λ l. IsRising 0 l n) e a in rising_from (suc i) 0 is n (omega arith) r.2
fewer_places n [] p (q ∷ ps) i is a e = absurd a
fewer_places n (r ∷ rs) p ps i is a e = let r : IsRising 0 (i ∷ is) n = subst (λ l. IsRising 0 l n) e a.0 in (rising_from (suc i) 0 is n (omega arith) r.2, a.1)

nested_at : (image : List ℕ) (rs : List Raiser) → IsNested 0 rs → IsNested (base_for image rs) rs
nested_at image [] h = tt
nested_at image (r ∷ rs) h = (omega arith, h.1, h.2)

-- The next handler begins in the machine: the world, which has it since the dispatch, stays.
pub invoked : (image : List ℕ) (b : BoardState) (w : World Fiber Shared) (p : PendingDispatch) (ps : List PendingDispatch) (i : ℕ) (is : List ℕ) (h : Represents image b w) → b.runtime.running ≡ None
    → b.places ≡ p ∷ ps → p.left ≡ i ∷ is
    → (let hs = hearings b.bus.listeners in let t : Turning = record { key = None; value = p.event.value; listener = Some i } in
    Represents image (record b { runtime = started (handler_of i hs) (base_for image b.runtime.raisers) t b.runtime; places = record p { left = is } ∷ ps }) w)
invoked image b w p ps i is h e g u =
    let hs = hearings b.bus.listeners in
    let rs = b.runtime.raisers in
    let base = base_for image rs in
    let stack = b.runtime.machine.memory.stack in
    let t : Turning = record { key = None; value = p.event.value; listener = Some i } in
    let nested : IsNested 0 rs = subst (λ x. IsStanding x b.runtime.machine rs) e h.stands in
    let places : ArePlaces (length b.bus.listeners) rs (p ∷ ps) = subst (λ x. ArePlaces (length b.bus.listeners) rs x) g h.places in
    let empty : words_in stack base base ≡ [] = no_words stack base in
    let first : acting (fiber_on (machine_started (handler_of i hs) base b.runtime.machine)) t false ≡ begun_as image base p.event hs i =
    ap (λ ws. acting (record { registers = begun base (return_of b.runtime.machine.memory.flash) (handler_of i hs); base = base; bank = ws }) t false) empty
    ∙ ap (λ f. acting (record { registers = begun base (return_of f) (handler_of i hs); base = base; bank = [] }) t false) h.flash in
    record {
      sound = sound_started (handler_of i hs) base t b.runtime h.sound e refl;
      stands = (record { span = rw empty (omega arith); inside = λ some. absurd (let z : length (words_in stack base base) ≡ 0 = ap length empty in omega (arith, some, z)) }, nested_at image rs nested);
      runner = λ (none : ◌≡◌ {A = Option ℕ} (Some i) None). absurd (cc);
      nested = h.nested;
      stack = h.stack;
      places = fewer_places (length b.bus.listeners) rs p ps i is places u;
      flash = h.flash;
      globals = h.globals;
      arena = h.arena;
      used = h.used;
      board = h.board;
      seats = h.seats;
      hears = h.hears;
      mark = false;
      ready = h.ready ∙ rw (e, g, first_standing image hs stack (length b.bus.listeners) rs p ps i is places u) (sym (rw first refl));
      sleepers = h.sleepers;
      waiters = h.waiters;
    }

-- the listener of the next handler stands
pub next_stands : (n : ℕ) (rs : List Raiser) (p : PendingDispatch) (ps : List PendingDispatch) (i : ℕ) (is : List ℕ) → ArePlaces n rs (p ∷ ps) → p.left ≡ i ∷ is → i < n
next_stands n [] p [] i is a e = (let r : IsRising 0 (i ∷ is) n = subst (λ l. IsRising 0 l n) e a in r.1)
next_stands n [] p (q ∷ ps) i is a e = absurd a
next_stands n (r ∷ rs) p ps i is a e = (let s : IsRising 0 (i ∷ is) n = subst (λ l. IsRising 0 l n) e a.0 in s.1)
