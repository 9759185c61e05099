-- An event is dispatched, or raised at once on top of the running fiber.
use Rattle.std.proofs.Common.{◌≡◌, ℕ, ◌+◌, ◌<◌, ◌≤◌, Bool, true, false, not, ◌&&◌, List, [], ◌∷◌, ◌++◌, length, map, nat_le, Option, Some, None, is_some, refl, sym, ap, ◌∙◌, subst, arith, append_assoc}
use Rattle.std.proofs.lemmas.Bool.Decides.{nat_tests}
use Rattle.std.proofs.lemmas.List.{map-append, length-map}
use Rattle.slab.specs.Slab.{Slab, get}
use Rattle.thumb_code.specs.Machine.{State as Machine, base_of}
use Rattle.board_world.specs.declared.events.Event.{Event}
use Rattle.board_world.specs.Board.{Board, arrive_all}
use Rattle.board_world.specs.Waiting.{Hearing, handler_of, chosen, left, hears, none, how_many}
use Rattle.board_world.specs.Activities.{Activity, World, woken, handlers, holding}
use Rattle.board_world.specs.Kinds.{RaisesNow}
use Rattle.board_world.specs.Observations.{Panicked}
use Rattle.thumb_code.specs.Arithmetic.{bit_of}
use Rattle.fiber_runtime.proofs.Laws.{inside_fits, sound_machine, sound_suspended, sound_woken, sound_awake, once_most}
use Rattle.fiber_queues.proofs.Laws.{how_often-listed, chosen-keyed, left-keyed, how_often-parted}
use Rattle.board_world.specs.World.{acted, dispatch, jump, stops}
use Rattle.bank_model.specs.Fibers.{Fiber, Shared, begins_on}
use Rattle.bank_model.specs.BoardMachine.{fibers}
use Rattle.fiber_pool.specs.Kept.{Kept}
use Rattle.fiber_queues.specs.Calls.{keyed, due_woken}
use Rattle.message_bus.specs.ListenerState.{heard}
use Rattle.message_bus.specs.BusState.{BusState}
use Rattle.message_bus.specs.Agreement.{Agrees, hearings}
use Rattle.message_bus.proofs.Laws.{begun-agrees, raise_now-agrees, dispatch-agrees, many-append, jump-agrees, begun-mapped, rising-beginning, handler-heard}
use Rattle.std.specs.Prelude.{IfSome}
use Rattle.fiber_runtime.specs.declared.turning.Turning.{Turning}
use Rattle.fiber_runtime.specs.declared.turning.Raiser.{Raiser}
use Rattle.bank_model.specs.Standing.{fiber_on, shared_on}
use Rattle.fiber_runtime.specs.State.{State}
use Rattle.fiber_queues.specs.Keys.{how_often}
use Rattle.fiber_runtime.specs.Sound.{IsSound, IsNested, IsStanding}
use Rattle.fiber_runtime.specs.Moves.{Woken, suspended}
use Rattle.board_run.specs.Shown.{PendingDispatch, ArePlaces, IsSpent, place_for, acting, running_of, of_raiser, of_key, begun_as, unbegun, standing}
use Rattle.message_bus.specs.Numbers.{IsRising, beginning}
use Rattle.board_run.specs.Represents.{BoardState, IsRecorded, Represents, behind}
use Rattle.board_run.proofs.Standing.{standing_heard, keys_same, keyed_same, keys_woken}
use Rattle.board_run.proofs.FiberGoesOn.{current, IsPlain, IsOnward, first_ready, below, behind_same}
use Rattle.board_run.proofs.Turns.{nobody_before}

-- what the runtime's wakings are in the lists of the world
pub record Wakes (e : Event) (old new : State) : Type 0 where
  pub ready : map (of_key new.pool) old.lists.ready ≡ map (of_key old.pool) old.lists.ready
  pub woke : map (of_key new.pool) (chosen (hears e) old.lists.waiters) ≡ map (woken e.value) (chosen (hears e) (keyed (of_key old.pool) old.lists.waiters))
  pub sleepers : keyed (of_key new.pool) old.lists.sleepers ≡ keyed (of_key old.pool) old.lists.sleepers
  pub waiters : keyed (of_key new.pool) (left (hears e) old.lists.waiters) ≡ left (hears e) (keyed (of_key old.pool) old.lists.waiters)

pub wakes : (e : Event) (old new : State) → IsSound old → Woken e old new → Wakes e old new
wakes e old new s m =
    let q = old.lists in
    let parted = λ (key : ℕ). how_often-parted (hears e) key q.waiters in
    let all = λ (key : ℕ). how_often-listed key q in
    let most = λ (key : ℕ). once_most (is_some (get old.pool key)) in
    let kept = λ (key : ℕ) (n : 1 ≤ how_often key (chosen (hears e) q.waiters)). live key n (get old.pool key) refl in
    record {
      ready = keys_same old.pool new.pool q.ready (λ key n. m.others key (omega (arith, s.each key, n, parted key, all key, most key)));
      woke = keys_woken old.pool new.pool e.value (chosen (hears e) q.waiters) (λ key n. kept key n) ∙ ap (map (woken e.value)) (sym (chosen-keyed (hears e) (of_key old.pool) q.waiters));
      sleepers = keyed_same old.pool new.pool q.sleepers (λ key n. m.others key (omega (arith, s.each key, n, parted key, all key, most key)));
      waiters = keyed_same old.pool new.pool (left (hears e) q.waiters) (λ key n. m.others key (omega (arith, s.each key, n, parted key, all key, most key))) ∙ sym (left-keyed (hears e) (of_key old.pool) q.waiters);
    }
  where
    live : (key : ℕ) → 1 ≤ how_often key (chosen (hears e) old.lists.waiters) → (o : Option Kept) → get old.pool key ≡ o → (k : Kept) × (get old.pool key ≡ Some k) × (get new.pool key ≡ Some (record k { value = e.value }))
    live key n (Some k) g = (k, g, m.changed key k g n)
    live key n None g = absurd (
        let z : bit_of (is_some (get old.pool key)) ≡ 0 = ap (λ x. bit_of (is_some x)) g in
        omega (arith, s.each key, n, how_often-parted (hears e) key old.lists.waiters, how_often-listed key old.lists, z))

-- the handlers that the world makes are those of the dispatch place
pub handlers_shown : (image : List ℕ) (base : ℕ) (e : Event) (b : BusState) (w : World Fiber Shared) → Agrees b w
    → handlers (begins_on image base) e w 0 w.listeners ≡ unbegun image base (hearings (map (heard e) b.listeners)) (place_for e b.listeners)
handlers_shown image base e b w h =
    begun-agrees (begins_on image base) e b w h
    ∙ begun-mapped (begins_on image base) e 0 b.listeners (λ i. handler_of i (hearings (map (heard e) b.listeners)))
    (λ j. (let z : 0 + j ≡ j = omega arith in ap (λ i. handler_of i (hearings (map (heard e) b.listeners))) z ∙ handler-heard e j b.listeners))

-- how many of those behind are suspended
none_begun : (image : List ℕ) (base : ℕ) (e : Event) (hs : List Hearing) (is : List ℕ) → how_many (λ (c : Activity Fiber). c.suspended) (map (begun_as image base e hs) is) ≡ 0
none_begun image base e hs [] = refl
none_begun image base e hs (i ∷ is) = none_begun image base e hs is

none_kept : (pool : Slab Kept) (keys : List ℕ) → how_many (λ (c : Activity Fiber). c.suspended) (map (of_key pool) keys) ≡ 0
none_kept pool [] = refl
none_kept pool (k ∷ ks) = none_kept pool ks

raisers_suspended : (image : List ℕ) (hs : List Hearing) (stack : List ℕ) (n : ℕ) (rs : List Raiser) (ps : List PendingDispatch) → ArePlaces n rs ps → how_many (λ (c : Activity Fiber). c.suspended) (standing image hs stack rs ps) ≡ length rs
raisers_suspended image hs stack n [] [] a = absurd a
raisers_suspended image hs stack n [] (p ∷ []) a = none_begun image (base_of image) p.event hs p.left
raisers_suspended image hs stack n [] (p ∷ (q ∷ ps)) a = absurd a
raisers_suspended image hs stack n (r ∷ rs) [] a = absurd a
raisers_suspended image hs stack n (r ∷ rs) (p ∷ ps) a =
    let s : Activity Fiber → Bool = λ c. c.suspended in
    let x = many-append s (unbegun image r.registers.sp hs p) (of_raiser stack r ∷ standing image hs stack rs ps) in
    let y = none_begun image r.registers.sp p.event hs p.left in
    let z = raisers_suspended image hs stack n rs ps a.1 in
    omega (arith, x, y, z)

pub behind_suspended : (image : List ℕ) (b : BoardState) → ArePlaces (length b.bus.listeners) b.runtime.raisers b.places → how_many (λ (c : Activity Fiber). c.suspended) (behind image b) ≡ length b.runtime.raisers
behind_suspended image b a =
    let s : Activity Fiber → Bool = λ c. c.suspended in
    let before = standing image (hearings b.bus.listeners) b.runtime.machine.memory.stack b.runtime.raisers b.places in
    let x = many-append s before (map (of_key b.runtime.pool) b.runtime.lists.ready) in
    let y = raisers_suspended image (hearings b.bus.listeners) b.runtime.machine.memory.stack (length b.bus.listeners) b.runtime.raisers b.places a in
    let z = none_kept b.runtime.pool b.runtime.lists.ready in
    omega (arith, x, y, z)

module _ (image : List ℕ) (b : BoardState) (w : World Fiber Shared) (h : Represents image b w) (t : Turning) (runs : b.runtime.running ≡ Some t) where
  -- The event's handlers begin on top of the running fiber, which is suspended; the waiters who hear it become ready behind all others.
  pub raises_now : (e : Event) (m : Machine) (new : State) (rest : List ℕ) → IsOnward b.runtime.machine m → length b.runtime.raisers < 32
      → none (handlers (begins_on image m.registers.sp) e w 0 w.listeners) ≡ false
      → Woken e (suspended t (record b.runtime { machine = m })) new
      → (let bus : BusState = record b.bus { listeners = map (heard e) b.bus.listeners } in
      Represents image (record b { runtime = new; bus = bus; places = place_for e b.bus.listeners ∷ b.places })
      (acted (fibers image) (current b t h.mark) (behind image b) w (RaisesNow e (begins_on image m.registers.sp) (fiber_on m) (shared_on b.plain.used m.memory rest))))
  raises_now e m new rest o room some k =
      let hs = hearings b.bus.listeners in
      let hs' = hearings (map (heard e) b.bus.listeners) in
      let bus : BusState = record b.bus { listeners = map (heard e) b.bus.listeners } in
      let above = begins_on image m.registers.sp in
      let mid : State = suspended t (record b.runtime { machine = m }) in
      let s0 : IsSound mid = sound_suspended t (record b.runtime { machine = m }) (sound_machine b.runtime m h.sound) runs room in
      let ws = wakes e mid new s0 k in
      let many = behind_suspended image b h.places in
      let few : nat_le 32 (how_many (λ (c : Activity Fiber). c.suspended) (behind image b)) ≡ false = (let l : how_many (λ (c : Activity Fiber). c.suspended) (behind image b) < 32 = omega (arith, many, room) in grind (arith, nat_tests, l)) in
      let fits : (not (none (handlers above e w 0 w.listeners)) && nat_le 32 (how_many (λ (c : Activity Fiber). c.suspended) (behind image b))) ≡ false = rw (some, few) refl in
      let agrees = raise_now-agrees (fibers image) (current b t h.mark) (behind image b) e above (fiber_on m) (shared_on b.plain.used m.memory rest) b.bus w h.hears (first_ready image b w h t runs) fits in
      let v : World Fiber Shared = record w {
        shared = shared_on b.plain.used m.memory rest;
        ready = handlers above e w 0 w.listeners ++ (acting (fiber_on m) t true ∷ (behind image b ++ map (woken e.value) (chosen (hears e) w.waiters)));
        waiters = left (hears e) w.waiters;
        listeners = agrees_listeners e;
      } in
      let turn : acted (fibers image) (current b t h.mark) (behind image b) w (RaisesNow e above (fiber_on m) (shared_on b.plain.used m.memory rest)) ≡ v = rw (some, few) refl in
      let same = behind_same image b w h t runs m o.keeps in
      let before : standing image hs' m.memory.stack b.runtime.raisers b.places ≡ standing image hs b.runtime.machine.memory.stack b.runtime.raisers b.places =
      standing_heard image m.memory.stack hs hs' (length b.bus.listeners) b.runtime.raisers b.places (λ i l. handler-heard e i b.bus.listeners) h.places ∙ same in
      let count : length (map (heard e) b.bus.listeners) ≡ length b.bus.listeners = length-map b.bus.listeners (heard e) in
      let rising : IsRising 0 (beginning e 0 b.bus.listeners) (length (map (heard e) b.bus.listeners)) = rising-beginning e 0 _ b.bus.listeners (omega (arith, count)) in
      let nested : IsNested m.memory.base b.runtime.raisers = subst (λ n. IsNested n b.runtime.raisers) (sym o.keeps.base) (below image b w h t runs).1 in
      let keys : map (of_key new.pool) (b.runtime.lists.ready ++ chosen (hears e) b.runtime.lists.waiters) ≡ map (of_key b.runtime.pool) b.runtime.lists.ready ++ map (woken e.value) (chosen (hears e) w.waiters) =
      map-append (of_key new.pool) b.runtime.lists.ready (chosen (hears e) b.runtime.lists.waiters) ∙ rw (ws.ready, ws.woke, h.waiters) refl in
      let b' : BoardState = record b { runtime = record mid { pool = new.pool; lists = record b.runtime.lists { ready = b.runtime.lists.ready ++ chosen (hears e) b.runtime.lists.waiters; waiters = left (hears e) b.runtime.lists.waiters } }; bus = bus; places = place_for e b.bus.listeners ∷ b.places } in
      let ready : v.ready ≡ behind image b' =
      front _ _ _ _ _ _ _ _ (handlers_shown image m.registers.sp e b.bus w h.hears) (sym before) (sym keys) in
      subst (Represents image (record b { runtime = new; bus = bus; places = place_for e b.bus.listeners ∷ b.places })) (sym turn)
      (subst (λ y. Represents image (record b { runtime = y; bus = bus; places = place_for e b.bus.listeners ∷ b.places }) v) (sym k.rest) (record {
        sound = subst IsSound k.rest (sound_woken e mid new s0 k);
        stands = (omega arith, o.inside, nested);
        runner = tt;
        nested = (subst (λ (o : Option Turning). IfSome o IsRecorded) runs h.runner, h.nested);
        stack = o.keeps.size ∙ h.stack;
        places = (rising, subst (λ n. ArePlaces n b.runtime.raisers b.places) (sym count) h.places);
        flash = o.keeps.flash ∙ h.flash;
        globals = refl;
        arena = refl;
        used = refl;
        board = h.board;
        seats = h.seats ∙ sym k.live;
        hears = subst (Agrees bus) turn agrees;
        mark = false;
        ready = ready;
        sleepers = h.sleepers ∙ sym ws.sleepers;
        waiters = ap (left (hears e)) h.waiters ∙ sym ws.waiters;
      }))
    where
      agrees_listeners : (e : Event) → List Hearing
      agrees_listeners e = holding e w 0 w.listeners

      front : (new new' : List (Activity Fiber)) (x : Activity Fiber) (before before' ready ready' woke : List (Activity Fiber)) → new ≡ new' → before ≡ before' → ready ++ woke ≡ ready'
          → new ++ (x ∷ ((before ++ ready) ++ woke)) ≡ (new' ++ (x ∷ before')) ++ ready'
      front new new' x before before' ready ready' woke p q r =
          rw (p, q) (ap (λ l. new' ++ (x ∷ l)) (append_assoc before' ready woke ∙ ap (λ l. before' ++ l) r) ∙ sym (append_assoc new' (x ∷ before') ready'))

  -- No handler begins: the running fiber goes on, and the waiters who hear the event become ready.
  pub raises_to_waiters : (e : Event) (m : Machine) (new : State) (rest : List ℕ) → IsOnward b.runtime.machine m
      → none (handlers (begins_on image m.registers.sp) e w 0 w.listeners) ≡ true
      → Woken e (record b.runtime { machine = m }) new
      → (let bus : BusState = record b.bus { listeners = map (heard e) b.bus.listeners } in
      Represents image (record b { runtime = new; bus = bus })
      (acted (fibers image) (current b t h.mark) (behind image b) w (RaisesNow e (begins_on image m.registers.sp) (fiber_on m) (shared_on b.plain.used m.memory rest))))
  raises_to_waiters e m new rest o nobody k =
      let hs = hearings b.bus.listeners in
      let hs' = hearings (map (heard e) b.bus.listeners) in
      let bus : BusState = record b.bus { listeners = map (heard e) b.bus.listeners } in
      let above = begins_on image m.registers.sp in
      let mid : State = record b.runtime { machine = m } in
      let s0 : IsSound mid = sound_machine b.runtime m h.sound in
      let ws = wakes e mid new s0 k in
      let fits : (not (none (handlers above e w 0 w.listeners)) && nat_le 32 (how_many (λ (c : Activity Fiber). c.suspended) (behind image b))) ≡ false = rw nobody refl in
      let agrees = raise_now-agrees (fibers image) (current b t h.mark) (behind image b) e above (fiber_on m) (shared_on b.plain.used m.memory rest) b.bus w h.hears (first_ready image b w h t runs) fits in
      let v : World Fiber Shared = record w {
        shared = shared_on b.plain.used m.memory rest;
        ready = acting (fiber_on m) t false ∷ (behind image b ++ map (woken e.value) (chosen (hears e) w.waiters));
        waiters = left (hears e) w.waiters;
        listeners = holding e w 0 w.listeners;
      } in
      let empty = nobody_new (handlers above e w 0 w.listeners) nobody in
      let turn : acted (fibers image) (current b t h.mark) (behind image b) w (RaisesNow e above (fiber_on m) (shared_on b.plain.used m.memory rest)) ≡ v = rw empty refl in
      let before : standing image hs' m.memory.stack b.runtime.raisers b.places ≡ standing image hs b.runtime.machine.memory.stack b.runtime.raisers b.places =
      standing_heard image m.memory.stack hs hs' (length b.bus.listeners) b.runtime.raisers b.places (λ i l. handler-heard e i b.bus.listeners) h.places ∙ behind_same image b w h t runs m o.keeps in
      let count : length (map (heard e) b.bus.listeners) ≡ length b.bus.listeners = length-map b.bus.listeners (heard e) in
      let nested : IsNested m.memory.base b.runtime.raisers = subst (λ n. IsNested n b.runtime.raisers) (sym o.keeps.base) (below image b w h t runs).1 in
      let size : length m.memory.stack ≡ 1024 = o.keeps.size ∙ h.stack in
      let keys : map (of_key new.pool) (b.runtime.lists.ready ++ chosen (hears e) b.runtime.lists.waiters) ≡ map (of_key b.runtime.pool) b.runtime.lists.ready ++ map (woken e.value) (chosen (hears e) w.waiters) =
      map-append (of_key new.pool) b.runtime.lists.ready (chosen (hears e) b.runtime.lists.waiters) ∙ rw (ws.ready, ws.woke, h.waiters) refl in
      subst (Represents image (record b { runtime = new; bus = bus })) (sym turn)
      (subst (λ y. Represents image (record b { runtime = y; bus = bus }) v) (sym k.rest) (record {
        sound = subst IsSound k.rest (sound_woken e mid new s0 k);
        stands = subst (λ x. IsStanding x m b.runtime.raisers) (sym runs) (inside_fits m t o.inside size, nested);
        runner = h.runner;
        nested = h.nested;
        stack = size;
        places = subst (λ n. ArePlaces n b.runtime.raisers b.places) (sym count) h.places;
        flash = o.keeps.flash ∙ h.flash;
        globals = refl;
        arena = refl;
        used = refl;
        board = h.board;
        seats = h.seats ∙ sym k.live;
        hears = subst (Agrees bus) turn agrees;
        mark = false;
        ready = ap (λ l. acting (fiber_on m) t false ∷ l) (append_assoc (standing image hs b.runtime.machine.memory.stack b.runtime.raisers b.places) (map (of_key b.runtime.pool) b.runtime.lists.ready) _) ∙ sym (rw (runs, before, keys) refl);
        sleepers = h.sleepers ∙ sym ws.sleepers;
        waiters = ap (left (hears e)) h.waiters ∙ sym ws.waiters;
      }))
    where
      nobody_new : (xs : List (Activity Fiber)) → none xs ≡ true → xs ≡ []
      nobody_new [] g = refl
      nobody_new (x ∷ xs) g = absurd (cc)

  -- Where 32 raisers stand, a raise that would begin a handler is the panic, and nothing else changes.
  pub raises_too_deep : (e : Event) (self : Fiber) (shared : Shared) (above : ℕ → Fiber) → 32 ≤ length b.runtime.raisers → none (handlers above e w 0 w.listeners) ≡ false
      → acted (fibers image) (current b t h.mark) (behind image b) w (RaisesNow e above self shared) ≡ stops (Panicked 106) w
  raises_too_deep e self shared above deep some =
      let many = behind_suspended image b h.places in
      let full : nat_le 32 (how_many (λ (c : Activity Fiber). c.suspended) (behind image b)) ≡ true = (let l : 32 ≤ how_many (λ (c : Activity Fiber). c.suspended) (behind image b) = omega (arith, many, deep) in grind (arith, nat_tests, l)) in
      rw (some, full) refl

-- Nobody runs, no raiser stands, no handler is left and no key is ready: nobody is ready in the world.
pub nobody_ready : (image : List ℕ) (b : BoardState) (w : World Fiber Shared) (h : Represents image b w) → b.runtime.running ≡ None → b.runtime.raisers ≡ [] → IsSpent b.places → b.runtime.lists.ready ≡ [] → w.ready ≡ []
nobody_ready image b w h e f u k =
    let hs = hearings b.bus.listeners in
    let stack = b.runtime.machine.memory.stack in
    let none = ap (λ rs. standing image hs stack rs b.places) f ∙ nobody_before image hs stack (length b.bus.listeners) b.places (subst (λ rs. ArePlaces (length b.bus.listeners) rs b.places) f h.places) u in
    h.ready ∙ rw (e, none, k) refl

-- The oldest event is dispatched.
pub dispatched : (image : List ℕ) (b : BoardState) (w : World Fiber Shared) (h : Represents image b w) → b.runtime.running ≡ None → b.runtime.raisers ≡ [] → w.ready ≡ [] → b.runtime.lists.ready ≡ []
    → (e : Event) (rest : List Event) (new : State) → Woken e b.runtime new
    → Represents image (record b { runtime = new; bus = record { listeners = map (heard e) b.bus.listeners; queue = rest }; places = place_for e b.bus.listeners ∷ []; plain = record b.plain { queue = rest } }) (dispatch (fibers image) e rest w)
dispatched image b w h o f empty k e rest new m =
    let hs' = hearings (map (heard e) b.bus.listeners) in
    let ws = wakes e b.runtime new h.sound m in
    let count : length (map (heard e) b.bus.listeners) ≡ length b.bus.listeners = length-map b.bus.listeners (heard e) in
    let agrees = dispatch-agrees (fibers image) e rest b.bus w h.hears in
    let keys : map (of_key new.pool) (b.runtime.lists.ready ++ chosen (hears e) b.runtime.lists.waiters) ≡ map (woken e.value) (chosen (hears e) w.waiters) =
    map-append (of_key new.pool) b.runtime.lists.ready (chosen (hears e) b.runtime.lists.waiters) ∙ rw (k, ws.woke, h.waiters) refl in
    let bus : BusState = record { listeners = map (heard e) b.bus.listeners; queue = rest } in
    let shown : running_of b.runtime.running b.runtime.machine false ++ (standing image hs' b.runtime.machine.memory.stack b.runtime.raisers (place_for e b.bus.listeners ∷ []) ++ map (of_key new.pool) (b.runtime.lists.ready ++ chosen (hears e) b.runtime.lists.waiters))
    ≡ unbegun image (base_of image) hs' (place_for e b.bus.listeners) ++ map (woken e.value) (chosen (hears e) w.waiters) = rw (o, f, keys) refl in
    subst (λ y. Represents image (record b { runtime = y; bus = bus; places = place_for e b.bus.listeners ∷ []; plain = record b.plain { queue = rest } }) (dispatch (fibers image) e rest w)) (sym m.rest) (record {
      sound = subst IsSound m.rest (sound_woken e b.runtime new h.sound m);
      stands = h.stands;
      runner = h.runner;
      nested = h.nested;
      stack = h.stack;
      places = subst (λ rs. ArePlaces (length (map (heard e) b.bus.listeners)) rs (place_for e b.bus.listeners ∷ [])) (sym f) (rising-beginning e 0 _ b.bus.listeners (omega (arith, count)));
      flash = h.flash;
      globals = h.globals;
      arena = h.arena;
      used = h.used;
      board = ap (λ (p : Board). record p { queue = rest }) h.board;
      seats = h.seats ∙ sym m.live;
      hears = agrees;
      mark = false;
      ready = ap (λ l. l ++ (handlers (begins_on image (base_of image)) e w 0 w.listeners ++ map (woken e.value) (chosen (hears e) w.waiters))) empty ∙ ap (λ l. l ++ map (woken e.value) (chosen (hears e) w.waiters)) (handlers_shown image (base_of image) e b.bus w h.hears) ∙ sym shown;
      sleepers = h.sleepers ∙ sym ws.sleepers;
      waiters = ap (left (hears e)) h.waiters ∙ sym ws.waiters;
    })

-- The clock goes to a moment, and the script's entries are applied.
pub jumped : (image : List ℕ) (b : BoardState) (w : World Fiber Shared) (h : Represents image b w) (t : ℕ) (plain : Board) (queue : List Event)
    → IsPlain (arrive_all t w.board.script (record w.board { clock = t })) plain → plain.used ≡ b.plain.used → plain.seats ≡ b.plain.seats → (arrive_all t w.board.script (record w.board { clock = t })).queue ≡ queue
    → Represents image (record b { runtime = record b.runtime { lists = due_woken t b.runtime.lists }; bus = record b.bus { queue = queue }; plain = plain }) (jump t w)
jumped image b w h t plain queue p u s q =
    let due = λ (wake : ℕ). nat_le wake t in
    let before = running_of b.runtime.running b.runtime.machine h.mark in
    let stand = standing image (hearings b.bus.listeners) b.runtime.machine.memory.stack b.runtime.raisers b.places in
    let keys = map (of_key b.runtime.pool) b.runtime.lists.ready in
    let more : chosen due w.sleepers ≡ map (of_key b.runtime.pool) (chosen due b.runtime.lists.sleepers) = ap (chosen due) h.sleepers ∙ chosen-keyed due (of_key b.runtime.pool) b.runtime.lists.sleepers in
    record {
      sound = sound_awake b.runtime t h.sound;
      stands = h.stands;
      runner = h.runner;
      nested = h.nested;
      stack = h.stack;
      places = h.places;
      flash = h.flash;
      globals = h.globals;
      arena = h.arena;
      used = h.used ∙ sym u;
      board = p;
      seats = s ∙ h.seats;
      hears = jump-agrees b.bus queue t w h.hears q;
      mark = h.mark;
      ready =
          rw (h.ready, more) (append_assoc before (stand ++ keys) _ ∙ ap (λ l. before ++ l) (append_assoc stand keys _ ∙ ap (λ l. stand ++ l) (sym (map-append (of_key b.runtime.pool) b.runtime.lists.ready (chosen due b.runtime.lists.sleepers)))));
      sleepers = ap (left due) h.sleepers ∙ left-keyed due (of_key b.runtime.pool) b.runtime.lists.sleepers;
      waiters = h.waiters;
    }
