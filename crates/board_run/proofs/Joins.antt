-- The running fiber spawns another, or registers a listener.
use Rattle.std.proofs.Common.{◌≡◌, ℕ, zero, suc, ◌<◌, ◌≤◌, true, false, pos, List, [], ◌∷◌, ◌++◌, length, map, max, nat_lt, Some, None, refl, sym, ap, ◌∙◌, subst, arith, append_assoc, length-append}
use Rattle.std.proofs.lemmas.Bool.Decides.{nat_tests}
use Rattle.std.proofs.lemmas.List.{map-append}
use Rattle.slab.specs.Slab.{slab_len}
use Rattle.thumb_code.specs.Machine.{State as Machine, base_of}
use Rattle.board_world.specs.declared.events.Listener.{Listener}
use Rattle.board_world.specs.Board.{Board}
use Rattle.board_world.specs.Waiting.{Hearing, handler_of}
use Rattle.board_world.specs.Activities.{Activity, World}
use Rattle.board_world.specs.Kinds.{Spawns, Listens}
use Rattle.board_world.specs.World.{acted, goes_on}
use Rattle.bank_model.specs.Fibers.{Fiber, Shared, begins}
use Rattle.bank_model.specs.BoardMachine.{fibers}
use Rattle.message_bus.specs.ListenerState.{ListenerState, fresh as fresh_listener}
use Rattle.message_bus.specs.BusState.{BusState}
use Rattle.message_bus.specs.Agreement.{Agrees, hearings}
use Rattle.message_bus.proofs.Laws.{listens-agrees, goes-agrees, joins-agrees}
use Rattle.fiber_runtime.specs.declared.turning.Turning.{Turning}
use Rattle.fiber_runtime.specs.State.{State}
use Rattle.fiber_runtime.specs.Sound.{IsSound, IsStanding, IsNested}
use Rattle.fiber_runtime.specs.Moves.{Spawned, fresh}
use Rattle.fiber_queues.proofs.Laws.{how_often-listed}
use Rattle.fiber_runtime.proofs.Laws.{sound_machine, sound_spawned, free_key_nowhere, inside_fits}
use Rattle.bank_model.specs.Standing.{fiber_on}
use Rattle.bank_model.specs.Standing.{shared_on}
use Rattle.board_run.specs.Shown.{acting, of_kept, of_key, standing}
use Rattle.board_run.specs.Represents.{BoardState, Represents, behind}
use Rattle.board_run.proofs.Standing.{standing_heard, places_more, keys_same, keyed_same, key_is}
use Rattle.board_run.proofs.FiberGoesOn.{current, IsPlain, IsOnward, first_ready, below, behind_same, others_kept}

-- a listener more, behind the others
handler_more : (hs : List Hearing) (x : Hearing) (i : ℕ) → i < length hs → handler_of i (hs ++ x ∷ []) ≡ handler_of i hs
handler_more [] x i l = absurd (omega arith)
handler_more (h ∷ hs) x zero l = refl
handler_more (h ∷ hs) x (suc i) l = handler_more hs x i (omega arith)

hearings_more : (ls : List ListenerState) (x : ListenerState) → hearings (ls ++ x ∷ []) ≡ hearings ls ++ x.hearing ∷ []
hearings_more ls x = map-append (λ l. l.hearing) ls (x ∷ [])

pub length_hearings : (ls : List ListenerState) → length (hearings ls) ≡ length ls
length_hearings [] = refl
length_hearings (l ∷ ls) = ap suc (length_hearings ls)

module _ (image : List ℕ) (b : BoardState) (w : World Fiber Shared) (h : Represents image b w) (t : Turning) (runs : b.runtime.running ≡ Some t) where
  -- A listener is registered, behind the others.
  pub listens : (l : Listener) (m : Machine) (rest : List ℕ) → IsOnward b.runtime.machine m → length b.bus.listeners < 32
      → Represents image (record b { runtime = record b.runtime { machine = m }; bus = record b.bus { listeners = b.bus.listeners ++ fresh_listener l ∷ [] } })
      (acted (fibers image) (current b t h.mark) (behind image b) w (Listens l (fiber_on m) (shared_on b.plain.used m.memory rest)))
  listens l m rest o few =
      let bus : BusState = record b.bus { listeners = b.bus.listeners ++ fresh_listener l ∷ [] } in
      let hs = hearings b.bus.listeners in
      let hs' = hearings bus.listeners in
      let size : length m.memory.stack ≡ 1024 = o.keeps.size ∙ h.stack in
      let count : length w.listeners ≡ length b.bus.listeners = ap length h.hears.listeners ∙ length_hearings b.bus.listeners in
      let room : nat_lt (length w.listeners) 32 ≡ true = (let n : length w.listeners < 32 = omega (arith, count, few) in grind (arith, nat_tests, n)) in
      let agrees = listens-agrees (fibers image) (current b t h.mark) (behind image b) l (fiber_on m) (shared_on b.plain.used m.memory rest) b.bus w h.hears (first_ready image b w h t runs) room in
      let v : World Fiber Shared = goes_on (current b t h.mark) (behind image b) (fiber_on m, shared_on b.plain.used m.memory rest) w.board (record w { listeners = w.listeners ++ record { listener = l; held = [] } ∷ [] }) in
      let turn : acted (fibers image) (current b t h.mark) (behind image b) w (Listens l (fiber_on m) (shared_on b.plain.used m.memory rest)) ≡ v = rw room refl in
      let same = λ (i : ℕ) (n : i < length b.bus.listeners). ap (handler_of i) (hearings_more b.bus.listeners (fresh_listener l)) ∙ handler_more hs (fresh_listener l).hearing i (omega (arith, n, length_hearings b.bus.listeners)) in
      let before : standing image hs' m.memory.stack b.runtime.raisers b.places ≡ standing image hs b.runtime.machine.memory.stack b.runtime.raisers b.places =
      standing_heard image m.memory.stack hs hs' (length b.bus.listeners) b.runtime.raisers b.places same h.places ∙ behind_same image b w h t runs m o.keeps in
      let more : length b.bus.listeners ≤ length bus.listeners = omega (arith, length-append b.bus.listeners (fresh_listener l ∷ [])) in
      subst (Represents image (record b { runtime = record b.runtime { machine = m }; bus = bus })) (sym turn) (record {
        sound = sound_machine b.runtime m h.sound;
        stands = subst (λ x. IsStanding x m b.runtime.raisers) (sym runs) (inside_fits m t o.inside size, subst (λ n. IsNested n b.runtime.raisers) (sym o.keeps.base) (below image b w h t runs).1);
        runner = h.runner;
        nested = h.nested;
        stack = size;
        places = places_more (length b.bus.listeners) (length bus.listeners) b.runtime.raisers b.places more h.places;
        flash = o.keeps.flash ∙ h.flash;
        globals = refl;
        arena = refl;
        used = refl;
        board = h.board;
        seats = h.seats;
        hears = subst (Agrees bus) turn agrees;
        mark = false;
        ready = sym (rw (runs, before) refl);
        sleepers = h.sleepers;
        waiters = h.waiters;
      })

  -- Another fiber begins in a record of its own, as the last ready one.
  pub spawns : (entry : ℕ) (m : Machine) (new : State) (rest : List ℕ) → IsOnward b.runtime.machine m → Spawned entry (base_of m.memory.flash) (record b.runtime { machine = m }) new
      → (let plain : Board = record b.plain { seats = suc b.plain.seats; most = max b.plain.most (suc b.plain.seats); spawned = suc b.plain.spawned } in
      Represents image (record b { runtime = new; plain = plain }) (acted (fibers image) (current b t h.mark) (behind image b) w (Spawns entry (fiber_on m) (shared_on b.plain.used m.memory rest))))
  spawns entry m new rest o k =
      let mid : State = record b.runtime { machine = m } in
      let plain : Board = record b.plain { seats = suc b.plain.seats; most = max b.plain.most (suc b.plain.seats); spawned = suc b.plain.spawned } in
      let board : Board = record w.board { seats = suc w.board.seats; most = max w.board.most (suc w.board.seats); spawned = suc w.board.spawned } in
      let size : length m.memory.stack ≡ 1024 = o.keeps.size ∙ h.stack in
      let flash : m.memory.flash ≡ image = o.keeps.flash ∙ h.flash in
      let x : Activity Fiber = record { self = begins image entry; value = pos 0; listener = None; seated = true; suspended = false } in
      let v : World Fiber Shared = record w { board = board; shared = shared_on b.plain.used m.memory rest; ready = acting (fiber_on m) t false ∷ (behind image b ++ x ∷ []) } in
      let seats : w.board.seats ≡ slab_len b.runtime.pool = ap (λ (p : Board). p.seats) h.board ∙ h.seats in
      let room : nat_lt w.board.seats 24 ≡ true = (let n : w.board.seats < 24 = omega (arith, seats, k.claims.room) in grind (arith, nat_tests, n)) in
      let turn : acted (fibers image) (current b t h.mark) (behind image b) w (Spawns entry (fiber_on m) (shared_on b.plain.used m.memory rest)) ≡ v = rw room refl in
      let z = free_key_nowhere b.runtime k.key h.sound k.claims.free in
      let listings = how_often-listed k.key b.runtime.lists in
      let others = k.claims.updates.others in
      let keys = keys_same b.runtime.pool new.pool b.runtime.lists.ready (others_kept image b w h t runs new.pool k.key others z b.runtime.lists.ready (omega (arith, listings))) in
      let sleepers = keyed_same b.runtime.pool new.pool b.runtime.lists.sleepers (others_kept image b w h t runs new.pool k.key others z (map (λ p. p.1) b.runtime.lists.sleepers) (omega (arith, listings))) in
      let waiters = keyed_same b.runtime.pool new.pool b.runtime.lists.waiters (others_kept image b w h t runs new.pool k.key others z (map (λ p. p.1) b.runtime.lists.waiters) (omega (arith, listings))) in
      let mine : of_key new.pool k.key ≡ x = key_is new.pool k.key _ k.claims.updates.changed ∙ ap (λ f. of_kept (fresh f (base_of f) entry)) flash in
      let all : map (of_key new.pool) (b.runtime.lists.ready ++ k.key ∷ []) ≡ map (of_key b.runtime.pool) b.runtime.lists.ready ++ x ∷ [] = map-append (of_key new.pool) b.runtime.lists.ready (k.key ∷ []) ∙ rw (keys, mine) refl in
      let stand = standing image (hearings b.bus.listeners) b.runtime.machine.memory.stack b.runtime.raisers b.places in
      let u = goes-agrees b.bus b.bus.queue (current b t h.mark) (behind image b) (fiber_on m, shared_on b.plain.used m.memory rest) board w h.hears (first_ready image b w h t runs) h.hears.queue in
      let g : World Fiber Shared = goes_on (current b t h.mark) (behind image b) (fiber_on m, shared_on b.plain.used m.memory rest) board w in
      let agrees : Agrees b.bus v = joins-agrees b.bus x board g (shared_on b.plain.used m.memory rest) (acting (fiber_on m) t false ∷ behind image b) u refl refl (λ i. refl) in
      let p : IsPlain board plain = ap (λ (y : Board). record y { seats = suc y.seats; most = max y.most (suc y.seats); spawned = suc y.spawned }) h.board in
      subst (Represents image (record b { runtime = new; plain = plain })) (sym turn)
      (subst (λ y. Represents image (record b { runtime = y; plain = plain }) v) (sym k.rest) (record {
        sound = subst IsSound k.rest (sound_spawned entry (base_of m.memory.flash) mid new (sound_machine b.runtime m h.sound) k);
        stands = subst (λ x. IsStanding x m b.runtime.raisers) (sym runs) (inside_fits m t o.inside size, subst (λ n. IsNested n b.runtime.raisers) (sym o.keeps.base) (below image b w h t runs).1);
        runner = h.runner;
        nested = h.nested;
        stack = size;
        places = h.places;
        flash = flash;
        globals = refl;
        arena = refl;
        used = refl;
        board = p;
        seats = omega (arith, h.seats, k.claims.live);
        hears = agrees;
        mark = false;
        ready = ap (λ l. acting (fiber_on m) t false ∷ l) (append_assoc stand (map (of_key b.runtime.pool) b.runtime.lists.ready) (x ∷ [])) ∙ sym (rw (runs, behind_same image b w h t runs m o.keeps, all) refl);
        sleepers = h.sleepers ∙ sym sleepers;
        waiters = h.waiters ∙ sym waiters;
      }))
