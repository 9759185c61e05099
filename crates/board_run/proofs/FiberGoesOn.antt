-- The running fiber goes on, blocks, spawns or ends, and the world does the same.
use Rattle.std.proofs.Common.{◌≡◌, ◌≢◌, ℕ, suc, ◌+◌, ◌<◌, ◌≤◌, Bool, true, false, List, [], ◌∷◌, ◌++◌, length, map, max, nat_le, Some, None, is_some, refl, sym, ap, ◌∙◌, subst, arith}
use Rattle.std.proofs.lemmas.Bool.Decides.{nat_tests}
use Rattle.std.proofs.lemmas.List.{map-append}
use Rattle.slab.specs.Slab.{Slab, get, slab_len}
use Rattle.thumb_code.specs.Machine.{State as Machine}
use Rattle.board_world.specs.declared.events.Event.{Event}
use Rattle.board_world.specs.Board.{Board}
use Rattle.board_world.specs.Rules.{wake_time}
use Rattle.board_world.specs.Activities.{Activity, World}
use Rattle.board_world.specs.Kinds.{Turn, Pauses, Waits}
use Rattle.board_world.specs.World.{goes_on, acted}
use Rattle.bank_model.specs.Fibers.{Fiber, Shared}
use Rattle.bank_model.specs.BoardMachine.{fibers}
use Rattle.fiber_queues.specs.Calls.{keyed}
use Rattle.fiber_pool.specs.Kept.{Kept}
use Rattle.message_bus.specs.Agreement.{hearings}
use Rattle.fiber_runtime.specs.declared.turning.Turning.{Turning}
use Rattle.fiber_runtime.specs.declared.turning.Raiser.{Raiser}
use Rattle.fiber_runtime.specs.declared.blocking.Why.{Why}
use Rattle.fiber_runtime.specs.declared.blocking.Why.TheVariants.{Pause, Wait}
use Rattle.bank_model.specs.Standing.{words_in, IsInside, fiber_on}
use Rattle.fiber_runtime.specs.State.{State, ReachesBase, kept_of}
use Rattle.fiber_queues.specs.Keys.{listed, how_often}
use Rattle.fiber_runtime.specs.Sound.{IsSound, IsNested, IsStanding}
use Rattle.fiber_runtime.specs.Moves.{Blocked, Adopted, joined}
use Rattle.fiber_queues.proofs.Laws.{how_often-listed}
use Rattle.fiber_runtime.proofs.Laws.{sound_machine, sound_blocked, sound_adopted, own_key_once, free_key_nowhere, inside_fits}
use Rattle.bank_model.specs.Standing.{KeepsAbove}
use Rattle.bank_model.specs.Standing.{shared_on}
use Rattle.board_run.specs.Shown.{acting, running_of, of_key, standing}
use Rattle.board_run.specs.Represents.{BoardState, Represents, behind}
use Rattle.message_bus.proofs.Laws.{goes-agrees, sleeps-agrees, waits-agrees}
use Rattle.board_run.proofs.Standing.{standing_same, keys_same, keyed_same, key_is}

-- who runs now, as the world has it
abbrev pub current : BoardState → Turning → Bool → Activity Fiber
current b t mark = acting (fiber_on b.runtime.machine) t mark

-- the world's part of the board
abbrev pub IsPlain : Board → Board → Type 0
IsPlain board plain = board ≡ record plain { seen = board.seen; unplugged = board.unplugged }

-- a machine whose memory is the same above the base, and whose SP is inside
pub record IsOnward (old new : Machine) : Type 0 where
  pub keeps : KeepsAbove old.memory new.memory
  pub inside : IsInside new.registers.sp new.memory.base

module _ (image : List ℕ) (b : BoardState) (w : World Fiber Shared) (h : Represents image b w) (t : Turning) (runs : b.runtime.running ≡ Some t) where
  pub first_ready : w.ready ≡ current b t h.mark ∷ behind image b
  first_ready = h.ready ∙ ap (λ r. running_of r b.runtime.machine h.mark ++ behind image b) runs

  pub below : IsStanding (Some t) b.runtime.machine b.runtime.raisers
  below = subst (λ x. IsStanding x b.runtime.machine b.runtime.raisers) runs h.stands

  -- those behind it stay, whatever it does to its own words
  pub behind_same : (m : Machine) → KeepsAbove b.runtime.machine.memory m.memory
      → standing image (hearings b.bus.listeners) m.memory.stack b.runtime.raisers b.places ≡ standing image (hearings b.bus.listeners) b.runtime.machine.memory.stack b.runtime.raisers b.places
  behind_same m k = standing_same image (hearings b.bus.listeners) b.runtime.machine.memory.base b.runtime.machine.memory.stack m.memory.stack b.runtime.raisers b.places below.1 k.above

  -- It goes on, with an answer or without one; the plain part of the board may change, and an event may join the queue.
  pub goes : (m : Machine) → IsOnward b.runtime.machine m → (rest : List ℕ) (board plain : Board) (queue : List Event) → IsPlain board plain → plain.seats ≡ b.plain.seats → board.queue ≡ queue
      → Represents image (record b { runtime = record b.runtime { machine = m }; bus = record b.bus { queue = queue }; plain = plain })
      (goes_on (current b t h.mark) (behind image b) (fiber_on m, shared_on plain.used m.memory rest) board w)
  goes m o rest board plain queue p seats q =
      let size : length m.memory.stack ≡ 1024 = o.keeps.size ∙ h.stack in
      record {
        sound = sound_machine b.runtime m h.sound;
        stands = subst (λ x. IsStanding x m b.runtime.raisers) (sym runs) (inside_fits m t o.inside size, subst (λ n. IsNested n b.runtime.raisers) (sym o.keeps.base) below.1);
        runner = h.runner;
        nested = h.nested;
        stack = size;
        places = h.places;
        flash = o.keeps.flash ∙ h.flash;
        globals = refl;
        arena = refl;
        used = refl;
        board = p;
        seats = seats ∙ h.seats;
        hears = goes-agrees b.bus queue (current b t h.mark) (behind image b) (fiber_on m, shared_on plain.used m.memory rest) board w h.hears first_ready q;
        mark = false;
        ready = sym (rw (runs, behind_same m o.keeps) refl);
        sleepers = h.sleepers;
        waiters = h.waiters;
      }

  -- It goes on where it stands, with an answer or without one, and words of the arena may have changed.
  pub goes_still : (rs arena : List ℕ) (free : List ℕ) (board plain : Board) → IsPlain board plain → plain.seats ≡ b.plain.seats
      → (let m : Machine = record { registers = record b.runtime.machine.registers { r = rs }; memory = record b.runtime.machine.memory { arena = arena } } in
      Represents image (record b { runtime = record b.runtime { machine = m }; bus = record b.bus { queue = plain.queue }; plain = plain })
      (goes_on (current b t h.mark) (behind image b) (fiber_on m, shared_on plain.used m.memory free) board w))
  goes_still rs arena free board plain p seats =
      let m : Machine = record { registers = record b.runtime.machine.registers { r = rs }; memory = record b.runtime.machine.memory { arena = arena } } in
      let fits : ReachesBase (kept_of m t) = record { span = below.0.span; inside = below.0.inside } in
      record {
        sound = sound_machine b.runtime m h.sound;
        stands = subst (λ x. IsStanding x m b.runtime.raisers) (sym runs) (fits, below.1);
        runner = h.runner;
        nested = h.nested;
        stack = h.stack;
        places = h.places;
        flash = h.flash;
        globals = refl;
        arena = refl;
        used = refl;
        board = p;
        seats = seats ∙ h.seats;
        hears = goes-agrees b.bus plain.queue (current b t h.mark) (behind image b) (fiber_on m, shared_on plain.used m.memory free) board w h.hears first_ready (ap (λ (x : Board). x.queue) p);
        mark = false;
        ready = sym (rw runs refl);
        sleepers = h.sleepers;
        waiters = h.waiters;
      }

  -- a block of one that has a record
  abbrev pub depth : ℕ
  depth = length (words_in b.runtime.machine.memory.stack b.runtime.machine.registers.sp b.runtime.machine.memory.base)

  abbrev pub asks_to : Why → Shared → Turn Fiber Shared
  asks_to (Pause n) s = Pauses n (fiber_on b.runtime.machine) s
  asks_to (Wait e) s = Waits e (fiber_on b.runtime.machine) s

  pub others_kept : (pool : Slab Kept) (key : ℕ) → ((other : ℕ) → other ≢ key → get pool other ≡ get b.runtime.pool other) → how_often key (listed b.runtime.lists) ≡ 0
      → (keys : List ℕ) → how_often key keys ≤ how_often key (listed b.runtime.lists) → (other : ℕ) → 1 ≤ how_often other keys → get pool other ≡ get b.runtime.pool other
  others_kept pool key o z keys l other n = o other (λ e. (let a = subst (λ k. 1 ≤ how_often k keys) e n in absurd (omega (arith, a, l, z))))

  -- It is copied into its record, at a key that stood in no list: it sleeps or waits there, and nothing else is changed.
  rests : (why : Why) (key : ℕ) (new : State) (plain board : Board) (shared : Shared) → IsSound new → get new.pool key ≡ Some (kept_of b.runtime.machine t)
      → ((other : ℕ) → other ≢ key → get new.pool other ≡ get b.runtime.pool other) → how_often key (listed b.runtime.lists) ≡ 0
      → new ≡ record b.runtime { pool = new.pool; running = None; lists = joined why b.plain.clock key b.runtime.lists }
      → IsPlain board plain → plain.seats ≡ slab_len new.pool → board.queue ≡ w.board.queue → shared.globals ≡ b.runtime.machine.memory.globals → shared.arena ≡ b.runtime.machine.memory.arena → shared.used ≡ plain.used
      → (let x : Activity Fiber = record (current b t h.mark) { seated = true; suspended = false } in
      let v : World Fiber Shared = record w { board = board; shared = shared; ready = behind image b } in
      let after : Why → World Fiber Shared = λ y. (elim y [ Pause n ↦ record v { sleepers = w.sleepers ++ (wake_time w.board.clock n, x) ∷ [] } | Wait e ↦ record v { waiters = w.waiters ++ (e, x) ∷ [] } ]) in
      Represents image (record b { runtime = new; plain = plain }) (after why))
  rests why key new plain board shared s f o z n p seats q g a u =
      let x : Activity Fiber = record (current b t h.mark) { seated = true; suspended = false } in
      let listings = how_often-listed key b.runtime.lists in
      let keys = keys_same b.runtime.pool new.pool b.runtime.lists.ready (others_kept new.pool key o z b.runtime.lists.ready (omega (arith, listings))) in
      let sleepers = keyed_same b.runtime.pool new.pool b.runtime.lists.sleepers (others_kept new.pool key o z (map (λ p. p.1) b.runtime.lists.sleepers) (omega (arith, listings))) in
      let waiters = keyed_same b.runtime.pool new.pool b.runtime.lists.waiters (others_kept new.pool key o z (map (λ p. p.1) b.runtime.lists.waiters) (omega (arith, listings))) in
      let mine : of_key new.pool key ≡ x = key_is new.pool key _ f in
      let clock : b.plain.clock ≡ w.board.clock = sym (ap (λ (y : Board). y.clock) h.board) in
      let nested : IsNested 0 b.runtime.raisers = lower b.runtime.raisers below.1 in
      by_why why s mine keys sleepers waiters clock nested n
    where
      lower : (rs : List Raiser) → IsNested b.runtime.machine.memory.base rs → IsNested 0 rs
      lower [] i = tt
      lower (r ∷ rs) i = (omega arith, i.1, i.2)

      by_why : (why : Why) → IsSound new → of_key new.pool key ≡ record (current b t h.mark) { seated = true; suspended = false } → map (of_key new.pool) b.runtime.lists.ready ≡ map (of_key b.runtime.pool) b.runtime.lists.ready
          → keyed (of_key new.pool) b.runtime.lists.sleepers ≡ keyed (of_key b.runtime.pool) b.runtime.lists.sleepers → keyed (of_key new.pool) b.runtime.lists.waiters ≡ keyed (of_key b.runtime.pool) b.runtime.lists.waiters
          → b.plain.clock ≡ w.board.clock → IsNested 0 b.runtime.raisers → new ≡ record b.runtime { pool = new.pool; running = None; lists = joined why b.plain.clock key b.runtime.lists }
          → (let x : Activity Fiber = record (current b t h.mark) { seated = true; suspended = false } in
          let v : World Fiber Shared = record w { board = board; shared = shared; ready = behind image b } in
          let after : Why → World Fiber Shared = λ y. (elim y [ Pause n ↦ record v { sleepers = w.sleepers ++ (wake_time w.board.clock n, x) ∷ [] } | Wait e ↦ record v { waiters = w.waiters ++ (e, x) ∷ [] } ]) in
          Represents image (record b { runtime = new; plain = plain }) (after why))
      by_why (Pause m) s mine keys sleepers waiters clock nested n =
          let x : Activity Fiber = record (current b t h.mark) { seated = true; suspended = false } in
          subst (λ y. Represents image (record b { runtime = y; plain = plain }) (record w { board = board; shared = shared; ready = behind image b; sleepers = w.sleepers ++ (wake_time w.board.clock m, x) ∷ [] })) (sym n) (record {
            sound = subst IsSound n s;
            stands = nested;
            runner = tt;
            nested = h.nested;
            stack = h.stack;
            places = h.places;
            flash = h.flash;
            globals = g;
            arena = a;
            used = u;
            board = p;
            seats = seats;
            hears = sleeps-agrees b.bus (current b t h.mark) x (behind image b) (wake_time w.board.clock m) board shared w h.hears first_ready refl q;
            mark = false;
            ready = sym (rw keys refl);
            sleepers = ap (λ l. l ++ (wake_time w.board.clock m, x) ∷ []) (h.sleepers ∙ sym sleepers) ∙ ap (λ y. keyed (of_key new.pool) b.runtime.lists.sleepers ++ y ∷ []) (ap (λ (c : ℕ). (wake_time c m, x)) (sym clock) ∙ ap (λ y. (wake_time b.plain.clock m, y)) (sym mine)) ∙ sym (map-append (λ p. (p.0, of_key new.pool p.1)) b.runtime.lists.sleepers ((wake_time b.plain.clock m, key) ∷ []));
            waiters = h.waiters ∙ sym waiters;
          })
      by_why (Wait e) s mine keys sleepers waiters clock nested n =
          let x : Activity Fiber = record (current b t h.mark) { seated = true; suspended = false } in
          subst (λ y. Represents image (record b { runtime = y; plain = plain }) (record w { board = board; shared = shared; ready = behind image b; waiters = w.waiters ++ (e, x) ∷ [] })) (sym n) (record {
            sound = subst IsSound n s;
            stands = nested;
            runner = tt;
            nested = h.nested;
            stack = h.stack;
            places = h.places;
            flash = h.flash;
            globals = g;
            arena = a;
            used = u;
            board = p;
            seats = seats;
            hears = waits-agrees b.bus (current b t h.mark) x (behind image b) e board shared w h.hears first_ready refl q;
            mark = false;
            ready = sym (rw keys refl);
            sleepers = h.sleepers ∙ sym sleepers;
            waiters = ap (λ l. l ++ (e, x) ∷ []) (h.waiters ∙ sym waiters) ∙ ap (λ y. keyed (of_key new.pool) b.runtime.lists.waiters ++ y ∷ []) (ap (λ y. (e, y)) (sym mine)) ∙ sym (map-append (λ p. (p.0, of_key new.pool p.1)) b.runtime.lists.waiters ((e, key) ∷ []));
          })

  -- the depth is that of its bank
  pub blocked : (why : Why) (key : ℕ) (new : State) (shared : Shared) → t.key ≡ Some key → IsInside b.runtime.machine.registers.sp b.runtime.machine.memory.base → Blocked key t why b.plain.clock b.runtime new
      → shared.globals ≡ b.runtime.machine.memory.globals → shared.arena ≡ b.runtime.machine.memory.arena → shared.used ≡ b.plain.used
      → Represents image (record b { runtime = new; plain = record b.plain { words = b.plain.words + depth } }) (acted (fibers image) (current b t h.mark) (behind image b) w (asks_to why shared))
  blocked why key new shared k i m g a u =
      let s = sound_blocked key b.plain.clock t why b.runtime new h.sound runs k (inside_fits b.runtime.machine t i h.stack) m in
      let z = own_key_once b.runtime t key h.sound runs k in
      let plain : Board = record b.plain { words = b.plain.words + depth } in
      let board : Board = record w.board { words = w.board.words + depth } in
      let p : IsPlain board plain = ap (λ (y : Board). record y { words = y.words + depth }) h.board in
      let r = rests why key new plain board shared s m.updates.changed m.updates.others z m.rest p (h.seats ∙ sym m.live) refl g a u in
      by_why why r
    where
      seated : is_some t.key ≡ true
      seated = ap is_some k

      by_why : (why : Why)
          → (let x : Activity Fiber = record (current b t h.mark) { seated = true; suspended = false } in
          let v : World Fiber Shared = record w { board = record w.board { words = w.board.words + depth }; shared = shared; ready = behind image b } in
          let after : Why → World Fiber Shared = λ y. (elim y [ Pause n ↦ record v { sleepers = w.sleepers ++ (wake_time w.board.clock n, x) ∷ [] } | Wait e ↦ record v { waiters = w.waiters ++ (e, x) ∷ [] } ]) in
          Represents image (record b { runtime = new; plain = record b.plain { words = b.plain.words + depth } }) (after why))
          → Represents image (record b { runtime = new; plain = record b.plain { words = b.plain.words + depth } }) (acted (fibers image) (current b t h.mark) (behind image b) w (asks_to why shared))
      by_why (Pause n) r = rw seated r
      by_why (Wait e) r = rw seated r

  -- The first block of a handler: it gets a record, and a seat in the world.
  pub forked : (why : Why) (key : ℕ) (mid new : State) (shared : Shared) → t.key ≡ None → IsInside b.runtime.machine.registers.sp b.runtime.machine.memory.base → Adopted key t b.runtime mid → Blocked key (record t { key = Some key }) why b.plain.clock mid new
      → shared.globals ≡ b.runtime.machine.memory.globals → shared.arena ≡ b.runtime.machine.memory.arena → shared.used ≡ b.plain.used
      → (let plain : Board = record b.plain { words = b.plain.words + depth; blocked = suc b.plain.blocked; seats = suc b.plain.seats; most = max b.plain.most (suc b.plain.seats) } in
      Represents image (record b { runtime = new; plain = plain }) (acted (fibers image) (current b t h.mark) (behind image b) w (asks_to why shared)))
  forked why key mid new shared k i c m g a u =
      let t' : Turning = record t { key = Some key } in
      let s0 = sound_adopted key t b.runtime mid h.sound runs k c in
      let fit : ReachesBase (kept_of mid.machine t') = subst (λ (y : State). ReachesBase (kept_of y.machine t')) (sym c.rest) (inside_fits b.runtime.machine t' i h.stack) in
      let running : mid.running ≡ Some t' = ap (λ (y : State). y.running) c.rest in
      let s = sound_blocked key b.plain.clock t' why mid new s0 running refl fit m in
      let z = free_key_nowhere b.runtime key h.sound c.claims.free in
      let found : get new.pool key ≡ Some (kept_of b.runtime.machine t) = m.updates.changed ∙ ap (λ (y : State). Some (kept_of y.machine t')) c.rest in
      let others = λ (other : ℕ) (n : other ≢ key). m.updates.others other n ∙ c.claims.updates.others other n in
      let rest : new ≡ record b.runtime { pool = new.pool; running = None; lists = joined why b.plain.clock key b.runtime.lists } = m.rest ∙ ap (λ (y : State). record y { pool = new.pool; running = None; lists = joined why b.plain.clock key y.lists }) c.rest in
      let seats : suc b.plain.seats ≡ slab_len new.pool = omega (arith, h.seats, m.live, c.claims.live) in
      let plain : Board = record b.plain { words = b.plain.words + depth; blocked = suc b.plain.blocked; seats = suc b.plain.seats; most = max b.plain.most (suc b.plain.seats) } in
      let board : Board = record w.board { words = w.board.words + depth; blocked = suc w.board.blocked; seats = suc w.board.seats; most = max w.board.most (suc w.board.seats) } in
      let p : IsPlain board plain = ap (λ (y : Board). record y { words = y.words + depth; blocked = suc y.blocked; seats = suc y.seats; most = max y.most (suc y.seats) }) h.board in
      let room : nat_le 24 w.board.seats ≡ false = (let e : w.board.seats ≡ b.plain.seats = ap (λ (y : Board). y.seats) h.board in let l : w.board.seats < 24 = omega (arith, e, h.seats, c.claims.room) in grind (arith, nat_tests, l)) in
      let r = rests why key new plain board shared s found others z rest p seats refl g a u in
      by_why why room r
    where
      unseated : is_some t.key ≡ false
      unseated = ap is_some k

      by_why : (why : Why) → nat_le 24 w.board.seats ≡ false
          → (let x : Activity Fiber = record (current b t h.mark) { seated = true; suspended = false } in
          let board : Board = record w.board { words = w.board.words + depth; blocked = suc w.board.blocked; seats = suc w.board.seats; most = max w.board.most (suc w.board.seats) } in
          let plain : Board = record b.plain { words = b.plain.words + depth; blocked = suc b.plain.blocked; seats = suc b.plain.seats; most = max b.plain.most (suc b.plain.seats) } in
          let v : World Fiber Shared = record w { board = board; shared = shared; ready = behind image b } in
          let after : Why → World Fiber Shared = λ y. (elim y [ Pause n ↦ record v { sleepers = w.sleepers ++ (wake_time w.board.clock n, x) ∷ [] } | Wait e ↦ record v { waiters = w.waiters ++ (e, x) ∷ [] } ]) in
          Represents image (record b { runtime = new; plain = plain }) (after why))
          → (let plain : Board = record b.plain { words = b.plain.words + depth; blocked = suc b.plain.blocked; seats = suc b.plain.seats; most = max b.plain.most (suc b.plain.seats) } in
          Represents image (record b { runtime = new; plain = plain }) (acted (fibers image) (current b t h.mark) (behind image b) w (asks_to why shared)))
      by_why (Pause n) room r = rw (unseated, room) r
      by_why (Wait e) room r = rw (unseated, room) r
