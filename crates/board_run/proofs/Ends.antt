-- The running fiber ends, or begins again.
use Rattle.std.proofs.Common.{◌≡◌, ℕ, zero, suc, ◌-◌, true, false, List, [], ◌∷◌, length, map, Option, Some, None, is_some, refl, sym, ap, ◌∙◌, subst, arith}
use Rattle.slab.specs.Slab.{slab_len}
use Rattle.thumb_code.specs.Machine.{begun, return_of}
use Rattle.board_world.specs.declared.events.Event.{Event}
use Rattle.board_world.specs.Board.{Board}
use Rattle.board_world.specs.Waiting.{handler_of, held_by}
use Rattle.board_world.specs.Activities.{World}
use Rattle.board_world.specs.Kinds.{Ends}
use Rattle.board_world.specs.World.{acted, leaves, ends_with}
use Rattle.bank_model.specs.Fibers.{Fiber, Shared, begins_on, begins_again}
use Rattle.bank_model.specs.BoardMachine.{fibers}
use Rattle.message_bus.specs.ListenerState.{ListenerState, ended, ended_with}
use Rattle.message_bus.specs.BusState.{BusState, changed}
use Rattle.message_bus.specs.Agreement.{Agrees, hearings}
use Rattle.message_bus.proofs.Laws.{ends-agrees}
use Rattle.std.specs.Prelude.{IfSome}
use Rattle.fiber_runtime.specs.declared.turning.Turning.{Turning}
use Rattle.fiber_runtime.specs.declared.turning.Raiser.{Raiser}
use Rattle.bank_model.specs.Standing.{words_in, fiber_on}
use Rattle.fiber_runtime.specs.State.{State, key_of}
use Rattle.fiber_runtime.specs.Sound.{IsSound, IsNested}
use Rattle.fiber_runtime.specs.Moves.{Ended, machine_started}
use Rattle.fiber_queues.proofs.Laws.{how_often-listed}
use Rattle.fiber_runtime.proofs.Laws.{key_running, sound_ended, sound_keyless, sound_named, own_key_once, no_words}
use Rattle.board_run.specs.Shown.{ArePlaces, acting, standing}
use Rattle.board_run.specs.Represents.{BoardState, IsRecorded, Represents, behind}
use Rattle.board_run.proofs.Standing.{standing_heard, keys_same, keyed_same}
use Rattle.board_run.proofs.FiberGoesOn.{current, IsPlain, first_ready, below, others_kept}

-- a listener's function stays when its activities end
ended_listener : (l : ListenerState) → (ended l).hearing.listener ≡ l.hearing.listener
ended_listener l = by_held l.hearing.held
  where
    by_held : (es : List Event) → (ended_with es l).hearing.listener ≡ l.hearing.listener
    by_held [] = refl
    by_held (e ∷ es) = refl

pub handler_changed : (i j : ℕ) (ls : List ListenerState) → handler_of j (hearings (changed ended i ls)) ≡ handler_of j (hearings ls)
handler_changed i j [] = refl
handler_changed zero zero (l ∷ ls) = ap (λ x. x.handler) (ended_listener l)
handler_changed zero (suc j) (l ∷ ls) = refl
handler_changed (suc i) zero (l ∷ ls) = refl
handler_changed (suc i) (suc j) (l ∷ ls) = handler_changed i j ls

pub length_changed : (i : ℕ) (ls : List ListenerState) → length (changed ended i ls) ≡ length ls
length_changed i [] = refl
length_changed zero (l ∷ ls) = refl
length_changed (suc i) (l ∷ ls) = ap suc (length_changed i ls)

-- a bus whose listeners have the same functions
pub record IsSameBus (old new : BusState) : Type 0 where
  pub count : length new.listeners ≡ length old.listeners
  pub handlers : (i : ℕ) → handler_of i (hearings new.listeners) ≡ handler_of i (hearings old.listeners)

pub same_ended : (i : ℕ) (b : BusState) → IsSameBus b (record b { listeners = changed ended i b.listeners })
same_ended i b = record { count = length_changed i b.listeners; handlers = λ j. handler_changed i j b.listeners }

lower : (at : ℕ) (rs : List Raiser) → IsNested at rs → IsNested 0 rs
lower at [] i = tt
lower at (r ∷ rs) i = (omega arith, i.1, i.2)

module _ (image : List ℕ) (b : BoardState) (w : World Fiber Shared) (h : Represents image b w) (t : Turning) (runs : b.runtime.running ≡ Some t) where
  behind_heard : (bus : BusState) → IsSameBus b.bus bus → (stack : List ℕ) → standing image (hearings bus.listeners) stack b.runtime.raisers b.places ≡ standing image (hearings b.bus.listeners) stack b.runtime.raisers b.places
  behind_heard bus s stack = standing_heard image stack (hearings b.bus.listeners) (hearings bus.listeners) (length b.bus.listeners) b.runtime.raisers b.places (λ i l. s.handlers i) h.places

  places_heard : (bus : BusState) → IsSameBus b.bus bus → ArePlaces (length bus.listeners) b.runtime.raisers b.places
  places_heard bus s = subst (λ n. ArePlaces n b.runtime.raisers b.places) (sym s.count) h.places

  -- One that has a record ends: the record is free, and the seat is given back.
  pub ends_keyed : (key : ℕ) (new : State) (bus : BusState) (shared : Shared) → t.key ≡ Some key → Ended key b.runtime new → IsSameBus b.bus bus → Agrees bus (leaves (current b t h.mark) (behind image b) shared w)
      → shared.globals ≡ b.runtime.machine.memory.globals → shared.arena ≡ b.runtime.machine.memory.arena → shared.used ≡ b.plain.used
      → Represents image (record b { runtime = new; bus = bus; plain = record b.plain { seats = b.plain.seats - 1 } }) (leaves (current b t h.mark) (behind image b) shared w)
  ends_keyed key new bus shared k m s agrees g a u =
      let seated : is_some t.key ≡ true = ap is_some k in
      let z = own_key_once b.runtime t key h.sound runs k in
      let listings = how_often-listed key b.runtime.lists in
      let keys = keys_same b.runtime.pool new.pool b.runtime.lists.ready (others_kept image b w h t runs new.pool key m.updates.others z b.runtime.lists.ready (omega (arith, listings))) in
      let sleepers = keyed_same b.runtime.pool new.pool b.runtime.lists.sleepers (others_kept image b w h t runs new.pool key m.updates.others z (map (λ p. p.1) b.runtime.lists.sleepers) (omega (arith, listings))) in
      let waiters = keyed_same b.runtime.pool new.pool b.runtime.lists.waiters (others_kept image b w h t runs new.pool key m.updates.others z (map (λ p. p.1) b.runtime.lists.waiters) (omega (arith, listings))) in
      let v = leaves (current b t h.mark) (behind image b) shared w in
      let board : IsPlain v.board (record b.plain { seats = b.plain.seats - 1 }) = rw seated (ap (λ (y : Board). record y { seats = y.seats - 1 }) h.board) in
      let p : Board = record b.plain { seats = b.plain.seats - 1 } in
      let seats : b.plain.seats - 1 ≡ slab_len new.pool = omega (arith, h.seats, m.live) in
      subst (λ y. Represents image (record b { runtime = y; bus = bus; plain = p }) v) (sym m.rest) (record {
        sound = subst IsSound m.rest (sound_ended key t b.runtime new h.sound runs k m);
        stands = lower _ b.runtime.raisers (below image b w h t runs).1;
        runner = tt;
        nested = h.nested;
        stack = h.stack;
        places = places_heard bus s;
        flash = h.flash;
        globals = g;
        arena = a;
        used = u;
        board = board;
        seats = seats;
        hears = agrees;
        mark = false;
        ready = sym (rw (behind_heard bus s b.runtime.machine.memory.stack, keys) refl);
        sleepers = h.sleepers ∙ sym sleepers;
        waiters = h.waiters ∙ sym waiters;
      })

  -- One without a record ends: every record stays.
  pub ends_keyless : (bus : BusState) (shared : Shared) → t.key ≡ None → IsSameBus b.bus bus → Agrees bus (leaves (current b t h.mark) (behind image b) shared w)
      → shared.globals ≡ b.runtime.machine.memory.globals → shared.arena ≡ b.runtime.machine.memory.arena → shared.used ≡ b.plain.used
      → Represents image (record b { runtime = record b.runtime { running = None }; bus = bus }) (leaves (current b t h.mark) (behind image b) shared w)
  ends_keyless bus shared k s agrees g a u =
      let unseated : is_some t.key ≡ false = ap is_some k in
      let v = leaves (current b t h.mark) (behind image b) shared w in
      let board : IsPlain v.board b.plain = rw unseated h.board in
      record {
        sound = sound_keyless b.runtime b.runtime.machine None h.sound (ap key_running runs ∙ ap key_of k) refl;
        stands = lower _ b.runtime.raisers (below image b w h t runs).1;
        runner = tt;
        nested = h.nested;
        stack = h.stack;
        places = places_heard bus s;
        flash = h.flash;
        globals = g;
        arena = a;
        used = u;
        board = board;
        seats = h.seats;
        hears = agrees;
        mark = false;
        ready = sym (rw (behind_heard bus s b.runtime.machine.memory.stack) refl);
        sleepers = h.sleepers;
        waiters = h.waiters;
      }

  -- A handler whose listener holds an event begins again, at its own base; its record, if it has one, stays.
  pub begins_anew : (i : ℕ) (e : Event) (rest : List Event) (shared : Shared) → t.listener ≡ Some i → held_by i w.listeners ≡ e ∷ rest
      → shared.globals ≡ b.runtime.machine.memory.globals → shared.arena ≡ b.runtime.machine.memory.arena → shared.used ≡ b.plain.used
      → (let base = b.runtime.machine.memory.base in
      let bus : BusState = record b.bus { listeners = changed ended i b.bus.listeners } in
      let again : ℕ → Fiber = begins_again image (fiber_on b.runtime.machine) in
      let runtime : State = record b.runtime { machine = machine_started (handler_of i (hearings b.bus.listeners)) base b.runtime.machine; running = Some (record t { value = e.value }) } in
      Represents image (record b { runtime = runtime; bus = bus }) (acted (fibers image) (current b t h.mark) (behind image b) w (Ends again shared)))
  begins_anew i e rest shared l held g a u =
      let base = b.runtime.machine.memory.base in
      let stack = b.runtime.machine.memory.stack in
      let hs = hearings b.bus.listeners in
      let bus : BusState = record b.bus { listeners = changed ended i b.bus.listeners } in
      let again : ℕ → Fiber = begins_again image (fiber_on b.runtime.machine) in
      let t' : Turning = record t { value = e.value } in
      let s = same_ended i b.bus in
      let agrees = ends-agrees (current b t h.mark) (behind image b) again shared i b.bus w h.hears (first_ready image b w h t runs) l in
      let empty : words_in stack base base ≡ [] = no_words stack base in
      let listeners : handler_of i w.listeners ≡ handler_of i hs = ap (handler_of i) h.hears.listeners in
      let first : acting (fiber_on (machine_started (handler_of i hs) base b.runtime.machine)) t' false ≡ acting (begins_on image base (handler_of i w.listeners)) t' false =
      ap (λ ws. acting (record { registers = begun base (return_of b.runtime.machine.memory.flash) (handler_of i hs); base = base; bank = ws }) t' false) empty
      ∙ ap (λ f. acting (record { registers = begun base (return_of f) (handler_of i hs); base = base; bank = [] }) t' false) h.flash
      ∙ ap (λ c. acting (begins_on image base c) t' false) (sym listeners) in
      let v : World Fiber Shared = ends_with (e ∷ rest) i (current b t h.mark) (behind image b) again shared w in
      let agrees' : Agrees bus v = subst (λ es. Agrees bus (ends_with es i (current b t h.mark) (behind image b) again shared w)) held agrees in
      let runtime : State = record b.runtime { machine = machine_started (handler_of i hs) base b.runtime.machine; running = Some t' } in
      let turn : acted (fibers image) (current b t h.mark) (behind image b) w (Ends again shared) ≡ v = rw (l, held) refl in
      subst (Represents image (record b { runtime = runtime; bus = bus })) (sym turn) (record {
        sound = sound_named t t' b.runtime (machine_started (handler_of i hs) base b.runtime.machine) h.sound runs refl;
        stands = (record { span = rw empty (omega arith); inside = λ some. absurd (let z : length (words_in stack base base) ≡ 0 = ap length empty in omega (arith, some, z)) }, (below image b w h t runs).1);
        runner = subst (λ (o : Option Turning). IfSome o IsRecorded) runs h.runner;
        nested = h.nested;
        stack = h.stack;
        places = places_heard bus s;
        flash = h.flash;
        globals = g;
        arena = a;
        used = u;
        board = h.board;
        seats = h.seats;
        hears = agrees';
        mark = false;
        ready = sym (rw (behind_heard bus s stack, first) refl);
        sleepers = h.sleepers;
        waiters = h.waiters;
      })

  -- who is no handler, or whose listener holds nothing, leaves
  pub ends_leaves : (again : ℕ → Fiber) (shared : Shared) → t.listener ≡ None → acted (fibers image) (current b t h.mark) (behind image b) w (Ends again shared) ≡ leaves (current b t h.mark) (behind image b) shared w
  ends_leaves again shared l = rw l refl

  pub handler_leaves : (again : ℕ → Fiber) (shared : Shared) (i : ℕ) → t.listener ≡ Some i → held_by i w.listeners ≡ [] → acted (fibers image) (current b t h.mark) (behind image b) w (Ends again shared) ≡ leaves (current b t h.mark) (behind image b) shared w
  handler_leaves again shared i l held = rw (l, held) refl
