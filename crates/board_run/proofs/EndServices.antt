-- The running fiber ends, begins again, or raises an event at once.
use Rattle.std.proofs.Common.{◌≡◌, ℕ, zero, suc, ◌-◌, ◌<◌, ◌≤◌, true, false, not, nat_le, List, [], ◌∷◌, length, map, Option, Some, None, IfSome, IsSome, ◌==◌, MatchOption, refl, sym, ap, ◌∙◌, subst, arith}
use Rattle.std.proofs.lemmas.Bool.Decides.{nat_tests}
use Rattle.slab.specs.Slab.{slab_len}
use Rattle.board_world.specs.declared.events.Event.{Event}
use Rattle.board_world.specs.Limits.{raiser_limit}
use Rattle.board_world.specs.Panics.{raiser_panic}
use Rattle.board_world.specs.Observations.{Panicked}
use Rattle.std.specs.List.{list_any}
use Rattle.board_world.specs.Waiting.{handler_of, held_by, none, how_many}
use Rattle.board_world.specs.Activities.{Activity, World, handlers, is_of, is_number}
use Rattle.board_world.specs.Kinds.{Ends, RaisesNow}
use Rattle.board_world.specs.World.{acted, leaves, ends_with, stops}
use Rattle.bank_model.specs.Fibers.{Fiber, Shared, begins_again, begins_on}
use Rattle.bank_model.specs.BoardMachine.{fibers}
use Rattle.bank_model.specs.Standing.{IsInside, fiber_on, shared_on}
use Rattle.bank_model.specs.AllServices.{service, asked_event}
use Rattle.message_bus.specs.ListenerState.{ListenerState, begins_new, heard, ended, oldest}
use Rattle.message_bus.specs.BusState.{BusState, changed, held_at, alive_at}
use Rattle.message_bus.specs.Agreement.{Agrees, hearings}
use Rattle.message_bus.proofs.Laws.{leaves-agrees, ends-agrees, begins-agrees}
use Rattle.fiber_runtime.specs.declared.turning.Turning.{Turning}
use Rattle.fiber_runtime.specs.declared.turning.Raiser.{Raiser}
use Rattle.fiber_runtime.specs.State.{State}
use Rattle.fiber_runtime.specs.Moves.{Ended, Woken, restarted, suspended}
use Rattle.board_run.specs.declared.engine.Engine.{Engine}
use Rattle.board_outside.specs.declared.output.Output.TheVariants.{Nothing}
use Rattle.board_run.specs.declared.engine.Served.TheVariants.{Goes}
use Rattle.board_run.specs.Shown.{PendingDispatch, ArePlaces, place_for}
use Rattle.board_run.specs.Represents.{Represents, IsShown, behind, state_of}
use Rattle.board_outside.specs.Moves.{Meets}
use Rattle.board_run.specs.Serving.{StopsAt, IsServed}
use Rattle.board_run.proofs.FiberGoesOn.{current, first_ready}
use Rattle.board_run.proofs.Ends.{IsSameBus, same_ended, ends_keyed, ends_keyless, begins_anew}
use Rattle.board_run.proofs.Raises.{raises_now, raises_to_waiters, raises_too_deep, behind_suspended}
use Rattle.board_run.proofs.Acting.{shared_is}
use Rattle.board_outside.proofs.Laws.{meets_nothing}
use Rattle.board_run.proofs.Services.{self_onward}

same_listeners : (b : BusState) → IsSameBus b b
same_listeners b = record { count = refl; handlers = λ i. refl }

module _ (e : Engine) (image : List ℕ) (t : Turning) (runs : e.runtime.running ≡ Some t) (w : World Fiber Shared) (h : Represents image (state_of e) w) where
  -- it ends, with a record or without one
  leave_shows : (ls : List ListenerState) (s' : State) → (let bus : BusState = record e.bus { listeners = ls } in IsSameBus e.bus bus → Agrees bus (leaves (current (state_of e) t h.mark) (behind image (state_of e)) w.shared w)
      → MatchOption t.key (s' ≡ record e.runtime { running = None }) (λ key. Ended key e.runtime s')
      → Represents image (state_of (record e { runtime = s'; bus = bus })) (leaves (current (state_of e) t h.mark) (behind image (state_of e)) w.shared w))
  leave_shows ls s' same agrees ends = by_key t.key refl (subst (λ k. MatchOption k (s' ≡ record e.runtime { running = None }) (λ key. Ended key e.runtime s')) refl ends)
    where
      bus : BusState
      bus = record e.bus { listeners = ls }

      V : World Fiber Shared
      V = leaves (current (state_of e) t h.mark) (behind image (state_of e)) w.shared w

      by_key : (k : Option ℕ) → t.key ≡ k → MatchOption k (s' ≡ record e.runtime { running = None }) (λ key. Ended key e.runtime s')
          → Represents image (state_of (record e { runtime = s'; bus = record e.bus { listeners = ls } })) (leaves (current (state_of e) t h.mark) (behind image (state_of e)) w.shared w)
      by_key (Some key) k m =
          let b' : BusState = record e.bus { listeners = ls } in
          let x = ends_keyed image (state_of e) w h t runs key s' b' w.shared k m same agrees h.globals h.arena h.used in
          let seats : slab_len e.runtime.pool - 1 ≡ slab_len s'.pool = (let l = m.live in omega (arith, l)) in
          subst (λ n. Represents image (record (state_of e) { runtime = s'; bus = b'; plain = record (state_of e).plain { seats = n } }) (leaves (current (state_of e) t h.mark) (behind image (state_of e)) w.shared w)) seats x
      by_key None k m =
          let b' : BusState = record e.bus { listeners = ls } in
          let x = ends_keyless image (state_of e) w h t runs b' w.shared k same agrees h.globals h.arena h.used in
          subst (λ y. Represents image (state_of (record e { runtime = y; bus = b' })) (leaves (current (state_of e) t h.mark) (behind image (state_of e)) w.shared w)) (sym m) x

  agrees_left : t.listener ≡ None → Agrees e.bus (leaves (current (state_of e) t h.mark) (behind image (state_of e)) w.shared w)
  agrees_left l = leaves-agrees e.bus (current (state_of e) t h.mark) (behind image (state_of e)) w.shared w h.hears (first_ready image (state_of e) w h t runs) l

  held_here : (i : ℕ) → held_by i w.listeners ≡ held_at i e.bus.listeners
  held_here i = ap (held_by i) h.hears.listeners ∙ by_listeners i e.bus.listeners
    where
      by_listeners : (i : ℕ) (ls : List ListenerState) → held_by i (hearings ls) ≡ held_at i ls
      by_listeners i [] = refl
      by_listeners zero (l ∷ ls) = refl
      by_listeners (suc i) (l ∷ ls) = by_listeners i ls

pub leave_serves : (e : Engine) (s' : State) → IfSome e.runtime.running (λ t. ◌≡◌ {A = Option ℕ} None t.listener)
    → ((t : Turning) → e.runtime.running ≡ Some t → MatchOption t.key (s' ≡ record e.runtime { running = None }) (λ key. Ended key e.runtime s'))
    → (at : ℕ) → IsServed (λ image. service image at 0) (Goes Nothing) e (record e { runtime = s' })
leave_serves e s' none ends at = λ image t runs w h.
    let l : t.listener ≡ None = sym (subst (λ o. IfSome o (λ t. ◌≡◌ {A = Option ℕ} None t.listener)) runs none) in
    let x = leave_shows e image t runs w h e.bus.listeners s' (same_listeners e.bus) (agrees_left e image t runs w h l) (ends t runs) in
    rw l (x, refl, refl, meets_nothing w.board _ refl refl)

oldest_none : (es : List Event) → ◌≡◌ {A = Option Event} None (oldest es) → es ≡ []
oldest_none [] e = refl
oldest_none (x ∷ xs) e = absurd (cc)

oldest_some : (es : List Event) (x : Event) → Some x ≡ oldest es → (rest : List Event) × (es ≡ x ∷ rest)
oldest_some [] x e = absurd (cc)
oldest_some (y ∷ ys) x e = (let same : y ≡ x = cc in (ys, ap (λ z. z ∷ ys) same))

named : (o : Option Turning) (t : Turning) (i : ℕ) → o ≡ Some t → IfSome o (λ t. Some i ≡ t.listener) → t.listener ≡ Some i
named o t i runs n = sym (subst (λ o. IfSome o (λ t. Some i ≡ t.listener)) runs n)

pub leave_listener : (e : Engine) (s' : State) (bus' : BusState) (i : ℕ) → IfSome e.runtime.running (λ t. Some i ≡ t.listener) → ◌≡◌ {A = Option Event} None (oldest (held_at i e.bus.listeners))
    → bus' ≡ record e.bus { listeners = changed ended i e.bus.listeners }
    → ((t : Turning) → e.runtime.running ≡ Some t → MatchOption t.key (s' ≡ record e.runtime { running = None }) (λ key. Ended key e.runtime s'))
    → (at : ℕ) → IsServed (λ image. service image at 0) (Goes Nothing) e (record e { runtime = s'; bus = bus' })
leave_listener e s' bus' i n none is ends at = λ image t runs w h.
    let l = named e.runtime.running t i runs n in
    let a = current (state_of e) t h.mark in
    let others = behind image (state_of e) in
    let again : ℕ → Fiber = begins_again image (fiber_on e.runtime.machine) in
    let held : held_by i w.listeners ≡ [] = held_here e image t runs w h i ∙ oldest_none _ none in
    let agrees = ends-agrees a others again w.shared i e.bus w h.hears (first_ready image (state_of e) w h t runs) l in
    let bus : BusState = record e.bus { listeners = changed ended i e.bus.listeners } in
    let agrees' : Agrees bus (leaves a others w.shared w) = subst (λ es. Agrees bus (ends_with es i a others again w.shared w)) held agrees in
    let x = leave_shows e image t runs w h (changed ended i e.bus.listeners) s' (same_ended i e.bus) agrees' (ends t runs) in
    rw (l, held) (subst (λ y. Represents image (state_of (record e { runtime = s'; bus = y })) (leaves a others w.shared w)) (sym is) x, refl, refl, meets_nothing w.board _ refl refl)

pub again_serves : (e : Engine) (s' : State) (bus' : BusState) (i : ℕ) (x : Event) → IfSome e.runtime.running (λ t. Some i ≡ t.listener) → Some x ≡ oldest (held_at i e.bus.listeners)
    → bus' ≡ record e.bus { listeners = changed ended i e.bus.listeners }
    → ((t : Turning) → e.runtime.running ≡ Some t → s' ≡ restarted (handler_of i (hearings e.bus.listeners)) (record t { value = x.value }) e.runtime)
    → (at : ℕ) → IsServed (λ image. service image at 0) (Goes Nothing) e (record e { runtime = s'; bus = bus' })
again_serves e s' bus' i x n some is restart at = λ image t runs w h.
    let l = named e.runtime.running t i runs n in
    let o = oldest_some _ x some in
    let held : held_by i w.listeners ≡ x ∷ o.0 = held_here e image t runs w h i ∙ o.1 in
    let again : ℕ → Fiber = begins_again image (fiber_on e.runtime.machine) in
    let y = begins_anew image (state_of e) w h t runs i x o.0 w.shared l held h.globals h.arena h.used in
    let V = acted (fibers image) (current (state_of e) t h.mark) (behind image (state_of e)) w (Ends again w.shared) in
    let z = subst (λ (b : BusState). Represents image (state_of (record e { runtime = restarted (handler_of i (hearings e.bus.listeners)) (record t { value = x.value }) e.runtime; bus = b })) V) (sym is) y in
    (subst (λ (r : State). Represents image (state_of (record e { runtime = r; bus = bus' })) V) (sym (restart t runs)) z, rw (l, held) refl, rw (l, held) refl, rw (l, held) (meets_nothing w.board _ refl refl))

-- the listener of the running handler stands, and an activity of it is alive
alive_stands : (i : ℕ) (ls : List ListenerState) → 1 ≤ alive_at i ls → i < length ls
alive_stands i [] l = absurd (omega (arith, l))
alive_stands zero (x ∷ xs) l = omega arith
alive_stands (suc i) (x ∷ xs) l = (let r = alive_stands i xs l in omega (arith, r))

lives_at : (e : Engine) (s : IsShown (state_of e)) (t : Turning) (i : ℕ) → e.runtime.running ≡ Some t → t.listener ≡ Some i → 1 ≤ alive_at i e.bus.listeners
lives_at e s t i runs l =
    let h = s.shows in let w = s.world in let image = e.runtime.machine.memory.flash in
    let first = first_ready image (state_of e) w h t runs in
    let same : is_of i (current (state_of e) t h.mark) ≡ true = (let z : (i == i) ≡ true = grind (arith, nat_tests) in ap (λ o. is_number o i) l ∙ z) in
    let r : how_many (is_of i) w.ready ≡ suc (how_many (is_of i) (behind image (state_of e))) = ap (how_many (is_of i)) first ∙ rw same refl in
    let a = h.hears.alive i in
    omega (arith, r, a)

by_running : (e : Engine) (s : IsShown (state_of e)) (i : ℕ) (o : Option Turning) → e.runtime.running ≡ o → IsSome o → IfSome o (λ t. Some i ≡ t.listener) → 1 ≤ alive_at i e.bus.listeners
by_running e s i (Some t) r g n = lives_at e s t i r (sym n)
by_running e s i None r g n = absurd (cc)

pub listener_lives : (e : Engine) → IsShown (state_of e) → (i : ℕ) → IsSome e.runtime.running → IfSome e.runtime.running (λ t. Some i ≡ t.listener) → 1 ≤ alive_at i e.bus.listeners
listener_lives e s i g n = by_running e s i e.runtime.running refl g n

pub listener_stands : (e : Engine) → IsShown (state_of e) → (i : ℕ) → IsSome e.runtime.running → IfSome e.runtime.running (λ t. Some i ≡ t.listener) → i < length e.bus.listeners
listener_stands e s i g n = alive_stands i e.bus.listeners (listener_lives e s i g n)

-- raised at once
module _ (e : Engine) (inside : IsInside e.runtime.machine.registers.sp e.runtime.machine.memory.base) (x : Event) (is_event : x ≡ asked_event (fiber_on e.runtime.machine)) where
  abbrev bus_heard : BusState
  bus_heard = record e.bus { listeners = map (heard x) e.bus.listeners }

  pub nest_serves : (s1 s2 : State) (bus' : BusState) (places' : List PendingDispatch) → true ≡ list_any (begins_new x) e.bus.listeners → length e.runtime.raisers < raiser_limit
      → ((t : Turning) → e.runtime.running ≡ Some t → s1 ≡ suspended t e.runtime) → Woken x s1 s2 → bus' ≡ bus_heard → places' ≡ place_for x e.bus.listeners ∷ e.places
      → (at : ℕ) → IsServed (λ image. service image at 23) (Goes Nothing) e (record e { runtime = s2; bus = bus'; places = places' })
  nest_serves s1 s2 bus' places' some room nests k ib ip at = λ image t runs w h.
      let b = state_of e in
      let m = e.runtime.machine in
      let any : none (handlers (begins_on image m.registers.sp) x w 0 w.listeners) ≡ false = begins-agrees (begins_on image m.registers.sp) x e.bus w h.hears ∙ ap not (sym some) in
      let few : nat_le 32 (how_many (λ (c : Activity Fiber). c.suspended) (behind image b)) ≡ false = (let many = behind_suspended image b h.places in let l : how_many (λ (c : Activity Fiber). c.suspended) (behind image b) < 32 = omega (arith, many, room) in grind (arith, nat_tests, l)) in
      let k' : Woken x (suspended t e.runtime) s2 = subst (λ s. Woken x s s2) (nests t runs) k in
      let y0 = raises_now image b w h t runs x m s2 w.shared.free (self_onward m inside) room any k' in
      let V : Event → Shared → World Fiber Shared = λ z s. acted (fibers image) (current b t h.mark) (behind image b) w (RaisesNow z (begins_on image m.registers.sp) (fiber_on m) s) in
      let y = subst (λ n. Represents image (record b { runtime = s2; bus = bus_heard; places = place_for x e.bus.listeners ∷ e.places; plain = record b.plain { seats = n } }) (V x (shared_on e.arena m.memory w.shared.free))) (sym k'.live) y0 in
      let P = λ (v : World Fiber Shared). Represents image (state_of (record e { runtime = s2; bus = bus'; places = places' })) v × (v.board.end ≡ w.board.end) × (v.shared.free ≡ w.shared.free) × Meets [] w.board v.board in
      let y1 = subst (λ (l : List PendingDispatch). Represents image (state_of (record e { runtime = s2; bus = bus_heard; places = l })) (V x (shared_on e.arena m.memory w.shared.free))) (sym ip) y in
      let y2 = subst (λ (u : BusState). Represents image (state_of (record e { runtime = s2; bus = u; places = places' })) (V x (shared_on e.arena m.memory w.shared.free))) (sym ib) y1 in
      let all : P (V x (shared_on e.arena m.memory w.shared.free)) = (y2, rw (any, few) refl, rw (any, few) refl, rw (any, few) (meets_nothing w.board _ refl refl)) in
      subst (λ z. P (V z w.shared)) is_event (subst (λ s. P (V x s)) (sym (shared_is image b t runs w h)) all)

  pub wake_serves : (s2 : State) (bus' : BusState) → false ≡ list_any (begins_new x) e.bus.listeners → Woken x e.runtime s2 → bus' ≡ bus_heard
      → (at : ℕ) → IsServed (λ image. service image at 23) (Goes Nothing) e (record e { runtime = s2; bus = bus' })
  wake_serves s2 bus' nobody k ib at = λ image t runs w h.
      let b = state_of e in
      let m = e.runtime.machine in
      let empty : none (handlers (begins_on image m.registers.sp) x w 0 w.listeners) ≡ true = begins-agrees (begins_on image m.registers.sp) x e.bus w h.hears ∙ ap not (sym nobody) in
      let y0 = raises_to_waiters image b w h t runs x m s2 w.shared.free (self_onward m inside) empty k in
      let V : Event → Shared → World Fiber Shared = λ z s. acted (fibers image) (current b t h.mark) (behind image b) w (RaisesNow z (begins_on image m.registers.sp) (fiber_on m) s) in
      let y = subst (λ n. Represents image (record b { runtime = s2; bus = bus_heard; plain = record b.plain { seats = n } }) (V x (shared_on e.arena m.memory w.shared.free))) (sym k.live) y0 in
      let P = λ (v : World Fiber Shared). Represents image (state_of (record e { runtime = s2; bus = bus' })) v × (v.board.end ≡ w.board.end) × (v.shared.free ≡ w.shared.free) × Meets [] w.board v.board in
      let y2 = subst (λ (u : BusState). Represents image (state_of (record e { runtime = s2; bus = u })) (V x (shared_on e.arena m.memory w.shared.free))) (sym ib) y in
      let all : P (V x (shared_on e.arena m.memory w.shared.free)) = (y2, rw empty refl, rw empty refl, rw empty (meets_nothing w.board _ refl refl)) in
      subst (λ z. P (V z w.shared)) is_event (subst (λ s. P (V x s)) (sym (shared_is image b t runs w h)) all)

  pub refuse_nest : true ≡ list_any (begins_new x) e.bus.listeners → raiser_limit ≤ length e.runtime.raisers → (at : ℕ) (image : List ℕ) → StopsAt image (service image at 23) (Panicked raiser_panic) (state_of e)
  refuse_nest some deep at image = λ t runs w h.
      let b = state_of e in
      let m = e.runtime.machine in
      let any : none (handlers (begins_on image m.registers.sp) x w 0 w.listeners) ≡ false = begins-agrees (begins_on image m.registers.sp) x e.bus w h.hears ∙ ap not (sym some) in
      subst (λ z. acted (fibers image) (current b t h.mark) (behind image b) w (RaisesNow z (begins_on image m.registers.sp) (fiber_on m) w.shared) ≡ stops (Panicked raiser_panic) w) is_event
      (raises_too_deep image b w h t runs x (fiber_on m) w.shared (begins_on image m.registers.sp) deep any)

pub places_few : (n : ℕ) (rs : List Raiser) (ps : List PendingDispatch) → ArePlaces n rs ps → length ps ≡ suc (length rs)
places_few n [] [] a = absurd a
places_few n [] (p ∷ []) a = refl
places_few n [] (p ∷ (q ∷ ps)) a = absurd a
places_few n (r ∷ rs) [] a = absurd a
places_few n (r ∷ rs) (p ∷ ps) a = ap suc (places_few n rs ps a.1)
