-- The next fiber is put into the machine: the code's three ways.
use Rattle.std.proofs.Common.{◌≡◌, ℕ, zero, suc, ◌<◌, List, [], ◌∷◌, length, Some, None, Bool, true, false, refl, sym, ap, ◌∙◌, subst, slice_get}
use Rattle.std.specs.Option.{option_map}
use Rattle.std.specs.Bool.{OnTrue, OnFalse}
use Rattle.slab.specs.Slab.{slab_len}
use Rattle.board_world.specs.declared.events.Event.{Event}
use Rattle.board_world.specs.declared.events.Listener.{Listener}
use Rattle.board_world.specs.Waiting.{handler_of}
use Rattle.message_bus.specs.ListenerState.{ListenerState}
use Rattle.message_bus.specs.Agreement.{hearings}
use Rattle.fiber_runtime.specs.declared.turning.Turning.{Turning}
use Rattle.fiber_runtime.specs.declared.turning.Raiser.{Raiser}
use Rattle.fiber_pool.specs.Kept.{kept_at}
use Rattle.fiber_queues.specs.Lists.{Leads}
use Rattle.fiber_runtime.specs.State.{State}
use Rattle.fiber_runtime.specs.Moves.{Resumed, Reinstated, started, reinstated}
use Rattle.fork_on_block.specs.Handlers.{base_for, invoked as invoked_state}
use Rattle.board_run.specs.declared.engine.Engine.{Engine}
use Rattle.board_run.specs.Shown.{PendingDispatch, ArePlaces, IsSpent, Takes, handler_turning}
use Rattle.board_run.specs.Serving.{copied_behind, IsFromRecord, IsCopiedIn}
use Rattle.board_run.specs.Represents.{BoardState, Represents, state_of}
use Rattle.board_run.specs.Run.{Comes}
use Rattle.board_run.proofs.Turns.{resumed, reinstates, invoked, next_stands}
use Rattle.board_run.proofs.Course.{stutters}

module _ (e : Engine) where
  abbrev pub turned_to : State → List PendingDispatch → BoardState
  turned_to s places = state_of (record e { runtime = s; places = places })

  pub begins_handler : (image : List ℕ) (s' : State) (places' : List PendingDispatch) (x : Event) (at : ℕ) → e.runtime.running ≡ None → Takes x at e.places places'
      → s' ≡ started (handler_of at (hearings e.bus.listeners)) (base_for e.runtime.machine.memory.flash e.runtime.raisers) (handler_turning x at) e.runtime → Comes image 0 [] (state_of e) (turned_to s' places')
  begins_handler image s' places' x at idle k is =
      let hs = hearings e.bus.listeners in
      let new : List ℕ → State = λ flash. started (handler_of at hs) (base_for flash e.runtime.raisers) (handler_turning x at) e.runtime in
      let p : PendingDispatch = record { event = x; left = at ∷ k.rest } in
      let p' : PendingDispatch = record { event = x; left = k.rest } in
      subst (λ y. Comes image 0 [] (state_of e) (turned_to y places')) (sym is)
      (subst (λ l. Comes image 0 [] (state_of e) (turned_to (new e.runtime.machine.memory.flash) l)) (sym k.now)
      (stutters image (state_of e) (turned_to (new e.runtime.machine.memory.flash) (p' ∷ k.outer)) refl (λ w h.
      subst (λ f. Represents image (turned_to (new f) (p' ∷ k.outer)) w) (sym h.flash) (invoked image (state_of e) w p k.outer at k.rest h idle k.was refl))))

  pub listener_stands : (places' : List PendingDispatch) (x : Event) (at : ℕ) → ArePlaces (length e.bus.listeners) e.runtime.raisers e.places → Takes x at e.places places' → at < length e.bus.listeners
  listener_stands places' x at a k = next_stands (length e.bus.listeners) e.runtime.raisers _ k.outer at k.rest (subst (ArePlaces (length e.bus.listeners) e.runtime.raisers) k.was a) refl

  -- a raiser has its place and one behind it
  pub record TwoPlaces (rs : List Raiser) : Type 0 where
    pub inner : PendingDispatch
    pub next : PendingDispatch
    pub outer : List PendingDispatch
    pub was : e.places ≡ inner ∷ (next ∷ outer)
    pub rest : ArePlaces (length e.bus.listeners) rs (next ∷ outer)

  pub two_places : (r : Raiser) (rs : List Raiser) → ArePlaces (length e.bus.listeners) e.runtime.raisers e.places → e.runtime.raisers ≡ r ∷ rs → TwoPlaces rs
  two_places r rs a f = by_places e.places refl (subst (λ x. ArePlaces (length e.bus.listeners) x e.places) f a)
    where
      by_rest : (p : PendingDispatch) (ps : List PendingDispatch) (rs : List Raiser) → e.places ≡ p ∷ ps → ArePlaces (length e.bus.listeners) rs ps → TwoPlaces rs
      by_rest p [] [] f b = absurd b
      by_rest p [] (x ∷ xs) f b = absurd b
      by_rest p (q ∷ qs) xs f b = record { inner = p; next = q; outer = qs; was = f; rest = b }

      by_places : (ps : List PendingDispatch) → e.places ≡ ps → ArePlaces (length e.bus.listeners) (r ∷ rs) ps → TwoPlaces rs
      by_places [] f b = absurd b
      by_places (p ∷ ps) f b = by_rest p ps rs f b.1

  pub raiser_goes_on : (image : List ℕ) (s' : State) (places' : List PendingDispatch) → e.runtime.running ≡ None → ArePlaces (length e.bus.listeners) e.runtime.raisers e.places → IsSpent e.places → Reinstated e.runtime s'
      → ((p q : PendingDispatch) (ps : List PendingDispatch) → e.places ≡ p ∷ (q ∷ ps) → places' ≡ q ∷ ps) → Comes image 0 [] (state_of e) (turned_to s' places')
  raiser_goes_on image s' places' idle a spent k pop =
      let two = two_places k.first k.others a k.was in
      let popped = pop two.inner two.next two.outer two.was in
      subst (λ x. Comes image 0 [] (state_of e) (turned_to x places')) (sym k.rest)
      (subst (λ l. Comes image 0 [] (state_of e) (turned_to (reinstated k.first k.others e.runtime) l)) (sym popped)
      (stutters image (state_of e) (turned_to (reinstated k.first k.others e.runtime) (two.next ∷ two.outer)) refl (λ w h.
      reinstates image (state_of e) w k.first k.others two.inner (two.next ∷ two.outer) h idle k.was two.was (subst IsSpent two.was spent))))

  pub fiber_goes_on : (image : List ℕ) (s' : State) → e.runtime.running ≡ None → e.runtime.raisers ≡ [] → IsSpent e.places → Resumed e.runtime s' → Comes image 0 [] (state_of e) (turned_to s' e.places)
  fiber_goes_on image s' idle alone spent m =
      let seats : slab_len s'.pool ≡ slab_len e.runtime.pool = ap (λ (x : State). slab_len x.pool) m.next.rest in
      stutters image (state_of e) (turned_to s' e.places) (ap (λ n. record (state_of e).plain { seats = n }) seats)
      (λ w h. subst (λ n. Represents image (record (state_of e) { runtime = s'; plain = record (state_of e).plain { seats = n } }) w) (sym seats) (resumed image (state_of e) w s' h idle alone spent m))

  pub stays_put : (image : List ℕ) (s' : State) (places' : List PendingDispatch) → s' ≡ e.runtime → places' ≡ e.places → Comes image 0 [] (state_of e) (turned_to s' places')
  stays_put image s' places' p q =
      subst (λ x. Comes image 0 [] (state_of e) (turned_to x places')) (sym p) (subst (λ l. Comes image 0 [] (state_of e) (turned_to e.runtime l)) (sym q) (stutters image (state_of e) (state_of e) refl (λ w h. h)))

  pub may_resume : (image : List ℕ) (s1 s2 : State) (places' : List PendingDispatch) → e.runtime.running ≡ None → e.runtime.raisers ≡ [] → s1 ≡ e.runtime → IsSpent e.places → places' ≡ e.places
      → (found : Bool) → OnFalse found (s2 ≡ s1) → OnTrue found (Resumed s1 s2) → Comes image 0 [] (state_of e) (turned_to s2 places')
  may_resume image s1 s2 places' idle alone same spent p true none some =
      subst (λ l. Comes image 0 [] (state_of e) (turned_to s2 l)) (sym p) (fiber_goes_on image s2 idle alone spent (subst (λ x. Resumed x s2) same some))
  may_resume image s1 s2 places' idle alone same spent p false none some = stays_put image s2 places' (none ∙ same) p

-- what the code finds of the handler
pub handler_found : (ls : List ListenerState) (i : ℕ) (x : Listener) → Some x ≡ option_map (λ (l : ListenerState). l.hearing.listener) (slice_get ls i) → x.handler ≡ handler_of i (hearings ls)
handler_found [] i x e = absurd (cc)
handler_found (l ∷ ls) zero x e = (let s : x ≡ l.hearing.listener = cc in ap (λ (y : Listener). y.handler) s)
handler_found (l ∷ ls) (suc i) x e = handler_found ls i x e

pub begun_is : (old mid new : State) (entry entry' at : ℕ) (e : Event) → mid ≡ invoked_state entry e old
    → ((t : Turning) → mid.running ≡ Some t → new ≡ record mid { running = Some (record t { listener = Some at }) }) → entry ≡ entry'
    → new ≡ started entry' (base_for old.machine.memory.flash old.raisers) (handler_turning e at) old
begun_is old mid new entry entry' at e s n p =
    n (record { key = None; value = e.value; listener = None }) (ap (λ (x : State). x.running) s)
    ∙ ap (λ (x : State). record x { running = Some (record { key = None; value = e.value; listener = Some at }) }) s
    ∙ ap (λ x. started x (base_for old.machine.memory.flash old.raisers) (handler_turning e at) old) p

-- who is copied in by the switch
none_spent : (x : Event) (at : ℕ) (old new : List PendingDispatch) → Takes x at old new → IsSpent old → ⊥
none_spent x at old new k h = (let z : at ∷ k.rest ≡ [] = subst IsSpent k.was h in absurd (cc))

on_true : (b : Bool) (P : Type 0) → P → OnTrue b P
on_true true P h = h
on_true false P h = tt

pub handler_stands : (e new : Engine) (x : Event) (at : ℕ) (places : List PendingDispatch) → Takes x at e.places places → new.switch ≡ e.switch → IsCopiedIn e new
handler_stands e new x at places k same = record { copied = λ key from leads. absurd (none_spent x at e.places places k from.0); stands = λ h. same }

pub raiser_stands : (e new : Engine) (s : State) → Reinstated e.runtime s → new.switch ≡ e.switch → IsCopiedIn e new
raiser_stands e new s k same = record { copied = λ key from leads. absurd (let z : k.first ∷ k.others ≡ [] = sym k.was ∙ from.1 in cc); stands = λ h. same }

pub record_copied : (e new : Engine) (s : State) (found : Bool) → s ≡ e.runtime → IsFromRecord e
    → ((key : ℕ) → Leads key s.lists.ready → new.switch ≡ copied_behind (length (kept_at s.pool key).words) e) → OnTrue found (IsCopiedIn e new)
record_copied e new s found same from counted = on_true found (IsCopiedIn e new)
    (record { copied = subst (λ (x : State). (key : ℕ) → IsFromRecord e → Leads key x.lists.ready → new.switch ≡ copied_behind (length (kept_at x.pool key).words) e) same (λ key f leads. counted key leads); stands = λ h. absurd (h from) })
