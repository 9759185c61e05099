-- An event is dispatched where nobody can go on.
use Rattle.std.proofs.Common.{◌≡◌, ℕ, suc, ◌<◌, List, [], ◌∷◌, ◌++◌, length, map, Option, None, refl, sym, ap, ◌∙◌, subst, arith}
use Rattle.slab.specs.Slab.{slab_len}
use Rattle.board_world.specs.declared.events.Event.{Event}
use Rattle.board_world.specs.Activities.{World}
use Rattle.board_world.specs.World.{moved, dispatch}
use Rattle.board_world.specs.Before.{moves_before}
use Rattle.bank_model.specs.Fibers.{Fiber, Shared}
use Rattle.bank_model.specs.BoardMachine.{fibers}
use Rattle.message_bus.specs.BusState.{BusState}
use Rattle.message_bus.specs.ListenerState.{heard}
use Rattle.fiber_runtime.specs.State.{State}
use Rattle.fiber_runtime.specs.Moves.{Woken}
use Rattle.board_run.specs.declared.end.Stop.{Stop}
use Rattle.board_run.specs.declared.engine.Engine.{Engine}
use Rattle.board_run.specs.Shown.{PendingDispatch, ArePlaces, place_for}
use Rattle.board_run.specs.Represents.{Represents, IsEmpty, moves_left, state_of, end_of}
use Rattle.board_outside.specs.Moves.{HasMet}
use Rattle.board_run.specs.Run.{Comes}
use Rattle.board_run.proofs.Course.{idles}
use Rattle.board_outside.proofs.Laws.{met_then, meets_nothing}
use Rattle.board_run.proofs.Raises.{nobody_ready, dispatched}
use Rattle.std.specs.Option.{option_map}

one_place : (n : ℕ) (ps : List PendingDispatch) → ArePlaces n [] ps → (p : PendingDispatch) × (ps ≡ p ∷ [])
one_place n [] h = absurd h
one_place n (p ∷ []) h = (p, refl)
one_place n (p ∷ (q ∷ ps)) h = absurd h

module _ (e : Engine) (empty : IsEmpty (state_of e)) (event : Event) (mid bus : BusState) (taken : e.bus ≡ record mid { queue = event ∷ mid.queue }) (hear : bus ≡ record mid { listeners = map (heard event) mid.listeners })
    (new : State) (woken : Woken event e.runtime new) (place : PendingDispatch) (is : place ≡ place_for event mid.listeners) (places : List PendingDispatch) (renewed : (p : PendingDispatch) (ps : List PendingDispatch) → e.places ≡ p ∷ ps → places ≡ place ∷ ps) where
  -- the engine behind the dispatch
  abbrev pub behind_dispatch : Engine
  behind_dispatch = record e { runtime = new; bus = bus; places = places }

  same_bus : (let x : BusState = record { listeners = map (heard event) e.bus.listeners; queue = mid.queue } in x ≡ bus)
  same_bus = ap (λ (x : BusState). (let y : BusState = record { listeners = map (heard event) x.listeners; queue = mid.queue } in y)) taken ∙ sym hear

  same_places : (image : List ℕ) (w : World Fiber Shared) → Represents image (state_of e) w → place_for event e.bus.listeners ∷ [] ≡ places
  same_places image w h =
      let p = one_place (length e.bus.listeners) e.places (subst (λ rs. ArePlaces (length e.bus.listeners) rs e.places) empty.raisers h.places) in
      ap (λ (x : BusState). place_for event x.listeners ∷ []) taken ∙ ap (λ (x : PendingDispatch). x ∷ []) (sym is) ∙ sym (renewed p.0 [] p.1)

  shows : (image : List ℕ) (w : World Fiber Shared) (h : Represents image (state_of e) w) → Represents image (state_of behind_dispatch) (dispatch (fibers image) event mid.queue w)
  shows image w h =
      let b = state_of e in
      let nobody = nobody_ready image b w h empty.running empty.raisers empty.spent empty.ready in
      let first = dispatched image b w h empty.running empty.raisers nobody empty.ready event mid.queue new woken in
      let v = dispatch (fibers image) event mid.queue w in
      let second = subst (λ (s : ℕ). Represents image (record b { runtime = new; bus = record { listeners = map (heard event) e.bus.listeners; queue = mid.queue }; places = place_for event e.bus.listeners ∷ []; plain = record b.plain { queue = mid.queue; seats = s } }) v) (sym woken.live) first in
      let third = subst (λ (x : BusState). Represents image (record b { runtime = new; bus = x; places = place_for event e.bus.listeners ∷ []; plain = record b.plain { queue = x.queue; seats = slab_len new.pool } }) v) same_bus second in
      subst (λ (x : List PendingDispatch). Represents image (record b { runtime = new; bus = bus; places = x; plain = record b.plain { queue = bus.queue; seats = slab_len new.pool } }) v) (same_places image w h) third

  pub dispatch_comes : e.end ≡ None → (image : List ℕ) → Comes image 0 [] (state_of e) (state_of behind_dispatch)
  dispatch_comes going image bound =
      let b = state_of e in
      idles bound image b (state_of behind_dispatch) [] (ap (λ (o : Option Stop). option_map end_of o) going) (λ w h. nobody_ready image b w h empty.running empty.raisers empty.spent empty.ready)
      (λ t e' w h. ap (λ l. moves_before t l w) (h.hears.queue ∙ ap (λ (x : BusState). x.queue) taken))
      (λ w met h m.
      let q : w.board.queue ≡ event ∷ mid.queue = h.hears.queue ∙ ap (λ (x : BusState). x.queue) taken in (
        subst (λ l. Represents image (state_of behind_dispatch) (moved (fibers image) l w)) (sym q) (shows image w h),
        ap (λ l. (moved (fibers image) l w).shared) q,
        subst (λ l. HasMet (met ++ []) (moved (fibers image) l w).board) (sym q) (met_then met [] w.board (dispatch (fibers image) event mid.queue w).board m (meets_nothing w.board (dispatch (fibers image) event mid.queue w).board refl refl)),
      ))

  pub dispatch_fewer : moves_left (state_of behind_dispatch) < moves_left (state_of e)
  dispatch_fewer =
      let q : length e.bus.queue ≡ suc (length mid.queue) = ap (λ (x : BusState). length x.queue) taken in
      let r : length bus.queue ≡ length mid.queue = ap (λ (x : BusState). length x.queue) hear in
      let s : length new.lists.sleepers ≡ length e.runtime.lists.sleepers = ap (λ (x : State). length x.lists.sleepers) woken.rest in
      omega (arith, q, r, s)
