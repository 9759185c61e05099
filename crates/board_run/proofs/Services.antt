-- Services by which the running fiber begins another, registers a listener, or pushes to an array.
use Rattle.std.proofs.Common.{◌≡◌, ◌≢◌, ℕ, suc, ◌+◌, ◌%◌, ◌<◌, ◌≤◌, ℤ, Bool, true, false, max, nat_lt, List, [], ◌∷◌, ◌++◌, length, Some, refl, sym, ap, ◌∙◌, subst, arith, inl, inr}
use Rattle.std.proofs.lemmas.Bool.Decides.{nat_tests}
use Rattle.slab.specs.Slab.{slab_len}
use Rattle.thumb_code.specs.Machine.{State as Machine, base_of}
use Rattle.thumb_code.specs.RegisterFile.{is_odd}
use Rattle.thumb_code.specs.Faults.{bad_service}
use Rattle.board_world.specs.declared.events.Listener.{Listener}
use Rattle.board_world.specs.Limits.{seat_limit, listener_limit, arena_limit}
use Rattle.board_world.specs.Panics.{listener_panic}
use Rattle.board_world.specs.Observations.{Panicked, Faulted}
use Rattle.board_world.specs.Board.{Board}
use Rattle.board_world.specs.Kinds.{Turn, Spawns, Listens, Goes as GoesOn, Takes, Faults}
use Rattle.board_world.specs.Activities.{World}
use Rattle.board_world.specs.World.{acted}
use Rattle.bank_model.specs.Fibers.{Fiber, Shared}
use Rattle.bank_model.specs.BoardMachine.{fibers}
use Rattle.bank_model.specs.Standing.{IsInside, fiber_on, shared_on}
use Rattle.bank_model.specs.AllServices.{service, word_argument, asked_listener, with_code, pushes}
use Rattle.arena_heap.specs.Pushing.{Pushing, Pushes, Overflows, Refuses, pushing, IsPushed, with_arena}
use Rattle.arena_heap.specs.AsService.{IsAsked}
use Rattle.arena_heap.specs.declared.arena.Pushed.{Pushed}
use Rattle.arena_heap.specs.declared.arena.Pushed.TheVariants.{Done, Bad}
use Rattle.arena_heap.proofs.Laws.{push_asked}
use Rattle.message_bus.specs.ListenerState.{fresh}
use Rattle.message_bus.specs.BusState.{BusState}
use Rattle.fiber_runtime.specs.declared.turning.Turning.{Turning}
use Rattle.fiber_runtime.specs.State.{State}
use Rattle.fiber_runtime.specs.Moves.{Spawned}
use Rattle.board_run.specs.declared.engine.Engine.{Engine}
use Rattle.board_outside.specs.declared.output.Output.TheVariants.{Nothing}
use Rattle.board_run.specs.declared.engine.Served.TheVariants.{Goes}
use Rattle.board_run.specs.Represents.{Represents, behind, state_of}
use Rattle.board_run.specs.Serving.{turned, StopsAt, IsServed}
use Rattle.board_run.proofs.FiberGoesOn.{current, IsOnward}
use Rattle.board_run.proofs.Joins.{spawns, listens, length_hearings}
use Rattle.board_run.proofs.Acting.{Leaves, shared_is, goes_leaves, takes_leaves}
use Rattle.board_outside.proofs.Laws.{meets_nothing}

pub self_onward : (m : Machine) → IsInside m.registers.sp m.memory.base → IsOnward m m
self_onward m i = record { keeps = record { flash = refl; base = refl; size = refl; above = refl }; inside = i }

-- an address of code with bit 0 set
pub odd_is : (n : ℕ) → n % 2 ≢ 0 → is_odd n ≡ true
odd_is n h = (let r : n % 2 ≡ 1 = (let l : n % 2 < 2 = omega arith in by_rest (n % 2) l h) in grind (arith, nat_tests, r))
  where
    by_rest : (k : ℕ) → k < 2 → k ≢ 0 → k ≡ 1
    by_rest k l z = omega (arith, l, z)

module _ (e : Engine) (inside : IsInside e.runtime.machine.registers.sp e.runtime.machine.memory.base) where
  abbrev g : Fiber
  g = fiber_on e.runtime.machine

  pub serve_spawn : (s' : State) (e' : Engine) (entry : ℕ) (at : ℕ) → entry ≡ word_argument g 0 → entry % 2 ≢ 0 → Spawned entry (base_of e.runtime.machine.memory.flash) e.runtime s'
      → e' ≡ record e { runtime = s'; counts = record e.counts { spawned = e.counts.spawned + 1; most = max e.counts.most (slab_len s'.pool) } } → IsServed (λ image. service image at 4) (Goes Nothing) e e'
  serve_spawn s' e' entry at same some k is = λ image t runs w h.
      let b = state_of e in
      let m = e.runtime.machine in
      let odd : is_odd (word_argument g 0) ≡ true = subst (λ n. is_odd n ≡ true) same (odd_is entry some) in
      let k' : Spawned (word_argument g 0) (base_of m.memory.flash) e.runtime s' = subst (λ n. Spawned n (base_of m.memory.flash) e.runtime s') same k in
      let T : Shared → Turn Fiber Shared = Spawns (word_argument g 0) g in
      let V : Shared → World Fiber Shared = λ s. acted (fibers image) (current b t h.mark) (behind image b) w (T s) in
      let x = spawns image b w h t runs (word_argument g 0) m s' w.shared.free (self_onward m inside) k' in
      let P = λ (sp se ms : ℕ). Represents image (record b { runtime = s'; plain = record b.plain { seats = se; most = max e.counts.most ms; spawned = sp } }) (V (shared_on e.arena m.memory w.shared.free)) in
      let taken : suc (slab_len e.runtime.pool) ≡ slab_len s'.pool = (let l = k.claims.live in omega (arith, l)) in
      let more : suc e.counts.spawned ≡ e.counts.spawned + 1 = omega arith in
      let y = subst (λ n. P (e.counts.spawned + 1) n n) taken (subst (λ n. P n (suc (slab_len e.runtime.pool)) (suc (slab_len e.runtime.pool))) more x) in
      let z = subst (λ (y : Engine). Represents image (state_of y) (V (shared_on e.arena m.memory w.shared.free))) (sym is) y in
      let seats : w.board.seats ≡ slab_len e.runtime.pool = ap (λ (y : Board). y.seats) h.board in
      let room : nat_lt w.board.seats seat_limit ≡ true = (let l : w.board.seats < 24 = omega (arith, seats, k.claims.room) in grind (arith, nat_tests, l)) in
      rw odd (subst (λ s. Represents image (state_of e') (V s)) (sym (shared_is image b t runs w h)) z, rw room refl, rw room refl, rw room (meets_nothing w.board _ refl refl))

  pub serve_listen : (bus : BusState) (l : Listener) (mode : ℤ) (at : ℕ) → l ≡ asked_listener g mode → word_argument g 2 % 2 ≢ 0 → length e.bus.listeners < listener_limit → bus ≡ record e.bus { listeners = e.bus.listeners ++ fresh l ∷ [] }
      → IsServed (λ image f s. with_code at (word_argument f 2) (Listens (asked_listener f mode) f s)) (Goes Nothing) e (record e { bus = bus })
  serve_listen bus l mode at same some few is = λ image t runs w h.
      let b = state_of e in
      let m = e.runtime.machine in
      let odd : is_odd (word_argument g 2) ≡ true = odd_is (word_argument g 2) some in
      let l' = asked_listener g mode in
      let V : Shared → World Fiber Shared = λ s. acted (fibers image) (current b t h.mark) (behind image b) w (Listens l' g s) in
      let x = listens image b w h t runs l' m w.shared.free (self_onward m inside) few in
      let y = subst (λ (y : BusState). Represents image (state_of (record e { bus = y })) (V (shared_on e.arena m.memory w.shared.free))) (sym (is ∙ ap (λ y. record e.bus { listeners = e.bus.listeners ++ fresh y ∷ [] }) same)) x in
      let count : length w.listeners ≡ length e.bus.listeners = ap length h.hears.listeners ∙ length_hearings e.bus.listeners in
      let room : nat_lt (length w.listeners) listener_limit ≡ true = (let n : length w.listeners < 32 = omega (arith, count, few) in grind (arith, nat_tests, n)) in
      rw odd (subst (λ s. Represents image (state_of (record e { bus = bus })) (V s)) (sym (shared_is image b t runs w h)) y, rw room refl, rw room refl, rw room (meets_nothing w.board _ refl refl))

  pub refuse_listen : (mode : ℤ) (at : ℕ) → word_argument g 2 % 2 ≢ 0 → listener_limit ≤ length e.bus.listeners
      → (image : List ℕ) → StopsAt image (λ f s. with_code at (word_argument f 2) (Listens (asked_listener f mode) f s)) (Panicked listener_panic) (state_of e)
  refuse_listen mode at some full = λ image t runs w h.
      let odd : is_odd (word_argument g 2) ≡ true = odd_is (word_argument g 2) some in
      let count : length w.listeners ≡ length e.bus.listeners = ap length h.hears.listeners ∙ length_hearings e.bus.listeners in
      let room : nat_lt (length w.listeners) listener_limit ≡ false = (let n : 32 ≤ length w.listeners = omega (arith, count, full) in grind (arith, nat_tests, n)) in
      rw (odd, room) refl

-- a push that is done, and one where no array stands
module _ (e : Engine) (at : ℕ) (some : word_argument (fiber_on e.runtime.machine) 0 ≢ 0) where
  abbrev array : ℕ
  array = word_argument (fiber_on e.runtime.machine) 0

  abbrev item : ℕ
  item = word_argument (fiber_on e.runtime.machine) 1

  pushed_engine : Machine → ℕ → Engine
  pushed_engine m used = record e { runtime = record e.runtime { machine = m }; arena = used }

  abbrev push_shown : (image : List ℕ) → Machine → ℕ → Type 0
  push_shown image m used = (t : Turning) (runs : e.runtime.running ≡ Some t) (w : World Fiber Shared) (h : Represents image (state_of e) w)
      → Leaves image (state_of e) t runs w h (state_of (record e { runtime = record e.runtime { machine = m }; arena = used })) [] (turned image (λ f s. pushes at f s) (state_of e) t h.mark w)

  by_pushing : (image : List ℕ) (t : Turning) (runs : e.runtime.running ≡ Some t) (w : World Fiber Shared) (h : Represents image (state_of e) w) (p : Pushing) (m : Machine) (used : ℕ) (turn : Turn Fiber Shared)
      → IsAsked at (fiber_on e.runtime.machine) w.shared p turn → IsPushed p Done e.runtime.machine m e.arena used
      → Leaves image (state_of e) t runs w h (state_of (record e { runtime = record e.runtime { machine = m }; arena = used })) [] (acted (fibers image) (current (state_of e) t h.mark) (behind image (state_of e)) w turn)
  by_pushing image t runs w h (Pushes words n) m used turn (inl q) d =
      let b = state_of e in
      let rs = e.runtime.machine.registers.r in
      let count : n ≡ e.arena = q.1 ∙ h.used in
      let x = goes_leaves image b t runs w h rs words (fiber_on e.runtime.machine) (record w.shared { arena = words }) (ap (λ s. (fiber_on e.runtime.machine, record s { arena = words })) (shared_is image b t runs w h)) in
      let V = acted (fibers image) (current b t h.mark) (behind image b) w (GoesOn (fiber_on e.runtime.machine) (record w.shared { arena = words })) in
      let y = subst (λ k. Leaves image b t runs w h (state_of (record e { runtime = record e.runtime { machine = with_arena e.runtime.machine words }; arena = k })) [] V) (sym (d.1 ∙ count)) x in
      let z = subst (λ k. Leaves image b t runs w h (state_of (record e { runtime = record e.runtime { machine = k }; arena = used })) [] V) (sym d.0) y in
      subst (λ T. Leaves image b t runs w h (state_of (record e { runtime = record e.runtime { machine = m }; arena = used })) [] (acted (fibers image) (current b t h.mark) (behind image b) w T)) (sym q.0) z
  by_pushing image t runs w h (Pushes words n) m used turn (inr g) d =
      let b = state_of e in
      let rs = e.runtime.machine.registers.r in
      let count : n ≡ e.arena + g.more = g.count ∙ ap (λ k. k + g.more) h.used in
      let fits : e.arena + g.more ≤ arena_limit = (let f = g.fits in let u : w.shared.used ≡ e.arena = h.used in omega (arith, f, u)) in
      let next : g.next e.arena ≡ (fiber_on e.runtime.machine, record w.shared { arena = words; used = n }) = ap g.next (sym h.used) ∙ g.goes in
      let lands : ◌≡◌ {A = Fiber × Shared} (fiber_on e.runtime.machine, record w.shared { arena = words; used = n }) (fiber_on e.runtime.machine, record (shared_on e.arena e.runtime.machine.memory w.shared.free) { arena = words; used = e.arena + g.more }) =
      ap (λ k. (fiber_on e.runtime.machine, record w.shared { arena = words; used = k })) count ∙ ap (λ s. (fiber_on e.runtime.machine, record s { arena = words; used = e.arena + g.more })) (shared_is image b t runs w h) in
      let x = takes_leaves image b t runs w h rs words g.more g.next fits (next ∙ lands) in
      let V = acted (fibers image) (current b t h.mark) (behind image b) w (Takes g.more g.next) in
      let y = subst (λ k. Leaves image b t runs w h (state_of (record e { runtime = record e.runtime { machine = with_arena e.runtime.machine words }; arena = k })) [] V) (sym (d.1 ∙ count)) x in
      let z = subst (λ k. Leaves image b t runs w h (state_of (record e { runtime = record e.runtime { machine = k }; arena = used })) [] V) (sym d.0) y in
      subst (λ T. Leaves image b t runs w h (state_of (record e { runtime = record e.runtime { machine = m }; arena = used })) [] (acted (fibers image) (current b t h.mark) (behind image b) w T)) (sym g.takes) z
  by_pushing image t runs w h Overflows m used turn q d = absurd d
  by_pushing image t runs w h Refuses m used turn q d = absurd d

  pub serve_push : (m : Machine) (used : ℕ) → IsPushed (pushing e.runtime.machine.memory.arena e.arena array item) Done e.runtime.machine m e.arena used
      → IsServed (λ image. service image at 19) (Goes Nothing) e (record e { runtime = record e.runtime { machine = m }; arena = used })
  serve_push m used d = λ image t runs w h.
      let asked = push_asked at (fiber_on e.runtime.machine) w.shared some in
      let asked' = subst (λ a. IsAsked at (fiber_on e.runtime.machine) w.shared (pushing a w.shared.used array item) (pushes at (fiber_on e.runtime.machine) w.shared)) h.arena asked in
      let asked'' = subst (λ u. IsAsked at (fiber_on e.runtime.machine) w.shared (pushing e.runtime.machine.memory.arena u array item) (pushes at (fiber_on e.runtime.machine) w.shared)) h.used asked' in
      by_pushing image t runs w h _ m used _ asked'' d

  bad_turn : (w : World Fiber Shared) (p : Pushing) (m : Machine) (used : ℕ) (turn : Turn Fiber Shared) → IsAsked at (fiber_on e.runtime.machine) w.shared p turn → IsPushed p Bad e.runtime.machine m e.arena used → turn ≡ Faults bad_service at
  bad_turn w (Pushes words n) m used turn q d = absurd d
  bad_turn w Overflows m used turn q d = absurd d
  bad_turn w Refuses m used turn q d = q

  bad_same : (p : Pushing) (m : Machine) (used : ℕ) → IsPushed p Bad e.runtime.machine m e.arena used → (m ≡ e.runtime.machine) × (used ≡ e.arena)
  bad_same (Pushes words n) m used d = absurd d
  bad_same Overflows m used d = absurd d
  bad_same Refuses m used d = d

  pub refuse_push : (m : Machine) (used : ℕ) → IsPushed (pushing e.runtime.machine.memory.arena e.arena array item) Bad e.runtime.machine m e.arena used
      → (m ≡ e.runtime.machine) × (used ≡ e.arena) × ((image : List ℕ) → StopsAt image (service image at 19) (Faulted bad_service at) (state_of e))
  refuse_push m used d = (
    (bad_same _ m used d).0,
    (bad_same _ m used d).1,
    λ image t runs w h.
        let asked = push_asked at (fiber_on e.runtime.machine) w.shared some in
        let asked' = subst (λ a. IsAsked at (fiber_on e.runtime.machine) w.shared (pushing a w.shared.used array item) (pushes at (fiber_on e.runtime.machine) w.shared)) h.arena asked in
        let asked'' = subst (λ u. IsAsked at (fiber_on e.runtime.machine) w.shared (pushing e.runtime.machine.memory.arena u array item) (pushes at (fiber_on e.runtime.machine) w.shared)) h.used asked' in
        ap (acted (fibers image) (current (state_of e) t h.mark) (behind image (state_of e)) w) (bad_turn w _ m used _ asked'' d),
  )

pub listener_same : (s s' v v' : ℤ) (h h' : ℕ) (m m' : ℤ) → s ≡ s' → v ≡ v' → h ≡ h' → m ≡ m'
    → (let x : Listener = record { source = s; value = v; handler = h; mode = m } in let y : Listener = record { source = s'; value = v'; handler = h'; mode = m' } in x ≡ y)
listener_same s s' v v' h h' m m' p q r t = rw (p, q, r, t) refl

pub not_below : (a b : ℕ) → (a < b → ◌≡◌ {A = Bool} false true) → b ≤ a
not_below a b h = (let n : a < b → ⊥ = λ l. (let z : false ≡ true = h l in cc) in omega (arith, n))

pub as_asked : (e : Engine) (m n : Machine) (a i used : ℕ) (p : Pushed) → m ≡ e.runtime.machine → a ≡ word_argument (fiber_on e.runtime.machine) 0 → i ≡ word_argument (fiber_on e.runtime.machine) 1
    → IsPushed (pushing m.memory.arena e.arena a i) p m n e.arena used
    → IsPushed (pushing e.runtime.machine.memory.arena e.arena (word_argument (fiber_on e.runtime.machine) 0) (word_argument (fiber_on e.runtime.machine) 1)) p e.runtime.machine n e.arena used
as_asked e m n a i used p em ea ei h =
    let x = subst (λ (m : Machine). IsPushed (pushing m.memory.arena e.arena a i) p m n e.arena used) em h in
    let y = subst (λ k. IsPushed (pushing e.runtime.machine.memory.arena e.arena k i) p e.runtime.machine n e.arena used) ea x in
    subst (λ k. IsPushed (pushing e.runtime.machine.memory.arena e.arena (word_argument (fiber_on e.runtime.machine) 0) k) p e.runtime.machine n e.arena used) ei y
