-- What an op asks of a service is what the machine asks: the push, and all services together.
use Rattle.std.proofs.Common.{zero, suc, ◌≡◌, ◌≢◌, ℕ, ◌+◌, ◌⊎◌, inl, inr, ⊎_elim, List, [], ◌∷◌, map, Some, Bool, true, false, nat_le, ◌==◌, refl, sym, subst, arith, slice_get, slice_index}
use Rattle.board_world.specs.declared.requests.Request.{Request}
use Rattle.board_world.specs.Limits.{arena_limit}
use Rattle.board_world.specs.Observations.{ByteList}
use Rattle.board_world.specs.Kinds.{Goes, Takes, Panics}
use Rattle.board_world.specs.Requests.{asked}
use Rattle.board_world.specs.Simulation.{one}
use Rattle.board_world.specs.Sound.{NoFault}
use Rattle.board_world.specs.Trailing.{Completes}
use Rattle.bank_model.specs.Fibers.{Fiber, Shared}
use Rattle.bank_model.specs.BoardMachine.{fibers}
use Rattle.bank_model.specs.AllServices.{pushes}
use Rattle.flat_ir.specs.declared.ops.Op.TheVariants.{Ask}
use Rattle.flat_ir.specs.declared.ops.FlatCode.{FlatCode}
use Rattle.flat_ir.specs.Liveness.{IsLiveAt}
use Rattle.register_assign.specs.declared.places.Placed.{Placed}
use Rattle.register_assign.specs.Sound.{place_of}
use Rattle.sts_syntax.specs.TypeRules.{entry}
use Rattle.sts_meaning.specs.Values.{Value, default, Outcome, Gives, Breaks, Stuck}
use Rattle.sts_meaning.specs.Heaps.{FlatHeap, pushed}
use Rattle.sts_meaning.specs.Services.{requested}
use Rattle.sts_meaning.specs.Frames.{after, grown}
use Rattle.sts_implements.specs.Passes.{trailing_instructions}
use Rattle.flat_meaning.specs.Operators.{answers}
use Rattle.flat_meaning.specs.Frames.{FlatFrame, FlatActivity, Stands, given}
use Rattle.flat_meaning.specs.Steps.{FlatTurn, flat_asker, asks, with_pair}
use Rattle.thumb_emit.specs.InFlash.{Addresses}
use Rattle.thumb_emit.specs.Bounds.{op_instructions}
use Rattle.arena_values.proofs.Laws.{PushesAs, pushes_as}
use Rattle.emit_simulation.specs.Starts.{start}
use Rattle.emit_simulation.specs.Ties.{IsAt, IsShared, IsImage, Means, IsText, IsCode}
use Rattle.emit_simulation.proofs.AtOps.{shared_seen}
use Rattle.emit_simulation.proofs.OwedOps.{MakesOp}
use Rattle.emit_simulation.proofs.Turns.{Owed, going}
use Rattle.emit_simulation.proofs.Loading.{loaded}
use Rattle.emit_simulation.proofs.Services.{v, asking_fiber, asking_shared, its_shows, Serves, settled_over, asks_turn}
use Rattle.emit_simulation.proofs.EachService.{serve_1, serve_2, serve_3, serve_4, serve_5, serve_6, serve_7, serve_8, serve_9, serve_10, serve_11, serve_12, serve_13, serve_14, serve_15, serve_16, serve_17, serve_22, serve_23}
use Rattle.emit_simulation.proofs.Serving.{within, past}

tested : (n k : ℕ) → (n ≡ k) ⊎ (n ≢ k)
tested n k = by (n == k) refl
  where
    by : (b : Bool) → (n == k) ≡ b → (n ≡ k) ⊎ (n ≢ k)
    by true e = inl (grind arith)
    by false e = inr (λ q. grind arith)

isnt : (n k : ℕ) → n ≢ k → (n == k) ≡ false
isnt n k d = grind arith

-- no other service is asked for
nothing_asked : (service : ℕ) → service ≢ 1 → service ≢ 2 → service ≢ 3 → service ≢ 4 → service ≢ 5 → service ≢ 6 → service ≢ 7 → service ≢ 8 → service ≢ 9
    → service ≢ 10 → service ≢ 11 → service ≢ 12 → service ≢ 13 → service ≢ 14 → service ≢ 15 → service ≢ 16 → service ≢ 17 → service ≢ 22 → service ≢ 23
    → (ys : List Value) → requested service ys ≡ Stuck
nothing_asked service n1 n2 n3 n4 n5 n6 n7 n8 n9 n10 n11 n12 n13 n14 n15 n16 n17 n22 n23 ys =
    let e1 = isnt service 1 n1 in
    let e2 = isnt service 2 n2 in
    let e3 = isnt service 3 n3 in
    let e4 = isnt service 4 n4 in
    let e5 = isnt service 5 n5 in
    let e6 = isnt service 6 n6 in
    let e7 = isnt service 7 n7 in
    let e8 = isnt service 8 n8 in
    let e9 = isnt service 9 n9 in
    let e10 = isnt service 10 n10 in
    let e11 = isnt service 11 n11 in
    let e12 = isnt service 12 n12 in
    let e13 = isnt service 13 n13 in
    let e14 = isnt service 14 n14 in
    let e15 = isnt service 15 n15 in
    let e16 = isnt service 16 n16 in
    let e17 = isnt service 17 n17 in
    let e22 = isnt service 22 n22 in
    let e23 = isnt service 23 n23 in
    rw e1 (rw e2 (rw e3 (rw e4 (rw e5 (rw e6 (rw e7 (rw e8
    (rw e9 (rw e10 (rw e11 (rw e12 (rw e13 (rw e14 (rw e15 (rw e16 (rw e17 (rw e22 (rw e23 refl))))))))))))))))))

module _ (C : FlatCode) (placed : List Placed) (flash : List ℕ) (a : Addresses) (texts : List ByteList) (image : IsImage C placed flash a texts) (to : ℕ)
    (args : List ℕ) (p : Placed) (f : FlatFrame) (callers : List FlatFrame) (base : ℕ) (c : Fiber)
    (used : ℕ) (h : FlatHeap) (t : Shared) (x : IsAt C placed flash a p (λ u. IsLiveAt p.function.ops u f.place) f callers base
    (start p.function (place_of p.places) f.place) c) (sh : IsShared C placed flash a used h t) where
  abbrev At : ℕ → Type 0
  At number = slice_get p.function.ops f.place ≡ Some (Ask to number args)

  abbrev Word : Value → ℕ → Type 0
  Word y w = Means C placed flash a y w

  abbrev going_on : FlatActivity
  going_on = Stands (given to default f) callers base

  -- the push of the heap is the service's
  pushed_on : (e : At 19) (o : Outcome (ℕ × FlatHeap))
      → ((at : ℕ) → PushesAs Word a.class (asking_fiber C placed flash a texts image to 19 args p f callers base c used h t e x sh)
      (asking_shared C placed flash a texts image to 19 args p f callers base c used h t e x sh) o
      (pushes at (asking_fiber C placed flash a texts image to 19 args p f callers base c used h t e x sh) (asking_shared C placed flash a texts image to 19
      args p f callers base c used h t e x sh))) → NoFault (after o (λ y. grown y.0 y.1 going_on))
      → Serves C placed flash a texts image to 19 args p f callers base c used h t e x sh (after o (λ y. grown y.0 y.1 going_on))
  pushed_on e (Gives (zero, h')) k nf =
      let s = λ (at : ℕ). settled_over C placed flash a texts image to 19 args p f callers base c used h t e x sh refl (k at).0 used in
      let S = λ (at : ℕ). shared_seen used (record (v C placed flash a texts image to 19 args p f callers base c used h t e x sh) { arena = (k at).0 })
      t.free in
      record {
        below = λ at. Goes (s at).0 (S at);
        completes = λ at. subst (λ u. Completes (fibers flash) one trailing_instructions used u (Goes (s at).0 (S at))) (sym (k at).1)
            ((s at).0, S at, refl, (s at).1);
        matches = λ at. going C placed flash a texts used h h' t (S at) going_on (s at).0 (s at).2 (refl, (k at).2);
      }
  pushed_on e (Gives (suc n, h')) k nf = by (nat_le (used + suc n) arena_limit) refl
    where
      by : (b : Bool) → nat_le (used + suc n) arena_limit ≡ b → Serves C placed flash a texts image to 19 args p f callers base c used h t e x sh
          (Takes (suc n) (λ at. (going_on, h')))
      by true q =
          let fits = within (used + suc n) arena_limit q in
          let s = λ (at : ℕ). settled_over C placed flash a texts image to 19 args p f callers base c used h t e x sh refl ((k at).0 used) (used + suc n) in
          let S = λ (at : ℕ). shared_seen (used + suc n) (record (v C placed flash a texts image to 19 args p f callers base c used h t e x sh)
          { arena = (k at).0 used }) t.free in
          let g = λ (at _ : ℕ). let r : Fiber × Shared = ((s at).0, S at) in r in
          record {
            below = λ at. Takes (suc n) (g at);
            completes = λ at. subst (λ u. Completes (fibers flash) one trailing_instructions used u (Takes (suc n) (g at))) (sym (k at).1)
                (g at, refl, λ _. (s at).1);
            matches = λ at. (refl, λ _. going C placed flash a texts (used + suc n) h h' t (S at) going_on (s at).0 (s at).2 (refl, (k at).2 fits));
          }
      by false q =
          let low = λ (at now : ℕ). let r : Fiber × Shared = (
            asking_fiber C placed flash a texts image to 19 args p f callers base c used h t e x sh,
            record
                (asking_shared C placed flash a texts image to 19 args p f callers base c used h t e x sh) { arena = (k at).0 now; used = now + suc n },
          ) in r in
          record {
            below = λ at. Takes (suc n) (low at);
            completes = λ at. subst (λ u. Completes (fibers flash) one trailing_instructions used u (Takes (suc n) (low at))) (sym (k at).1)
                (low at, refl, λ l. absurd (past (used + suc n) arena_limit q l));
            matches = λ at. (refl, λ l. absurd (past (used + suc n) arena_limit q l));
          }
  pushed_on e (Breaks code) k nf = record {
    below = λ at. Panics code;
    completes = λ at. subst (λ u. Completes (fibers flash) one trailing_instructions used u (Panics code)) (sym (k at)) refl;
    matches = λ at. refl;
  }
  pushed_on e Stuck k nf = absurd nf

  pair_served : (e : At 19) (ys : List Value) → ((i : ℕ) (y : Value) → entry ys i ≡ Some y
      → Word y (slice_index (v C placed flash a texts image to 19 args p f callers base c used h t e x sh).low i))
      → NoFault (with_pair ys (λ y z. after (pushed h y z) (λ w. grown w.0 w.1 going_on)))
      → Serves C placed flash a texts image to 19 args p f callers base c used h t e x sh
      (with_pair ys (λ y z. after (pushed h y z) (λ w. grown w.0 w.1 going_on)))
  pair_served e [] ok nf = absurd nf
  pair_served e (y ∷ []) ok nf = absurd nf
  pair_served e (y ∷ (z ∷ [])) ok nf =
      pushed_on e (pushed h y z) (λ at. pushes_as (IsText C placed flash a) (IsCode C placed flash a) a.class h
      (asking_fiber C placed flash a texts image to 19 args p f callers base c used h t e x sh) (asking_shared C placed flash a texts image to 19 args p f
      callers base c used h t e x sh) at (its_shows C placed flash a texts image to 19 args p f callers base c used h t e x sh).1 y z (ok 0 y refl)
      (ok 1 z refl)) nf
  pair_served e (y ∷ (z ∷ (w ∷ ys))) ok nf = absurd nf

  serve_19 : (e : At 19) → NoFault (with_pair (map f.temps args) (λ y z. after (pushed h y z) (λ w. grown w.0 w.1 going_on)))
      → Serves C placed flash a texts image to 19 args p f callers base c used h t e x sh
      (with_pair (map f.temps args) (λ y z. after (pushed h y z) (λ w. grown w.0 w.1 going_on)))
  serve_19 e nf = pair_served e (map f.temps args) (loaded C placed flash a texts image to 19 args p f callers base c used h t e x sh).1 nf

  abbrev Made : ℕ → Type 0
  Made service = At service → NoFault (asks C texts h f callers base to service (map f.temps args))
      → Owed C placed flash a texts (op_instructions (Ask to service args)) used h t (asks C texts h f callers base to service (map f.temps args)) c t

  other : (service : ℕ) → service ≢ 19 → asks C texts h f callers base to service (map f.temps args) ≡ after (requested service (map f.temps args))
      (λ r. asked (flat_asker C texts h f callers base to (answers service)) r)
  other service n = let q = isnt service 19 n in rw q refl

  or_else : (service n : ℕ) → Made n → (service ≢ n → Made service) → Made service
  or_else service n here there = ⊎_elim (λ q. subst Made (sym q) here) there (tested service n)

  -- all services
  asked_for : (service : ℕ) → Made service
  asked_for service =
      or_else service 19 (λ e nf. asks_turn C placed flash a texts image to 19 args p f callers base c used h t e x sh _ (serve_19 e nf)) (λ n19.
      or_else service 1 (λ e nf. asks_turn C placed flash a texts image to 1 args p f callers base c used h t e x sh _
      (serve_1 C placed flash a texts image to args p f callers base c used h t x sh e nf)) (λ n1.
      or_else service 2 (λ e nf. asks_turn C placed flash a texts image to 2 args p f callers base c used h t e x sh _
      (serve_2 C placed flash a texts image to args p f callers base c used h t x sh e nf)) (λ n2.
      or_else service 3 (λ e nf. asks_turn C placed flash a texts image to 3 args p f callers base c used h t e x sh _
      (serve_3 C placed flash a texts image to args p f callers base c used h t x sh e nf)) (λ n3.
      or_else service 4 (λ e nf. asks_turn C placed flash a texts image to 4 args p f callers base c used h t e x sh _
      (serve_4 C placed flash a texts image to args p f callers base c used h t x sh e nf)) (λ n4.
      or_else service 5 (λ e nf. asks_turn C placed flash a texts image to 5 args p f callers base c used h t e x sh _
      (serve_5 C placed flash a texts image to args p f callers base c used h t x sh e nf)) (λ n5.
      or_else service 6 (λ e nf. asks_turn C placed flash a texts image to 6 args p f callers base c used h t e x sh _
      (serve_6 C placed flash a texts image to args p f callers base c used h t x sh e nf)) (λ n6.
      or_else service 7 (λ e nf. asks_turn C placed flash a texts image to 7 args p f callers base c used h t e x sh _
      (serve_7 C placed flash a texts image to args p f callers base c used h t x sh e nf)) (λ n7.
      or_else service 8 (λ e nf. asks_turn C placed flash a texts image to 8 args p f callers base c used h t e x sh _
      (serve_8 C placed flash a texts image to args p f callers base c used h t x sh e nf)) (λ n8.
      or_else service 9 (λ e nf. asks_turn C placed flash a texts image to 9 args p f callers base c used h t e x sh _
      (serve_9 C placed flash a texts image to args p f callers base c used h t x sh e nf)) (λ n9.
      or_else service 10 (λ e nf. asks_turn C placed flash a texts image to 10 args p f callers base c used h t e x sh _
      (serve_10 C placed flash a texts image to args p f callers base c used h t x sh e nf)) (λ n10.
      or_else service 11 (λ e nf. asks_turn C placed flash a texts image to 11 args p f callers base c used h t e x sh _
      (serve_11 C placed flash a texts image to args p f callers base c used h t x sh e nf)) (λ n11.
      or_else service 12 (λ e nf. asks_turn C placed flash a texts image to 12 args p f callers base c used h t e x sh _
      (serve_12 C placed flash a texts image to args p f callers base c used h t x sh e nf)) (λ n12.
      or_else service 13 (λ e nf. asks_turn C placed flash a texts image to 13 args p f callers base c used h t e x sh _
      (serve_13 C placed flash a texts image to args p f callers base c used h t x sh e nf)) (λ n13.
      or_else service 14 (λ e nf. asks_turn C placed flash a texts image to 14 args p f callers base c used h t e x sh _
      (serve_14 C placed flash a texts image to args p f callers base c used h t x sh e nf)) (λ n14.
      or_else service 15 (λ e nf. asks_turn C placed flash a texts image to 15 args p f callers base c used h t e x sh _
      (serve_15 C placed flash a texts image to args p f callers base c used h t x sh e nf)) (λ n15.
      or_else service 16 (λ e nf. asks_turn C placed flash a texts image to 16 args p f callers base c used h t e x sh _
      (serve_16 C placed flash a texts image to args p f callers base c used h t x sh e nf)) (λ n16.
      or_else service 17 (λ e nf. asks_turn C placed flash a texts image to 17 args p f callers base c used h t e x sh _
      (serve_17 C placed flash a texts image to args p f callers base c used h t x sh e nf)) (λ n17.
      or_else service 22 (λ e nf. asks_turn C placed flash a texts image to 22 args p f callers base c used h t e x sh _
      (serve_22 C placed flash a texts image to args p f callers base c used h t x sh e nf)) (λ n22.
      or_else service 23 (λ e nf. asks_turn C placed flash a texts image to 23 args p f callers base c used h t e x sh _
      (serve_23 C placed flash a texts image to args p f callers base c used h t x sh e nf)) (λ n23.
      λ e nf. absurd (subst (λ (o : Outcome Request). NoFault (after o (λ r. asked (flat_asker C texts h f callers base to (answers service)) r)))
      (nothing_asked service n1 n2 n3 n4 n5 n6 n7 n8 n9 n10 n11 n12 n13 n14 n15 n16 n17 n22 n23 (map f.temps args))
      (subst (λ (u : FlatTurn). NoFault u) (other service n19) nf))))))))))))))))))))))

module _ (C : FlatCode) (placed : List Placed) (flash : List ℕ) (a : Addresses) (texts : List ByteList) (image : IsImage C placed flash a texts) where
  pub ask_makes : (to service : ℕ) (args : List ℕ) → MakesOp C placed flash a texts (Ask to service args)
  ask_makes to service args p f callers base c used h t e x sh nf = asked_for C placed flash a texts image to args p f callers base c used h t x sh service e nf
