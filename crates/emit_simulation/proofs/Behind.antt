-- Behind a service: the pieces that trail behind its turn, up to the put of r0.
use Rattle.std.proofs.Common.{suc, ◌≡◌, ℕ, ◌+◌, ◌<◌, ◌≤◌, List, [], ◌∷◌, ◌++◌, length, false, Some, refl, sym, ap, ◌∙◌, subst, arith, slice_get, slice_index}
use Rattle.std.proofs.lemmas.List.{length-append}
use Rattle.thumb_code.specs.declared.register_file.Registers.{Registers}
use Rattle.thumb_code.specs.Step.{fetched}
use Rattle.board_world.specs.Observations.{ByteList}
use Rattle.board_world.specs.Simulation.{one}
use Rattle.board_world.specs.Trailing.{Comes}
use Rattle.bank_model.specs.Fibers.{Fiber, Shared}
use Rattle.bank_model.specs.BoardMachine.{fibers}
use Rattle.thumb_layout.specs.declared.pieces.Piece.{Piece}
use Rattle.thumb_layout.specs.Pieces.{Places}
use Rattle.flat_ir.specs.declared.ops.Op.{Op}
use Rattle.flat_ir.specs.declared.ops.FlatCode.{FlatCode}
use Rattle.flat_ir.specs.Ops.{writes}
use Rattle.flat_ir.specs.WellFormed.{temporaries}
use Rattle.flat_ir.specs.Liveness.{IsLiveAt}
use Rattle.register_assign.specs.declared.places.Placed.{Placed}
use Rattle.register_assign.specs.Sound.{place_of}
use Rattle.register_assign.specs.Unread.{is_unread}
use Rattle.sts_meaning.specs.Values.{Value, with_entry}
use Rattle.sts_meaning.specs.Heaps.{FlatHeap}
use Rattle.sts_implements.specs.Passes.{trailing_instructions}
use Rattle.flat_meaning.specs.Frames.{FlatFrame, Stands, given}
use Rattle.thumb_emit.specs.Emit.{function_pieces}
use Rattle.thumb_emit.specs.Frame.{lands}
use Rattle.thumb_emit.specs.Bounds.{total_cost}
use Rattle.thumb_emit.proofs.Laws.{lands_still, still_takes}
use Rattle.thumb_emit.specs.InFlash.{Addresses}
use Rattle.placed_frames.proofs.Laws.{View}
use Rattle.emit_simulation.proofs.Laid.{AllFlow, store_of}
use Rattle.emit_simulation.specs.Starts.{start}
use Rattle.emit_simulation.proofs.Starts.{StandAt, rest_of}
use Rattle.emit_simulation.specs.Ties.{IsAt, IsTied, AtOp, IsShared, IsImage, Means, spots, place_in, return_to, frames_of}
use Rattle.emit_simulation.proofs.AtOps.{GoesOn, view_in, bank_in, fiber_seen, shared_seen}
use Rattle.emit_simulation.proofs.Flowing.{flows}
use Rattle.emit_simulation.proofs.Paths.{path}
use Rattle.emit_simulation.proofs.Placed.{landed_view, landed_low, landed_shared}
use Rattle.emit_simulation.proofs.Straight.{lands_last, runs_on}
use Rattle.emit_simulation.proofs.Meanings.{small}
use Rattle.emit_simulation.proofs.Ops.{here, all_append, stands_behind}
use Rattle.emit_simulation.proofs.Walk.{first, pieces}

cost_last : (xs : List Piece) (y : Piece) → total_cost (xs ++ y ∷ []) ≡ total_cost xs + total_cost (y ∷ [])
cost_last [] y = omega arith
cost_last (x ∷ xs) y = let h = cost_last xs y in omega arith

module _ (C : FlatCode) (placed : List Placed) (flash : List ℕ) (a : Addresses) (texts : List ByteList) (image : IsImage C placed flash a texts)
    (p : Placed) (f : FlatFrame) (callers : List FlatFrame) (base : ℕ) (c : Fiber) (used : ℕ) (h : FlatHeap) (t : Shared) (op : Op)
    (e : slice_get p.function.ops f.place ≡ Some op)
    (x : IsAt C placed flash a p (λ u. IsLiveAt p.function.ops u f.place) f callers base (start p.function (place_of p.places) f.place) c)
    (sh : IsShared C placed flash a used h t) where
  abbrev spot : Places
  spot = spots C placed flash a f.function p

  -- straight pieces behind the others of the op are silent steps
  pub trails : (pre xs : List Piece) (v u : View) (lr used' : ℕ) (free : List ℕ) → pieces C placed flash a texts image p f callers base c used h t op e x sh ≡
      pre ++ xs → AllFlow flash spot xs v u → length v.words ≡ length c.bank → total_cost xs ≤ trailing_instructions
      → (lr' : ℕ) × Comes (fibers flash) one trailing_instructions
      (fiber_seen c v (spot.at (first C placed flash a texts image p f callers base c used h t op e x sh + length pre)) lr, shared_seen used' v free) (
        fiber_seen c u (spot.at (first C placed flash a texts image p f callers base c used h t op e x sh + length pre + length xs)) lr',
        shared_seen used'
            u free,
      ) × (length u.words ≡ length c.bank)
  trails pre xs v u lr used' free ps fl long few =
      let k = here C placed flash a texts image p f callers base c used h t op e x sh in
      let w = k.within_function in
      let s : Registers = record c.registers { lr = lr } in
      let st : StandAt (function_pieces p) (first C placed flash a texts image p f callers base c used h t op e x sh) (pre ++ xs) = subst
      (StandAt (function_pieces p) (first C placed flash a texts image p f callers base c used h t op e x sh)) ps k.stands in
      let d = flows (fetched flash c.base) flash spot (function_pieces p) w.laid xs (first C placed flash a texts image p f callers base c used h t op e x sh +
      length pre) v u s (bank_in flash c t) free (rest_of (function_pieces p) (first C placed flash a texts image p f callers base c used h t op e x sh)
      pre xs st) w.at long fl in
      let r = d.reach in (
        d.link,
        record {
          steps = r.count;
          cost = r.count;
          few = omega (arith, r.few, few);
          path = path flash used' r.count c.base (fiber_seen c v (spot.at (first C placed flash a texts image p f callers base c used h t op e x sh + length
              pre)) lr) (shared_seen used' v free) _ _ refl refl r.silent;
        },
        d.long,
      )

  -- Behind some of them the word in r0 is put, and the fiber stands at the next op.
  pub put_behind : (to : ℕ) (value : Value) (w : ℕ) (pre xs : List Piece) (v u : View) (lr used' : ℕ) (free : List ℕ) → pieces C placed flash a texts image p f
      callers base c used h t op e x sh ≡ pre ++ (xs ++ lands p.function (is_unread p.function f.place) (place_of p.places to) ∷ []) → writes op ≡ Some to
      → GoesOn p.function f.place op → to < temporaries p.function
      → AllFlow flash spot xs v u → length v.words ≡ length c.bank → store_of u ≡ store_of (view_in c t) → length u.low ≡ 13
      → (is_unread p.function f.place ≡ false → slice_index u.low 0 ≡ w)
      → Means C placed flash a value w → total_cost xs + 2 ≤ trailing_instructions
      → (d : Fiber) × Comes (fibers flash) one trailing_instructions
      (fiber_seen c v (spot.at (first C placed flash a texts image p f callers base c used h t op e x sh + length pre)) lr, shared_seen used' v free)
      (d, shared_seen used' u free) × IsTied C placed flash a (Stands (given to value f) callers base) d
  put_behind to value w pre xs v u lr used' free ps wr on lt fl long es lw r m few =
      let place = place_of p.places in
      let k = here C placed flash a texts image p f callers base c used h t op e x sh in
      let fw = k.within_function in
      let put = lands p.function (is_unread p.function f.place) (place to) in
      let takes = still_takes p.function put (lands_still p.function (is_unread p.function f.place) (place to)) in
      let last = lands_last flash spot (Means C placed flash a) (small C placed flash a texts image) C.functions (place_in C placed flash a)
      (return_to C placed flash a) p.function place fw.inside
      (λ n. IsLiveAt p.function.ops n f.place) f.temps (frames_of callers) (view_in c t) x.running (is_unread p.function f.place) to w u lt es r
      (small C placed flash a texts image value w m) in
      let v' = landed_view p.function (is_unread p.function f.place) (place to) w u in
      let cl = cost_last xs put in
      let tr = trails pre (xs ++ put ∷ []) v v' lr used' free ps (all_append flash spot xs (put ∷ []) v u v' fl (v', last, refl)) long (omega arith) in
      let z : suc f.place ≡ f.place + 1 = omega arith in
      let q = landed_shared p.function (is_unread p.function f.place) (place to) w u in
      let f' : FlatFrame = given to value f in
      let n1 = ap length ps ∙ length-append pre (xs ++ put ∷ []) in
      let j = first C placed flash a texts image p f callers base c used h t op e x sh + length pre + length (xs ++ put ∷ []) in
      let nx : j ≡ start p.function place (f.place + 1) = (let b = k.next in omega arith) in
      let run = runs_on flash spot (Means C placed flash a) (small C placed flash a texts image) C.functions (place_in C placed flash a)
      (return_to C placed flash a) p.function place fw.inside
      (λ u. IsLiveAt p.function.ops u f.place) f.temps (frames_of callers) (view_in c t) x.running (is_unread p.function f.place) (λ u. IsLiveAt p.function.ops u (f.place + 1)) to w value u
      lt es lw m (λ q live. k.unread to (suc f.place) q wr on.0 (subst (IsLiveAt p.function.ops to) (sym z) live))
      (λ m lm d live. (
        k.kept_live m (suc f.place) on.0 (subst (IsLiveAt p.function.ops m) (sym z) live)
            (λ k. d (let b : Some to ≡ Some m = sym wr ∙ k in let b' : m ≡ to = cc in b')),
        k.apart to m (suc f.place) wr on.0 (subst (IsLiveAt p.function.ops m) (sym z) live) lt lm d,
      )) in
      let tied : IsTied C placed flash a (Stands f' callers base) (fiber_seen c v' (spot.at j) tr.0)
      = AtOp p f' callers base (fiber_seen c v' (spot.at j) tr.0) on.1
      (stands_behind C placed flash a texts p (λ u. IsLiveAt p.function.ops u f.place) (λ u. IsLiveAt p.function.ops u (f.place + 1)) f callers base
      (start p.function place f.place) (start p.function place (f.place + 1)) j (f.place + 1) c v' tr.0 (with_entry to value f.temps) x tr.2
      (landed_low p.function (is_unread p.function f.place) (place to) w u lw) nx run) in
      let shared : shared_seen used' v' free ≡ shared_seen used' u free = λ i. record { globals = q.0 i; arena = q.1 i; used = used'; free = free } in (
        fiber_seen c v' (spot.at j) tr.0,
        subst (λ s. Comes (fibers flash) one trailing_instructions
            (fiber_seen c v (spot.at (first C placed flash a texts image p f callers base c used h t op e x sh + length pre)) lr, shared_seen used' v free)
            (fiber_seen c v' (spot.at j) tr.0, s)) shared tr.1,
        tied,
      )
