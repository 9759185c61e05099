-- Behind a service that lets others run, r0 becomes 0 and is put, where somebody reads it: the activity lags so far, whatever others do to what is shared.
-- Where nobody does, it stands at the next op.
use Rattle.std.proofs.Common.{suc, ◌≡◌, ℕ, ◌+◌, ◌*◌, ◌<◌, List, length, true, false, ◌==◌, Some, refl, sym, ap, ◌∙◌, subst, arith, slice_get, slice_set, slice_index, get_or-set_same}
use Rattle.std.proofs.lemmas.List.{length-set}
use Rattle.thumb_code.specs.declared.instructions.Instr.TheVariants.{MovImm, Svc}
use Rattle.thumb_code.specs.declared.register_file.Registers.{Registers}
use Rattle.thumb_code.specs.Arithmetic.{nz}
use Rattle.thumb_code.specs.Step.{fetched}
use Rattle.board_world.specs.Observations.{ByteList}
use Rattle.board_world.specs.Simulation.{Path, one}
use Rattle.bank_model.specs.Fibers.{Fiber, Shared}
use Rattle.bank_model.specs.BoardMachine.{fibers}
use Rattle.thumb_layout.specs.declared.pieces.Piece.TheVariants.{Plain}
use Rattle.thumb_layout.specs.Pieces.{Places, goes_on}
use Rattle.thumb_layout.specs.Holds.{Silent}
use Rattle.thumb_layout.proofs.Laws.{silent_add}
use Rattle.flat_ir.specs.declared.ops.Op.{Op}
use Rattle.flat_ir.specs.declared.ops.Function.{Function}
use Rattle.flat_ir.specs.declared.ops.FlatCode.{FlatCode}
use Rattle.flat_ir.specs.Ops.{writes}
use Rattle.flat_ir.specs.WellFormed.{temporaries}
use Rattle.flat_ir.specs.Liveness.{IsLiveAt}
use Rattle.register_assign.specs.declared.places.Place.{Place}
use Rattle.register_assign.specs.declared.places.Place.TheVariants.{Reg, Slot, Incoming}
use Rattle.register_assign.specs.declared.places.Placed.{Placed}
use Rattle.register_assign.specs.Sound.{place_of, IsWithin}
use Rattle.register_assign.specs.Unread.{is_unread}
use Rattle.sts_meaning.specs.Values.{default, with_entry}
use Rattle.sts_meaning.specs.Heaps.{FlatHeap}
use Rattle.flat_meaning.specs.Frames.{FlatFrame, Stands, given}
use Rattle.thumb_emit.specs.Emit.{function_pieces}
use Rattle.thumb_emit.specs.Frame.{to_place, to_instr, idle_piece}
use Rattle.thumb_emit.specs.InFlash.{Addresses}
use Rattle.placed_frames.proofs.Laws.{View, registers_of, bank_of, Quiet}
use Rattle.emit_simulation.proofs.Laid.{over, store_of}
use Rattle.emit_simulation.specs.Starts.{start}
use Rattle.emit_simulation.specs.Ties.{IsAt, IsTied, AtOp, IsShared, IsImage, Means, ties, spots, place_in, return_to, frames_of}
use Rattle.emit_simulation.proofs.AtOps.{GoesOn, view_in, bank_in, fiber_seen}
use Rattle.emit_simulation.proofs.Paths.{path}
use Rattle.emit_simulation.proofs.Placed.{put_view, put_low, store_low}
use Rattle.emit_simulation.proofs.Straight.{lands_last, runs_on, runs_with}
use Rattle.emit_simulation.proofs.Meanings.{small}
use Rattle.emit_simulation.proofs.Ops.{here, stands_behind}
use Rattle.emit_simulation.proofs.Walk.{first, pieces, stands}
use Rattle.emit_simulation.proofs.Steady.{does_of, plain_steps, holds_at}

not_both : false ≡ true → ⊥
not_both q = cc

-- what is shared has no part in a put
put_apart : (f : Function) (q : Place) (w : ℕ) (v : View) (gl ar : List ℕ) → put_view f q w (record v { globals = gl; arena = ar }) ≡ record (put_view f q w v)
    { globals = gl; arena = ar }
put_apart f (Reg r) w v gl ar = refl
put_apart f (Slot j) w v gl ar = refl
put_apart f (Incoming j) w v gl ar = refl

put_goes : (f : Function) (q : Place) → IsWithin f q → goes_on (to_place f 0 q) ≡ true
put_goes f (Reg r) i = let l = i.1 in let e : (r == 15) ≡ false = grind arith in rw e refl
put_goes f (Slot j) i = refl
put_goes f (Incoming j) i = refl

put_long : (f : Function) (q : Place) (w : ℕ) (v : View) → length (put_view f q w v).words ≡ length v.words
put_long f (Reg r) w v = refl
put_long f (Slot j) w v = length-set v.words (f.outgoing + j) w
put_long f (Incoming j) w v = length-set v.words (f.outgoing + f.locals + f.operands + 5 + j) w

module _ (C : FlatCode) (placed : List Placed) (flash : List ℕ) (a : Addresses) (texts : List ByteList) (image : IsImage C placed flash a texts)
    (p : Placed) (f : FlatFrame) (callers : List FlatFrame) (base : ℕ) (c : Fiber) (used : ℕ) (h : FlatHeap) (t : Shared) (op : Op)
    (e : slice_get p.function.ops f.place ≡ Some op)
    (x : IsAt C placed flash a p (λ u. IsLiveAt p.function.ops u f.place) f callers base (start p.function (place_of p.places) f.place) c)
    (sh : IsShared C placed flash a used h t) where
  abbrev spot : Places
  spot = spots C placed flash a f.function p

  pub lags : (i number to : ℕ) (v : View) (lr : ℕ) (h' : FlatHeap) (t' : Shared)
      → slice_get (pieces C placed flash a texts image p f callers base c used h t op e x sh) i ≡ Some (Plain (Svc number))
      → slice_get (pieces C placed flash a texts image p f callers base c used h t op e x sh) (i + 1) ≡ Some (Plain (MovImm 0 0))
      → slice_get (pieces C placed flash a texts image p f callers base c used h t op e x sh) (i + 1 + 1) ≡ Some (to_place p.function 0 (place_of p.places to))
      → length (pieces C placed flash a texts image p f callers base c used h t op e x sh) ≡ i + 3 → writes op ≡ Some to → GoesOn p.function f.place op → to < temporaries p.function → store_of v ≡ store_of (view_in c t) → length v.low ≡ 13 → length v.words ≡ length c.bank
      → (ties C placed flash a).Active h' t' (Stands (given to default f) callers base)
      (fiber_seen c v (spot.behind (first C placed flash a texts image p f callers base c used h t op e x sh + i)) lr)
  lags i number to v lr h' t' q0 q1 q2 n wr on lt es lw long =
      let place = place_of p.places in
      let fn = p.function in
      let k = here C placed flash a texts image p f callers base c used h t op e x sh in
      let fw = k.within_function in
      let b = bank_in flash c t in
      let s : Registers = record c.registers { lr = lr } in
      let at = fw.at in
      let al = at.aligned in let lo = at.low in let hi = at.high in
      let hold = holds_at C placed flash a texts image f.function p c.base x.there al (omega arith) hi in
      let m1 = plain_steps flash c.base spot (function_pieces p) hold (first C placed flash a texts image p f callers base c used h t op e x sh + (i + 1))
      (MovImm 0 0) (stands C placed flash a texts image p f callers base c used h t op e x sh (i + 1) _ q1) in
      let m2 = plain_steps flash c.base spot (function_pieces p) hold (first C placed flash a texts image p f callers base c used h t op e x sh + (i + 1 + 1))
      (to_instr fn 0 (place to)) (stands C placed flash a texts image p f callers base c used h t op e x sh (i + 1 + 1) _ q2) in
      let z1 : spot.behind (first C placed flash a texts image p f callers base c used h t op e x sh + i) ≡ spot.at
      (first C placed flash a texts image p f callers base c used h t op e x sh + (i + 1)) = (fw.laid).next (first C placed flash a texts image p f callers
      base c used h t op e x sh + i) (Plain (Svc number)) (stands C placed flash a texts image p f callers base c used h t op e x sh i _ q0) refl ∙ ap
      spot.at (let y : first C placed flash a texts image p f callers base c used h t op e x sh + i + 1 ≡ first C placed flash a texts image p f callers
      base c used h t op e x sh + (i + 1) = omega arith in y) in
      let z2 : spot.behind (first C placed flash a texts image p f callers base c used h t op e x sh + (i + 1)) ≡ spot.at
      (first C placed flash a texts image p f callers base c used h t op e x sh + (i + 1 + 1)) = (fw.laid).next
      (first C placed flash a texts image p f callers base c used h t op e x sh + (i + 1)) (Plain (MovImm 0 0))
      (stands C placed flash a texts image p f callers base c used h t op e x sh (i + 1) _ q1) refl ∙ ap spot.at
      (let y : first C placed flash a texts image p f callers base c used h t op e x sh + (i + 1) + 1 ≡ first C placed flash a texts image p f callers base
      c used h t op e x sh + (i + 1 + 1) = omega arith in y) in
      let v1 : View = record v { low = slice_set v.low 0 0; flags = nz v.flags 0 } in
      let v2 = put_view fn (place to) 0 v1 in
      let l1 = length-set v.low 0 0 ∙ lw in
      let e1 = store_low 0 0 v (omega arith) ∙ es in
      let r0 : slice_index v1.low 0 ≡ 0 = get_or-set_same v.low 0 0 0 (omega arith) in
      let is0 : Means C placed flash a default 0 = (refl, omega arith) in
      let count = m1.0 + 1 + (m2.0 + 1) in
      let few1 = m1.1 in let few2 = m2.1 in
      let d = fiber_seen c v2 (spot.behind (first C placed flash a texts image p f callers base c used h t op e x sh + (i + 1 + 1))) lr in
      let nx : spot.behind (first C placed flash a texts image p f callers base c used h t op e x sh + (i + 1 + 1)) ≡ spot.at (start fn place (f.place + 1))
      = (fw.laid).next (first C placed flash a texts image p f callers base c used h t op e x sh + (i + 1 + 1)) (to_place fn 0 (place to))
      (stands C placed flash a texts image p f callers base c used h t op e x sh (i + 1 + 1) _ q2) (put_goes fn (place to) (fw.inside to lt)) ∙ ap spot.at
      (let y = k.next in omega arith) in
      let z : suc f.place ≡ f.place + 1 = omega arith in
      let run = runs_on flash spot (Means C placed flash a) (small C placed flash a texts image) C.functions (place_in C placed flash a)
      (return_to C placed flash a) fn place fw.inside
      (λ u. IsLiveAt fn.ops u f.place) f.temps (frames_of callers) (view_in c t) x.running false (λ u. IsLiveAt fn.ops u (f.place + 1)) to 0 default v1 lt e1 l1 is0 (λ q live. not_both q)
      (λ m lm d live. (
        k.kept_live m (suc f.place) on.0 (subst (IsLiveAt fn.ops m) (sym z) live) (λ k. d (let b : Some to ≡ Some m = sym wr ∙ k in let b' : m ≡ to = cc in b')),
        k.apart to m (suc f.place) wr on.0 (subst (IsLiveAt fn.ops m) (sym z) live) lt lm d,
      )) in
      let f' : FlatFrame = given to default f in
      let tied : IsTied C placed flash a (Stands f' callers base) (fiber_seen c v2 (spot.at (start fn place (f.place + 1))) lr)
      = AtOp p f' callers base (fiber_seen c v2 (spot.at (start fn place (f.place + 1))) lr) on.1
      (stands_behind C placed flash a texts p (λ u. IsLiveAt fn.ops u f.place) (λ u. IsLiveAt fn.ops u (f.place + 1)) f callers base (start fn place f.place)
      (start fn place (f.place + 1)) (start fn place (f.place + 1)) (f.place + 1) c v2 lr (with_entry to default f.temps) x
      (put_long fn (place to) 0 v1 ∙ long) (put_low fn (place to) 0 v1 l1) refl run) in
      let alone : (u : Shared) → Path (fibers flash) one count count
      (fiber_seen c v (spot.behind (first C placed flash a texts image p f callers base c used h t op e x sh + i)) lr) u d u
      = λ u. (
      let w : View = record v { globals = u.globals; arena = u.arena } in
      let w1 : View = record v1 { globals = u.globals; arena = u.arena } in
      let w2 : View = record v2 { globals = u.globals; arena = u.arena } in
      let y1 : Silent over (fetched flash c.base) (m1.0 + 1)
      (registers_of w (spot.behind (first C placed flash a texts image p f callers base c used h t op e x sh + i)) s) (bank_of w b, u.free)
      (registers_of w1 (spot.behind (first C placed flash a texts image p f callers base c used h t op e x sh + (i + 1))) s) (bank_of w1 b, u.free)
      = subst (λ j. Silent over (fetched flash c.base) (m1.0 + 1) (registers_of w j s) (bank_of w b, u.free)
      (registers_of w1 (spot.behind (first C placed flash a texts image p f callers base c used h t op e x sh + (i + 1))) s) (bank_of w1 b, u.free))
      (sym z1)
      (m1.2 w w1 s b u.free at long (Quiet (MovImm 0 0) w (slice_set v.low 0 0) (nz v.flags 0) (λ next pc s. refl))) in
      let put = does_of flash spot (to_instr fn 0 (place to)) w1 (put_view fn (place to) 0 w1)
      (lands_last flash spot (Means C placed flash a) (small C placed flash a texts image) C.functions (place_in C placed flash a) (return_to C placed flash a)
      fn place fw.inside
      (λ n. IsLiveAt fn.ops n f.place) f.temps (frames_of callers) (view_in c t) x.running false to 0 w1 lt e1 (λ q. r0) (omega arith)) in
      let y2 : Silent over (fetched flash c.base) (m2.0 + 1)
      (registers_of w1 (spot.behind (first C placed flash a texts image p f callers base c used h t op e x sh + (i + 1))) s) (bank_of w1 b, u.free)
      (registers_of w2 (spot.behind (first C placed flash a texts image p f callers base c used h t op e x sh + (i + 1 + 1))) s) (bank_of w2 b, u.free)
      = subst (λ j. Silent over (fetched flash c.base) (m2.0 + 1) (registers_of w1 j s) (bank_of w1 b, u.free)
      (registers_of w2 (spot.behind (first C placed flash a texts image p f callers base c used h t op e x sh + (i + 1 + 1))) s) (bank_of w2 b, u.free))
      (sym z2)
      (subst (λ (g : View). Silent over (fetched flash c.base) (m2.0 + 1)
      (registers_of w1 (spot.at (first C placed flash a texts image p f callers base c used h t op e x sh + (i + 1 + 1))) s) (bank_of w1 b, u.free)
      (registers_of g (spot.behind (first C placed flash a texts image p f callers base c used h t op e x sh + (i + 1 + 1))) s) (bank_of g b, u.free))
      (put_apart fn (place to) 0 v1 u.globals u.arena)
      (m2.2 w1 (put_view fn (place to) 0 w1) s b u.free at long put)) in
      path flash u.used count c.base (fiber_seen c v (spot.behind (first C placed flash a texts image p f callers base c used h t op e x sh + i)) lr) u
      (registers_of w2 (spot.behind (first C placed flash a texts image p f callers base c used h t op e x sh + (i + 1 + 1))) s) (bank_of w2 b, u.free)
      refl refl
      (silent_add over (fetched flash c.base) (m1.0 + 1) (m2.0 + 1) _ _ _ _ _ _ y1 y2)) in
      record {
        steps = count;
        cost = count;
        few = omega arith;
        at = d;
        alone = alone;
        active = subst (λ j. IsTied C placed flash a (Stands (given to default f) callers base) (fiber_seen c v2 j lr)) (sym nx) tied;
      }

  pub stands_behind_service : (i number to : ℕ) (v : View) (lr : ℕ)
      → slice_get (pieces C placed flash a texts image p f callers base c used h t op e x sh) i ≡ Some (Plain (Svc number))
      → slice_get (pieces C placed flash a texts image p f callers base c used h t op e x sh) (i + 1) ≡ Some (idle_piece p.function)
      → length (pieces C placed flash a texts image p f callers base c used h t op e x sh) ≡ i + 2 → is_unread p.function f.place ≡ true → writes op ≡ Some to
      → GoesOn p.function f.place op → to < temporaries p.function → store_of v ≡ store_of (view_in c t) → length v.low ≡ 13
      → length v.words ≡ length c.bank
      → IsTied C placed flash a (Stands (given to default f) callers base)
      (fiber_seen c v (spot.behind (first C placed flash a texts image p f callers base c used h t op e x sh + i)) lr)
  stands_behind_service i number to v lr q0 q1 n ur wr on lt es lw long =
      let place = place_of p.places in
      let fn = p.function in
      let k = here C placed flash a texts image p f callers base c used h t op e x sh in
      let fw = k.within_function in
      let s1 = first C placed flash a texts image p f callers base c used h t op e x sh in
      let z1 : spot.behind (s1 + i) ≡ spot.at (s1 + (i + 1)) = (fw.laid).next (s1 + i) (Plain (Svc number))
      (stands C placed flash a texts image p f callers base c used h t op e x sh i _ q0) refl ∙ ap spot.at (let y : s1 + i + 1 ≡ s1 + (i + 1) = omega arith in y) in
      let z2 : spot.at (s1 + (i + 1)) ≡ spot.at (start fn place (f.place + 1)) = (fw.laid).label (s1 + (i + 1)) (3 * length fn.ops + 1)
      (stands C placed flash a texts image p f callers base c used h t op e x sh (i + 1) _ q1) ∙ ap spot.at (let y = k.next in omega arith) in
      let z : suc f.place ≡ f.place + 1 = omega arith in
      let is0 : Means C placed flash a default 0 = (refl, omega arith) in
      let run = runs_with flash spot (Means C placed flash a) (small C placed flash a texts image) C.functions (place_in C placed flash a)
      (return_to C placed flash a) fn place fw.inside
      (λ u. IsLiveAt fn.ops u f.place) f.temps (frames_of callers) (view_in c t) x.running true (λ u. IsLiveAt fn.ops u (f.place + 1)) to 0 default v lt es is0
      (λ q live. k.unread to (suc f.place) ur wr on.0 (subst (IsLiveAt fn.ops to) (sym z) live))
      (λ m lm d live. (
        k.kept_live m (suc f.place) on.0 (subst (IsLiveAt fn.ops m) (sym z) live) (λ k. d (let b : Some to ≡ Some m = sym wr ∙ k in let b' : m ≡ to = cc in b')),
        k.apart to m (suc f.place) wr on.0 (subst (IsLiveAt fn.ops m) (sym z) live) lt lm d,
      )) in
      let f' : FlatFrame = given to default f in
      subst (λ j. IsTied C placed flash a (Stands f' callers base) (fiber_seen c v j lr)) (sym (z1 ∙ z2))
      (AtOp p f' callers base (fiber_seen c v (spot.at (start fn place (f.place + 1))) lr) on.1
      (stands_behind C placed flash a texts p (λ u. IsLiveAt fn.ops u f.place) (λ u. IsLiveAt fn.ops u (f.place + 1)) f callers base (start fn place f.place)
      (start fn place (f.place + 1)) (start fn place (f.place + 1)) (f.place + 1) c v lr (with_entry to default f.temps) x long lw refl run))
