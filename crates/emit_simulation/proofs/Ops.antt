-- Behind an op's pieces a fiber stands at the next op.
use Rattle.std.proofs.Common.{suc, ◌≡◌, ◌≢◌, ℕ, ◌+◌, ◌*◌, ◌<◌, ◌≤◌, List, [], ◌∷◌, ◌++◌, length, Some, None, ◌^◌, refl, sym, ap, ◌∙◌, subst, arith, slice_get}
use Rattle.std.specs.Prelude.{Contains}
use Rattle.thumb_code.specs.Step.{fetched}
use Rattle.board_world.specs.Observations.{ByteList}
use Rattle.board_world.specs.Kinds.{Turn, Goes}
use Rattle.bank_model.specs.Fibers.{Fiber, Shared}
use Rattle.thumb_layout.specs.Pieces.{Places}
use Rattle.flat_ir.specs.declared.ops.Op.{Op}
use Rattle.flat_ir.specs.declared.ops.FlatCode.{FlatCode}
use Rattle.flat_ir.specs.Ops.{reads, writes, goes_on}
use Rattle.flat_ir.specs.WellFormed.{temporaries}
use Rattle.flat_ir.specs.Liveness.{IsLiveAt}
use Rattle.register_assign.specs.declared.places.Placed.{Placed}
use Rattle.register_assign.specs.Sound.{place_of}
use Rattle.register_assign.specs.Unread.{is_unread}
use Rattle.sts_meaning.specs.Values.{Value, with_entry}
use Rattle.sts_meaning.specs.Heaps.{FlatHeap}
use Rattle.flat_meaning.specs.Frames.{FlatFrame, FlatActivity, Stands, given}
use Rattle.arena_values.specs.Lies.{Shows}
use Rattle.placed_frames.proofs.Laws.{View, with_low, At, get}
use Rattle.placed_frames.specs.Frames.{Running}
use Rattle.thumb_code.specs.declared.register_file.Registers.{Registers}
use Rattle.thumb_layout.specs.declared.pieces.Piece.{Piece}
use Rattle.thumb_emit.specs.Frame.{from_place, brings, keeps, result_in}
use Rattle.thumb_emit.specs.Emit.{op_pieces, function_pieces}
use Rattle.thumb_emit.proofs.Laws.{op_takes}
use Rattle.thumb_emit.specs.Bounds.{op_instructions, total_cost}
use Rattle.thumb_emit.specs.Joined.{joined_by}
use Rattle.thumb_emit.specs.InFlash.{Addresses}
use Rattle.emit_simulation.proofs.Laid.{Comes, Flows, AllFlow, steps_of, store_of}
use Rattle.emit_simulation.specs.Starts.{start}
use Rattle.emit_simulation.proofs.Starts.{StandAt}
use Rattle.emit_simulation.specs.Ties.{IsAt, AtOp, IsShared, IsImage, Means, spots, place_in, return_to, frames_of}
use Rattle.emit_simulation.proofs.AtOps.{GoesOn, view_in, bank_in, fiber_seen, shared_seen, AtOpOf}
use Rattle.emit_simulation.proofs.Flowing.{flows}
use Rattle.emit_simulation.proofs.Leaving.{StandsIn}
use Rattle.emit_simulation.proofs.Placed.{brought, kept_view, store_kept, kept_low, kept_shared, put_result}
use Rattle.emit_simulation.proofs.Straight.{runs_with, keeps_last, brings_read, reads as reads_to}
use Rattle.emit_simulation.proofs.Turns.{Owed, makes_goes}
use Rattle.emit_simulation.proofs.Context.{at_op}
use Rattle.emit_simulation.proofs.Meanings.{small}

steps_append : (xs ys : List Piece) → steps_of (xs ++ ys) ≡ steps_of xs + steps_of ys
steps_append [] ys = omega arith
steps_append (x ∷ xs) ys = let h = steps_append xs ys in omega arith

pub steps_more : (xs ys : List Piece) → 0 < steps_of xs → 0 < steps_of (xs ++ ys)
steps_more xs ys l = let h = steps_append xs ys in omega arith

pub elim_none : (m : ℕ) → None ≡ Some m → ⊥
elim_none m e = cc

pub all_append : (flash : List ℕ) (p : Places) (xs ys : List Piece) (v m v' : View) → AllFlow flash p xs v m → AllFlow flash p ys m v' → AllFlow flash p
    (xs ++ ys) v v'
all_append flash p [] ys v m v' e f = subst (λ u. AllFlow flash p ys u v') (sym e) f
all_append flash p (x ∷ xs) ys v m v' e f = (e.0, e.1, all_append flash p xs ys e.0 m v' e.2 f)

module _ (C : FlatCode) (placed : List Placed) (flash : List ℕ) (a : Addresses) (texts : List ByteList) where
  -- a greater bound
  pub wider : (n m used : ℕ) (h : FlatHeap) (before : Shared) (turn : Turn FlatActivity FlatHeap) (c : Fiber) (t : Shared) → n ≤ m
      → Owed C placed flash a texts n used h before turn c t → Owed C placed flash a texts m used h before turn c t
  wider n m used h before turn c t l x =
      let y = x.light in
      record {
        steps = x.steps;
        cost = x.cost;
        last = x.last;
        memory = x.memory;
        path = x.path;
        light = omega arith;
        below = x.below;
        completes = x.completes;
        match = x.match;
      }

  -- who stood at one piece and now sees this stands at another
  pub stands_behind : (p : Placed) (need need' : ℕ → Type 0) (f : FlatFrame) (callers : List FlatFrame) (base i i' j k : ℕ) (c : Fiber) (v : View) (lr : ℕ)
      (temps' : ℕ → Value) → IsAt C placed flash a p need f callers base i c
      → length v.words ≡ length c.bank → length v.low ≡ 13 → j ≡ i' → Running (Means C placed flash a) C.functions (place_in C placed flash a)
      (return_to C placed flash a) p.function (place_of p.places) need' temps' (frames_of callers) (store_of v)
      → IsAt C placed flash a p need' (record { function = f.function; place = k; temps = temps' }) callers base i'
      (fiber_seen c v ((spots C placed flash a f.function p).at j) lr)
  stands_behind p need need' f callers base i i' j k c v lr temps' x long low e r =
      let s = x.sp_is in let d = x.deep in
      record {
        there = x.there;
        running = r;
        registers = low;
        pc = ap (spots C placed flash a f.function p).at e;
        base_is = x.base_is;
        sp_is = omega arith;
        deep = omega arith;
      }

module _ (C : FlatCode) (placed : List Placed) (flash : List ℕ) (a : Addresses) (texts : List ByteList) (image : IsImage C placed flash a texts) where
  abbrev pub Reached : (p : Placed) (f : FlatFrame) (c : Fiber) (t : Shared) (least most j : ℕ) → View → Type 0
  Reached p f c t least most j v =
      Comes (fetched flash c.base) (spots C placed flash a f.function p) least most (start p.function (place_of p.places) f.place + 1) j (view_in c t) v
      c.registers (bank_in flash c t) t.free

  module _ (p : Placed) (f : FlatFrame) (callers : List FlatFrame) (base : ℕ) (c : Fiber) (used : ℕ) (h : FlatHeap) (t : Shared) (op : Op)
      (e : slice_get p.function.ops f.place ≡ Some op)
      (x : IsAt C placed flash a p (λ u. IsLiveAt p.function.ops u f.place) f callers base (start p.function (place_of p.places) f.place) c)
      (sh : IsShared C placed flash a used h t) where
    pub here : AtOpOf C placed flash a p f op c t
    here = at_op C placed flash a texts image p (λ u. IsLiveAt p.function.ops u f.place) f callers base (start p.function (place_of p.places) f.place) op c t e
        x

    -- the label takes nothing
    pub pc_behind : c.registers.pc ≡ (spots C placed flash a f.function p).at (start p.function (place_of p.places) f.place + 1)
    pc_behind = x.pc ∙ ((here.within_function).laid).label (start p.function (place_of p.places) f.place) (3 * f.place) here.label

    -- BEHIND ITS PIECES the frame goes on at a place
    pub goes_to : (least most j k : ℕ) (v : View) (temps' : ℕ → Value) (h' : FlatHeap) → 0 < least → Reached p f c t least most j v → j ≡ start p.function
        (place_of p.places) k → joined_by p.function k ≡ None
        → Running (Means C placed flash a) C.functions (place_in C placed flash a) (return_to C placed flash a) p.function (place_of p.places)
        (λ u. IsLiveAt p.function.ops u k) temps' (frames_of callers) (store_of v)
        → length v.low ≡ 13 → IsShared C placed flash a used h' (shared_seen used v t.free)
        → Owed C placed flash a texts most used h t (Goes (Stands (record { function = f.function; place = k; temps = temps' }) callers base) h') c t
    goes_to least most j k v temps' h' l y z free r low s =
        let f' : FlatFrame = record { function = f.function; place = k; temps = temps' } in
        makes_goes C placed flash a texts (spots C placed flash a f.function p) used least most (start p.function (place_of p.places) f.place + 1) j h h' t c t
        v (Stands f' callers base) l sh.0 pc_behind y
        (AtOp p f' callers base (fiber_seen c v ((spots C placed flash a f.function p).at j) y.link) free
        (stands_behind C placed flash a texts p (λ u. IsLiveAt p.function.ops u f.place) (λ u. IsLiveAt p.function.ops u k) f callers base
        (start p.function (place_of p.places) f.place) (start p.function (place_of p.places) k) j k c v y.link temps' x y.long low z r)) s

    -- what is shared is as it was
    pub shared_same : (v : View) → v.globals ≡ t.globals → v.arena ≡ t.arena → IsShared C placed flash a used h (shared_seen used v t.free)
    shared_same v g r = (
      refl,
      subst (λ n. Shows (Means C placed flash a) a.class h used n v.arena) (sym g)
          (subst (λ n. Shows (Means C placed flash a) a.class h used t.globals n) (sym r) sh.1),
    )

    -- A VALUE IS GIVEN: it stands in its temporary's place, and the next op follows
    pub gives : (to : ℕ) (value : Value) (least most w : ℕ) (v : View) → writes op ≡ Some to → GoesOn p.function f.place op → 0 < least
        → to < temporaries p.function
        → Reached p f c t least most (start p.function (place_of p.places) f.place + 1 + length (op_pieces p.function (place_of p.places) f.place op)) v
        → store_of v ≡ put_result p.function (is_unread p.function f.place) (place_of p.places to) w (store_of (view_in c t)) → length v.low ≡ 13 → Means C placed flash a value w
        → v.globals ≡ t.globals → v.arena ≡ t.arena
        → Owed C placed flash a texts most used h t (Goes (Stands (given to value f) callers base) h) c t
    gives to value least most w v wr on l lt y es n i g r =
        let place = place_of p.places in
        let z : suc f.place ≡ f.place + 1 = omega arith in
        goes_to least most (start p.function place f.place + 1 + length (op_pieces p.function place f.place op)) (f.place + 1) v (with_entry to value f.temps)
        h l y (sym here.next) on.1
        (runs_with flash (spots C placed flash a f.function p) (Means C placed flash a) (small C placed flash a texts image) C.functions
        (place_in C placed flash a) (return_to C placed flash a) p.function place ((here.within_function).inside)
        (λ u. IsLiveAt p.function.ops u f.place) f.temps (frames_of callers) (view_in c t) x.running (is_unread p.function f.place) (λ u. IsLiveAt p.function.ops u (f.place + 1)) to w value
        v lt es i (λ q live. here.unread to (suc f.place) q wr on.0 (subst (IsLiveAt p.function.ops to) (sym z) live))
        (λ m lm d live. (
          here.kept_live m (suc f.place) on.0 (subst (IsLiveAt p.function.ops m) (sym z) live)
              (λ k. d (let b : Some to ≡ Some m = sym wr ∙ k in let b' : m ≡ to = cc in b')),
          here.apart to m (suc f.place) wr on.0 (subst (IsLiveAt p.function.ops m) (sym z) live) lt lm d,
        )))
        n (shared_same v g r)

    -- what is live where the op goes on stands still, where it writes nothing
    pub runs_same : (next k : ℕ) (v : View) → next ≡ k → Contains (goes_on f.place op) next → ((m : ℕ) → writes op ≢ Some m) → store_of v ≡ store_of
        (view_in c t)
        → Running (Means C placed flash a) C.functions (place_in C placed flash a) (return_to C placed flash a) p.function (place_of p.places)
        (λ u. IsLiveAt p.function.ops u k) f.temps (frames_of callers) (store_of v)
    runs_same next k v z on wr es =
        let r = x.running in
        let fr = r.frame in
        subst (Running (Means C placed flash a) C.functions (place_in C placed flash a) (return_to C placed flash a) p.function (place_of p.places)
        (λ u. IsLiveAt p.function.ops u k) f.temps (frames_of callers)) (sym es) (record {
          four = r.four;
          frame = record {
            temporary = λ m lm live. fr.temporary m lm (here.kept_live m next on (subst (IsLiveAt p.function.ops m) (sym z) live) (wr m));
            link = fr.link;
            params = fr.params;
            small = fr.small;
          };
          above = r.above;
        })

    -- a temporary that the op reads: its word, that it stands for the value, and its way into a scratch register
    abbrev pub word : ℕ → ℕ
    word u = get p.function (place_of p.places u) (store_of (view_in c t))

    pub word_means : (u : ℕ) → u < temporaries p.function → Contains (reads op) u → Means C placed flash a (f.temps u) (word u)
    word_means u l r = (x.running.frame).temporary u l (here.reads_live u r)

    pub word_small : (u : ℕ) → u < temporaries p.function → Contains (reads op) u → word u < 2 ^ 32
    word_small u l r = small C placed flash a texts image (f.temps u) (word u) (word_means u l r)

    pub reads_word : (u rd : ℕ) (m : View) → u < temporaries p.function → Contains (reads op) u → rd < 4 → store_of m ≡ store_of (view_in c t)
        → Flows flash (spots C placed flash a f.function p) (from_place p.function rd (place_of p.places u)) m (with_low rd (word u) m)
    reads_word u rd m l r n g =
        reads_to flash (spots C placed flash a f.function p) (Means C placed flash a) (small C placed flash a texts image) C.functions
        (place_in C placed flash a) (return_to C placed flash a) p.function (place_of p.places) ((here.within_function).inside)
        (λ n. IsLiveAt p.function.ops n f.place) f.temps (frames_of callers) (view_in c t) x.running u rd m l (here.reads_live u r) n g

    -- it comes into its register
    pub brings_word : (u rd : ℕ) (m : View) → u < temporaries p.function → Contains (reads op) u → rd < 4 → store_of m ≡ store_of (view_in c t)
        → Flows flash (spots C placed flash a f.function p) (brings p.function rd (place_of p.places u)) m (brought rd (place_of p.places u) (word u) m)
    brings_word u rd m l r n g =
        brings_read flash (spots C placed flash a f.function p) (Means C placed flash a) (small C placed flash a texts image) C.functions
        (place_in C placed flash a) (return_to C placed flash a) p.function (place_of p.places) ((here.within_function).inside)
        (λ n. IsLiveAt p.function.ops n f.place) f.temps (frames_of callers) (view_in c t) x.running u rd m l (here.reads_live u r) n g

    -- pieces of the op, one behind the other, from piece i of them on
    pub flow_from : (i : ℕ) (xs : List Piece) (v v' : View) (s : Registers) → StandAt (function_pieces p)
        (start p.function (place_of p.places) f.place + 1 + i) xs → s.sp ≡ c.registers.sp → length v.words ≡ length c.bank
        → AllFlow flash (spots C placed flash a f.function p) xs v v'
        → Comes (fetched flash c.base) (spots C placed flash a f.function p) (steps_of xs) (total_cost xs)
        (start p.function (place_of p.places) f.place + 1 + i) (start p.function (place_of p.places) f.place + 1 + i + length xs) v v' s
        (bank_in flash c t) t.free
    flow_from i xs v v' s st q l fl =
        let w = here.within_function in
        flows (fetched flash c.base) flash (spots C placed flash a f.function p) (function_pieces p) w.laid xs
        (start p.function (place_of p.places) f.place + 1 + i) v v' s (bank_in flash c t) t.free st
        (subst (λ n. At flash n (bank_in flash c t)) (sym q) w.at) l fl

    -- STRAIGHT PIECES, and then a value stands in its place
    pub straight_puts : (to : ℕ) (value : Value) (w : ℕ) (v : View)
        → AllFlow flash (spots C placed flash a f.function p) (op_pieces p.function (place_of p.places) f.place op) (view_in c t) v
        → 0 < steps_of (op_pieces p.function (place_of p.places) f.place op)
        → writes op ≡ Some to → GoesOn p.function f.place op → to < temporaries p.function
        → store_of v ≡ put_result p.function (is_unread p.function f.place) (place_of p.places to) w (store_of (view_in c t)) → length v.low ≡ 13 → Means C placed flash a value w
        → v.globals ≡ t.globals → v.arena ≡ t.arena
        → Owed C placed flash a texts (op_instructions op) used h t (Goes (Stands (given to value f) callers base) h) c t
    straight_puts to value w v whole pos wr on lt es n i g ar =
        let place = place_of p.places in
        let pl = spots C placed flash a f.function p in
        let k = here in
        let fw = k.within_function in
        let s1 = start p.function place f.place + 1 in
        let all = flows (fetched flash c.base) flash pl (function_pieces p) fw.laid (op_pieces p.function place f.place op) s1 (view_in c t) v c.registers
        (bank_in flash c t) t.free k.stands fw.at refl whole in
        let b = op_takes p.function place f.place op in
        wider C placed flash a texts (total_cost (op_pieces p.function place f.place op)) (op_instructions op) used h t
        (Goes (Stands (given to value f) callers base) h) c t (omega arith)
        (gives to value (steps_of (op_pieces p.function place f.place op)) (total_cost (op_pieces p.function place f.place op)) w v wr on pos lt all es n i g
        ar)

    -- STRAIGHT PIECES that leave a result, which is kept
    pub straight_gives : (to : ℕ) (value : Value) (w : ℕ) (u : View) (xs : List Piece) → op_pieces p.function (place_of p.places) f.place op ≡ xs ++
        keeps p.function (is_unread p.function f.place) (place_of p.places to) ∷ [] → AllFlow flash (spots C placed flash a f.function p) xs (view_in c t) u → 0 < steps_of xs
        → writes op ≡ Some to → GoesOn p.function f.place op → to < temporaries p.function
        → StandsIn (result_in (is_unread p.function f.place) (place_of p.places to)) w (view_in c t) u → Means C placed flash a value w → u.globals ≡ t.globals → u.arena ≡ t.arena
        → Owed C placed flash a texts (op_instructions op) used h t (Goes (Stands (given to value f) callers base) h) c t
    straight_gives to value w u xs ps fl some wr on lt r i g ar =
        let place = place_of p.places in
        let pl = spots C placed flash a f.function p in
        let k = here in
        let fw = k.within_function in
        let v = kept_view p.function (is_unread p.function f.place) (place to) w u in
        let q = kept_shared p.function (is_unread p.function f.place) (place to) w u in
        let last = keeps_last flash pl (Means C placed flash a) (small C placed flash a texts image) C.functions (place_in C placed flash a)
        (return_to C placed flash a) p.function place fw.inside
        (λ n. IsLiveAt p.function.ops n f.place) f.temps (frames_of callers) (view_in c t) x.running (is_unread p.function f.place) to w u lt r
        (small C placed flash a texts image value w i) in
        let whole : AllFlow flash pl (op_pieces p.function place f.place op) (view_in c t) v = subst (λ q. AllFlow flash pl q (view_in c t) v) (sym ps)
        (all_append flash pl xs (keeps p.function (is_unread p.function f.place) (place to) ∷ []) (view_in c t) u v fl (v, last, refl)) in
        let pos : 0 < steps_of (op_pieces p.function place f.place op) = subst (λ q. 0 < steps_of q) (sym ps)
        (steps_more xs (keeps p.function (is_unread p.function f.place) (place to) ∷ []) some) in
        straight_puts to value w v whole pos wr on lt (store_kept p.function (is_unread p.function f.place) (place to) w (view_in c t) u (fw.inside to lt) x.registers r)
        (kept_low p.function (is_unread p.function f.place) (place to) w u r.low) i (q.0 ∙ g) (q.1 ∙ ar)

    -- STRAIGHT PIECES that leave the frames as they are
    pub straight_goes : (h' : FlatHeap) (v : View) → AllFlow flash (spots C placed flash a f.function p) (op_pieces p.function (place_of p.places) f.place op)
        (view_in c t) v → 0 < steps_of (op_pieces p.function (place_of p.places) f.place op)
        → writes op ≡ None → GoesOn p.function f.place op → store_of v ≡ store_of (view_in c t) → length v.low ≡ 13 → IsShared C placed flash a
        used h' (shared_seen used v t.free)
        → Owed C placed flash a texts (op_instructions op) used h t (Goes (Stands (record { function = f.function; place = f.place + 1; temps = f.temps })
        callers base) h') c t
    straight_goes h' v fl pos wr on es n s' =
        let place = place_of p.places in
        let pl = spots C placed flash a f.function p in
        let k = here in
        let fw = k.within_function in
        let ps = op_pieces p.function place f.place op in
        let s1 = start p.function place f.place + 1 in
        let all = flows (fetched flash c.base) flash pl (function_pieces p) fw.laid ps s1 (view_in c t) v c.registers (bank_in flash c t) t.free k.stands fw.at
        refl fl in
        let b = op_takes p.function place f.place op in
        wider C placed flash a texts (total_cost ps) (op_instructions op) used h t _ c t (omega arith)
        (goes_to (steps_of ps) (total_cost ps) (s1 + length ps) (f.place + 1) v f.temps h' pos all (sym k.next) on.1
        (runs_same (suc f.place) (f.place + 1) v (omega arith) on.0 (λ m q. (let z : None ≡ Some m = sym wr ∙ q in elim_none m z)) es) n s')
