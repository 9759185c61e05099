-- Arguments go into the outgoing words, and the caller waits.
use Rattle.std.proofs.Common.{zero, suc, ◌≡◌, ℕ, ◌+◌, ◌*◌, ◌<◌, ◌≤◌, List, [], ◌∷◌, length, map, Option, Some, refl, sym, ap, ◌∙◌, subst, arith, slice_get, slice_set, slice_index, get_or-set_same, get_or-set_other}
use Rattle.std.specs.Prelude.{Contains}
use Rattle.std.proofs.lemmas.List.{length-set}
use Rattle.std.proofs.lemmas.Option.{slice_get_within, get_or_from_slice_get}
use Rattle.thumb_code.specs.declared.instructions.Instr.TheVariants.{StrSp}
use Rattle.board_world.specs.Observations.{ByteList}
use Rattle.bank_model.specs.Fibers.{Fiber, Shared}
use Rattle.thumb_layout.specs.declared.pieces.Piece.TheVariants.{Plain}
use Rattle.flat_ir.specs.declared.ops.Op.{Op}
use Rattle.flat_ir.specs.declared.ops.Function.{Function}
use Rattle.flat_ir.specs.declared.ops.FlatCode.{FlatCode}
use Rattle.flat_ir.specs.Ops.{reads, goes_on}
use Rattle.flat_ir.specs.WellFormed.{temporaries}
use Rattle.flat_ir.specs.Liveness.{IsLiveAt}
use Rattle.sts_meaning.specs.Heaps.{FlatHeap}
use Rattle.register_assign.specs.declared.places.Place.{Place}
use Rattle.register_assign.specs.declared.places.Placed.{Placed}
use Rattle.register_assign.specs.Sound.{place_of, IsWithin}
use Rattle.flat_meaning.specs.Frames.{FlatFrame}
use Rattle.thumb_emit.specs.Frame.{register_of, brings}
use Rattle.thumb_emit.specs.Emit.{passes}
use Rattle.thumb_emit.proofs.Laws.{brings_still, still_takes}
use Rattle.thumb_emit.specs.Bounds.{total_cost}
use Rattle.thumb_emit.specs.InFlash.{Addresses}
use Rattle.placed_frames.proofs.Laws.{View, PutOwn, value_set, frames_stay, room, get, IsRoom}
use Rattle.placed_frames.specs.Places.{Store, value, words}
use Rattle.placed_frames.specs.Frames.{HasFrame, HasWaiting, HasFrames, Waits, saved, saved_at, words_at, writes_at, outgoing_at}
use Rattle.emit_simulation.proofs.Laid.{Flows, OfInstr, AllFlow, store_of}
use Rattle.emit_simulation.specs.Starts.{start}
use Rattle.emit_simulation.specs.Ties.{IsAt, IsShared, IsImage, Means, spots, place_in, place_at, return_to, frame_of, frames_of}
use Rattle.emit_simulation.proofs.AtOps.{view_in}
use Rattle.emit_simulation.proofs.Placed.{brought, brought_word, brought_store, brought_length, brings_flows}
use Rattle.emit_simulation.proofs.Ops.{here, word, word_small}

pub passes_length : (f : Function) (place : ℕ → Place) (k : ℕ) (ts : List ℕ) → length (passes f place k ts) ≡ 2 * length ts
passes_length f place k [] = refl
passes_length f place k (t ∷ ts) = let h = passes_length f place (k + 1) ts in omega arith

pub passes_cost : (f : Function) (place : ℕ → Place) (k : ℕ) (ts : List ℕ) → total_cost (passes f place k ts) ≤ 4 * length ts
passes_cost f place k [] = omega arith
passes_cost f place k (t ∷ ts) =
    let h = passes_cost f place (k + 1) ts in let l = still_takes f (brings f 0 (place t)) (brings_still f 0 (place t)) in omega arith

pub mapped_value : {A B : Type 0} (g : A → B) (xs : List A) (j : ℕ) (y : B) → slice_get (map g xs) j ≡ Some y → (x : A) × (slice_get xs j ≡ Some x) × (g x ≡ y)
mapped_value g [] j y e = cc
mapped_value g (x ∷ xs) zero y e = let z : g x ≡ y = cc in (x, refl, z)
mapped_value g (x ∷ xs) (suc j) y e = mapped_value g xs j y e

pub contained : (ts : List ℕ) (j t : ℕ) → slice_get ts j ≡ Some t → Contains ts t
contained ts j t e = (j, slice_get_within ts j t e, get_or_from_slice_get ts j t t e)

module _ (C : FlatCode) (placed : List Placed) (flash : List ℕ) (a : Addresses) (texts : List ByteList) (image : IsImage C placed flash a texts) where
  module _ (p : Placed) (f : FlatFrame) (callers : List FlatFrame) (base : ℕ) (c : Fiber) (used : ℕ) (h : FlatHeap) (t : Shared) (op : Op)
      (e : slice_get p.function.ops f.place ≡ Some op)
      (x : IsAt C placed flash a p (λ u. IsLiveAt p.function.ops u f.place) f callers base (start p.function (place_of p.places) f.place) c)
      (sh : IsShared C placed flash a used h t) where
    abbrev place : ℕ → Place
    place = place_of p.places

    abbrev pub Waiting : List ℕ → List ℕ → Type 0
    Waiting ws kept = HasFrames (Means C placed flash a) C.functions (place_in C placed flash a) (return_to C placed flash a) ws (frames_of (f ∷ callers)) kept
        0

    -- the running frame waits
    pub waits_now : Contains (goes_on f.place op) (suc f.place) → Waiting c.bank (store_of (view_in c t)).kept
    waits_now on =
        let k = here C placed flash a texts image p f callers base c used h t op e x sh in
        let fn = p.function in
        let fw = k.within_function in
        let r = x.running in
        let fr = r.frame in
        let kept = (store_of (view_in c t)).kept in
        let Is = Means C placed flash a in
        let pin = place_in C placed flash a in
        let ret = return_to C placed flash a in
        let z : suc f.place ≡ f.place + 1 = omega arith in
        let pe : place ≡ pin f.function = ap place_at (sym x.there) in
        let frame : HasFrame Is C.functions pin ret c.bank fn (pin f.function) (Waits fn f.place) f.temps (frames_of callers) kept 0 = record {
          temporary = λ u lu n. subst (λ (q : ℕ → Place). Is (f.temps u) (value fn kept c.bank 0 (q u))) pe
              (fr.temporary u lu (k.kept_live u (suc f.place) on (subst (IsLiveAt fn.ops u) (sym z) n.1) (λ w. n.0 (ap writes_at e ∙ w))));
          link = fr.link;
          params = fr.params;
          small = fr.small;
        } in
        let w0 : words fn ≡ 0 + words fn = omega arith in
        let above = subst (λ n. HasFrames Is C.functions pin ret c.bank (frames_of callers) (saved fn (pin f.function) kept c.bank 0) n) w0
        (subst (λ (q : ℕ → Place). HasFrames Is C.functions pin ret c.bank (frames_of callers) (saved fn q kept c.bank 0) (words fn)) pe r.above) in
        subst (λ (o : Option Function). HasWaiting Is C.functions pin ret c.bank o (frame_of f) (frames_of callers) kept 0 × HasFrames Is C.functions pin ret
        c.bank (frames_of callers) (saved_at o (pin f.function) kept c.bank 0) (0 + words_at o)) (sym fw.function) (frame, above)

    -- what is kept while arguments are passed
    pub record Passes (u : View) : Type 0 where
      pub values : (q : Place) → IsWithin p.function q → get p.function q (store_of u) ≡ get p.function q (store_of (view_in c t))
      pub kept : (store_of u).kept ≡ (store_of (view_in c t)).kept
      pub frames : Waiting u.words (store_of u).kept
      pub low : length u.low ≡ 13
      pub long : length u.words ≡ length c.bank
      pub globals : u.globals ≡ t.globals
      pub arena : u.arena ≡ t.arena

    pub passes_none : Contains (goes_on f.place op) (suc f.place) → Passes (view_in c t)
    passes_none on = record { values = λ q i. refl; kept = refl; frames = waits_now on; low = x.registers; long = refl; globals = refl; arena = refl }

    -- the arguments from word k on
    pub record Passed (k : ℕ) (ts : List ℕ) (u : View) : Type 0 where
      pub seen : View
      pub flow : AllFlow flash (spots C placed flash a f.function p) (passes p.function place k ts) u seen
      pub same : Passes seen
      pub argument : (j v : ℕ) → slice_get ts j ≡ Some v → slice_index seen.words (k + j) ≡ word C placed flash a texts image p f callers base c used h t op e
          x sh v
      pub below : (i : ℕ) → i < k → slice_index seen.words i ≡ slice_index u.words i

    one_passed : (k v : ℕ) (u : View) → v < temporaries p.function → Contains (reads op) v → k < p.function.outgoing → Passes u
        → (m : View) × AllFlow flash (spots C placed flash a f.function p) (passes p.function place k (v ∷ [])) u m × Passes
        m × (m.words ≡ slice_set u.words k (word C placed flash a texts image p f callers base c used h t op e x sh v))
    one_passed k v u lv rv lk y =
        let o = here C placed flash a texts image p f callers base c used h t op e x sh in
        let fn = p.function in
        let fw = o.within_function in
        let pl = spots C placed flash a f.function p in
        let w = word C placed flash a texts image p f callers base c used h t op e x sh v in
        let lw = word_small C placed flash a texts image p f callers base c used h t op e x sh v lv rv in
        let rm = room (Means C placed flash a) C.functions (place_in C placed flash a) (return_to C placed flash a) fn place (λ n. IsLiveAt fn.ops n f.place)
        f.temps (frames_of callers) (store_of (view_in c t)) x.running in
        let rl = rm.long in let ul = y.long in
        let ru : IsRoom fn (store_of u) = record { four = refl; long = omega arith } in
        let r = register_of 0 (place v) in
        let m1 = brought 0 (place v) w u in
        let m2 : View = record m1 { words = slice_set u.words k w } in
        let s1 : store_of m1 ≡ store_of u = brought_store (place v) 0 w u (omega arith) in
        let n0 = y.low in
        let g1 = brings_flows flash pl fn (place v) 0 w u (omega arith) (fw.inside v lv) ru (y.values (place v) (fw.inside v lv)) lw in
        let r0 : slice_index m1.low r ≡ w = brought_word fn (place v) 0 w u (omega arith) (fw.inside v lv) n0 (y.values (place v) (fw.inside v lv)) in
        let ke : (store_of m1).kept ≡ (store_of u).kept = ap (λ (q : Store). q.kept) s1 in
        let oe : p.function.outgoing ≡ outgoing_at (slice_get C.functions f.function) = ap outgoing_at (sym fw.function) in
        let st = frames_stay (Means C placed flash a) C.functions (place_in C placed flash a) (return_to C placed flash a) u.words k w
        (frames_of (f ∷ callers)) (store_of u).kept 0 (omega arith) y.frames in
        let lb = length-set u.words k w in (
          m2,
          (m1, g1, (m2, OfInstr (StrSp r k) m1 m2 refl (PutOwn r k w m1 (omega arith) r0 lw), refl)),
          record {
            values = λ q i. value_set (Means C placed flash a) C.functions (place_in C placed flash a) (return_to C placed flash a) fn (store_of m1).kept
                u.words 0 k w q (omega arith) ∙ (ap (get fn q) s1 ∙ y.values q i);
            kept = ke ∙ y.kept;
            frames = subst (λ ks. Waiting (slice_set u.words k w) ks) (sym ke) st;
            low = brought_length (place v) 0 w u.low ∙ y.low;
            long = lb ∙ y.long;
            globals = y.globals;
            arena = y.arena;
          },
          refl,
        )

    pub passed : (k : ℕ) (ts : List ℕ) (u : View) → ((j v : ℕ) → slice_get ts j ≡ Some v → (v < temporaries p.function) × Contains (reads op) v)
        → k + length ts ≤ p.function.outgoing → Passes u → Passed k ts u
    passed k [] u all l y = record { seen = u; flow = refl; same = y; argument = λ j v g. cc; below = λ i m. refl }
    passed k (v ∷ ts) u all l y =
        let av = all 0 v refl in
        let w = word C placed flash a texts image p f callers base c used h t op e x sh v in
        let o = one_passed k v u av.0 av.1 (omega arith) y in
        let m = o.0 in
        let r = passed (k + 1) ts m (λ j i g. all (suc j) i g) (omega arith) o.2 in
        let rm = room (Means C placed flash a) C.functions (place_in C placed flash a) (return_to C placed flash a) p.function place
        (λ n. IsLiveAt p.function.ops n f.place) f.temps (frames_of callers) (store_of (view_in c t)) x.running in
        let rl = rm.long in let ul = y.long in
        let here_is : slice_index m.words k ≡ w = ap (λ (ws : List ℕ). slice_index ws k) o.3 ∙ get_or-set_same u.words k w 0 (omega arith) in
        record {
          seen = r.seen;
          flow = ((o.1).0, (o.1).1, (m, last_of (o.1).2, r.flow));
          same = r.same;
          argument = λ j i g. argument_of r.seen.words (λ j' i' g'. r.argument j' i' g') (r.below k (omega arith) ∙ here_is) j i g;
          below = λ i q. r.below i (omega arith) ∙ (ap (λ (ws : List ℕ). slice_index ws i) o.3 ∙ get_or-set_other u.words k i w 0 (omega arith));
        }
      where
        argument_of : (ws : List ℕ) → ((j i : ℕ) → slice_get ts j ≡ Some i → slice_index ws (k + 1 + j) ≡ word C placed flash a texts image p f callers base c
            used h t op e x sh i) → slice_index ws k ≡ word C placed flash a texts image p f callers base c used h t op e x sh v
            → (j i : ℕ) → slice_get (v ∷ ts) j ≡ Some i → slice_index ws (k + j) ≡ word C placed flash a texts image p f callers base c used h t op e x sh i
        argument_of ws more first zero i g = (let z : v ≡ i = cc in ap (slice_index ws) (omega arith) ∙
            (first ∙ ap (word C placed flash a texts image p f callers base c used h t op e x sh) z))
        argument_of ws more first (suc j) i g = ap (slice_index ws) (omega arith) ∙ more j i g

        last_of : {m1 m : View} → AllFlow flash (spots C placed flash a f.function p) (Plain (StrSp (register_of 0 (place v)) k) ∷ []) m1 m
            → Flows flash (spots C placed flash a f.function p) (Plain (StrSp (register_of 0 (place v)) k)) m1 m
        last_of {m1} {m} fl = subst (λ q. Flows flash (spots C placed flash a f.function p) (Plain (StrSp (register_of 0 (place v)) k)) m1 q) fl.2 fl.1
