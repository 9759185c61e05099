-- Where an item stands: an array and an index in r0 and r1, tested, and then the addresses.
use Rattle.std.proofs.Common.{◌≡◌, ℕ, ◌+◌, ◌*◌, ◌<◌, ◌≤◌, ◌^◌, List, length, true, false, nat_lt, Some, refl, sym, ap, ◌∙◌, subst, arith, slice_get, slice_set, slice_index, get_or-set_same, get_or-set_other}
use Rattle.std.specs.Prelude.{Contains}
use Rattle.std.proofs.lemmas.List.{length-set}
use Rattle.thumb_code.specs.declared.instructions.Instr.TheVariants.{MovImm, CmpImm, CmpReg, LslImm, LdrImm, Svc}
use Rattle.thumb_code.specs.RegisterFile.{word as low_word}
use Rattle.thumb_code.specs.Map.{arena_words}
use Rattle.thumb_code.specs.Arithmetic.{shifted, lsl, inverted, sum_flags}
use Rattle.board_world.specs.Observations.{ByteList}
use Rattle.board_world.specs.Kinds.{Panics}
use Rattle.bank_model.specs.Fibers.{Fiber, Shared}
use Rattle.bank_model.specs.Arrays.{behind_words}
use Rattle.thumb_layout.specs.declared.pieces.Piece.TheVariants.{Plain, Label, Go}
use Rattle.thumb_layout.specs.Pieces.{Places}
use Rattle.flat_ir.specs.declared.ops.Op.{Op}
use Rattle.flat_ir.specs.declared.ops.FlatCode.{FlatCode}
use Rattle.flat_ir.specs.Ops.{reads}
use Rattle.flat_ir.specs.WellFormed.{temporaries}
use Rattle.flat_ir.specs.Liveness.{IsLiveAt}
use Rattle.sts_meaning.specs.Heaps.{FlatHeap}
use Rattle.register_assign.specs.declared.places.Placed.{Placed}
use Rattle.register_assign.specs.Sound.{place_of, IsWithin}
use Rattle.flat_meaning.specs.Frames.{FlatFrame}
use Rattle.thumb_emit.specs.Frame.{register_of, brings}
use Rattle.thumb_emit.specs.InFlash.{Addresses}
use Rattle.placed_frames.proofs.Laws.{View, with_low, InArena, Get, get}
use Rattle.arena_values.proofs.Laws.{IsNull, Header, PastItems, words_below}
use Rattle.emit_simulation.proofs.Laid.{store_of, OfInstr, Flows}
use Rattle.emit_simulation.specs.Starts.{start}
use Rattle.emit_simulation.specs.Ties.{IsAt, IsShared, IsImage, spots}
use Rattle.emit_simulation.proofs.AtOps.{view_in}
use Rattle.emit_simulation.proofs.Placed.{store_low, not_scratch, brought, brought_word, brought_other, brought_store, brought_length}
use Rattle.thumb_emit.proofs.Laws.{brings_still, still_takes}
use Rattle.thumb_layout.specs.Holds.{cost}
use Rattle.emit_simulation.proofs.Ops.{here, word, word_small, brings_word}
use Rattle.emit_simulation.proofs.Turns.{Owed}
use Rattle.emit_simulation.proofs.Walk.{Got, pieces, begun, one, got_wider, quiet, holding, breaking, tested, not_null, is_null}

-- what stands in r1 and r2 then: the index in bytes, and the address of the items
pub record Found (o v : View) (index first : ℕ) : Type 0 where
  pub r1 : slice_index v.low 1 ≡ 4 * index
  pub r2 : slice_index v.low 2 ≡ behind_words first
  pub low : length v.low ≡ 13
  pub store : store_of v ≡ store_of o
  pub globals : v.globals ≡ o.globals
  pub arena : v.arena ≡ o.arena

module _ (C : FlatCode) (placed : List Placed) (flash : List ℕ) (a : Addresses) (texts : List ByteList) (image : IsImage C placed flash a texts)
    (p : Placed) (f : FlatFrame) (callers : List FlatFrame) (base : ℕ) (c : Fiber) (used : ℕ) (h : FlatHeap) (t : Shared) (op : Op)
    (e : slice_get p.function.ops f.place ≡ Some op)
    (x : IsAt C placed flash a p (λ u. IsLiveAt p.function.ops u f.place) f callers base (start p.function (place_of p.places) f.place) c)
    (sh : IsShared C placed flash a used h t) where
  abbrev v0 : View
  v0 = view_in c t

  abbrev spot : Places
  spot = spots C placed flash a f.function p

  -- the items' address into r2 and the index in bytes into r1, behind r0 and r1
  abbrev pub seen_found : View → ℕ → ℕ → View
  seen_found v first i = record v { low = slice_set (slice_set v.low 2 (behind_words first)) 1 (low_word (i * 2 ^ 2)); flags = (shifted v.flags lsl i 2).1 }

  pub find_item : (i most array count first index rn rm : ℕ) (v : View) → Got C placed flash a texts image p f callers base c used h t op e x sh i most v
      → slice_get (pieces C placed flash a texts image p f callers base c used h t op e x sh) i ≡ Some (Plain (LdrImm 2 rn 3))
      → slice_get (pieces C placed flash a texts image p f callers base c used h t op e x sh) (i + 1) ≡ Some (Plain (LslImm 1 rm 2))
      → Header v.arena array count first → slice_index v.low rn ≡ array → slice_index v.low rm ≡ index → (rm ≡ 2 → ⊥) → length v.low ≡ 13
      → Got C placed flash a texts image p f callers base c used h t op e x sh (i + 1 + 1) (most + 2 + 2) (seen_found v first index)
  find_item i most array count first index rn rm v g q0 q1 hd r0 r1 d n =
      let m = hd.within in let l = hd.few in let b = hd.room in
      let w = behind_words first in
      let load : Flows flash spot (Plain (LdrImm 2 rn 3)) v (with_low 2 w v)
      = OfInstr (LdrImm 2 rn 3) v (with_low 2 w v) refl (Get 2 rn 3 w v (InArena (hd.array + 3) (omega arith) (ap (λ k. k + 3 * 4) (r0 ∙ hd.at) ∙ omega arith)
      hd.first_is) (omega arith)) in
      let s1 : slice_index (slice_set v.low 2 w) rm ≡ index = get_or-set_other v.low 2 rm w 0 d ∙ r1 in
      quiet C placed flash a texts image p f callers base c used h t op e x sh (i + 1) (most + 2) (with_low 2 w v) (LslImm 1 rm 2)
      (slice_set (slice_set v.low 2 w) 1 (low_word (index * 2 ^ 2))) (shifted v.flags lsl index 2).1
      (one C placed flash a texts image p f callers base c used h t op e x sh i most v (with_low 2 w v) (Plain (LdrImm 2 rn 3)) g q0 load) q1 refl
      (λ next pc s. rw s1 refl)

  pub is_found : (first index : ℕ) (o v : View) → index ≤ arena_words → length v.low ≡ 13
      → store_of v ≡ store_of o → v.globals ≡ o.globals → v.arena ≡ o.arena
      → Found o (seen_found v first index) index first
  is_found first index o v few n es gs as' =
      let w = behind_words first in
      let n2 = length-set v.low 2 w in
      let z : low_word (index * 2 ^ 2) ≡ 4 * index = omega arith in
      record {
        r1 = get_or-set_same (slice_set v.low 2 w) 1 (low_word (index * 2 ^ 2)) 0 (omega arith) ∙ z;
        r2 = get_or-set_other (slice_set v.low 2 w) 1 2 (low_word (index * 2 ^ 2)) 0 (omega arith) ∙ get_or-set_same v.low 2 w 0 (omega arith);
        low = length-set (slice_set v.low 2 w) 1 (low_word (index * 2 ^ 2)) ∙ (n2 ∙ n);
        store = store_low 1 (low_word (index * 2 ^ 2)) (with_low 2 w v) (omega arith) ∙ (store_low 2 w v (omega arith) ∙ es);
        globals = gs;
        arena = as';
      }

  -- an op that begins with an array and an index
  module _ (arr ind : ℕ) (la : arr < temporaries p.function) (ra : Contains (reads op) arr) (li : ind < temporaries p.function) (ri : Contains (reads op) ind)
      (q0 : slice_get (pieces C placed flash a texts image p f callers base c used h t op e x sh) 0 ≡ Some (brings p.function 0 (place_of p.places arr)))
      (q1 : slice_get (pieces C placed flash a texts image p f callers base c used h t op e x sh) 1 ≡ Some
      (brings p.function 1 (place_of p.places ind)))
      (q2 : slice_get (pieces C placed flash a texts image p f callers base c used h t op e x sh) 2 ≡ Some (Plain (CmpImm (register_of 0 (place_of p.places arr)) 0)))
      (q3 : slice_get (pieces C placed flash a texts image p f callers base c used h t op e x sh) 3 ≡ Some (Go 1 (3 * f.place + 1)))
      (q4 : slice_get (pieces C placed flash a texts image p f callers base c used h t op e x sh) 4 ≡ Some (Plain (MovImm 0 105)))
      (q5 : slice_get (pieces C placed flash a texts image p f callers base c used h t op e x sh) 5 ≡ Some (Plain (Svc 1)))
      (q6 : slice_get (pieces C placed flash a texts image p f callers base c used h t op e x sh) 6 ≡ Some (Label (3 * f.place + 1)))
      (q7 : slice_get (pieces C placed flash a texts image p f callers base c used h t op e x sh) 7 ≡ Some (Plain (LdrImm 2 (register_of 0 (place_of p.places arr)) 1)))
      (q8 : slice_get (pieces C placed flash a texts image p f callers base c used h t op e x sh) 8 ≡ Some (Plain (CmpReg (register_of 1 (place_of p.places ind)) 2)))
      (q9 : slice_get (pieces C placed flash a texts image p f callers base c used h t op e x sh) 9 ≡ Some (Go 3 (3 * f.place + 2)))
      (q10 : slice_get (pieces C placed flash a texts image p f callers base c used h t op e x sh) 10 ≡ Some (Plain (MovImm 0 104)))
      (q11 : slice_get (pieces C placed flash a texts image p f callers base c used h t op e x sh) 11 ≡ Some (Plain (Svc 1)))
      (q12 : slice_get (pieces C placed flash a texts image p f callers base c used h t op e x sh) 12 ≡ Some (Label (3 * f.place + 2))) where
    abbrev wa : ℕ
    wa = word C placed flash a texts image p f callers base c used h t op e x sh arr

    abbrev wi : ℕ
    wi = word C placed flash a texts image p f callers base c used h t op e x sh ind

    -- their registers
    abbrev rn : ℕ
    rn = register_of 0 (place_of p.places arr)

    abbrev rm : ℕ
    rm = register_of 1 (place_of p.places ind)

    inside : (n : ℕ) → n < temporaries p.function → IsWithin p.function (place_of p.places n)
    inside = ((here C placed flash a texts image p f callers base c used h t op e x sh).within_function).inside

    array_not : (k : ℕ) → 0 < k → k < 4 → rn ≡ k → ⊥
    array_not k l m q = not_scratch p.function (place_of p.places arr) 0 k m (λ z. omega arith) (inside arr la) (sym q)

    index_not_two : rm ≡ 2 → ⊥
    index_not_two q = not_scratch p.function (place_of p.places ind) 1 2 (omega arith) (λ z. omega arith) (inside ind li) (sym q)

    abbrev v1 : View
    v1 = brought 0 (place_of p.places arr) wa v0

    abbrev v2 : View
    v2 = brought 1 (place_of p.places ind) wi v1

    store1 : store_of v1 ≡ store_of v0
    store1 = brought_store (place_of p.places arr) 0 wa v0 (omega arith)

    store2 : store_of v2 ≡ store_of v0
    store2 = brought_store (place_of p.places ind) 1 wi v1 (omega arith) ∙ store1

    got2 : Got C placed flash a texts image p f callers base c used h t op e x sh 2 4 v2
    got2 =
        let y0 = brings p.function 0 (place_of p.places arr) in
        let y1 = brings p.function 1 (place_of p.places ind) in
        let l0 = still_takes p.function y0 (brings_still p.function 0 (place_of p.places arr)) in
        let l1 = still_takes p.function y1 (brings_still p.function 1 (place_of p.places ind)) in
        got_wider C placed flash a texts image p f callers base c used h t op e x sh 2 (0 + cost y0 + cost y1) 4 v2 (omega arith)
        (one C placed flash a texts image p f callers base c used h t op e x sh 1 (0 + cost y0) v1 v2 y1
        (one C placed flash a texts image p f callers base c used h t op e x sh 0 0 v0 v1 y0
        (begun C placed flash a texts image p f callers base c used h t op e x sh) q0 (brings_word C placed flash a texts image p f callers base c used h t op e x sh arr 0 v0 la ra (omega arith) refl)) q1
        (brings_word C placed flash a texts image p f callers base c used h t op e x sh ind 1 v1 li ri (omega arith) store1))

    low1 : length v1.low ≡ 13
    low1 = brought_length (place_of p.places arr) 0 wa v0.low ∙ x.registers

    low2 : length v2.low ≡ 13
    low2 = brought_length (place_of p.places ind) 1 wi v1.low ∙ low1

    v2_0 : slice_index v2.low rn ≡ wa
    v2_0 = brought_other (place_of p.places ind) 1 wi rn v1.low (λ q. array_not 1 (omega arith) (omega arith) (sym q))
        ∙ brought_word p.function (place_of p.places arr) 0 wa v0 (omega arith) (inside arr la) x.registers refl

    v2_1 : slice_index v2.low rm ≡ wi
    v2_1 = brought_word p.function (place_of p.places ind) 1 wi v1 (omega arith) (inside ind li) low1 (ap (get p.function (place_of p.places ind)) store1)

    pub array_null : (bound : ℕ) → 13 ≤ bound → (code : ℕ) → IsNull wa code → Owed C placed flash a texts bound used h t (Panics code) c t
    array_null bound b code n =
        let l = low2 in
        subst (λ k. Owed C placed flash a texts bound used h t (Panics k) c t) (sym n.1)
        (is_null C placed flash a texts image p f callers base c used h t op e x sh 2 4 (3 * f.place + 1) wa rn v2 got2 q2 q3 v2_0
        (word_small C placed flash a texts image p f callers base c used h t op e x sh arr la ra) bound q4 q5 n.0 (omega arith) (omega arith))

    -- the length in r2, and the index against it
    abbrev v5 : ℕ → View
    v5 count = tested C placed flash a texts image p f callers base c used h t op e x sh
        (with_low 2 count (tested C placed flash a texts image p f callers base c used h t op e x sh v2 wa 0)) wi count

    got9 : (count first : ℕ) → Header t.arena wa count first → Got C placed flash a texts image p f callers base c used h t op e x sh 9 13 (v5 count)
    got9 count first hd =
        let m = hd.within in let l = hd.few in let n = low2 in
        let there : 0 < wa = (let q = hd.at in omega arith) in
        let v3 = tested C placed flash a texts image p f callers base c used h t op e x sh v2 wa 0 in
        let load : Flows flash spot (Plain (LdrImm 2 rn 1)) v3 (with_low 2 count v3)
        = OfInstr (LdrImm 2 rn 1) v3 (with_low 2 count v3) refl
        (Get 2 rn 1 count v3 (InArena (hd.array + 1) (omega arith) (ap (λ k. k + 1 * 4) (v2_0 ∙ hd.at) ∙ omega arith) hd.count_is) (omega arith)) in
        let s1 : slice_index (slice_set v3.low 2 count) rm ≡ wi = get_or-set_other v3.low 2 rm count 0 index_not_two ∙ v2_1 in
        let s2 : slice_index (slice_set v3.low 2 count) 2 ≡ count = get_or-set_same v3.low 2 count 0 (omega arith) in
        quiet C placed flash a texts image p f callers base c used h t op e x sh 8 11 (with_low 2 count v3) (CmpReg rm 2) (slice_set v3.low 2 count)
        (sum_flags wi (inverted count) 1)
        (one C placed flash a texts image p f callers base c used h t op e x sh 7 9 v3 (with_low 2 count v3) (Plain (LdrImm 2 rn 1))
        (not_null C placed flash a texts image p f callers base c used h t op e x sh 2 4 (3 * f.place + 1) wa rn v2 got2 q2 q3 v2_0
        (word_small C placed flash a texts image p f callers base c used h t op e x sh arr la ra) q6 there) q7 load) q8 refl
        (λ next pc s. rw s1 (rw s2 refl))

    pub index_past : (bound : ℕ) → 20 ≤ bound → (code : ℕ) → PastItems t.arena wa wi code → Owed C placed flash a texts bound used h t (Panics code) c t
    index_past bound b code s =
        let l = s.past in let hd = s.header in let fw = hd.few in
        let n = length-set v2.low 2 s.count ∙ low2 in
        let z : nat_lt wi s.count ≡ false = grind arith in
        subst (λ k. Owed C placed flash a texts bound used h t (Panics k) c t) (sym s.code_is)
        (breaking C placed flash a texts image p f callers base c used h t op e x sh 9 13 3 104 (3 * f.place + 2) bound (v5 s.count)
        (got9 s.count s.first s.header) q9 refl q10 q11 (words_below wi s.count (word_small C placed flash a texts image p f callers base c used h t op e x
        sh ind li ri) (omega arith) ∙ z) (omega arith) (omega arith) (omega arith))

    pub item_there : (count first : ℕ) → Header t.arena wa count first → wi < count → Got C placed flash a texts image p f callers base c used h t op e x sh 13
        16 (v5 count)
    item_there count first hd l =
        let fw = hd.few in
        let z : nat_lt wi count ≡ true = grind arith in
        holding C placed flash a texts image p f callers base c used h t op e x sh 9 13 3 104 (3 * f.place + 2) (v5 count) (got9 count first hd) q9 q12
        (words_below wi count (word_small C placed flash a texts image p f callers base c used h t op e x sh ind li ri) (omega arith) ∙ z)

    -- what is seen behind the addresses
    module _ (count first : ℕ) (hd : Header t.arena wa count first) (l : wi < count)
        (q13 : slice_get (pieces C placed flash a texts image p f callers base c used h t op e x sh) 13 ≡ Some (Plain (LdrImm 2 (register_of 0 (place_of p.places arr)) 3)))
        (q14 : slice_get (pieces C placed flash a texts image p f callers base c used h t op e x sh) 14 ≡ Some (Plain (LslImm 1 (register_of 1 (place_of p.places ind)) 2))) where
      abbrev pub seen_item : View
      seen_item = seen_found (v5 count) first wi

      low5 : length (v5 count).low ≡ 13
      low5 = length-set v2.low 2 count ∙ low2

      v5_0 : slice_index (v5 count).low rn ≡ wa
      v5_0 = get_or-set_other v2.low 2 rn count 0 (array_not 2 (omega arith) (omega arith)) ∙ v2_0

      v5_1 : slice_index (v5 count).low rm ≡ wi
      v5_1 = get_or-set_other v2.low 2 rm count 0 index_not_two ∙ v2_1

      pub got_item : Got C placed flash a texts image p f callers base c used h t op e x sh 15 20 seen_item
      got_item = find_item 13 16 wa count first wi rn rm (v5 count) (item_there count first hd l) q13 q14 hd v5_0 v5_1 index_not_two low5

      pub found_item : Found v0 seen_item wi first
      found_item = is_found first wi v0 (v5 count) (let m = hd.few in omega arith) low5 (store_low 2 count v2 (omega arith) ∙ store2) refl refl
