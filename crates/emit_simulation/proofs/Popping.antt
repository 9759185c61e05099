-- The last item of an array is taken away.
use Rattle.std.proofs.Common.{◌≡◌, ℕ, ◌+◌, ◌*◌, ◌<◌, inl, inr, List, length, true, false, not, ◌==◌, Some, refl, sym, ap, ◌∙◌, subst, arith, slice_get, slice_set, slice_index, get_or-set_same, get_or-set_other}
use Rattle.std.proofs.lemmas.List.{length-set}
use Rattle.thumb_code.specs.declared.instructions.Instr.TheVariants.{CmpImm, SubImm8, LdrImm, StrImm, LdrReg}
use Rattle.thumb_code.specs.Arithmetic.{inverted, sum_of, sum_flags}
use Rattle.board_world.specs.Observations.{ByteList}
use Rattle.board_world.specs.Kinds.{Goes as GoesTurn, Panics}
use Rattle.board_world.specs.Sound.{NoFault}
use Rattle.bank_model.specs.Fibers.{Fiber, Shared}
use Rattle.thumb_layout.specs.declared.pieces.Piece.TheVariants.{Plain}
use Rattle.thumb_layout.specs.Pieces.{Places}
use Rattle.flat_ir.specs.declared.ops.Op.{Op}
use Rattle.flat_ir.specs.declared.ops.Op.TheVariants.{Pop}
use Rattle.flat_ir.specs.declared.ops.FlatCode.{FlatCode}
use Rattle.flat_ir.specs.Liveness.{IsLiveAt}
use Rattle.flat_ir.specs.WellFormed.{temporaries}
use Rattle.register_assign.specs.declared.places.Placed.{Placed}
use Rattle.register_assign.specs.Sound.{place_of}
use Rattle.register_assign.specs.Unread.{is_unread}
use Rattle.sts_meaning.specs.Values.{Value, Outcome, Gives, Breaks, Stuck}
use Rattle.sts_meaning.specs.Heaps.{FlatHeap, popped}
use Rattle.sts_meaning.specs.Frames.{after}
use Rattle.flat_meaning.specs.Frames.{FlatFrame, Stands, given}
use Rattle.flat_meaning.specs.Steps.{FlatTurn}
use Rattle.thumb_emit.specs.InFlash.{Addresses}
use Rattle.thumb_emit.specs.Bounds.{op_instructions}
use Rattle.placed_frames.proofs.Laws.{View, with_low, InArena, ToArena, Get, GetAt, Put}
use Rattle.arena_values.proofs.Laws.{Header, ItemPopped, NoItem, PopsItem, pops, words_unequal}
use Rattle.thumb_emit.proofs.Laws.{joined_after}
use Rattle.emit_simulation.proofs.Laid.{OfInstr, Flows, store_of}
use Rattle.emit_simulation.specs.Starts.{start}
use Rattle.emit_simulation.specs.Ties.{IsAt, IsShared, IsImage, Means, IsText, IsCode, spots}
use Rattle.emit_simulation.proofs.AtOps.{view_in}
use Rattle.emit_simulation.proofs.OwedOps.{MakesOp}
use Rattle.emit_simulation.proofs.Placed.{store_low, result_set, not_scratch, brought, brought_length, brought_store, made_small}
use Rattle.thumb_emit.specs.Frame.{register_of, result_in}
use Rattle.emit_simulation.proofs.Meanings.{small}
use Rattle.emit_simulation.proofs.Ops.{here, word, word_means}
use Rattle.emit_simulation.proofs.Turns.{Owed}
use Rattle.emit_simulation.proofs.Walk.{Got, one, quiet, holding, breaking, object_there, object_null, in_register, its_place, finished, tested}
use Rattle.emit_simulation.proofs.Finding.{seen_found, find_item, is_found}

module _ (C : FlatCode) (placed : List Placed) (flash : List ℕ) (a : Addresses) (texts : List ByteList) (image : IsImage C placed flash a texts) where
  abbrev Word : Value → ℕ → Type 0
  Word v w = Means C placed flash a v w

  module _ (to array : ℕ) (p : Placed) (f : FlatFrame) (callers : List FlatFrame) (base : ℕ) (c : Fiber) (used : ℕ) (h : FlatHeap) (t : Shared)
      (e : slice_get p.function.ops f.place ≡ Some (Pop to array))
      (x : IsAt C placed flash a p (λ u. IsLiveAt p.function.ops u f.place) f callers base (start p.function (place_of p.places) f.place) c)
      (sh : IsShared C placed flash a used h t) where
    abbrev op : Op
    op = Pop to array

    abbrev v : View
    v = view_in c t

    abbrev spot : Places
    spot = spots C placed flash a f.function p

    names : (to < temporaries p.function) × (array < temporaries p.function)
    names = let n = ((here C placed flash a texts image p f callers base c used h t op e x sh).op_within).names in (n.0, (n.1).0)

    abbrev Makes : FlatTurn → Type 0
    Makes turn = Owed C placed flash a texts (op_instructions op) used h t turn c t

    abbrev w : ℕ
    w = word C placed flash a texts image p f callers base c used h t op e x sh array

    -- the length in r1, against 0
    abbrev u6 : View
    u6 = tested C placed flash a texts image p f callers base c used h t op e x sh (brought 0 (place_of p.places array) w v) w 0

    abbrev u8 : ℕ → View
    u8 count = tested C placed flash a texts image p f callers base c used h t op e x sh (with_low 1 count u6) count 0

    low6 : length u6.low ≡ 13
    low6 = brought_length (place_of p.places array) 0 w v.low ∙ x.registers

    -- the registers of the result and of the array
    abbrev d0 : ℕ
    d0 = result_in (is_unread p.function f.place) (place_of p.places to)

    abbrev rn : ℕ
    rn = register_of 0 (place_of p.places array)

    u6_0 : slice_index u6.low rn ≡ w
    u6_0 = in_register C placed flash a texts image p f callers base c used h t op e x sh array names.1 (0, omega arith, refl) refl refl refl refl refl refl

    store6 : store_of u6 ≡ store_of v
    store6 = brought_store (place_of p.places array) 0 w v (omega arith)

    -- the array isn't in r1
    array_not_one : rn ≡ 1 → ⊥
    array_not_one q = not_scratch p.function (place_of p.places array) 0 1 (omega arith) (λ z. omega arith)
        (its_place C placed flash a texts image p f callers base c used h t op e x sh array names.1 (0, omega arith, refl) refl refl refl refl refl refl) (sym q)

    got8 : (count first : ℕ) → Header t.arena w count first → Got C placed flash a texts image p f callers base c used h t op e x sh 8 11 (u8 count)
    got8 count first hd =
        let m = hd.within in let l = hd.few in let n = low6 in
        let there : 0 < w = (let q = hd.at in omega arith) in
        let load : Flows flash spot (Plain (LdrImm 1 rn 1)) u6 (with_low 1 count u6)
        = OfInstr (LdrImm 1 rn 1) u6 (with_low 1 count u6) refl
        (Get 1 rn 1 count u6 (InArena (hd.array + 1) (omega arith) (ap (λ k. k + 1 * 4) (u6_0 ∙ hd.at) ∙ omega arith) hd.count_is) (omega arith)) in
        let s1 : slice_index (slice_set u6.low 1 count) 1 ≡ count = get_or-set_same u6.low 1 count 0 (omega arith) in
        quiet C placed flash a texts image p f callers base c used h t op e x sh 7 9 (with_low 1 count u6) (CmpImm 1 0) (slice_set u6.low 1 count)
        (sum_flags count (inverted 0) 1)
        (one C placed flash a texts image p f callers base c used h t op e x sh 6 7 u6 (with_low 1 count u6) (Plain (LdrImm 1 rn 1))
        (object_there C placed flash a texts image p f callers base c used h t op e x sh array names.1 (0, omega arith, refl) refl refl refl refl refl refl
        there) refl load) refl refl (λ next pc s. rw s1 refl)

    -- an empty array
    empty : (code : ℕ) → NoItem t.arena w code → Makes (Panics code)
    empty code s =
        let n = length-set u6.low 1 0 ∙ low6 in
        let z : not (0 == 0) ≡ false = refl in
        subst (λ k. Makes (Panics k)) (sym s.code_is)
        (breaking C placed flash a texts image p f callers base c used h t op e x sh 8 11 1 104 (3 * f.place + 2) (op_instructions op) (u8 0)
        (got8 0 s.first s.header) refl refl refl refl (words_unequal 0 0 (omega arith) (omega arith) ∙ z) (omega arith) (omega arith) (omega arith))

    -- the last item
    value : (y : Value) (h' : FlatHeap) → ItemPopped Word a.class t.arena used t.globals w y h' → Makes (GoesTurn (Stands (given to y f) callers base) h')
    value y h' s =
        let hd = s.header in
        let m = hd.within in let l = hd.few in let b = hd.behind in let r = hd.room in
        let less = s.less in let first = s.first in let count = less + 1 in
        let n8 = length-set u6.low 1 count ∙ low6 in
        let k = hd.array in
        let some : not (count == 0) ≡ true = ap not (let q : (count == 0) ≡ false = grind arith in q) in
        let g12 = holding C placed flash a texts image p f callers base c used h t op e x sh 8 11 1 104 (3 * f.place + 2) (u8 count) (got8 count first hd) refl
        refl (words_unequal count 0 (omega arith) (omega arith) ∙ some) in
        let s1 : slice_index (u8 count).low 1 ≡ count = (let n = low6 in get_or-set_same u6.low 1 count 0 (omega arith)) in
        let s0 : slice_index (u8 count).low rn ≡ w = get_or-set_other u6.low 1 rn count 0 array_not_one ∙ u6_0 in
        let d = sum_of count (inverted 1) 1 in
        let d_is : d ≡ less = omega arith in
        let u9 : View = record (u8 count) { low = slice_set (u8 count).low 1 d; flags = sum_flags count (inverted 1) 1 } in
        let g13 = quiet C placed flash a texts image p f callers base c used h t op e x sh 12 14 (u8 count) (SubImm8 1 1) (slice_set (u8 count).low 1 d)
        (sum_flags count (inverted 1) 1) g12 refl refl (λ next pc z. rw s1 refl) in
        let r1 : slice_index u9.low 1 ≡ less = get_or-set_same (u8 count).low 1 d 0 (omega arith) ∙ d_is in
        let r0 : slice_index u9.low rn ≡ w = get_or-set_other (u8 count).low 1 rn d 0 array_not_one ∙ s0 in
        let n9 = length-set (u8 count).low 1 d ∙ n8 in
        let u10 : View = record u9 { arena = slice_set t.arena (k + 1) less } in
        let store : Flows flash spot (Plain (StrImm 1 rn 1)) u9 u10
        = OfInstr (StrImm 1 rn 1) u9 u10 refl (Put 1 rn 1 less u9 u10 r1 (omega arith)
        (ToArena (k + 1) (omega arith) (ap (λ j. j + 1 * 4) (r0 ∙ hd.at) ∙ omega arith))) in
        let g14 = one C placed flash a texts image p f callers base c used h t op e x sh 13 16 u9 u10 (Plain (StrImm 1 rn 1)) g13 refl store in
        let size = ((sh.1).lies).size in
        let hd' : Header u10.arena w less first
        = record {
          array = k;
          at = hd.at;
          within = m;
          count_is = get_or-set_same t.arena (k + 1) less 0 (omega arith);
          few = omega arith;
          first_is = get_or-set_other t.arena (k + 1) (k + 3) less 0 (omega arith) ∙ hd.first_is;
          behind = b;
          room = omega arith;
        } in
        let u = seen_found C placed flash a texts image p f callers base c used h t op e x sh u10 first less in
        let g16 = find_item C placed flash a texts image p f callers base c used h t op e x sh 14 18 w less first less rn 1 u10 g14 refl refl hd' r0 r1 (λ z. omega arith) n9 in
        let fd' = is_found C placed flash a texts image p f callers base c used h t op e x sh first less u10 u10 (omega arith) n9 refl refl refl in
        let z = slice_index t.arena (first + less) in
        let small_z = small C placed flash a texts image y z s.shows in
        let same : slice_index u.arena (first + less) ≡ z = get_or-set_other t.arena (k + 1) (first + less) less 0 (omega arith) in
        let nu = fd'.low in
        let fd = made_small p.function (is_unread p.function f.place) (place_of p.places to)
        (((here C placed flash a texts image p f callers base c used h t op e x sh).within_function).inside to names.0) in
        let load : Flows flash spot (Plain (LdrReg d0 2 1)) u (with_low d0 z u)
        = OfInstr (LdrReg d0 2 1) u (with_low d0 z u) refl (GetAt d0 2 1 z u (InArena (first + less) (omega arith) ((λ i. fd'.r2 i + fd'.r1 i) ∙ omega arith) same)
        small_z) in
        finished C placed flash a texts image p f callers base c used h t op e x sh 16 22 (op_instructions op) to z y h' u (with_low d0 z u) (LdrReg d0 2 1) g16 refl
        load refl refl refl ((0, omega arith, refl), joined_after p.function f.place op e (λ when. refl)) names.0
        (result_set d0 z v u (with_low d0 z u) fd (fd'.store ∙ (store_low 1 d (u8 count) (omega arith) ∙ (store_low 1 count u6 (omega arith) ∙ store6))) fd'.low refl refl)
        s.shows (refl, s.changed) (omega arith)

    made : (o : Outcome (Value × FlatHeap)) → PopsItem Word a.class t.arena used t.globals w o
        → NoFault (after o (λ y. GoesTurn (Stands (given to y.0 f) callers base) y.1))
        → Makes (after o (λ y. GoesTurn (Stands (given to y.0 f) callers base) y.1))
    made (Gives y) s nf = value y.0 y.1 s
    made (Breaks code) (inl s) nf = object_null C placed flash a texts image p f callers base c used h t op e x sh array names.1 (0, omega arith, refl) refl
        refl refl refl refl refl (op_instructions op) (omega arith) code s
    made (Breaks code) (inr s) nf = empty code s
    made Stuck s nf = absurd nf

    makes : NoFault (after (popped h (f.temps array)) (λ y. GoesTurn (Stands (given to y.0 f) callers base) y.1))
        → Makes (after (popped h (f.temps array)) (λ y. GoesTurn (Stands (given to y.0 f) callers base) y.1))
    makes nf = made (popped h (f.temps array)) (pops (IsText C placed flash a) (IsCode C placed flash a) a.class h used t.globals t.arena sh.1 (f.temps array)
        _ (word_means C placed flash a texts image p f callers base c used h t op e x sh array names.1 (0, omega arith, refl))) nf

  -- the last item is given, and the array is shorter
  pub pop_makes : (to array : ℕ) → MakesOp C placed flash a texts (Pop to array)
  pop_makes to array p f callers base c used h t e x sh nf = makes to array p f callers base c used h t e x sh nf
