-- Items of arrays, and lengths.
use Rattle.std.proofs.Common.{◌≡◌, ℕ, ◌+◌, ◌*◌, ◌<◌, inl, inr, List, Some, refl, ap, ◌∙◌, arith, slice_get, slice_set, slice_index}
use Rattle.thumb_code.specs.declared.instructions.Instr.TheVariants.{LdrImm, LdrReg, StrReg}
use Rattle.board_world.specs.Observations.{ByteList}
use Rattle.board_world.specs.Kinds.{Goes as GoesTurn}
use Rattle.board_world.specs.Sound.{NoFault}
use Rattle.bank_model.specs.Fibers.{Fiber, Shared}
use Rattle.thumb_layout.specs.declared.pieces.Piece.TheVariants.{Plain}
use Rattle.thumb_layout.specs.Pieces.{Places}
use Rattle.flat_ir.specs.declared.ops.Op.{Op}
use Rattle.flat_ir.specs.declared.ops.Op.TheVariants.{ItemGet, ItemSet, Length}
use Rattle.flat_ir.specs.declared.ops.FlatCode.{FlatCode}
use Rattle.flat_ir.specs.Liveness.{IsLiveAt}
use Rattle.flat_ir.specs.WellFormed.{temporaries}
use Rattle.register_assign.specs.declared.places.Placed.{Placed}
use Rattle.register_assign.specs.Sound.{place_of}
use Rattle.register_assign.specs.Unread.{is_unread}
use Rattle.sts_meaning.specs.Values.{Value, Outcome, Gives, Breaks, Stuck}
use Rattle.sts_meaning.specs.Heaps.{FlatHeap, read_item, write_item, length_at}
use Rattle.sts_meaning.specs.Frames.{after}
use Rattle.flat_meaning.specs.Frames.{FlatFrame, Stands, given}
use Rattle.flat_meaning.specs.Frames.{going_on_at as placed_at}
use Rattle.flat_meaning.specs.Steps.{FlatTurn}
use Rattle.thumb_emit.specs.Frame.{register_of, brings, result_in}
use Rattle.thumb_emit.proofs.Laws.{brings_still, still_takes}
use Rattle.thumb_layout.specs.Holds.{cost}
use Rattle.placed_frames.proofs.Laws.{get, View, with_low, InArena, ToArena, Get, GetAt, PutAt}
use Rattle.thumb_emit.specs.InFlash.{Addresses}
use Rattle.thumb_emit.specs.Bounds.{op_instructions}
use Rattle.arena_values.proofs.Laws.{ItemSeen, SeesItem, LengthSeen, SeesLength, ItemChanged, ChangesItem, sees_item, changes_item, sees_length}
use Rattle.thumb_emit.proofs.Laws.{joined_after}
use Rattle.emit_simulation.proofs.Laid.{OfInstr, Flows}
use Rattle.emit_simulation.specs.Starts.{start}
use Rattle.emit_simulation.specs.Ties.{IsAt, IsShared, IsImage, Means, IsText, IsCode, spots}
use Rattle.emit_simulation.proofs.AtOps.{view_in}
use Rattle.emit_simulation.proofs.OwedOps.{MakesOp}
use Rattle.emit_simulation.proofs.Placed.{result_set, brought, brought_word, brought_other, brought_store, brought_length, made_small}
use Rattle.emit_simulation.proofs.Meanings.{small, none_some}
use Rattle.emit_simulation.proofs.Ops.{here, word, word_means, word_small, brings_word}
use Rattle.emit_simulation.proofs.Turns.{Owed}
use Rattle.emit_simulation.proofs.Walk.{one, got_wider, object_there, object_null, in_register, finished, stored, tested}
use Rattle.emit_simulation.proofs.Finding.{array_null, index_past, seen_item, got_item, found_item}

module _ (C : FlatCode) (placed : List Placed) (flash : List ℕ) (a : Addresses) (texts : List ByteList) (image : IsImage C placed flash a texts) where
  abbrev Word : Value → ℕ → Type 0
  Word v w = Means C placed flash a v w

  module _ (to array index : ℕ) (p : Placed) (f : FlatFrame) (callers : List FlatFrame) (base : ℕ) (c : Fiber) (used : ℕ) (h : FlatHeap) (t : Shared)
      (e : slice_get p.function.ops f.place ≡ Some (ItemGet to array index))
      (x : IsAt C placed flash a p (λ u. IsLiveAt p.function.ops u f.place) f callers base (start p.function (place_of p.places) f.place) c)
      (sh : IsShared C placed flash a used h t) where
    abbrev op : Op
    op = ItemGet to array index

    abbrev v : View
    v = view_in c t

    abbrev spot : Places
    spot = spots C placed flash a f.function p

    names : (to < temporaries p.function) × (array < temporaries p.function) × (index < temporaries p.function)
    names = let n = ((here C placed flash a texts image p f callers base c used h t op e x sh).op_within).names in (n.0, (n.1).0, ((n.1).1).0)

    abbrev Makes : FlatTurn → Type 0
    Makes turn = Owed C placed flash a texts (op_instructions op) used h t turn c t

    -- an item
    value : (y : Value) → ItemSeen Word a.class t.arena (word C placed flash a texts image p f callers base c used h t op e x sh array)
        (word C placed flash a texts image p f callers base c used h t op e x sh index) y → Makes (GoesTurn (Stands (given to y f) callers base) h)
    value y s =
        let m = (s.header).room in let l = s.below in
        let u = seen_item C placed flash a texts image p f callers base c used h t op e x sh array index names.1 (0, omega arith, refl) names.2
        (1, omega arith, refl) refl refl refl refl refl refl refl refl refl refl refl refl refl s.count s.first s.header s.below refl refl in
        let g = got_item C placed flash a texts image p f callers base c used h t op e x sh array index names.1 (0, omega arith, refl) names.2
        (1, omega arith, refl) refl refl refl refl refl refl refl refl refl refl refl refl refl s.count s.first s.header s.below refl refl in
        let k = found_item C placed flash a texts image p f callers base c used h t op e x sh array index names.1 (0, omega arith, refl) names.2
        (1, omega arith, refl) refl refl refl refl refl refl refl refl refl refl refl refl refl s.count s.first s.header s.below refl refl in
        let wi = word C placed flash a texts image p f callers base c used h t op e x sh index in
        let z = slice_index t.arena (s.first + wi) in
        let small_z = small C placed flash a texts image y z s.shows in
        let n = k.low in
        let d = result_in (is_unread p.function f.place) (place_of p.places to) in
        let fd = made_small p.function (is_unread p.function f.place) (place_of p.places to)
        (((here C placed flash a texts image p f callers base c used h t op e x sh).within_function).inside to names.0) in
        let load : Flows flash spot (Plain (LdrReg d 2 1)) u (with_low d z u)
        = OfInstr (LdrReg d 2 1) u (with_low d z u) refl (GetAt d 2 1 z u (InArena (s.first + wi) (omega arith) ((λ i. k.r2 i + k.r1 i) ∙ omega arith) refl)
        small_z) in
        finished C placed flash a texts image p f callers base c used h t op e x sh 15 20 (op_instructions op) to z y h u (with_low d z u) (LdrReg d 2 1) g refl load
        refl refl refl ((0, omega arith, refl), joined_after p.function f.place op e (λ when. refl)) names.0 (result_set d z v u (with_low d z u) fd k.store k.low refl refl) s.shows (refl, sh.1) (omega arith)

    made : (o : Outcome Value) → SeesItem Word a.class t.arena (word C placed flash a texts image p f callers base c used h t op e x sh array)
        (word C placed flash a texts image p f callers base c used h t op e x sh index) o
        → NoFault (after o (λ y. GoesTurn (Stands (given to y f) callers base) h)) → Makes (after o (λ y. GoesTurn (Stands (given to y f) callers base) h))
    made (Gives y) s nf = value y s
    made (Breaks code) (inl s) nf = array_null C placed flash a texts image p f callers base c used h t op e x sh array index names.1 (0, omega arith, refl)
        names.2 (1, omega arith, refl) refl refl refl refl refl refl refl refl refl refl refl refl refl (op_instructions op) (omega arith) code s
    made (Breaks code) (inr s) nf = index_past C placed flash a texts image p f callers base c used h t op e x sh array index names.1 (0, omega arith, refl)
        names.2 (1, omega arith, refl) refl refl refl refl refl refl refl refl refl refl refl refl refl (op_instructions op) (omega arith) code s
    made Stuck s nf = absurd nf

    makes : NoFault (after (read_item h (f.temps array) (f.temps index)) (λ y. GoesTurn (Stands (given to y f) callers base) h))
        → Makes (after (read_item h (f.temps array) (f.temps index)) (λ y. GoesTurn (Stands (given to y f) callers base) h))
    makes nf =
        made (read_item h (f.temps array) (f.temps index))
        (sees_item (IsText C placed flash a) (IsCode C placed flash a) a.class h used t.globals t.arena sh.1 (f.temps array) (f.temps index) _ _
        (word_means C placed flash a texts image p f callers base c used h t op e x sh array names.1 (0, omega arith, refl))
        (word_means C placed flash a texts image p f callers base c used h t op e x sh index names.2 (1, omega arith, refl))) nf

  -- an item is read
  pub item_get_makes : (to array index : ℕ) → MakesOp C placed flash a texts (ItemGet to array index)
  item_get_makes to array index p f callers base c used h t e x sh nf = makes to array index p f callers base c used h t e x sh nf

  module _ (array index from : ℕ) (p : Placed) (f : FlatFrame) (callers : List FlatFrame) (base : ℕ) (c : Fiber) (used : ℕ) (h : FlatHeap) (t : Shared)
      (e : slice_get p.function.ops f.place ≡ Some (ItemSet array index from))
      (x : IsAt C placed flash a p (λ u. IsLiveAt p.function.ops u f.place) f callers base (start p.function (place_of p.places) f.place) c)
      (sh : IsShared C placed flash a used h t) where
    abbrev set_op : Op
    set_op = ItemSet array index from

    abbrev set_spot : Places
    set_spot = spots C placed flash a f.function p

    set_names : (array < temporaries p.function) × (index < temporaries p.function) × (from < temporaries p.function)
    set_names = let n = ((here C placed flash a texts image p f callers base c used h t set_op e x sh).op_within).names in (n.0, (n.1).0, ((n.1).1).0)

    abbrev SetMakes : FlatTurn → Type 0
    SetMakes turn = Owed C placed flash a texts (op_instructions set_op) used h t turn c t

    change : (h' : FlatHeap) → ItemChanged Word a.class t.arena used t.globals (word C placed flash a texts image p f callers base c used h t set_op e x sh
        array) (word C placed flash a texts image p f callers base c used h t set_op e x sh index) (f.temps from) h'
        → SetMakes (GoesTurn (Stands (placed_at (f.place + 1) f) callers base) h')
    change h' s =
        let m = (s.header).room in let l = s.below in
        let u = seen_item C placed flash a texts image p f callers base c used h t set_op e x sh array index set_names.0 (0, omega arith, refl) set_names.1
        (1, omega arith, refl) refl refl refl refl refl refl refl refl refl refl refl refl refl s.count s.first s.header s.below refl refl in
        let g = got_item C placed flash a texts image p f callers base c used h t set_op e x sh array index set_names.0 (0, omega arith, refl) set_names.1
        (1, omega arith, refl) refl refl refl refl refl refl refl refl refl refl refl refl refl s.count s.first s.header s.below refl refl in
        let k = found_item C placed flash a texts image p f callers base c used h t set_op e x sh array index set_names.0 (0, omega arith, refl) set_names.1
        (1, omega arith, refl) refl refl refl refl refl refl refl refl refl refl refl refl refl s.count s.first s.header s.below refl refl in
        let wi = word C placed flash a texts image p f callers base c used h t set_op e x sh index in
        let z = word C placed flash a texts image p f callers base c used h t set_op e x sh from in
        let z_means = word_means C placed flash a texts image p f callers base c used h t set_op e x sh from set_names.2 (2, omega arith, refl) in
        let z_small = word_small C placed flash a texts image p f callers base c used h t set_op e x sh from set_names.2 (2, omega arith, refl) in
        let n = k.low in
        let q = place_of p.places from in
        let iq = ((here C placed flash a texts image p f callers base c used h t set_op e x sh).within_function).inside from set_names.2 in
        let r = register_of 3 q in
        let u1 = brought 3 q z u in
        let x1 : slice_index u1.low 1 ≡ 4 * wi = brought_other q 3 z 1 u.low (λ z. omega arith) ∙ k.r1 in
        let x2 = brought_other q 3 z 2 u.low (λ z. omega arith) ∙ k.r2 in
        let x3 = brought_word p.function q 3 z u (omega arith) iq k.low (ap (get p.function q) k.store) in
        let v' : View = record u1 { arena = slice_set u1.arena (s.first + wi) z } in
        let store : Flows flash set_spot (Plain (StrReg r 2 1)) u1 v'
        = OfInstr (StrReg r 2 1) u1 v' refl (PutAt r 2 1 z u1 v' x3 z_small (ToArena (s.first + wi) (omega arith)
        ((λ i. x2 i + x1 i) ∙ omega arith))) in
        let y = brings p.function 3 q in
        let ty = still_takes p.function y (brings_still p.function 3 q) in
        let g16 = got_wider C placed flash a texts image p f callers base c used h t set_op e x sh 16 (20 + cost y) 22 u1 (omega arith)
        (one C placed flash a texts image p f callers base c used h t set_op e x sh 15 20 u u1 y g
        refl (brings_word C placed flash a texts image p f callers base c used h t set_op e x sh from 3 u set_names.2 (2, omega arith, refl) (omega arith)
        k.store)) in
        stored C placed flash a texts image p f callers base c used h t set_op e x sh 16 22 (op_instructions set_op) h' u1 v' (StrReg r 2 1) g16 refl refl
        store none_some ((0, omega arith, refl), joined_after p.function f.place set_op e (λ when. refl)) (brought_store q 3 z u (omega arith) ∙ k.store) (brought_length q 3 z u.low ∙ k.low) (refl, s.stores z z_means)
        (omega arith)

    changed : (o : Outcome FlatHeap) → ChangesItem Word a.class t.arena used t.globals (word C placed flash a texts image p f callers base c used h t set_op e
        x sh array) (word C placed flash a texts image p f callers base c used h t set_op e x sh index) (f.temps from) o
        → NoFault (after o (λ h'. GoesTurn (Stands (placed_at (f.place + 1) f) callers base) h'))
        → SetMakes (after o (λ h'. GoesTurn (Stands (placed_at (f.place + 1) f) callers base) h'))
    changed (Gives h') s nf = change h' s
    changed (Breaks code) (inl s) nf = array_null C placed flash a texts image p f callers base c used h t set_op e x sh array index set_names.0
        (0, omega arith, refl) set_names.1 (1, omega arith, refl) refl refl refl refl refl refl refl refl refl refl refl refl refl (op_instructions set_op)
        (omega arith) code s
    changed (Breaks code) (inr s) nf = index_past C placed flash a texts image p f callers base c used h t set_op e x sh array index set_names.0
        (0, omega arith, refl) set_names.1 (1, omega arith, refl) refl refl refl refl refl refl refl refl refl refl refl refl refl (op_instructions set_op)
        (omega arith) code s
    changed Stuck s nf = absurd nf

    set_makes : NoFault (after (write_item h (f.temps array) (f.temps index) (f.temps from)) (λ h'. GoesTurn (Stands (placed_at (f.place + 1) f) callers base)
        h'))
        → SetMakes (after (write_item h (f.temps array) (f.temps index) (f.temps from)) (λ h'. GoesTurn (Stands (placed_at (f.place + 1) f) callers base) h'))
    set_makes nf =
        changed (write_item h (f.temps array) (f.temps index) (f.temps from))
        (changes_item (IsText C placed flash a) (IsCode C placed flash a) a.class h used t.globals t.arena sh.1 (f.temps array) (f.temps index) _ _
        (f.temps from) (word_means C placed flash a texts image p f callers base c used h t set_op e x sh array set_names.0 (0, omega arith, refl))
        (word_means C placed flash a texts image p f callers base c used h t set_op e x sh index set_names.1 (1, omega arith, refl))) nf

  -- an item is written
  pub item_set_makes : (array index from : ℕ) → MakesOp C placed flash a texts (ItemSet array index from)
  item_set_makes array index from p f callers base c used h t e x sh nf = set_makes array index from p f callers base c used h t e x sh nf

  module _ (to array : ℕ) (p : Placed) (f : FlatFrame) (callers : List FlatFrame) (base : ℕ) (c : Fiber) (used : ℕ) (h : FlatHeap) (t : Shared)
      (e : slice_get p.function.ops f.place ≡ Some (Length to array))
      (x : IsAt C placed flash a p (λ u. IsLiveAt p.function.ops u f.place) f callers base (start p.function (place_of p.places) f.place) c)
      (sh : IsShared C placed flash a used h t) where
    abbrev length_op : Op
    length_op = Length to array

    abbrev length_spot : Places
    length_spot = spots C placed flash a f.function p

    length_names : (to < temporaries p.function) × (array < temporaries p.function)
    length_names = let n = ((here C placed flash a texts image p f callers base c used h t length_op e x sh).op_within).names in (n.0, (n.1).0)

    abbrev LengthMakes : FlatTurn → Type 0
    LengthMakes turn = Owed C placed flash a texts (op_instructions length_op) used h t turn c t

    counted : (y : Value) → LengthSeen Word a.class t.arena (word C placed flash a texts image p f callers base c used h t length_op e x sh array) y
        → LengthMakes (GoesTurn (Stands (given to y f) callers base) h)
    counted y s =
        let hd = s.header in let m = hd.within in let l = hd.few in
        let w = word C placed flash a texts image p f callers base c used h t length_op e x sh array in
        let v = view_in c t in
        let q = place_of p.places array in
        let r = register_of 0 q in let d = result_in (is_unread p.function f.place) (place_of p.places to) in
        let fd = made_small p.function (is_unread p.function f.place) (place_of p.places to)
        (((here C placed flash a texts image p f callers base c used h t length_op e x sh).within_function).inside to length_names.0) in
        let u = tested C placed flash a texts image p f callers base c used h t length_op e x sh (brought 0 q w v) w 0 in
        let there : 0 < w = (let q = hd.at in omega arith) in
        let rg = x.registers in
        let r0 : slice_index u.low r ≡ w = in_register C placed flash a texts image p f callers base c used h t length_op e x sh array length_names.1
        (0, omega arith, refl) refl refl refl refl refl refl in
        let n = brought_length q 0 w v.low ∙ rg in
        let z = s.count in
        let load : Flows flash length_spot (Plain (LdrImm d r 1)) u (with_low d z u)
        = OfInstr (LdrImm d r 1) u (with_low d z u) refl (Get d r 1 z u (InArena (hd.array + 1) (omega arith) (ap (λ k. k + 1 * 4) (r0 ∙ hd.at) ∙ omega arith)
        hd.count_is) (omega arith)) in
        finished C placed flash a texts image p f callers base c used h t length_op e x sh 6 7 (op_instructions length_op) to z y h u (with_low d z u) (LdrImm d r 1)
        (object_there C placed flash a texts image p f callers base c used h t length_op e x sh array length_names.1 (0, omega arith, refl) refl refl refl
        refl refl refl there) refl load refl refl refl ((0, omega arith, refl), joined_after p.function f.place length_op e (λ when. refl)) length_names.0
        (result_set d z v u (with_low d z u) fd (brought_store q 0 w v (omega arith)) n refl refl) s.shows
        (refl, sh.1) (omega arith)

    counts : (o : Outcome Value) → SeesLength Word a.class t.arena (word C placed flash a texts image p f callers base c used h t length_op e x sh array) o
        → NoFault (after o (λ y. GoesTurn (Stands (given to y f) callers base) h))
        → LengthMakes (after o (λ y. GoesTurn (Stands (given to y f) callers base) h))
    counts (Gives y) s nf = counted y s
    counts (Breaks code) s nf = object_null C placed flash a texts image p f callers base c used h t length_op e x sh array length_names.1
        (0, omega arith, refl) refl refl refl refl refl refl (op_instructions length_op) (omega arith) code s
    counts Stuck s nf = absurd nf

    length_makes_it : NoFault (after (length_at h (f.temps array)) (λ y. GoesTurn (Stands (given to y f) callers base) h))
        → LengthMakes (after (length_at h (f.temps array)) (λ y. GoesTurn (Stands (given to y f) callers base) h))
    length_makes_it nf =
        counts (length_at h (f.temps array)) (sees_length (IsText C placed flash a) (IsCode C placed flash a) a.class h used t.globals t.arena sh.1
        (f.temps array) _ (word_means C placed flash a texts image p f callers base c used h t length_op e x sh array length_names.1
        (0, omega arith, refl))) nf

  -- a length
  pub length_makes : (to array : ℕ) → MakesOp C placed flash a texts (Length to array)
  length_makes to array p f callers base c used h t e x sh nf = length_makes_it to array p f callers base c used h t e x sh nf
