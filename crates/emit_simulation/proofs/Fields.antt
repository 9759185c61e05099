-- Fields of objects, and globals.
use Rattle.std.proofs.Common.{◌≡◌, ℕ, ◌+◌, ◌*◌, ◌<◌, ◌^◌, List, [], ◌∷◌, ◌++◌, length, Bool, true, false, if◌then◌else◌, nat_lt, Some, refl, sym, ap, ◌∙◌, arith, slice_get, slice_set, slice_index, get_or-set_same, get_or-set_other}
use Rattle.std.proofs.lemmas.List.{length-set}
use Rattle.thumb_code.specs.declared.instructions.Instr.TheVariants.{LdrImm, StrImm, LdrReg, StrReg}
use Rattle.board_world.specs.Observations.{ByteList}
use Rattle.board_world.specs.Kinds.{Goes as GoesTurn}
use Rattle.board_world.specs.Sound.{NoFault}
use Rattle.bank_model.specs.Fibers.{Fiber, Shared}
use Rattle.thumb_layout.specs.declared.pieces.Piece.{Piece}
use Rattle.thumb_layout.specs.declared.pieces.Piece.TheVariants.{Plain, Number}
use Rattle.thumb_layout.specs.Pieces.{Places}
use Rattle.flat_ir.specs.declared.ops.Op.{Op}
use Rattle.flat_ir.specs.declared.ops.Op.TheVariants.{FieldGet, FieldSet}
use Rattle.flat_ir.specs.declared.ops.FlatCode.{FlatCode}
use Rattle.flat_ir.specs.Liveness.{IsLiveAt}
use Rattle.flat_ir.specs.WellFormed.{temporaries}
use Rattle.register_assign.specs.declared.places.Placed.{Placed}
use Rattle.register_assign.specs.Sound.{place_of, IsWithin}
use Rattle.register_assign.specs.Unread.{is_unread}
use Rattle.sts_meaning.specs.Values.{Value, Outcome, Gives, Breaks, Stuck}
use Rattle.sts_meaning.specs.Heaps.{FlatHeap, read_field, write_field}
use Rattle.sts_meaning.specs.Frames.{after}
use Rattle.flat_meaning.specs.Frames.{FlatFrame, Stands, given}
use Rattle.flat_meaning.specs.Frames.{going_on_at as placed_at}
use Rattle.flat_meaning.specs.Steps.{FlatTurn}
use Rattle.thumb_emit.specs.Emit.{op_pieces, tests_null, field_offset}
use Rattle.thumb_emit.specs.Frame.{register_of, brings, keeps, result_in}
use Rattle.thumb_emit.specs.InFlash.{Addresses}
use Rattle.thumb_emit.specs.Bounds.{op_instructions}
use Rattle.placed_frames.proofs.Laws.{View, with_low, InArena, ToArena, Get, GetAt, Put, PutAt, get}
use Rattle.arena_values.proofs.Laws.{FieldSeen, SeesField, FieldChanged, ChangesField, sees_field, changes_field}
use Rattle.thumb_emit.proofs.Laws.{joined_after}
use Rattle.emit_simulation.proofs.Laid.{loaded_flags, OfInstr, OfNumber, Flows, store_of}
use Rattle.emit_simulation.specs.Starts.{start}
use Rattle.emit_simulation.specs.Ties.{IsAt, IsShared, IsImage, Means, IsText, IsCode, spots}
use Rattle.emit_simulation.proofs.AtOps.{view_in}
use Rattle.emit_simulation.proofs.OwedOps.{MakesOp}
use Rattle.emit_simulation.proofs.Placed.{store_low, result_set, not_scratch, brought, brought_word, brought_other, brought_store, brought_length, made_small}
use Rattle.emit_simulation.proofs.Meanings.{small, none_some}
use Rattle.emit_simulation.proofs.Ops.{here, word, word_means, word_small, brings_word}
use Rattle.emit_simulation.proofs.Turns.{Owed}
use Rattle.emit_simulation.proofs.Walk.{Got, one, got_wider, object_there, object_null, its_meaning, its_place, in_register, finished, stored, tested}
use Rattle.thumb_emit.proofs.Laws.{brings_still, still_takes}
use Rattle.thumb_layout.specs.Holds.{cost}

module _ (C : FlatCode) (placed : List Placed) (flash : List ℕ) (a : Addresses) (texts : List ByteList) (image : IsImage C placed flash a texts) where
  abbrev Word : Value → ℕ → Type 0
  Word v w = Means C placed flash a v w

  module _ (to object field : ℕ) (p : Placed) (f : FlatFrame) (callers : List FlatFrame) (base : ℕ) (c : Fiber) (used : ℕ) (h : FlatHeap) (t : Shared)
      (e : slice_get p.function.ops f.place ≡ Some (FieldGet to object field))
      (x : IsAt C placed flash a p (λ u. IsLiveAt p.function.ops u f.place) f callers base (start p.function (place_of p.places) f.place) c)
      (sh : IsShared C placed flash a used h t) where
    abbrev op : Op
    op = FieldGet to object field

    abbrev v : View
    v = view_in c t

    abbrev spot : Places
    spot = spots C placed flash a f.function p

    abbrev ps : List Piece
    ps = op_pieces p.function (place_of p.places) f.place op

    names : (to < temporaries p.function) × (object < temporaries p.function)
    names = let n = ((here C placed flash a texts image p f callers base c used h t op e x sh).op_within).names in (n.0, (n.1).0)

    abbrev w : ℕ
    w = word C placed flash a texts image p f callers base c used h t op e x sh object

    -- the registers of the result and of the object
    abbrev d : ℕ
    d = result_in (is_unread p.function f.place) (place_of p.places to)

    abbrev r : ℕ
    r = register_of 0 (place_of p.places object)

    abbrev u : View
    u = tested C placed flash a texts image p f callers base c used h t op e x sh (brought 0 (place_of p.places object) w v) w 0

    got : 0 < w → Got C placed flash a texts image p f callers base c used h t op e x sh 6 7 u
    got l = object_there C placed flash a texts image p f callers base c used h t op e x sh object names.1 (0, omega arith, refl) refl refl refl refl refl refl
        l

    r0 : slice_index u.low r ≡ w
    r0 = in_register C placed flash a texts image p f callers base c used h t op e x sh object names.1 (0, omega arith, refl) refl refl refl refl refl refl

    store_u : store_of u ≡ store_of v
    store_u = brought_store (place_of p.places object) 0 w v (omega arith)

    small_d : d < 8
    small_d = made_small p.function (is_unread p.function f.place) (place_of p.places to)
        (((here C placed flash a texts image p f callers base c used h t op e x sh).within_function).inside to names.0)

    -- the object isn't in r2
    not_two : r ≡ 2 → ⊥
    not_two q = not_scratch p.function (place_of p.places object) 0 2 (omega arith) (λ z. omega arith)
        (its_place C placed flash a texts image p f callers base c used h t op e x sh object names.1 (0, omega arith, refl) refl refl refl refl refl refl) (sym q)

    abbrev Makes : FlatTurn → Type 0
    Makes turn = Owed C placed flash a texts (op_instructions op) used h t turn c t

    -- a field's value
    value : (y : Value) → FieldSeen Word a.class t.arena w field y → Makes (GoesTurn (Stands (given to y f) callers base) h)
    value y s = by (nat_lt field 31) refl
      where
        z : ℕ
        z = slice_index t.arena (s.object + 1 + field)

        there : 0 < w
        there = let q = s.at in omega arith

        small_z : z < 2 ^ 32
        small_z = small C placed flash a texts image y z s.shows

        lw : length u.low ≡ 13
        lw = brought_length (place_of p.places object) 0 w v.low ∙ x.registers

        by : (b : Bool) → nat_lt field 31 ≡ b → Makes (GoesTurn (Stands (given to y f) callers base) h)
        by true q =
            let ls : ps ≡ brings p.function 0 (place_of p.places object) ∷ tests_null r (3 * f.place + 1) ++
            (Plain (LdrImm d r (field + 1)) ∷ keeps p.function (is_unread p.function f.place) (place_of p.places to) ∷ [])
            = ap (λ b. brings p.function 0 (place_of p.places object) ∷ tests_null r (3 * f.place + 1) ++
            ((if b then Plain (LdrImm d r (field + 1)) ∷ [] else Number 2 (field_offset field) ∷ Plain (LdrReg d r 2) ∷ []) ++
            (keeps p.function (is_unread p.function f.place) (place_of p.places to) ∷ []))) q in
            let m = s.within in let n = lw in
            let load : Flows flash spot (Plain (LdrImm d r (field + 1))) u (with_low d z u)
            = OfInstr (LdrImm d r (field + 1)) u (with_low d z u) refl
            (Get d r (field + 1) z u (InArena (s.object + 1 + field) m (ap (λ n. n + (field + 1) * 4) (r0 ∙ s.at) ∙ omega arith) refl) small_z) in
            finished C placed flash a texts image p f callers base c used h t op e x sh 6 7 (op_instructions op) to z y h u (with_low d z u)
            (LdrImm d r (field + 1)) (got there) (ap (λ l. slice_get l 6) ls) load (ap (λ l. slice_get l 7) ls) (ap length ls) refl ((0, omega arith, refl), joined_after p.function f.place op e (λ when. refl)) names.0
            (result_set d z v u (with_low d z u) small_d store_u lw refl refl) s.shows (refl, sh.1) (omega arith)
        by false q =
            let o = field_offset field in let n = lw in
            let ls : ps ≡ brings p.function 0 (place_of p.places object) ∷ tests_null r (3 * f.place + 1) ++
            (Number 2 o ∷ Plain (LdrReg d r 2) ∷ keeps p.function (is_unread p.function f.place) (place_of p.places to) ∷ [])
            = ap (λ b. brings p.function 0 (place_of p.places object) ∷ tests_null r (3 * f.place + 1) ++
            ((if b then Plain (LdrImm d r (field + 1)) ∷ [] else Number 2 o ∷ Plain (LdrReg d r 2) ∷ []) ++ (keeps p.function (is_unread p.function f.place) (place_of p.places to) ∷
            []))) q in
            let m = s.within in
            let off : o ≡ 4 * (field + 1) = omega arith in
            let u2 : View = record u { low = slice_set u.low 2 o; flags = loaded_flags u.flags o } in
            let l2 = length-set u.low 2 o ∙ lw in
            let x0 : slice_index u2.low r ≡ w = get_or-set_other u.low 2 r o 0 not_two ∙ r0 in
            let x2 : slice_index u2.low 2 ≡ o = get_or-set_same u.low 2 o 0 (omega arith) in
            let load : Flows flash spot (Plain (LdrReg d r 2)) u2 (with_low d z u2)
            = OfInstr (LdrReg d r 2) u2 (with_low d z u2) refl
            (GetAt d r 2 z u2 (InArena (s.object + 1 + field) m ((λ i. x0 i + x2 i) ∙ ((λ i. s.at i + off i) ∙ omega arith)) refl) small_z) in
            let g7 = one C placed flash a texts image p f callers base c used h t op e x sh 6 7 u u2 (Number 2 o) (got there) (ap (λ l. slice_get l 6) ls)
            (OfNumber 2 o u) in
            finished C placed flash a texts image p f callers base c used h t op e x sh 7 9 (op_instructions op) to z y h u2 (with_low d z u2) (LdrReg d r 2) g7
            (ap (λ l. slice_get l 7) ls) load (ap (λ l. slice_get l 8) ls) (ap length ls) refl ((0, omega arith, refl), joined_after p.function f.place op e (λ when. refl)) names.0
            (result_set d z v u2 (with_low d z u2) small_d (store_low 2 o u (omega arith) ∙ store_u) l2 refl refl) s.shows (refl, sh.1) (omega arith)

    made : (o : Outcome Value) → SeesField Word a.class t.arena w field o → NoFault (after o (λ y. GoesTurn (Stands (given to y f) callers base) h))
        → Makes (after o (λ y. GoesTurn (Stands (given to y f) callers base) h))
    made (Gives y) s nf = value y s
    made (Breaks code) s nf = object_null C placed flash a texts image p f callers base c used h t op e x sh object names.1 (0, omega arith, refl) refl refl
        refl refl refl refl (op_instructions op) (omega arith) code s
    made Stuck s nf = absurd nf

  -- a field is read
  pub field_get_makes : (to object field : ℕ) → MakesOp C placed flash a texts (FieldGet to object field)
  field_get_makes to object field p f callers base c used h t e x sh nf =
      made to object field p f callers base c used h t e x sh (read_field h (f.temps object) field)
      (sees_field (IsText C placed flash a) (IsCode C placed flash a) a.class h used t.globals t.arena sh.1 (f.temps object) _ field
      (its_meaning C placed flash a texts image p f callers base c used h t (FieldGet to object field) e x sh object
      (names to object field p f callers base c used h t e x sh).1 (0, omega arith, refl) refl refl refl refl refl refl)) nf

  module _ (object field from : ℕ) (p : Placed) (f : FlatFrame) (callers : List FlatFrame) (base : ℕ) (c : Fiber) (used : ℕ) (h : FlatHeap) (t : Shared)
      (e : slice_get p.function.ops f.place ≡ Some (FieldSet object field from))
      (x : IsAt C placed flash a p (λ u. IsLiveAt p.function.ops u f.place) f callers base (start p.function (place_of p.places) f.place) c)
      (sh : IsShared C placed flash a used h t) where
    abbrev set_op : Op
    set_op = FieldSet object field from

    abbrev set_v : View
    set_v = view_in c t

    abbrev set_spot : Places
    set_spot = spots C placed flash a f.function p

    abbrev set_ps : List Piece
    set_ps = op_pieces p.function (place_of p.places) f.place set_op

    set_names : (object < temporaries p.function) × (from < temporaries p.function)
    set_names = let n = ((here C placed flash a texts image p f callers base c used h t set_op e x sh).op_within).names in (n.0, (n.1).0)

    abbrev set_w : ℕ
    set_w = word C placed flash a texts image p f callers base c used h t set_op e x sh object

    -- the registers of the object and of the value
    abbrev set_r : ℕ
    set_r = register_of 0 (place_of p.places object)

    abbrev set_s : ℕ
    set_s = register_of 1 (place_of p.places from)

    abbrev set_u : View
    set_u = tested C placed flash a texts image p f callers base c used h t set_op e x sh (brought 0 (place_of p.places object) set_w set_v) set_w 0

    set_got : 0 < set_w → Got C placed flash a texts image p f callers base c used h t set_op e x sh 6 7 set_u
    set_got l = object_there C placed flash a texts image p f callers base c used h t set_op e x sh object set_names.0 (0, omega arith, refl) refl refl refl
        refl refl refl l

    set_r0 : slice_index set_u.low set_r ≡ set_w
    set_r0 = in_register C placed flash a texts image p f callers base c used h t set_op e x sh object set_names.0 (0, omega arith, refl) refl refl refl refl refl refl

    set_inside : (n : ℕ) → n < temporaries p.function → IsWithin p.function (place_of p.places n)
    set_inside = ((here C placed flash a texts image p f callers base c used h t set_op e x sh).within_function).inside

    -- neither is in a scratch register of the other's
    object_not : (k : ℕ) → 0 < k → k < 4 → set_r ≡ k → ⊥
    object_not k l m q = not_scratch p.function (place_of p.places object) 0 k m (λ z. omega arith) (set_inside object set_names.0) (sym q)

    value_not_two : set_s ≡ 2 → ⊥
    value_not_two q = not_scratch p.function (place_of p.places from) 1 2 (omega arith) (λ z. omega arith) (set_inside from set_names.1) (sym q)

    abbrev SetMakes : FlatTurn → Type 0
    SetMakes turn = Owed C placed flash a texts (op_instructions set_op) used h t turn c t

    change : (h' : FlatHeap) → FieldChanged Word a.class t.arena used t.globals set_w field (f.temps from) h'
        → SetMakes (GoesTurn (Stands (placed_at (f.place + 1) f) callers base) h')
    change h' s = by (nat_lt field 31) refl
      where
        z : ℕ
        z = word C placed flash a texts image p f callers base c used h t set_op e x sh from

        z_means : Word (f.temps from) z
        z_means = word_means C placed flash a texts image p f callers base c used h t set_op e x sh from set_names.1 (1, omega arith, refl)

        z_small : z < 2 ^ 32
        z_small = word_small C placed flash a texts image p f callers base c used h t set_op e x sh from set_names.1 (1, omega arith, refl)

        there : 0 < set_w
        there = let q = s.at in omega arith

        lw : length set_u.low ≡ 13
        lw = brought_length (place_of p.places object) 0 set_w set_v.low ∙ x.registers

        store_u : store_of set_u ≡ store_of set_v
        store_u = brought_store (place_of p.places object) 0 set_w set_v (omega arith)

        u1 : View
        u1 = brought 1 (place_of p.places from) z set_u

        lu : length u1.low ≡ 13
        lu = brought_length (place_of p.places from) 1 z set_u.low ∙ lw

        store_1 : store_of u1 ≡ store_of set_v
        store_1 = brought_store (place_of p.places from) 1 z set_u (omega arith) ∙ store_u

        in_r : slice_index u1.low set_r ≡ set_w
        in_r = brought_other (place_of p.places from) 1 z set_r set_u.low (λ q. object_not 1 (omega arith) (omega arith) (sym q)) ∙ set_r0

        in_s : slice_index u1.low set_s ≡ z
        in_s = brought_word p.function (place_of p.places from) 1 z set_u (omega arith) (set_inside from set_names.1) lw (ap (get p.function (place_of p.places from)) store_u)

        got1 : Got C placed flash a texts image p f callers base c used h t set_op e x sh 7 9 u1
        got1 =
            let y = brings p.function 1 (place_of p.places from) in
            got_wider C placed flash a texts image p f callers base c used h t set_op e x sh 7 (7 + cost y) 9 u1
            (let l = still_takes p.function y (brings_still p.function 1 (place_of p.places from)) in omega arith)
            (one C placed flash a texts image p f callers base c used h t set_op e x sh 6 7 set_u u1
            y (set_got there) refl (brings_word C placed flash a texts image p f callers base c used h t set_op
            e x sh from 1 set_u set_names.1 (1, omega arith, refl) (omega arith) store_u))

        shown : IsShared C placed flash a used h' (record {
          globals = t.globals;
          arena = slice_set t.arena (s.object + 1 + field) z;
          used = used;
          free = t.free;
        })
        shown = (refl, s.stores z z_means)

        by : (b : Bool) → nat_lt field 31 ≡ b → SetMakes (GoesTurn (Stands (placed_at (f.place + 1) f) callers base) h')
        by true q =
            let m = s.within in
            let front = brings p.function 0 (place_of p.places object) in
            let value = brings p.function 1 (place_of p.places from) in
            let ls : set_ps ≡ front ∷ tests_null set_r (3 * f.place + 1) ++ (value ∷ Plain (StrImm set_s set_r (field + 1)) ∷ [])
            = ap (λ b. front ∷ tests_null set_r (3 * f.place + 1) ++ (value ∷ (if b then Plain (StrImm set_s set_r (field + 1)) ∷ [] else Number 2 (field_offset field) ∷ Plain
            (StrReg set_s set_r 2) ∷ []))) q in
            let v' : View = record u1 { arena = slice_set u1.arena (s.object + 1 + field) z } in
            let store : Flows flash set_spot (Plain (StrImm set_s set_r (field + 1))) u1 v'
            = OfInstr (StrImm set_s set_r (field + 1)) u1 v' refl (Put set_s set_r (field + 1) z u1 v' in_s z_small
            (ToArena (s.object + 1 + field) m (ap (λ n. n + (field + 1) * 4) (in_r ∙ s.at) ∙ omega arith))) in
            stored C placed flash a texts image p f callers base c used h t set_op e x sh 7 9 (op_instructions set_op) h' u1 v' (StrImm set_s set_r (field + 1)) got1
            (ap (λ l. slice_get l 7) ls) (ap length ls) store none_some ((0, omega arith, refl), joined_after p.function f.place set_op e (λ when. refl)) store_1 lu shown (omega arith)
        by false q =
            let n = lu in let m = s.within in let o = field_offset field in
            let front = brings p.function 0 (place_of p.places object) in
            let value = brings p.function 1 (place_of p.places from) in
            let ls : set_ps ≡ front ∷ tests_null set_r (3 * f.place + 1) ++ (value ∷ Number 2 o ∷ Plain (StrReg set_s set_r 2) ∷ [])
            = ap (λ b. front ∷ tests_null set_r (3 * f.place + 1) ++ (value ∷ (if b then Plain (StrImm set_s set_r (field + 1)) ∷ [] else Number 2 o ∷ Plain (StrReg set_s set_r 2) ∷
            []))) q in
            let off : o ≡ 4 * (field + 1) = omega arith in
            let u2 : View = record u1 { low = slice_set u1.low 2 o; flags = loaded_flags u1.flags o } in
            let x0 : slice_index u2.low set_r ≡ set_w = get_or-set_other u1.low 2 set_r o 0 (object_not 2 (omega arith) (omega arith)) ∙ in_r in
            let x1 : slice_index u2.low set_s ≡ z = get_or-set_other u1.low 2 set_s o 0 value_not_two ∙ in_s in
            let x2 : slice_index u2.low 2 ≡ o = get_or-set_same u1.low 2 o 0 (omega arith) in
            let v' : View = record u2 { arena = slice_set u2.arena (s.object + 1 + field) z } in
            let store : Flows flash set_spot (Plain (StrReg set_s set_r 2)) u2 v'
            = OfInstr (StrReg set_s set_r 2) u2 v' refl (PutAt set_s set_r 2 z u2 v' x1 z_small
            (ToArena (s.object + 1 + field) m ((λ i. x0 i + x2 i) ∙ ((λ i. s.at i + off i) ∙ omega arith)))) in
            let g8 = one C placed flash a texts image p f callers base c used h t set_op e x sh 7 9 u1 u2 (Number 2 o) got1 (ap (λ l. slice_get l 7) ls)
            (OfNumber 2 o u1) in
            stored C placed flash a texts image p f callers base c used h t set_op e x sh 8 11 (op_instructions set_op) h' u2 v' (StrReg set_s set_r 2) g8
            (ap (λ l. slice_get l 8) ls) (ap length ls) store none_some ((0, omega arith, refl), joined_after p.function f.place set_op e (λ when. refl))
            (store_low 2 o u1 (omega arith) ∙ store_1) (length-set u1.low 2 o ∙ lu) shown (omega arith)

    changed : (o : Outcome FlatHeap) → ChangesField Word a.class t.arena used t.globals set_w field (f.temps from) o
        → NoFault (after o (λ h'. GoesTurn (Stands (placed_at (f.place + 1) f) callers base) h'))
        → SetMakes (after o (λ h'. GoesTurn (Stands (placed_at (f.place + 1) f) callers base) h'))
    changed (Gives h') s nf = change h' s
    changed (Breaks code) s nf = object_null C placed flash a texts image p f callers base c used h t set_op e x sh object set_names.0 (0, omega arith, refl)
        refl refl refl refl refl refl (op_instructions set_op) (omega arith) code s
    changed Stuck s nf = absurd nf

  -- a field is written
  pub field_set_makes : (object field from : ℕ) → MakesOp C placed flash a texts (FieldSet object field from)
  field_set_makes object field from p f callers base c used h t e x sh nf =
      changed object field from p f callers base c used h t e x sh (write_field h (f.temps object) field (f.temps from))
      (changes_field (IsText C placed flash a) (IsCode C placed flash a) a.class h used t.globals t.arena sh.1 (f.temps object) _ field (f.temps from)
      (its_meaning C placed flash a texts image p f callers base c used h t (FieldSet object field from) e x sh object
      (set_names object field from p f callers base c used h t e x sh).0 (0, omega arith, refl) refl refl refl refl refl refl)) nf
