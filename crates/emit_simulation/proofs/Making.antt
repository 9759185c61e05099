-- New objects and arrays.
use Rattle.std.proofs.Common.{zero, suc, ◌≡◌, ℕ, ◌+◌, ◌*◌, ◌-◌, ◌<◌, ◌≤◌, ◌^◌, List, [], ◌∷◌, length, Option, Some, None, refl, sym, ap, ◌∙◌, subst, arith, slice_get, slice_set, slice_index, get_or-set_same, get_or-set_other}
use Rattle.std.proofs.lemmas.List.{length-set}
use Rattle.thumb_code.specs.declared.instructions.Instr.TheVariants.{LdrImm, StrImm, Svc, MovHigh, AddImm8}
use Rattle.thumb_code.specs.Map.{flash_word, arena_words}
use Rattle.board_world.specs.Simulation.{one as one_each}
use Rattle.board_world.specs.Trailing.{Comes}
use Rattle.bank_model.specs.BoardMachine.{fibers}
use Rattle.sts_implements.specs.Passes.{trailing_instructions}
use Rattle.thumb_code.specs.Arithmetic.{sum_of, sum_flags}
use Rattle.board_world.specs.Observations.{ByteList}
use Rattle.board_world.specs.Kinds.{Takes}
use Rattle.board_world.specs.Sound.{NoFault}
use Rattle.bank_model.specs.Fibers.{Fiber, Shared}
use Rattle.bank_model.specs.Arrays.{behind_words}
use Rattle.bank_model.specs.AllServices.{answered_word}
use Rattle.thumb_layout.specs.declared.pieces.What.TheVariants.{Class}
use Rattle.thumb_layout.specs.declared.pieces.Piece.TheVariants.{Plain, Number, Address}
use Rattle.thumb_layout.specs.Pieces.{Places}
use Rattle.flat_ir.specs.declared.ops.Op.{Op}
use Rattle.flat_ir.specs.declared.ops.Op.TheVariants.{MakeObject, MakeArray}
use Rattle.flat_ir.specs.declared.ops.FlatClass.{FlatClass}
use Rattle.flat_ir.specs.declared.ops.FlatCode.{FlatCode}
use Rattle.flat_ir.specs.Liveness.{IsLiveAt}
use Rattle.register_assign.specs.declared.places.Placed.{Placed}
use Rattle.register_assign.specs.Sound.{place_of}
use Rattle.sts_syntax.specs.TypeRules.{entry}
use Rattle.sts_syntax.specs.Measures.{array_words}
use Rattle.sts_meaning.specs.Values.{Value, Object, default, there}
use Rattle.sts_meaning.specs.Heaps.{FlatHeap, Fields, Items, with_cell}
use Rattle.sts_meaning.specs.Frames.{after}
use Rattle.flat_meaning.specs.Operators.{zeros}
use Rattle.flat_meaning.specs.Frames.{FlatFrame, FlatActivity, Stands, given}
use Rattle.flat_meaning.specs.Steps.{makes}
use Rattle.thumb_emit.specs.Emit.{counted_word}
use Rattle.thumb_emit.specs.InFlash.{Addresses}
use Rattle.thumb_emit.specs.Bounds.{op_instructions}
use Rattle.placed_frames.proofs.Laws.{View, with_low, InFlash, ToArena, Quiet, Get, Put}
use Rattle.arena_values.specs.Lies.{Shows}
use Rattle.arena_values.proofs.Laws.{shows_object, shows_array}
use Rattle.thumb_emit.proofs.Laws.{joined_after}
use Rattle.emit_simulation.proofs.Laid.{store_of, OfInstr, OfNumber, OfAddress, Flows, loaded_flags}
use Rattle.emit_simulation.specs.Starts.{start}
use Rattle.emit_simulation.specs.Ties.{IsAt, IsShared, IsImage, Means, IsText, IsCode, spots}
use Rattle.emit_simulation.proofs.AtOps.{view_in, fiber_seen, shared_seen}
use Rattle.emit_simulation.proofs.OwedOps.{MakesOp}
use Rattle.emit_simulation.proofs.Placed.{store_low, mov_flows}
use Rattle.emit_simulation.proofs.Ops.{here}
use Rattle.emit_simulation.proofs.Turns.{Owed}
use Rattle.emit_simulation.proofs.Walk.{begun, one, asked, first, behind_svc}
use Rattle.emit_simulation.proofs.Behind.{put_behind}
use Rattle.emit_simulation.proofs.Serving.{Behind, takes, takes_words}
use Rattle.emit_simulation.proofs.Meanings.{entry_is}

zeros_length : (n : ℕ) → length (zeros n) ≡ n
zeros_length zero = refl
zeros_length (suc n) = ap suc (zeros_length n)

zeros_plain : (n i : ℕ) (v : Value) → entry (zeros n) i ≡ Some v → v ≡ default
zeros_plain zero i v e = cc
zeros_plain (suc n) zero v e = (let d : default ≡ v = (cc) in sym d)
zeros_plain (suc n) (suc i) v e = zeros_plain n i v e

module _ (C : FlatCode) (placed : List Placed) (flash : List ℕ) (a : Addresses) (texts : List ByteList) (image : IsImage C placed flash a texts) where
  abbrev Word : Value → ℕ → Type 0
  Word v w = Means C placed flash a v w

  module _ (to class : ℕ) (p : Placed) (f : FlatFrame) (callers : List FlatFrame) (base : ℕ) (c : Fiber) (used : ℕ) (h : FlatHeap) (t : Shared)
      (e : slice_get p.function.ops f.place ≡ Some (MakeObject to class))
      (x : IsAt C placed flash a p (λ u. IsLiveAt p.function.ops u f.place) f callers base (start p.function (place_of p.places) f.place) c)
      (sh : IsShared C placed flash a used h t) where
    abbrev op : Op
    op = MakeObject to class

    abbrev v : View
    v = view_in c t

    abbrev spot : Places
    spot = spots C placed flash a f.function p

    abbrev next : ℕ → ℕ → FlatActivity × FlatHeap
    next n at = (Stands (given to (Object at) f) callers base, with_cell at (Fields class (zeros n)) h)

    -- what trails behind the service: the class's address is stored
    behind : (n lr : ℕ) (v2 : View) → slice_index v2.low 1 ≡ a.class class → a.class class < 2 ^ 32 → length v2.low ≡ 13 → v2.words ≡ c.bank
        → store_of v2 ≡ store_of v → v2.globals ≡ t.globals → v2.arena ≡ t.arena → used + suc n ≤ arena_words
        → Behind C placed flash a texts (used + suc n) (next n used) (
          answered_word (fiber_seen c v2 (spot.behind (first C placed flash a texts image p f callers base c used h t op e x sh + 2)) lr)
              (behind_words used),
          record (shared_seen used v2 t.free) { used = used + suc n },
        )
    behind n lr v2 x1 cs l2 ws es gs as' fits =
        let k = here C placed flash a texts image p f callers base c used h t op e x sh in
        let ca = a.class class in
        let at = behind_words used in
        let v3 = with_low 0 at v2 in
        let y0 : slice_index v3.low 0 ≡ at = get_or-set_same v2.low 0 at 0 (omega arith) in
        let y1 : slice_index v3.low 1 ≡ ca = get_or-set_other v2.low 0 1 at 0 (omega arith) ∙ x1 in
        let u : View = record v3 { arena = slice_set v3.arena used ca } in
        let store : Flows flash spot (Plain (StrImm 1 0 0)) v3 u
        = OfInstr (StrImm 1 0 0) v3 u refl (Put 1 0 0 ca v3 u y1 cs (ToArena used (omega arith) (ap (λ q. q + 0 * 4) y0 ∙ omega arith))) in
        let z = zeros_length n in
        let shown : Shows Word a.class (with_cell used (Fields class (zeros n)) h) (used + suc n) t.globals (slice_set t.arena used ca)
        = subst (λ m. Shows Word a.class (with_cell used (Fields class (zeros n)) h) (used + suc m) t.globals (slice_set t.arena used ca)) z
        (shows_object (IsText C placed flash a) (IsCode C placed flash a) a.class h used t.globals t.arena sh.1 class (zeros n) (zeros_plain n)
        (omega arith)) in
        let r = put_behind C placed flash a texts image p f callers base c used h t op e x sh to (Object used) at
        (Address 1 (Class class) ∷ Plain (LdrImm 0 1 0) ∷ Plain (Svc 18) ∷ []) (Plain (StrImm 1 0 0) ∷ []) v3 u lr (used + suc n) t.free refl refl
        ((0, omega arith, refl), joined_after p.function f.place op e (λ when. refl)) ((k.op_within).names).0
        (u, store, refl) (ap length ws) (store_low 0 at v2 (omega arith) ∙ es) (length-set v2.low 0 at ∙ l2) (λ q. y0) (refl, omega arith) (omega arith) in
        record {
          fiber = r.0;
          shared = shared_seen (used + suc n) u t.free;
          comes = subst (λ j. Comes (fibers flash) one_each trailing_instructions (fiber_seen c v3 j lr, shared_seen (used + suc n) v3 t.free)
              (r.0, shared_seen (used + suc n) u t.free)) (sym (behind_svc C placed flash a texts image p f callers base c used h t op e x sh 2 18 refl)) r.1;
          tied = r.2;
          shows = (
            refl,
            subst (λ gl. Shows Word a.class (with_cell used (Fields class (zeros n)) h) (used + suc n) gl (slice_set v2.arena used ca)) (sym gs)
                (subst (λ ar. Shows Word a.class (with_cell used (Fields class (zeros n)) h) (used + suc n) t.globals (slice_set ar used ca)) (sym as') shown),
          );
        }

    object : (flat_class : FlatClass) (n : ℕ) → slice_get C.classes class ≡ Some flat_class → flat_class.words ≡ suc n
        → Owed C placed flash a texts (op_instructions op) used h t (Takes (suc n) (next n)) c t
    object flat_class n g wn =
        let k = here C placed flash a texts image p f callers base c used h t op e x sh in
        let s = (image.shows).classes class flat_class g in
        let sp = s.positive in let si = s.inside in let sa = s.aligned in let sf = s.fits in
        let ca = a.class class in
        let w = suc n in
        let lt = ((k.op_within).names).0 in
        let rg = x.registers in
        let v1 = with_low 1 ca v in
        let v2 = with_low 0 w v1 in
        let l1 = length-set v.low 1 ca ∙ rg in
        let l2 = length-set v1.low 0 w ∙ l1 in
        let x1 : slice_index v1.low 1 ≡ ca = get_or-set_same v.low 1 ca 0 (omega arith) in
        let ad : slice_index v1.low 1 + 0 * 4 ≡ ca = omega arith in
        let load : Flows flash spot (Plain (LdrImm 0 1 0)) v1 v2
        = OfInstr (LdrImm 0 1 0) v1 v2 refl (Get 0 1 0 w v1 (InFlash (omega arith) (omega arith) (ap (flash_word flash) ad ∙ (s.words ∙ wn))) (omega arith)) in
        let g2 = one C placed flash a texts image p f callers base c used h t op e x sh 1 2 v1 v2 (Plain (LdrImm 0 1 0))
        (one C placed flash a texts image p f callers base c used h t op e x sh 0 0 v v1 (Address 1 (Class class))
        (begun C placed flash a texts image p f callers base c used h t op e x sh) refl (OfAddress 1 (Class class) v)) refl load in
        let y = asked C placed flash a texts image p f callers base c used h t op e x sh 2 4 18 v2 g2 refl in
        let r0 : slice_index v2.low 0 ≡ w = get_or-set_same v1.low 0 w 0 (omega arith) in
        let pc = spot.behind (first C placed flash a texts image p f callers base c used h t op e x sh + 2) in
        let lr = g2.comes.link in
        let f2 = fiber_seen c v2 pc lr in
        let s2 = shared_seen used v2 t.free in
        let low : ℕ → Fiber × Shared = λ at. (answered_word f2 (behind_words at), record s2 { used = at + w }) in
        takes C placed flash a texts 6 (op_instructions op) used 18 w w h c t _ _ (next n) low refl (omega arith) y (takes_words flash y.at n f2 s2 r0)
        (λ fits. behind n lr v2 (get_or-set_other v1.low 0 1 w 0 (omega arith) ∙ x1) (omega arith) l2 refl (store_low 0 w v1 (omega arith) ∙ store_low 1 ca v
        (omega arith)) refl refl fits)

  pub object_makes : (to class : ℕ) → MakesOp C placed flash a texts (MakeObject to class)
  object_makes to class p f callers base c used h t e x sh nf = by (entry C.classes class) refl nf
    where
      sized : (flat_class : FlatClass) (n : ℕ) → slice_get C.classes class ≡ Some flat_class → flat_class.words ≡ n
          → NoFault (makes C texts h f callers base to class n) → Owed C placed flash a texts (op_instructions (MakeObject to class)) used h t
          (makes C texts h f callers base to class n) c t
      sized flat_class zero g w nf = absurd nf
      sized flat_class (suc n) g w nf = object to class p f callers base c used h t e x sh flat_class n g w

      by : (o : Option FlatClass) → entry C.classes class ≡ o → NoFault (after (there o) (λ k. makes C texts h f callers base to class k.words))
          → Owed C placed flash a texts (op_instructions (MakeObject to class)) used h t
          (after (there o) (λ k. makes C texts h f callers base to class k.words)) c t
      by None g nf = absurd nf
      by (Some k) g nf = sized k k.words (sym (entry_is C.classes class) ∙ g) refl nf

  module _ (to room : ℕ) (p : Placed) (f : FlatFrame) (callers : List FlatFrame) (base : ℕ) (c : Fiber) (used : ℕ) (h : FlatHeap) (t : Shared)
      (e : slice_get p.function.ops f.place ≡ Some (MakeArray to room))
      (x : IsAt C placed flash a p (λ u. IsLiveAt p.function.ops u f.place) f callers base (start p.function (place_of p.places) f.place) c)
      (sh : IsShared C placed flash a used h t) where
    abbrev array_op : Op
    array_op = MakeArray to room

    abbrev array_v : View
    array_v = view_in c t

    abbrev array_spot : Places
    array_spot = spots C placed flash a f.function p

    abbrev array_next : ℕ → FlatActivity × FlatHeap
    array_next at = (Stands (given to (Object at) f) callers base, with_cell at (Items tt room []) h)

    -- the words that are asked for
    abbrev asked_words : ℕ
    asked_words = counted_word (4 + room)

    abbrev array_view : View
    array_view = record array_v { low = slice_set array_v.low 0 asked_words; flags = loaded_flags array_v.flags asked_words }

    -- what trails behind the service: room, and the address of the items
    array_behind : (lr : ℕ) → used + (4 + room) ≤ arena_words
        → Behind C placed flash a texts (used + (4 + room)) (array_next used) (
          answered_word (fiber_seen c array_view (array_spot.behind (first C placed flash a texts image p f callers base c used h t array_op e x sh + 1))
              lr) (behind_words used),
          record (shared_seen used array_view t.free) { used = used + (4 + room) },
        )
    array_behind lr fits =
        let k = here C placed flash a texts image p f callers base c used h t array_op e x sh in
        let rg = x.registers in
        let size = ((sh.1).lies).size in
        let at = behind_words used in
        let n0 = length-set array_v.low 0 asked_words ∙ rg in
        let v3 = with_low 0 at array_view in
        let n3 = length-set array_view.low 0 at ∙ n0 in
        let rm = counted_word room in
        let rm_is : rm ≡ room = omega arith in
        let v4 : View = record v3 { low = slice_set v3.low 1 rm; flags = loaded_flags v3.flags rm } in
        let n4 = length-set v3.low 1 rm ∙ n3 in
        let a0 : slice_index v3.low 0 ≡ at = get_or-set_same array_view.low 0 at 0 (omega arith) in
        let b0 : slice_index v4.low 0 ≡ at = get_or-set_other v3.low 1 0 rm 0 (omega arith) ∙ a0 in
        let b1 : slice_index v4.low 1 ≡ room = get_or-set_same v3.low 1 rm 0 (omega arith) ∙ rm_is in
        let v5 : View = record v4 { arena = slice_set t.arena (used + 2) room } in
        let store_room : Flows flash array_spot (Plain (StrImm 1 0 2)) v4 v5
        = OfInstr (StrImm 1 0 2) v4 v5 refl (Put 1 0 2 room v4 v5 b1 (omega arith) (ToArena (used + 2) (omega arith) (ap (λ q. q + 2 * 4) b0 ∙ omega arith))) in
        let v6 = with_low 1 at v5 in
        let move : Flows flash array_spot (Plain (MovHigh 1 0)) v5 v6 = subst (λ n. Flows flash array_spot (Plain (MovHigh 1 0)) v5 (with_low 1 n v5)) b0
        (mov_flows flash array_spot 1 0 v5 (omega arith) (omega arith)) in
        let n6 = length-set v5.low 1 at ∙ n4 in
        let c0 : slice_index v6.low 0 ≡ at = get_or-set_other v5.low 1 0 at 0 (omega arith) ∙ b0 in
        let c1 : slice_index v6.low 1 ≡ at = get_or-set_same v5.low 1 at 0 (omega arith) in
        let sum = sum_of at 16 0 in
        let items = behind_words (used + 4) in
        let sum_is : sum ≡ items = omega arith in
        let v7 : View = record v6 { low = slice_set v6.low 1 sum; flags = sum_flags at 16 0 } in
        let add : Flows flash array_spot (Plain (AddImm8 1 16)) v6 v7 = OfInstr (AddImm8 1 16) v6 v7 refl (Quiet (AddImm8 1 16) v6 (slice_set v6.low 1 sum)
        (sum_flags at 16 0) (λ next pc z. rw c1 refl)) in
        let n7 = length-set v6.low 1 sum ∙ n6 in
        let d0 : slice_index v7.low 0 ≡ at = get_or-set_other v6.low 1 0 sum 0 (omega arith) ∙ c0 in
        let d1 : slice_index v7.low 1 ≡ items = get_or-set_same v6.low 1 sum 0 (omega arith) ∙ sum_is in
        let u : View = record v7 { arena = slice_set v5.arena (used + 3) items } in
        let store_items : Flows flash array_spot (Plain (StrImm 1 0 3)) v7 u
        = OfInstr (StrImm 1 0 3) v7 u refl (Put 1 0 3 items v7 u d1 (omega arith) (ToArena (used + 3) (omega arith) (ap (λ q. q + 3 * 4) d0 ∙ omega arith))) in
        let r = put_behind C placed flash a texts image p f callers base c used h t array_op e x sh to (Object used) at
        (Number 0 asked_words ∷ Plain (Svc 18) ∷ []) (Number 1 rm ∷ Plain (StrImm 1 0 2) ∷ Plain (MovHigh 1 0) ∷ Plain (AddImm8 1 16) ∷ Plain
        (StrImm 1 0 3) ∷ []) v3 u lr (used + (4 + room)) t.free refl refl ((0, omega arith, refl), joined_after p.function f.place array_op e (λ when. refl))
        ((k.op_within).names).0 (v4, OfNumber 1 rm v3, (v5, store_room, (v6, move, (v7, add, (u, store_items, refl))))) refl
        (store_low 1 sum v6 (omega arith) ∙ (store_low 1 at v5 (omega arith) ∙
        (store_low 1 rm v3 (omega arith) ∙ (store_low 0 at array_view (omega arith) ∙ store_low 0 asked_words array_v (omega arith))))) n7 (λ q. d0)
        (refl, omega arith) (omega arith) in
        record {
          fiber = r.0;
          shared = shared_seen (used + (4 + room)) u t.free;
          comes = subst (λ j. Comes (fibers flash) one_each trailing_instructions (fiber_seen c v3 j lr, shared_seen (used + (4 + room)) v3 t.free)
              (r.0, shared_seen (used + (4 + room)) u t.free)) (sym (behind_svc C placed flash a texts image p f callers base c used h t array_op e x sh 1 18
              refl)) r.1;
          tied = r.2;
          shows = (refl, shows_array (IsText C placed flash a) (IsCode C placed flash a) a.class h used t.globals t.arena sh.1 tt room fits);
        }

    array : Owed C placed flash a texts (op_instructions array_op) used h t (Takes (array_words room) array_next) c t
    array =
        let rg = x.registers in
        let g1 = one C placed flash a texts image p f callers base c used h t array_op e x sh 0 0 array_v array_view (Number 0 asked_words)
        (begun C placed flash a texts image p f callers base c used h t array_op e x sh) refl (OfNumber 0 asked_words array_v) in
        let y = asked C placed flash a texts image p f callers base c used h t array_op e x sh 1 2 18 array_view g1 refl in
        let some : asked_words ≡ suc (asked_words - 1) = omega arith in
        let n = asked_words - 1 in
        let r0 : slice_index array_view.low 0 ≡ suc n = get_or-set_same array_v.low 0 asked_words 0 (omega arith) ∙ some in
        let lr = g1.comes.link in
        let f2 = fiber_seen c array_view (array_spot.behind (first C placed flash a texts image p f callers base c used h t array_op e x sh + 1)) lr in
        let s2 = shared_seen used array_view t.free in
        let low : ℕ → Fiber × Shared = λ at. (answered_word f2 (behind_words at), record s2 { used = at + suc n }) in
        takes C placed flash a texts 4 (op_instructions array_op) used 18 (4 + room) (suc n) h c t _ _ array_next low (omega arith) (omega arith) y
        (takes_words flash y.at n f2 s2 r0)
        (λ fits. (let same : suc n ≡ 4 + room = omega arith in
        subst (λ m. Behind C placed flash a texts (used + (4 + room)) (array_next used) (answered_word f2 (behind_words used), record s2 { used = used + m }))
        (sym same) (array_behind lr fits)))

  pub array_makes : (to room : ℕ) → MakesOp C placed flash a texts (MakeArray to room)
  array_makes to room p f callers base c used h t e x sh nf = array to room p f callers base c used h t e x sh
