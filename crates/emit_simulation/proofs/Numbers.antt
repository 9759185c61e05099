-- Operators make their turns.
use Rattle.std.proofs.Common.{suc, ◌≡◌, ℕ, ◌+◌, ◌*◌, ◌<◌, ◌≤◌, List, [], ◌∷◌, ◌++◌, length, Bool, true, false, cond, Option, Some, None, refl, sym, ap, ◌∙◌, subst, arith, slice_get, slice_index, ◌==◌}
use Rattle.std.specs.Prelude.{pos, negsuc, ◌+ℤ◌}
use Rattle.thumb_code.specs.declared.instructions.Instr.TheVariants.{CmpImm, CmpReg}
use Rattle.thumb_code.specs.Step.{fetched}
use Rattle.board_world.specs.Observations.{ByteList}
use Rattle.board_world.specs.Kinds.{Goes}
use Rattle.board_world.specs.Sound.{NoFault}
use Rattle.bank_model.specs.Fibers.{Fiber, Shared}
use Rattle.thumb_layout.specs.declared.pieces.Piece.{Piece}
use Rattle.flat_ir.specs.declared.ops.Op.{Op}
use Rattle.flat_ir.specs.declared.ops.Op.TheVariants.{Unary, Binary}
use Rattle.flat_ir.specs.declared.ops.FlatCode.{FlatCode}
use Rattle.flat_ir.specs.Ops.{writes}
use Rattle.flat_ir.specs.WellFormed.{temporaries}
use Rattle.flat_ir.specs.Liveness.{IsLiveAt}
use Rattle.register_assign.specs.declared.places.Placed.{Placed}
use Rattle.register_assign.specs.Sound.{place_of}
use Rattle.register_assign.specs.Unread.{is_unread}
use Rattle.sts_meaning.specs.Values.{Value, Whole, Outcome, Gives, Breaks, Stuck, then_gives, whole, to_int32, applied_before, applied}
use Rattle.sts_meaning.specs.Frames.{after}
use Rattle.sts_meaning.specs.Heaps.{FlatHeap}
use Rattle.flat_meaning.specs.Operators.{prefixed_by}
use Rattle.flat_meaning.specs.Frames.{FlatFrame, Stands, given}
use Rattle.thumb_emit.specs.Joined.{joined_by}
use Rattle.thumb_emit.specs.Emit.{op_pieces, function_pieces, unary, binary, test_pieces}
use Rattle.thumb_emit.specs.Frame.{register_of, brings, keeps, result_in}
use Rattle.thumb_layout.specs.Holds.{cost}
use Rattle.thumb_emit.specs.Bounds.{op_instructions, total_cost}
use Rattle.thumb_emit.proofs.Laws.{brings_still, keeps_still, still_takes}
use Rattle.thumb_emit.specs.InFlash.{Addresses}
use Rattle.arena_values.proofs.Laws.{prefix_word, operated, applied_leaves, applied_before_leaves, more_leaves, less_leaves, Leaves as LeavesWord}
use Rattle.placed_frames.proofs.Laws.{View, get}
use Rattle.emit_simulation.proofs.Laid.{AllFlow, Comes, step_of, steps_of, store_of}
use Rattle.emit_simulation.specs.Starts.{start}
use Rattle.emit_simulation.proofs.Starts.{StandAt, first_of, rest_of}
use Rattle.emit_simulation.specs.Ties.{IsAt, IsShared, IsImage, IsText, IsCode, Means, spots, place_in, return_to, frames_of}
use Rattle.emit_simulation.proofs.AtOps.{GoesOn, view_in, bank_in}
use Rattle.emit_simulation.proofs.Leaving.{AllLeave}
use Rattle.emit_simulation.proofs.OwedOps.{MakesOp}
use Rattle.emit_simulation.proofs.Flowing.{flows, flows_one, then}
use Rattle.emit_simulation.proofs.Placed.{brought, brought_word, brought_other, brought_store, brought_length, register_small, not_scratch, result_over, kept_view, kept_shared, kept_low, store_kept, made_small, made_not}
use Rattle.emit_simulation.proofs.Straight.{keeps_last}
use Rattle.emit_simulation.proofs.Context.{base_fits}
use Rattle.emit_simulation.proofs.Meanings.{are_words, small}
use Rattle.emit_simulation.proofs.Turns.{Owed}
use Rattle.emit_simulation.proofs.Ops.{here, word, word_means, word_small, brings_word, gives, wider}
use Rattle.emit_simulation.proofs.Words.{unary_leaves, binary_leaves, shift_flags}
use Rattle.emit_simulation.proofs.Comparing.{compared_unary, compared_binary}
use Rattle.emit_simulation.proofs.Division.{quotient_leaves, remainder_leaves}

module _ (C : FlatCode) (placed : List Placed) (flash : List ℕ) (a : Addresses) (texts : List ByteList) (image : IsImage C placed flash a texts) where
  module _ (p : Placed) (f : FlatFrame) (callers : List FlatFrame) (base : ℕ) (c : Fiber) (used : ℕ) (h : FlatHeap) (t : Shared) (op : Op)
      (e : slice_get p.function.ops f.place ≡ Some op)
      (x : IsAt C placed flash a p (λ u. IsLiveAt p.function.ops u f.place) f callers base (start p.function (place_of p.places) f.place) c)
      (sh : IsShared C placed flash a used h t) where
    -- PIECES THAT READ, pieces that compute, and the keeping of the result
    pub computed_gives : (to : ℕ) (value : Value) (w most : ℕ) (gs xs : List Piece) (u : View) → op_pieces p.function (place_of p.places) f.place op ≡ gs ++
        (xs ++ keeps p.function (is_unread p.function f.place) (place_of p.places to) ∷ [])
        → AllFlow flash (spots C placed flash a f.function p) gs (view_in c t) u → store_of u ≡ store_of (view_in c t)
        → u.globals ≡ t.globals → u.arena ≡ t.arena
        → AllLeave (fetched flash c.base) flash (spots C placed flash a f.function p) (function_pieces p) (bank_in flash c t) t.free xs u
        (result_in (is_unread p.function f.place) (place_of p.places to)) w most
        → writes op ≡ Some to → GoesOn p.function f.place op → to < temporaries p.function → Means C placed flash a value w
        → total_cost gs + most + 2 ≤ op_instructions op
        → Owed C placed flash a texts (op_instructions op) used h t (Goes (Stands (given to value f) callers base) h) c t
    computed_gives to value w most gs xs u ps fl es eg ea lv wr on lt m bound =
        let place = place_of p.places in
        let pl = spots C placed flash a f.function p in
        let pieces = function_pieces p in
        let k = here C placed flash a texts image p f callers base c used h t op e x sh in
        let fw = k.within_function in
        let fetch = fetched flash c.base in
        let b = bank_in flash c t in
        let s1 = start p.function place f.place + 1 in
        let st = subst (λ q. StandAt pieces s1 q) ps k.stands in
        let kept = keeps p.function (is_unread p.function f.place) (place to) in
        let i1 = s1 + length gs in
        let i2 = i1 + length xs in
        let st1 = rest_of pieces s1 gs (xs ++ kept ∷ []) st in
        let c1 = flows fetch flash pl pieces fw.laid gs s1 (view_in c t) u c.registers b t.free (first_of pieces s1 gs (xs ++ kept ∷ []) st) fw.at refl fl in
        let l = lv i1 (record c.registers { lr = c1.link }) (first_of pieces i1 xs (kept ∷ []) st1) fw.at c1.long in
        let c2 = l.comes in
        let v = l.seen in
        let r = result_over (result_in (is_unread p.function f.place) (place to)) w (view_in c t) u v es l.result in
        let last = keeps_last flash pl (Means C placed flash a) (small C placed flash a texts image) C.functions (place_in C placed flash a)
        (return_to C placed flash a) p.function place fw.inside
        (λ n. IsLiveAt p.function.ops n f.place) f.temps (frames_of callers) (view_in c t) x.running (is_unread p.function f.place) to w v lt r
        (small C placed flash a texts image value w m) in
        let v' = kept_view p.function (is_unread p.function f.place) (place to) w v in
        let q = kept_shared p.function (is_unread p.function f.place) (place to) w v in
        let st2 = rest_of pieces i1 xs (kept ∷ []) st1 in
        let c3 = flows_one fetch flash pl pieces fw.laid i2 kept v v' (record c.registers { lr = c2.link }) b t.free
        (ap (slice_get pieces) (omega arith) ∙ st2 0 (omega arith)) fw.at c2.long last in
        let c23 = then fetch flash pl pieces fw.laid 1 most (step_of kept) (cost kept) i1 i2 (i2 + 1) u v v' (record c.registers { lr = c1.link }) b t.free c2 c3 in
        let c123 = then fetch flash pl pieces fw.laid (steps_of gs) (total_cost gs) (1 + step_of kept) (most + cost kept) s1 i1 (i2 + 1) (view_in c t) u v' c.registers b t.free c1
        c23 in
        let ln : length (op_pieces p.function place f.place op) ≡ length gs + (length xs + 1) = ap length ps ∙ lengths gs xs kept in
        let z : i2 + 1 ≡ s1 + length (op_pieces p.function place f.place op) = omega arith in
        let takes = still_takes p.function kept (keeps_still p.function (is_unread p.function f.place) (place to)) in
        wider C placed flash a texts (total_cost gs + (most + cost kept)) (op_instructions op) used h t (Goes (Stands (given to value f) callers base) h) c t
        (omega arith)
        (gives C placed flash a texts image p f callers base c used h t op e x sh to value (steps_of gs + (1 + step_of kept)) (total_cost gs + (most + cost kept)) w v' wr on
        (omega arith) lt
        (subst (λ j. Comes fetch pl (steps_of gs + (1 + step_of kept)) (total_cost gs + (most + cost kept)) s1 j (view_in c t) v' c.registers b t.free) z c123)
        (store_kept p.function (is_unread p.function f.place) (place to) w (view_in c t) v (fw.inside to lt) x.registers r) (kept_low p.function (is_unread p.function f.place) (place to) w v r.low) m
        (q.0 ∙ (l.globals ∙ eg)) (q.1 ∙ (l.arena ∙ ea)))
      where
        lengths : (gs xs : List Piece) (q : Piece) → length (gs ++ (xs ++ q ∷ [])) ≡ length gs + (length xs + 1)
        lengths [] [] q = refl
        lengths [] (y ∷ xs) q = (let h = lengths [] xs q in omega arith)
        lengths (y ∷ gs) xs q = (let h = lengths gs xs q in omega arith)

  -- the words of prefix operators
  abbrev Lv : ℕ → Outcome Value → ℕ → Type 0
  Lv flags o n = LeavesWord (IsText C placed flash a) (IsCode C placed flash a) (are_words C placed flash a texts image) flags o n

  prefixed_leaves : (flags op : ℕ) (v : Value) (w : ℕ) → Means C placed flash a v w → Lv flags (prefixed_by op v) (prefix_word op w)
  prefixed_leaves flags op v w m = by (op == 5) refl (op == 6) refl
    where
      more : Outcome Value
      more = then_gives (whole v) (λ n. Gives (Whole (to_int32 (n +ℤ pos 1))))

      less : Outcome Value
      less = then_gives (whole v) (λ n. Gives (Whole (to_int32 (n +ℤ negsuc 0))))

      by : (y : Bool) → (op == 5) ≡ y → (z : Bool) → (op == 6) ≡ z → Lv flags
          (cond y (then_gives (whole v) (λ n. Gives (Whole (to_int32 (n +ℤ pos 1)))))
          (cond z (then_gives (whole v) (λ n. Gives (Whole (to_int32 (n +ℤ negsuc 0))))) (applied_before op v))) (prefix_word op w)
      by true q z r = (let o : op ≡ 5 = grind arith in subst (λ n. Lv flags (then_gives (whole v) (λ n. Gives (Whole (to_int32 (n +ℤ pos 1)))))
          (prefix_word n w)) (sym o) (more_leaves (IsText C placed flash a) (IsCode C placed flash a) (are_words C placed flash a texts image) flags v w m))
      by false q true r = (let o : op ≡ 6 = grind arith in subst (λ n. Lv flags (then_gives (whole v) (λ n. Gives (Whole (to_int32 (n +ℤ negsuc 0)))))
          (prefix_word n w)) (sym o) (less_leaves (IsText C placed flash a) (IsCode C placed flash a) (are_words C placed flash a texts image) flags v w m))
      by false q false r = applied_before_leaves (IsText C placed flash a) (IsCode C placed flash a) (are_words C placed flash a texts image) flags op v w m
          (grind arith) (grind arith)

  module _ (p : Placed) (f : FlatFrame) (callers : List FlatFrame) (base : ℕ) (c : Fiber) (used : ℕ) (h : FlatHeap) (t : Shared)
      (x : IsAt C placed flash a p (λ u. IsLiveAt p.function.ops u f.place) f callers base (start p.function (place_of p.places) f.place) c)
      (sh : IsShared C placed flash a used h t) where
    next_is : joined_by p.function (suc f.place) ≡ None → joined_by p.function (f.place + 1) ≡ None
    next_is free = let z : suc f.place ≡ f.place + 1 = omega arith in subst (λ n. joined_by p.function n ≡ None) z free

    by_unary : (to op from : ℕ) → (free : joined_by p.function (suc f.place) ≡ None) → (e : slice_get p.function.ops f.place ≡ Some (Unary to op from)) → (o : Outcome Value) → prefixed_by op (f.temps from) ≡ o
        → NoFault (after o (λ v. Goes (Stands (given to v f) callers base) h))
        → Owed C placed flash a texts (op_instructions (Unary to op from)) used h t (after o (λ v. Goes (Stands (given to v f) callers base) h)) c t
    by_unary to op from free e o q nf =
        let k = here C placed flash a texts image p f callers base c used h t (Unary to op from) e x sh in
        let lf : from < temporaries p.function = (((k.op_within).names).1).0 in
        let w = word C placed flash a texts image p f callers base c used h t (Unary to op from) e x sh from in
        let m = word_means C placed flash a texts image p f callers base c used h t (Unary to op from) e x sh from lf (0, omega arith, refl) in
        by_outcome o (subst (λ y. Lv 0 y (prefix_word op w)) q (prefixed_leaves 0 op (f.temps from) w m)) nf
      where
        by_outcome : (o : Outcome Value) → Lv 0 o (prefix_word op (word C placed flash a texts image p f callers base c used h t (Unary to op from) e x sh
            from)) → NoFault (after o (λ v. Goes (Stands (given to v f) callers base) h))
            → Owed C placed flash a texts (op_instructions (Unary to op from)) used h t (after o (λ v. Goes (Stands (given to v f) callers base) h)) c t
        by_outcome (Gives value) l nf = (
            let k = here C placed flash a texts image p f callers base c used h t (Unary to op from) e x sh in
            let fw = k.within_function in
            let lf : from < temporaries p.function = (((k.op_within).names).1).0 in
            let lt : to < temporaries p.function = ((k.op_within).names).0 in
            let w = word C placed flash a texts image p f callers base c used h t (Unary to op from) e x sh from in
            let v = view_in c t in
            let pf = place_of p.places from in
            let r = register_of 0 pf in
            let u = brought 0 pf w v in
            let rg = x.registers in
            let n1 = brought_length pf 0 w v.low ∙ rg in
            let bs = brings_still p.function 0 pf in
            let cb = still_takes p.function (brings p.function 0 pf) bs in
            computed_gives p f callers base c used h t (Unary to op from) e x sh to value (prefix_word op w) 11
            (brings p.function 0 pf ∷ []) (unary p.function (result_in (is_unread p.function f.place) (place_of p.places to)) r op (3 * f.place + 1)) u
            (ap (λ o. brings p.function 0 pf ∷ test_pieces o (CmpImm r 0)
            (unary p.function (result_in (is_unread p.function f.place) (place_of p.places to)) r op (3 * f.place + 1)
            ++ (keeps p.function (is_unread p.function f.place) (place_of p.places to) ∷ []))) free) (
              u,
              brings_word C placed flash a texts image p f callers base c used h t (Unary to op from) e x sh from 0 v lf (0, omega arith, refl) (omega arith)
                  refl,
              refl,
            ) (brought_store pf 0 w v (omega arith)) refl refl
            (unary_leaves (fetched flash c.base) flash (spots C placed flash a f.function p) (function_pieces p) fw.laid (bank_in flash c t)
            t.free u n1 p.function (result_in (is_unread p.function f.place) (place_of p.places to)) (made_small p.function (is_unread p.function f.place) (place_of p.places to) (fw.inside to lt)) r op
            (3 * f.place + 1) w (register_small p.function pf 0 (omega arith) (fw.inside from lf))
            (not_scratch p.function pf 0 1 (omega arith) (λ e. omega arith) (fw.inside from lf))
            (brought_word p.function pf 0 w v (omega arith) (fw.inside from lf) rg refl))
            refl ((0, omega arith, refl), next_is free) lt l (omega arith))
        by_outcome (Breaks code) l nf = absurd l
        by_outcome Stuck l nf = absurd nf

    by_binary : (to op left right : ℕ) → (free : joined_by p.function (suc f.place) ≡ None) → (e : slice_get p.function.ops f.place ≡ Some (Binary to op left right)) → (o : Outcome Value)
        → applied op (f.temps left) (f.temps right) ≡ o → NoFault (after o (λ v. Goes (Stands (given to v f) callers base) h))
        → Owed C placed flash a texts (op_instructions (Binary to op left right)) used h t (after o (λ v. Goes (Stands (given to v f) callers base) h)) c t
    by_binary to op left right free e o q nf =
        let o' = Binary to op left right in
        let k = here C placed flash a texts image p f callers base c used h t o' e x sh in
        let ll : left < temporaries p.function = (((k.op_within).names).1).0 in
        let lr : right < temporaries p.function = ((((k.op_within).names).1).1).0 in
        let w1 = word C placed flash a texts image p f callers base c used h t o' e x sh left in
        let w2 = word C placed flash a texts image p f callers base c used h t o' e x sh right in
        let m1 = word_means C placed flash a texts image p f callers base c used h t o' e x sh left ll (0, omega arith, refl) in
        let m2 = word_means C placed flash a texts image p f callers base c used h t o' e x sh right lr (1, omega arith, refl) in
        let l1 = word_small C placed flash a texts image p f callers base c used h t o' e x sh left ll (0, omega arith, refl) in
        let l2 = word_small C placed flash a texts image p f callers base c used h t o' e x sh right lr (1, omega arith, refl) in
        let v = view_in c t in
        let fn = p.function in
        let fw = k.within_function in
        let lt : to < temporaries fn = ((k.op_within).names).0 in
        let pa = place_of p.places left in let pb = place_of p.places right in
        let ra = register_of 0 pa in let rb = register_of 1 pb in let d = result_in (is_unread p.function f.place) (place_of p.places to) in
        let ia = fw.inside left ll in let ib = fw.inside right lr in let it = fw.inside to lt in
        let u1 = brought 0 pa w1 v in
        let u2 = brought 1 pb w2 u1 in
        let rg = x.registers in
        let n1 = brought_length pa 0 w1 v.low ∙ rg in
        let n2 = brought_length pb 1 w2 u1.low ∙ n1 in
        let e1 = brought_store pa 0 w1 v (omega arith) in
        let not_one = not_scratch fn pa 0 1 (omega arith) (λ e. omega arith) ia in
        let r0 : slice_index u2.low ra ≡ w1 = brought_other pb 1 w2 ra u1.low not_one ∙ brought_word fn pa 0 w1 v (omega arith) ia rg refl in
        let r1 : slice_index u2.low rb ≡ w2 = brought_word fn pb 1 w2 u1 (omega arith) ib n1 (ap (get fn pb) e1) in
        let fd = made_small fn (is_unread p.function f.place) (place_of p.places to) it in
        let fa = register_small fn pa 0 (omega arith) ia in let fb = register_small fn pb 1 (omega arith) ib in
        let na = not_scratch fn pa 0 2 (omega arith) (λ e. omega arith) ia in let nb = not_scratch fn pb 1 2 (omega arith) (λ e. omega arith) ib in
        let nz = not_scratch fn pb 1 0 (omega arith) (λ e. omega arith) ib in
        let nt = made_not fn (is_unread p.function f.place) (place_of p.places to) 2 (omega arith) (omega arith) it in
        let at = fw.at in
        let lo = at.low in
        let fits = base_fits c.base at.aligned (omega arith) at.high in
        let pl = spots C placed flash a f.function p in
        let pieces = function_pieces p in
        let b = bank_in flash c t in
        let fetch = fetched flash c.base in
        let routine = (image.shows).routine in
        let dq = quotient_leaves flash c.base pl pieces fw.laid b t.free a.routine refl routine fits fn d fd u2 n2 w1 w2 ra rb r0 r1 l1 l2 fa fb (λ e. nz (sym e)) in
        let dr = remainder_leaves flash c.base pl pieces fw.laid b t.free a.routine refl routine fits fn d fd u2 n2 w1 w2 ra rb r0 r1 l1 l2 fa fb (λ e. nz (sym e)) in
        let flags = shift_flags fetch flash pl pieces fw.laid b t.free u2 n2 fn d fd w1 w2 ra rb r0 r1 fa fb na nb in
        let lv = binary_leaves fetch flash pl pieces fw.laid b t.free u2 n2 fn d fd w1 w2 ra rb r0 r1 fa fb na nb op (3 * f.place + 1) _ _ nt dq dr refl refl in
        let lw = subst (λ y. Lv flags y (operated flags op w1 w2)) q (applied_leaves (IsText C placed flash a) (IsCode C placed flash a)
        (are_words C placed flash a texts image) flags op (f.temps left) (f.temps right) w1 w2 m1 m2) in
        let ca = still_takes fn (brings fn 0 pa) (brings_still fn 0 pa) in let cb = still_takes fn (brings fn 1 pb) (brings_still fn 1 pb) in
        by_outcome (operated flags op w1 w2) flags o lw nf
        (λ value m. computed_gives p f callers base c used h t o' e x sh to value (operated flags op w1 w2) 242
        (brings fn 0 pa ∷ (brings fn 1 pb ∷ [])) (binary fn d ra rb op (3 * f.place + 1)) u2
        (ap (λ o. brings fn 0 pa ∷ (brings fn 1 pb ∷ test_pieces o (CmpReg ra rb)
        (binary fn d ra rb op (3 * f.place + 1) ++ (keeps fn (is_unread fn f.place) (place_of p.places to) ∷ [])))) free) (
          u1,
          brings_word C placed flash a texts image p f callers base c used h t o' e x sh left 0 v ll (0, omega arith, refl) (omega arith) refl,
          (u2, brings_word C placed flash a texts image p f callers base c used h t o' e x sh right 1 u1 lr (1, omega arith, refl) (omega arith) e1, refl),
        ) (brought_store pb 1 w2 u1 (omega arith) ∙ e1) refl refl
        lv refl ((0, omega arith, refl), next_is free) lt m (omega arith))
      where
        by_outcome : (w flags : ℕ) (o : Outcome Value) → Lv flags o w → NoFault (after o (λ v. Goes (Stands (given to v f) callers base) h))
            → ((value : Value) → Means C placed flash a value w → Owed C placed flash a texts (op_instructions (Binary to op left right)) used h t
            (Goes (Stands (given to value f) callers base) h) c t)
            → Owed C placed flash a texts (op_instructions (Binary to op left right)) used h t (after o (λ v. Goes (Stands (given to v f) callers base) h)) c t
        by_outcome w flags (Gives value) l nf go = go value l
        by_outcome w flags (Breaks code) l nf go = absurd l
        by_outcome w flags Stuck l nf go = absurd nf

  -- A PREFIX OPERATOR, and an operator
  pub unary_makes : (to op from : ℕ) → MakesOp C placed flash a texts (Unary to op from)
  unary_makes to op from p f callers base c used h t e x sh nf = by (joined_by p.function (suc f.place)) refl
    where
      by : (o : Option ℕ) → joined_by p.function (suc f.place) ≡ o → Owed C placed flash a texts (op_instructions (Unary to op from)) used h t
          (after (prefixed_by op (f.temps from)) (λ v. Goes (Stands (given to v f) callers base) h)) c t
      by None free = by_unary p f callers base c used h t x sh to op from free e (prefixed_by op (f.temps from)) refl nf
      by (Some condition) j = compared_unary C placed flash a texts image p f callers base c used h t x sh condition j to op from e nf

  pub binary_makes : (to op left right : ℕ) → MakesOp C placed flash a texts (Binary to op left right)
  binary_makes to op left right p f callers base c used h t e x sh nf = by (joined_by p.function (suc f.place)) refl
    where
      by : (o : Option ℕ) → joined_by p.function (suc f.place) ≡ o → Owed C placed flash a texts (op_instructions (Binary to op left right)) used h t
          (after (applied op (f.temps left) (f.temps right)) (λ v. Goes (Stands (given to v f) callers base) h)) c t
      by None free = by_binary p f callers base c used h t x sh to op left right free e (applied op (f.temps left) (f.temps right)) refl nf
      by (Some condition) j = compared_binary C placed flash a texts image p f callers base c used h t x sh condition j to op left right e nf
