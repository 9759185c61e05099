-- A comparison that is joined with the branch after it sets the flags, which say what it gives.
use Rattle.std.proofs.Common.{suc, ◌≡◌, ℕ, ◌+◌, ◌*◌, ◌<◌, ℤ, List, [], ◌∷◌, ◌++◌, length, Bool, true, false, not, cond, nat_eq, Option, Some, None, refl, sym, ap, ◌∙◌, subst, arith, slice_get, slice_index, ◌==◌, ◌&&◌}
use Rattle.std.specs.Prelude.{◌≢◌, Contains, pos, int_lt, int_le}
use Rattle.std.specs.Ordering.{int_eq}
use Rattle.std.proofs.lemmas.Bool.{and_parts}
use Rattle.std.proofs.lemmas.Bool.Decides.{nat_tests}
use Rattle.thumb_code.specs.declared.instructions.Instr.{Instr}
use Rattle.thumb_code.specs.declared.instructions.Instr.TheVariants.{CmpImm, CmpReg}
use Rattle.thumb_code.specs.Arithmetic.{sum_flags, inverted, bit_of, holds}
use Rattle.thumb_code.specs.Step.{fetched}
use Rattle.board_world.specs.Observations.{ByteList}
use Rattle.board_world.specs.Kinds.{Goes}
use Rattle.board_world.specs.Sound.{NoFault}
use Rattle.bank_model.specs.Fibers.{Fiber, Shared}
use Rattle.thumb_layout.specs.declared.pieces.Piece.{Piece}
use Rattle.thumb_layout.specs.declared.pieces.Piece.TheVariants.{Plain}
use Rattle.thumb_layout.specs.Pieces.{Places}
use Rattle.flat_ir.specs.declared.ops.Op.{Op}
use Rattle.flat_ir.specs.declared.ops.Op.TheVariants.{Unary, Binary, Branch}
use Rattle.flat_ir.specs.declared.ops.FlatCode.{FlatCode}
use Rattle.flat_ir.specs.Ops.{writes, goes_on}
use Rattle.flat_ir.specs.WellFormed.{temporaries}
use Rattle.flat_ir.specs.Liveness.{IsLiveAt}
use Rattle.register_assign.specs.declared.places.Placed.{Placed}
use Rattle.register_assign.specs.Sound.{place_of}
use Rattle.register_assign.specs.Unread.{is_unread}
use Rattle.sts_meaning.specs.Values.{Value, truth, Outcome, Gives, Breaks, Stuck, then_gives, whole, same, applied, decided, with_entry}
use Rattle.sts_meaning.specs.Frames.{after}
use Rattle.sts_meaning.specs.Heaps.{FlatHeap}
use Rattle.flat_meaning.specs.Operators.{prefixed_by}
use Rattle.flat_meaning.specs.Frames.{FlatFrame, Stands, given}
use Rattle.thumb_emit.specs.Joined.{condition_of_operator, condition_of, joined_by}
use Rattle.thumb_emit.specs.Emit.{op_pieces, function_pieces, unary, binary, test_pieces}
use Rattle.thumb_emit.specs.Frame.{register_of, brings, keeps, result_in}
use Rattle.thumb_emit.specs.Bounds.{op_instructions, total_cost}
use Rattle.thumb_emit.proofs.Laws.{op_takes, Joins, joined_parts}
use Rattle.thumb_emit.specs.InFlash.{Addresses}
use Rattle.arena_values.proofs.Laws.{compared, operated, prefix_word, applied_leaves, applied_before_leaves, decided_is, Leaves as LeavesWord}
use Rattle.placed_frames.proofs.Laws.{View, Quiet, get}
use Rattle.emit_simulation.proofs.Laid.{AllFlow, Flows, OfInstr, steps_of, store_of}
use Rattle.emit_simulation.specs.Starts.{start}
use Rattle.emit_simulation.specs.Ties.{IsAt, AtBranch, IsShared, IsImage, IsText, IsCode, Means, spots, place_in, return_to, frames_of}
use Rattle.emit_simulation.proofs.AtOps.{view_in, bank_in, fiber_seen}
use Rattle.emit_simulation.proofs.Flowing.{flows}
use Rattle.emit_simulation.proofs.Placed.{brought, brought_word, brought_other, brought_store, brought_length, not_scratch}
use Rattle.emit_simulation.proofs.Straight.{runs_with}
use Rattle.emit_simulation.proofs.Meanings.{are_words, small}
use Rattle.emit_simulation.proofs.Turns.{Owed, makes_goes}
use Rattle.emit_simulation.proofs.Ops.{here, pc_behind, shared_same, all_append, stands_behind, word, word_means, brings_word, wider}

-- EACH OPERATOR THAT COMPARES, with its condition
one_of : (P : ℕ → ℕ → Type 0) (n m : ℕ) → P n m → (op c : ℕ) (o : Option ℕ) → (o ≡ Some c → P op c) → cond (op == n) (Some m) o ≡ Some c → P op c
one_of P n m p op c o next e = by (op == n) refl e
  where
    by : (b : Bool) → (op == n) ≡ b → cond b (Some m) o ≡ Some c → P op c
    by true q e = (let z : op ≡ n = grind (arith, nat_tests) in let y : m ≡ c = cc in subst (λ i. P i c) (sym z) (subst (P n) y p))
    by false q e = next e

operator_has : (P : ℕ → ℕ → Type 0) → P 4 0 → P 5 1 → P 6 11 → P 7 12 → P 8 13 → P 9 10 → (op c : ℕ) → condition_of_operator op ≡ Some c → P op c
operator_has P p4 p5 p6 p7 p8 p9 op c =
    one_of P 4 0 p4 op c _ (one_of P 5 1 p5 op c _ (one_of P 6 11 p6 op c _ (one_of P 7 12 p7 op c _ (one_of P 8 13 p8 op c _ (one_of P 9 10 p9 op c None
    (λ e. absurd (cc)))))))

operated_is : (flags v w op c : ℕ) → condition_of_operator op ≡ Some c → operated flags op v w ≡ compared c v w
operated_is flags v w = operator_has (λ op c. operated flags op v w ≡ compared c v w) refl refl refl refl refl refl

-- it gives a truth
abbrev IsTruth : Value → Type 0
IsTruth v = (t : Bool) × (v ≡ truth t)

of_one : {X : Type 0} (o : Outcome X) (g : X → Bool) (v : Value) → then_gives o (λ x. Gives (truth (g x))) ≡ Gives v → IsTruth v
of_one (Gives x) g v e = (g x, (let z : truth (g x) ≡ v = cc in sym z))
of_one (Breaks code) g v e = absurd (cc)
of_one Stuck g v e = absurd (cc)

of_two : (a b : Outcome ℤ) (g : ℤ → ℤ → Bool) (v : Value) → then_gives a (λ x. then_gives b (λ y. Gives (truth (g x y)))) ≡ Gives v → IsTruth v
of_two (Gives x) b g v e = of_one b (g x) v e
of_two (Breaks code) b g v e = absurd (cc)
of_two Stuck b g v e = absurd (cc)

compares_truth : (a b v : Value) (op c : ℕ) → condition_of_operator op ≡ Some c → applied op a b ≡ Gives v → IsTruth v
compares_truth a b v = operator_has (λ op c. applied op a b ≡ Gives v → IsTruth v)
    (of_one (same a b) (λ e. e) v) (of_one (same a b) not v)
    (of_two (whole a) (whole b) (λ x y. int_lt x y) v) (of_two (whole a) (whole b) (λ x y. int_lt y x) v)
    (of_two (whole a) (whole b) (λ x y. int_le x y) v) (of_two (whole a) (whole b) (λ x y. int_le y x) v)

truth_decides : (t : Bool) → decided (truth t) ≡ Gives t
truth_decides true = refl
truth_decides false = refl

bit_isnt_0 : (s : Bool) → not (bit_of s == 0) ≡ s
bit_isnt_0 true = refl
bit_isnt_0 false = refl

-- the temporary and the condition of a comparison
if_both : (b : Bool) (o : Option ℕ) (c : ℕ) → cond b o None ≡ Some c → (b ≡ true) × (o ≡ Some c)
if_both true o c e = (refl, e)
if_both false o c e = absurd (cc)

tests_same : (to when : ℕ) → (to == when) ≡ true → when ≡ to
tests_same to when e = grind (arith, nat_tests)

last_step : (gs : List Piece) (y : Instr) → 0 < steps_of (gs ++ Plain y ∷ [])
last_step [] y = omega arith
last_step (x ∷ gs) y = let h = last_step gs y in omega arith

entry_here : (to : ℕ) (value : Value) (temps : ℕ → Value) → with_entry to value temps to ≡ value
entry_here to value temps = let e : nat_eq to to ≡ true = grind (arith, nat_tests) in rw e refl

module _ (C : FlatCode) (placed : List Placed) (flash : List ℕ) (a : Addresses) (texts : List ByteList) (image : IsImage C placed flash a texts) where
  module _ (p : Placed) (f : FlatFrame) (callers : List FlatFrame) (base : ℕ) (c : Fiber) (used : ℕ) (h : FlatHeap) (t : Shared) (op : Op)
      (e : slice_get p.function.ops f.place ≡ Some op)
      (x : IsAt C placed flash a p (λ u. IsLiveAt p.function.ops u f.place) f callers base (start p.function (place_of p.places) f.place) c)
      (sh : IsShared C placed flash a used h t) where
    abbrev spot : Places
    spot = spots C placed flash a f.function p

    -- PIECES THAT READ, and a comparison, leave flags that say what the op gives
    compares_gives : (to w condition target : ℕ) (value : Value) (gs : List Piece) (y : Instr) (u : View) (fl : ℕ)
        → op_pieces p.function (place_of p.places) f.place op ≡ gs ++ Plain y ∷ []
        → AllFlow flash spot gs (view_in c t) u → Flows flash spot (Plain y) u (record u { flags = fl })
        → store_of u ≡ store_of (view_in c t) → u.globals ≡ t.globals → u.arena ≡ t.arena → length u.low ≡ 13
        → writes op ≡ Some to → Contains (goes_on f.place op) (suc f.place) → to < temporaries p.function
        → joined_by p.function (suc f.place) ≡ Some condition → slice_get p.function.ops (suc f.place) ≡ Some (Branch to target)
        → Means C placed flash a value w → decided value ≡ Gives (holds fl condition)
        → Owed C placed flash a texts (op_instructions op) used h t (Goes (Stands (given to value f) callers base) h) c t
    compares_gives to w condition target value gs y u fl ps fs last es eg ea low wr on lt j next m says =
        let fn = p.function in
        let place = place_of p.places in
        let k = here C placed flash a texts image p f callers base c used h t op e x sh in
        let fw = k.within_function in
        let s1 = start fn place f.place + 1 in
        let us : View = record u { flags = fl } in
        let qs = op_pieces fn place f.place op in
        let whole : AllFlow flash spot qs (view_in c t) us = subst (λ q. AllFlow flash spot q (view_in c t) us) (sym ps)
        (all_append flash spot gs (Plain y ∷ []) (view_in c t) u us fs (us, last, refl)) in
        let some : 0 < steps_of qs = subst (λ q. 0 < steps_of q) (sym ps) (last_step gs y) in
        let all = flows (fetched flash c.base) flash spot (function_pieces p) fw.laid qs s1 (view_in c t) us c.registers (bank_in flash c t) t.free k.stands
        fw.at refl whole in
        let b = op_takes fn place f.place op in
        let z : suc f.place ≡ f.place + 1 = omega arith in
        let f' = given to value f in
        let need' : ℕ → Type 0 = λ n. IsLiveAt fn.ops n (f.place + 1) × (n ≢ to) in
        let run = runs_with flash spot (Means C placed flash a) (small C placed flash a texts image) C.functions (place_in C placed flash a)
        (return_to C placed flash a) fn place fw.inside (λ n. IsLiveAt fn.ops n f.place) f.temps (frames_of callers) (view_in c t) x.running true need' to w
        value us lt es m (λ q n. n.1 refl)
        (λ n ln d live. (
          k.kept_live n (suc f.place) on (subst (IsLiveAt fn.ops n) (sym z) live.0) (λ q. d (let b : Some to ≡ Some n = sym wr ∙ q in let b' : n ≡ to = cc in b')),
          k.apart to n (suc f.place) wr on (subst (IsLiveAt fn.ops n) (sym z) live.0) lt ln d,
        )) in
        wider C placed flash a texts (total_cost qs) (op_instructions op) used h t (Goes (Stands f' callers base) h) c t (omega arith)
        (makes_goes C placed flash a texts spot used (steps_of qs) (total_cost qs) s1 (s1 + length qs) h h t c t us (Stands f' callers base) some sh.0
        (pc_behind C placed flash a texts image p f callers base c used h t op e x sh) all
        (AtBranch p f' callers base to target condition (fiber_seen c us (spot.at (s1 + length qs)) all.link)
        (subst (λ n. slice_get fn.ops n ≡ Some (Branch to target)) z next) (subst (λ n. joined_by fn n ≡ Some condition) z j)
        (ap decided (entry_here to value f.temps) ∙ says)
        (stands_behind C placed flash a texts p (λ n. IsLiveAt fn.ops n f.place) need' f callers base (start fn place f.place) (start fn place (f.place + 1))
        (s1 + length qs) (f.place + 1) c us all.link (with_entry to value f.temps) x all.long low (sym k.next) run))
        (shared_same C placed flash a texts image p f callers base c used h t op e x sh us eg ea))

  -- what a truth's word says
  truth_says : (value : Value) (s : Bool) → IsTruth value → Means C placed flash a value (bit_of s) → decided value ≡ Gives s
  truth_says value s tr m =
      let q : decided value ≡ Gives tr.0 = ap decided tr.1 ∙ truth_decides tr.0 in
      let r = decided_is (IsText C placed flash a) (IsCode C placed flash a) (are_words C placed flash a texts image) 0 value (bit_of s) tr.0 m q in
      q ∙ ap (λ (b : Bool). Gives b) (r ∙ bit_isnt_0 s)

  module _ (p : Placed) (f : FlatFrame) (callers : List FlatFrame) (base : ℕ) (c : Fiber) (used : ℕ) (h : FlatHeap) (t : Shared)
      (x : IsAt C placed flash a p (λ u. IsLiveAt p.function.ops u f.place) f callers base (start p.function (place_of p.places) f.place) c)
      (sh : IsShared C placed flash a used h t) (condition : ℕ) (j : joined_by p.function (suc f.place) ≡ Some condition) where
    same_op : (o o' : Op) → slice_get p.function.ops f.place ≡ Some o → slice_get p.function.ops f.place ≡ Some o' → o ≡ o'
    same_op o o' r s = let z : Some o ≡ Some o' = sym r ∙ s in cc

    parts : Joins p.function f.place condition
    parts = joined_parts p.function f.place condition j

    -- A COMPARISON OF TWO
    pub compared_binary : (to op left right : ℕ) → (e : slice_get p.function.ops f.place ≡ Some (Binary to op left right))
        → NoFault (after (applied op (f.temps left) (f.temps right)) (λ v. Goes (Stands (given to v f) callers base) h))
        → Owed C placed flash a texts (op_instructions (Binary to op left right)) used h t
        (after (applied op (f.temps left) (f.temps right)) (λ v. Goes (Stands (given to v f) callers base) h)) c t
    compared_binary to op left right e = by (applied op (f.temps left) (f.temps right)) refl
      where
        both : ((to == parts.when) ≡ true) × (condition_of_operator op ≡ Some condition)
        both = if_both (to == parts.when) (condition_of_operator op) condition
            (ap (condition_of parts.when) (same_op (Binary to op left right) parts.op e parts.first) ∙ parts.compares)

        by : (o : Outcome Value) → applied op (f.temps left) (f.temps right) ≡ o → NoFault (after o (λ v. Goes (Stands (given to v f) callers base) h))
            → Owed C placed flash a texts (op_instructions (Binary to op left right)) used h t (after o (λ v. Goes (Stands (given to v f) callers base) h)) c t
        by (Gives value) q nf = (
            let fn = p.function in
            let k = here C placed flash a texts image p f callers base c used h t (Binary to op left right) e x sh in
            let fw = k.within_function in
            let names = (k.op_within).names in
            let ll : left < temporaries fn = (names.1).0 in
            let lr : right < temporaries fn = ((names.1).1).0 in
            let w1 = word C placed flash a texts image p f callers base c used h t (Binary to op left right) e x sh left in
            let w2 = word C placed flash a texts image p f callers base c used h t (Binary to op left right) e x sh right in
            let m1 = word_means C placed flash a texts image p f callers base c used h t (Binary to op left right) e x sh left ll (0, omega arith, refl) in
            let m2 = word_means C placed flash a texts image p f callers base c used h t (Binary to op left right) e x sh right lr (1, omega arith, refl) in
            let v = view_in c t in
            let pa = place_of p.places left in let pb = place_of p.places right in
            let ra = register_of 0 pa in let rb = register_of 1 pb in
            let ia = fw.inside left ll in let ib = fw.inside right lr in
            let u1 = brought 0 pa w1 v in
            let u2 = brought 1 pb w2 u1 in
            let n1 = brought_length pa 0 w1 v.low ∙ x.registers in
            let n2 = brought_length pb 1 w2 u1.low ∙ n1 in
            let e1 = brought_store pa 0 w1 v (omega arith) in
            let not_one = not_scratch fn pa 0 1 (omega arith) (λ e. omega arith) ia in
            let r0 : slice_index u2.low ra ≡ w1 = brought_other pb 1 w2 ra u1.low not_one ∙ brought_word fn pa 0 w1 v (omega arith) ia x.registers refl in
            let r1 : slice_index u2.low rb ≡ w2 = brought_word fn pb 1 w2 u1 (omega arith) ib n1 (ap (get fn pb) e1) in
            let fl = sum_flags w1 (inverted w2) 1 in
            let d = result_in (is_unread fn f.place) (place_of p.places to) in
            let xs = binary fn d ra rb op (3 * f.place + 1) ++ (keeps fn (is_unread fn f.place) (place_of p.places to) ∷ []) in
            let lw = subst (λ y. LeavesWord (IsText C placed flash a) (IsCode C placed flash a) (are_words C placed flash a texts image) 0 y (operated 0 op w1 w2)) q
            (applied_leaves (IsText C placed flash a) (IsCode C placed flash a) (are_words C placed flash a texts image) 0 op (f.temps left) (f.temps right)
            w1 w2 m1 m2) in
            let m : Means C placed flash a value (compared condition w1 w2) = subst (λ n. Means C placed flash a value n) (operated_is 0 w1 w2 op condition both.1) lw in
            let same = tests_same to parts.when both.0 in
            compares_gives p f callers base c used h t (Binary to op left right) e x sh to (compared condition w1 w2) condition parts.target value
            (brings fn 0 pa ∷ (brings fn 1 pb ∷ [])) (CmpReg ra rb) u2 fl
            (ap (λ o. brings fn 0 pa ∷ (brings fn 1 pb ∷ test_pieces o (CmpReg ra rb) xs)) j) (
              u1,
              brings_word C placed flash a texts image p f callers base c used h t (Binary to op left right) e x sh left 0 v ll (0, omega arith, refl) (omega arith) refl,
              (u2, brings_word C placed flash a texts image p f callers base c used h t (Binary to op left right) e x sh right 1 u1 lr (1, omega arith, refl) (omega arith) e1, refl),
            )
            (OfInstr (CmpReg ra rb) u2 (record u2 { flags = fl }) refl (Quiet (CmpReg ra rb) u2 u2.low fl (λ next pc s. rw r0 (rw r1 refl))))
            (brought_store pb 1 w2 u1 (omega arith) ∙ e1) refl refl n2 refl (0, omega arith, refl) names.0 j
            (subst (λ n. slice_get fn.ops (suc f.place) ≡ Some (Branch n parts.target)) same parts.second) m
            (truth_says value (holds fl condition) (compares_truth (f.temps left) (f.temps right) value op condition both.1 q) m))
        by (Breaks code) q nf = absurd (
            let k = here C placed flash a texts image p f callers base c used h t (Binary to op left right) e x sh in
            let names = (k.op_within).names in
            let m1 = word_means C placed flash a texts image p f callers base c used h t (Binary to op left right) e x sh left (names.1).0 (0, omega arith, refl) in
            let m2 = word_means C placed flash a texts image p f callers base c used h t (Binary to op left right) e x sh right ((names.1).1).0 (1, omega arith, refl) in
            subst (λ y. LeavesWord (IsText C placed flash a) (IsCode C placed flash a) (are_words C placed flash a texts image) 0 y (operated 0 op
            (word C placed flash a texts image p f callers base c used h t (Binary to op left right) e x sh left) (word C placed flash a texts image p f callers base c used h t (Binary to op left right) e x sh right))) q
            (applied_leaves (IsText C placed flash a) (IsCode C placed flash a) (are_words C placed flash a texts image) 0 op (f.temps left) (f.temps right) _ _ m1 m2))
        by Stuck q nf = absurd nf

    -- `!`
    pub compared_unary : (to op from : ℕ) → (e : slice_get p.function.ops f.place ≡ Some (Unary to op from))
        → NoFault (after (prefixed_by op (f.temps from)) (λ v. Goes (Stands (given to v f) callers base) h))
        → Owed C placed flash a texts (op_instructions (Unary to op from)) used h t
        (after (prefixed_by op (f.temps from)) (λ v. Goes (Stands (given to v f) callers base) h)) c t
    compared_unary to op from e = by (prefixed_by op (f.temps from)) refl
      where
        both : (((to == parts.when) && (op == 3)) ≡ true) × (◌≡◌ {A = Option ℕ} (Some 0) (Some condition))
        both = if_both ((to == parts.when) && (op == 3)) (Some 0) condition
            (ap (condition_of parts.when) (same_op (Unary to op from) parts.op e parts.first) ∙ parts.compares)

        is_not : op ≡ 3
        is_not = let y = (and_parts (to == parts.when) (op == 3) both.0).1 in grind (arith, nat_tests)

        is_equal : 0 ≡ condition
        is_equal = let y = both.1 in cc

        by : (o : Outcome Value) → prefixed_by op (f.temps from) ≡ o → NoFault (after o (λ v. Goes (Stands (given to v f) callers base) h))
            → Owed C placed flash a texts (op_instructions (Unary to op from)) used h t (after o (λ v. Goes (Stands (given to v f) callers base) h)) c t
        by (Gives value) q nf = (
            let fn = p.function in
            let k = here C placed flash a texts image p f callers base c used h t (Unary to op from) e x sh in
            let fw = k.within_function in
            let names = (k.op_within).names in
            let lf : from < temporaries fn = (names.1).0 in
            let w = word C placed flash a texts image p f callers base c used h t (Unary to op from) e x sh from in
            let m1 = word_means C placed flash a texts image p f callers base c used h t (Unary to op from) e x sh from lf (0, omega arith, refl) in
            let v = view_in c t in
            let pf = place_of p.places from in
            let r = register_of 0 pf in
            let u = brought 0 pf w v in
            let r0 : slice_index u.low r ≡ w = brought_word fn pf 0 w v (omega arith) (fw.inside from lf) x.registers refl in
            let fl = sum_flags w (inverted 0) 1 in
            let d = result_in (is_unread fn f.place) (place_of p.places to) in
            let xs = unary fn d r op (3 * f.place + 1) ++ (keeps fn (is_unread fn f.place) (place_of p.places to) ∷ []) in
            let q3 : prefixed_by 3 (f.temps from) ≡ Gives value = subst (λ n. prefixed_by n (f.temps from) ≡ Gives value) is_not q in
            let lw = subst (λ y. LeavesWord (IsText C placed flash a) (IsCode C placed flash a) (are_words C placed flash a texts image) 0 y (prefix_word 3 w)) q3
            (applied_before_leaves (IsText C placed flash a) (IsCode C placed flash a) (are_words C placed flash a texts image) 0 3 (f.temps from) w m1
            (λ z. omega arith) (λ z. omega arith)) in
            let m : Means C placed flash a value (compared condition w 0) = subst (λ n. Means C placed flash a value (compared n w 0)) is_equal lw in
            let same = tests_same to parts.when (and_parts (to == parts.when) (op == 3) both.0).0 in
            compares_gives p f callers base c used h t (Unary to op from) e x sh to (compared condition w 0) condition parts.target value
            (brings fn 0 pf ∷ []) (CmpImm r 0) u fl
            (ap (λ o. brings fn 0 pf ∷ test_pieces o (CmpImm r 0) xs) j)
            (u, brings_word C placed flash a texts image p f callers base c used h t (Unary to op from) e x sh from 0 v lf (0, omega arith, refl) (omega arith) refl, refl)
            (OfInstr (CmpImm r 0) u (record u { flags = fl }) refl (Quiet (CmpImm r 0) u u.low fl (λ next pc s. rw r0 refl)))
            (brought_store pf 0 w v (omega arith)) refl refl (brought_length pf 0 w v.low ∙ x.registers) refl (0, omega arith, refl) names.0 j
            (subst (λ n. slice_get fn.ops (suc f.place) ≡ Some (Branch n parts.target)) same parts.second) m
            (truth_says value (holds fl condition) (of_one (whole (f.temps from)) (λ n. int_eq n (pos 0)) value q3) m))
        by (Breaks code) q nf = absurd (
            let k = here C placed flash a texts image p f callers base c used h t (Unary to op from) e x sh in
            let names = (k.op_within).names in
            let m1 = word_means C placed flash a texts image p f callers base c used h t (Unary to op from) e x sh from (names.1).0 (0, omega arith, refl) in
            let q3 : prefixed_by 3 (f.temps from) ≡ Breaks code = subst (λ n. prefixed_by n (f.temps from) ≡ Breaks code) is_not q in
            subst (λ y. LeavesWord (IsText C placed flash a) (IsCode C placed flash a) (are_words C placed flash a texts image) 0 y (prefix_word 3
            (word C placed flash a texts image p f callers base c used h t (Unary to op from) e x sh from))) q3
            (applied_before_leaves (IsText C placed flash a) (IsCode C placed flash a) (are_words C placed flash a texts image) 0 3 (f.temps from) _ m1
            (λ z. omega arith) (λ z. omega arith)))
        by Stuck q nf = absurd nf
