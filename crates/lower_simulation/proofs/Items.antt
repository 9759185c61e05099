-- A turn of a loop over items is followed.
use Rattle.std.proofs.Common.{◌≡◌, ◌≢◌, ℕ, suc, ◌+◌, ◌<◌, ◌≤◌, inl, ⊎_elim, List, [], length, Option, Some, None, Bool, true, false, refl, sym, ap, ◌∙◌, subst, arith}
use Rattle.std.specs.Prelude.{ℤ, pos, negsuc, ◌+ℤ◌, if◌then◌else◌, nat_eq, int_lt, option_map}
use Rattle.std.proofs.lemmas.Bool.Decides.{eqb_tells}
use Rattle.board_world.specs.Panics.{index_panic}
use Rattle.board_world.specs.Observations.{ByteList}
use Rattle.board_world.specs.Kinds.{Turn, Goes, Panics}
use Rattle.board_world.specs.Sound.{NoFault}
use Rattle.flat_ir.specs.declared.ops.Op.{Op}
use Rattle.flat_ir.specs.declared.ops.Op.TheVariants as o
use Rattle.sts_syntax.specs.TypedTrees.{TypedStatement, TypedProgram}
use Rattle.sts_syntax.specs.TypeRules.{entry}
use Rattle.sts_syntax.specs.WellTypedPrograms.{is_maker}
use Rattle.sts_syntax.specs.Types.{ValueType}
use Rattle.sts_meaning.specs.Values.{truth, Value, Whole, Object, Text, Code, Outcome, Gives, Breaks, then_gives, to_int32, applied, decided, with_entry}
use Rattle.sts_meaning.specs.Heaps.{FlatHeap, Heap, read_item, length_at, next_item, next_at, array_at, item_at, found, RowOf}
use Rattle.sts_meaning.specs.Continuation.{Continuation, Each, runs}
use Rattle.sts_meaning.specs.Frames.{Names, Frame, Activity, Runs, after, with_local}
use Rattle.sts_meaning.specs.Steps as source
use Rattle.sts_implements.specs.Forgotten.{forget}
use Rattle.sts_implements.proofs.Laws.{AreRows, array_agrees}
use Rattle.flat_meaning.specs.Operators.{prefixed_by}
use Rattle.flat_meaning.specs.Frames.{FlatFrame, FlatActivity, Stands, words, depth_of}
use Rattle.flat_meaning.specs.Steps as flat
use Rattle.sts_lower.specs.Sizes.{item_size}
use Rattle.sts_lower.specs.Lowered.{lowered, repeating}
use Rattle.lowered_code.specs.Fine.{IsFine}
use Rattle.lower_simulation.specs.Places.{Marks, HasAt}
use Rattle.std.specs.List.{AllZip}
use Rattle.lower_simulation.specs.Tied.{Shows, fetched, NearIn, FrameWaits}
use Rattle.lower_simulation.proofs.Lying.{LiesIn}
use Rattle.lower_simulation.specs.Limits.{IsLight}
use Rattle.lower_simulation.proofs.Temporaries.{entry_same, entry_other, shows_above, shows_local}
use Rattle.lowered_code.proofs.Laws.{entry_within}
use Rattle.lower_simulation.proofs.Turns.{Match, going, Makes, within, same_turn, same_fault, last_op, then_ops, then_after}
use Rattle.lower_simulation.proofs.Operators.{after_then, below_true, below_false, negative_true, agree_with, entry_none}
use Rattle.lower_simulation.proofs.Statements.{each_code}

module _ (P : TypedProgram) (texts : List ByteList) (fine : IsFine P) (weight : FlatActivity → FlatHeap → ℕ) (light : IsLight (lowered P) weight) where
  abbrev M : ℕ → Heap → Turn Activity Heap → Turn FlatActivity FlatHeap → Type 0
  M used h u v = Match P texts weight light used h u v

  abbrev Mk : ℕ → ℕ → Heap → Turn Activity Heap → FlatActivity → FlatHeap → Type 0
  Mk n used h u b t = Makes P texts weight light n used h u b t

  abbrev fr : ℕ → ℕ → (ℕ → Value) → FlatFrame
  fr j place temps = record { function = j; place = place; temps = temps }

  module _ (used : ℕ) (h : Heap) (f j : ℕ) (n : Names) (callers : List Frame) (waiting : List FlatFrame) (base depth params locals : ℕ) (deep : words (lowered P) j ≡ source.words P texts f)
      (wait : AllZip (FrameWaits P texts) callers waiting) (deepness : depth ≡ base + (words (lowered P) j + depth_of (lowered P) waiting)) (this : is_maker P.classes f ≡ true → 0 < params) where
    abbrev fetch : ℕ → Option Op
    fetch pc = fetched P texts j pc

    abbrev here : ℕ → (ℕ → Value) → FlatActivity
    here pc temps = Stands (fr j pc temps) waiting base

    abbrev at_op : FlatHeap → ℕ → (ℕ → Value) → Op → Turn FlatActivity FlatHeap
    at_op t pc temps op = flat.act (lowered P) texts t (fr j pc temps) waiting base op

    abbrev now_with : Names → List Value → Continuation → Activity
    now_with m vs k = Runs (record { function = f; names = m; values = vs; todo = k }) callers base depth

    abbrev By : Continuation → ℕ → Marks → Type 0
    By k pc p = NearIn P texts f j params locals k pc p

    abbrev Sh : Names → Marks → List Value → (ℕ → Value) → Type 0
    Sh m p vs temps = Shows params locals m p vs temps

    goes : (m : Names) (p : Marks) (vs : List Value) (k : Continuation) (pc : ℕ) (temps : ℕ → Value) → Sh m p vs temps → By k pc p → M used h (Goes (now_with m vs k) h) (Goes (here pc temps) (forget h))
    goes m p vs k pc temps shows near =
        going P texts weight light used h h (forget h) (now_with m vs k) (here pc temps) refl (record { params = params; locals = locals; marks = p; words = deep; this = this; shows = shows; near = near }, wait, refl, deepness)

    -- locals that are set in the other order
    shows_names : (m m' : Names) (q : Marks) (vs : List Value) (temps : ℕ → Value) → ((i : ℕ) → m.params i ≡ m'.params i) → ((i : ℕ) → m.locals i ≡ m'.locals i) → Sh m q vs temps → Sh m' q vs temps
    shows_names m m' q vs temps ep el shows = record { of_params = λ i lt. shows.of_params i lt ∙ ep i; of_locals = λ i lt. shows.of_locals i lt ∙ el i; pending = shows.pending }

    swapped : (i k : ℕ) (v w : Value) (m : ℕ → Value) → i ≢ k → (x : ℕ) → with_entry k w (with_entry i v m) x ≡ with_entry i v (with_entry k w m) x
    swapped i k v w m ne x =
        ⊎_elim
        (λ y. let e : with_entry k w (with_entry i v m) x ≡ w = ap (λ b. if b then w else with_entry i v m x) y.0 in
        let d : x ≢ i = λ z. ne (sym z ∙ y.1) in
        e ∙ sym (entry_other i x v (with_entry k w m) d ∙ ap (λ b. if b then w else m x) y.0))
        (λ y. let e : with_entry k w (with_entry i v m) x ≡ with_entry i v m x = ap (λ b. if b then w else with_entry i v m x) y.0 in
        let d : with_entry k w m x ≡ m x = ap (λ b. if b then w else m x) y.0 in
        e ∙ sym (ap (λ z. if nat_eq x i then v else z) d))
        (eqb_tells x k)

    -- a turn of a loop over items, or its end
    module _ (i : ℕ) (a : TypedStatement) (k : Continuation) (vs : List Value) (pc next : ℕ) (temps : ℕ → Value) (shows : Sh n [] vs temps) (name : suc (suc i) < locals)
        (has : HasAt fetch pc (each_code P.classes (repeating P) params locals (is_maker P.classes f) i a pc next))
        (there : LiesIn P texts f j params locals k next []) (near : By (runs (is_maker P.classes f) a k (Each i a k) (Each i a k)) (pc + item_size) []) where
      abbrev d : ℕ
      d = params + locals + 0

      abbrev tl : ℕ
      tl = params + suc i

      abbrev ti : ℕ
      ti = params + suc (suc i)

      abbrev list : Value
      list = n.locals (suc i)

      abbrev index : Value
      index = n.locals (suc (suc i))

      list_is : temps tl ≡ list
      list_is = shows.of_locals (suc i) (omega arith)

      index_is : temps ti ≡ index
      index_is = shows.of_locals (suc (suc i)) name

      abbrev goes_item : Option (ℕ × Value) → Turn Activity Heap
      goes_item x = source.takes_item P texts h f n callers base depth i a vs k x

      -- behind the first op the length is the first operand, and behind the second one whether the index is below it
      abbrev first_temps : ℕ → ℕ → Value
      first_temps l = with_entry d (Whole (pos l)) temps

      abbrev second_temps : Value → ℕ → ℕ → Value
      second_temps w l = with_entry d w (first_temps l)

      kept : (w : Value) (l t : ℕ) → t < params + locals → second_temps w l t ≡ temps t
      kept w l t lt = let ne : t ≢ d = λ e. omega arith in entry_other d t w (first_temps l) ne ∙ entry_other d t (Whole (pos l)) temps ne

      shown : (w : Value) (l : ℕ) → Sh n [] vs (second_temps w l)
      shown w l =
          let le : params + locals + 0 ≤ d = omega arith in
          shows_above params locals n [] vs (first_temps l) d w le (shows_above params locals n [] vs temps d (Whole (pos l)) le shows)

      compared : (m : ℤ) (l : ℕ) (c : Bool) → index ≡ Whole m → int_lt m (pos l) ≡ c
          → at_op (forget h) (pc + 1) (first_temps l) (o.Binary d 6 ti d) ≡ Goes (here (pc + 1 + 1) (second_temps (truth c) l)) (forget h)
      compared m l c is lt =
          let ne : ti ≢ d = λ e. omega arith in
          ap (λ v. after (applied 6 v (first_temps l d)) (λ v. Goes (here (pc + 1 + 1) (second_temps v l)) (forget h))) (entry_other d ti (Whole (pos l)) temps ne ∙ index_is ∙ is)
          ∙ ap (λ v. after (applied 6 (Whole m) v) (λ v. Goes (here (pc + 1 + 1) (second_temps v l)) (forget h))) (entry_same d (Whole (pos l)) temps)
          ∙ ap (λ b. Goes (here (pc + 1 + 1) (second_temps (truth b) l)) (forget h)) lt

      branched : (w : Value) (l : ℕ) (c : Bool) → decided w ≡ Gives c
          → at_op (forget h) (pc + 1 + 1) (second_temps w l) (o.Branch d (pc + 1 + 1 + 1 + 1)) ≡ Goes (here (if c then pc + 1 + 1 + 1 + 1 else pc + 1 + 1 + 1) (second_temps w l)) (forget h)
      branched w l c e =
          ap (λ v. after (decided v) (λ b. Goes (here (if b then pc + 1 + 1 + 1 + 1 else pc + 1 + 1 + 1) (second_temps w l)) (forget h))) (entry_same d w (first_temps l))
          ∙ ap (λ x. after x (λ b. Goes (here (if b then pc + 1 + 1 + 1 + 1 else pc + 1 + 1 + 1) (second_temps w l)) (forget h))) e

      -- the end of the loop
      loop_ends : (m l : ℕ) → index ≡ Whole (pos m) → l ≤ m → Mk 368 used h (Goes (now_with n vs k) h) (here (pc + 1) (first_temps l)) (forget h)
      loop_ends m l is le =
          let w = Whole (pos 0) in
          then_ops P texts weight light 48 used h _ (fr j (pc + 1) (first_temps l)) waiting base (forget h) (o.Binary d 6 ti d) (here (pc + 1 + 1) (second_temps w l)) (forget h) has.1.0 (compared (pos m) l false is (below_false m l le))
          (then_ops P texts weight light 24 used h _ (fr j (pc + 1 + 1) (second_temps w l)) waiting base (forget h) (o.Branch d (pc + 1 + 1 + 1 + 1)) (here (pc + 1 + 1 + 1) (second_temps w l)) (forget h) has.1.1.0 (branched w l false refl)
          (last_op P texts weight light used h (Goes (now_with n vs k) h) (fr j (pc + 1 + 1 + 1) (second_temps w l)) waiting base (forget h) (o.Jump next) has.1.1.1.0 (goes n [] vs k next (second_temps w l) (shown w l) (inl there))))

      abbrev moved : ℕ → Value
      moved m = Whole (to_int32 (pos m +ℤ pos 1))

      abbrev item_temps : Value → ℕ → ℕ → Value
      item_temps v l = with_entry (params + i) v (second_temps (Whole (pos 1)) l)

      item_there : (m : ℤ) (l : ℕ) (x : Outcome Value) → index ≡ Whole m → int_lt m (pos l) ≡ true → read_item (forget h) list (Whole m) ≡ x → (u : Turn Activity Heap) (nn : ℕ)
          → ((to_item : at_op (forget h) (pc + 1 + 1 + 1 + 1) (second_temps (Whole (pos 1)) l) (o.ItemGet (params + i) tl ti) ≡ after x (λ v. Goes (here (pc + 1 + 1 + 1 + 1 + 1) (item_temps v l)) (forget h)))
          → Mk nn used h u (here (pc + 1 + 1 + 1 + 1) (second_temps (Whole (pos 1)) l)) (forget h))
          → Mk (320 + (24 + nn)) used h u (here (pc + 1) (first_temps l)) (forget h)
      item_there m l x is lt e u nn go =
          let w = Whole (pos 1) in
          let to_item : at_op (forget h) (pc + 1 + 1 + 1 + 1) (second_temps w l) (o.ItemGet (params + i) tl ti) ≡ after x (λ v. Goes (here (pc + 1 + 1 + 1 + 1 + 1) (item_temps v l)) (forget h)) =
          ap (λ z. after (read_item (forget h) z (second_temps w l ti)) (λ v. Goes (here (pc + 1 + 1 + 1 + 1 + 1) (item_temps v l)) (forget h))) (kept w l tl (omega arith) ∙ list_is)
          ∙ ap (λ z. after (read_item (forget h) list z) (λ v. Goes (here (pc + 1 + 1 + 1 + 1 + 1) (item_temps v l)) (forget h))) (kept w l ti (omega arith) ∙ index_is ∙ is)
          ∙ ap (λ z. after z (λ v. Goes (here (pc + 1 + 1 + 1 + 1 + 1) (item_temps v l)) (forget h))) e in
          then_ops P texts weight light (24 + nn) used h u (fr j (pc + 1) (first_temps l)) waiting base (forget h) (o.Binary d 6 ti d) (here (pc + 1 + 1) (second_temps w l)) (forget h) has.1.0 (compared m l true is lt)
          (then_ops P texts weight light nn used h u (fr j (pc + 1 + 1) (second_temps w l)) waiting base (forget h) (o.Branch d (pc + 1 + 1 + 1 + 1)) (here (pc + 1 + 1 + 1 + 1) (second_temps w l)) (forget h) has.1.1.0 (branched w l true refl)
          (go to_item))

      -- the next item
      loop_goes_on : (m l : ℕ) (v : Value) → index ≡ Whole (pos m) → m < l → read_item (forget h) list (Whole (pos m)) ≡ Gives v → Mk 432 used h (goes_item (Some (m, v))) (here (pc + 1) (first_temps l)) (forget h)
      loop_goes_on m l v is lt e =
          item_there (pos m) l (Gives v) is (below_true m l lt) e (goes_item (Some (m, v))) 88
          (λ to_item.
          let ne : ti ≢ params + i = λ e. omega arith in
          let at_i : item_temps v l ti ≡ Whole (pos m) = entry_other (params + i) ti v (second_temps (Whole (pos 1)) l) ne ∙ kept (Whole (pos 1)) l ti (omega arith) ∙ index_is ∙ is in
          let to_next : at_op (forget h) (pc + 1 + 1 + 1 + 1 + 1) (item_temps v l) (o.Unary ti 5 ti) ≡ Goes (here (pc + 1 + 1 + 1 + 1 + 1 + 1) (with_entry ti (moved m) (item_temps v l))) (forget h) =
          ap (λ z. after (prefixed_by 5 z) (λ v'. Goes (here (pc + 1 + 1 + 1 + 1 + 1 + 1) (with_entry ti v' (item_temps v l))) (forget h))) at_i in
          let names = with_local i v (with_local (suc (suc i)) (moved m) n) in
          let one = shows_local params locals i n [] v vs (second_temps (Whole (pos 1)) l) (omega arith) (shown (Whole (pos 1)) l) in
          let two = shows_local params locals (suc (suc i)) (with_local i v n) [] (moved m) vs (item_temps v l) name one in
          let apart : i ≢ suc (suc i) = λ e. omega arith in
          let swap : Sh names [] vs (with_entry ti (moved m) (item_temps v l)) = shows_names (with_local (suc (suc i)) (moved m) (with_local i v n)) names [] vs (with_entry ti (moved m) (item_temps v l)) (λ x. refl) (swapped i (suc (suc i)) v (moved m) n.locals apart) two in
          let place : pc + item_size ≡ pc + 1 + 1 + 1 + 1 + 1 + 1 = omega arith in
          let near' = subst (λ x. By (runs (is_maker P.classes f) a k (Each i a k) (Each i a k)) x []) place near in
          then_ops P texts weight light 32 used h (goes_item (Some (m, v))) (fr j (pc + 1 + 1 + 1 + 1) (second_temps (Whole (pos 1)) l)) waiting base (forget h) (o.ItemGet (params + i) tl ti) (here (pc + 1 + 1 + 1 + 1 + 1) (item_temps v l)) (forget h) has.1.1.1.1.0 to_item
          (last_op P texts weight light used h (goes_item (Some (m, v))) (fr j (pc + 1 + 1 + 1 + 1 + 1) (item_temps v l)) waiting base (forget h) (o.Unary ti 5 ti) has.1.1.1.1.1.0
          (subst (λ z. M used h (goes_item (Some (m, v))) z) (sym to_next)
          (goes names [] vs (runs (is_maker P.classes f) a k (Each i a k) (Each i a k)) (pc + 1 + 1 + 1 + 1 + 1 + 1) (with_entry ti (moved m) (item_temps v l)) swap near'))))

      -- an index before the first item
      loop_breaks : (m l : ℕ) → index ≡ Whole (negsuc m) → read_item (forget h) list (Whole (negsuc m)) ≡ Breaks index_panic → Mk 432 used h (Panics index_panic) (here (pc + 1) (first_temps l)) (forget h)
      loop_breaks m l is e =
          within P texts weight light 400 432 used h _ _ _ (omega arith)
          (item_there (negsuc m) l (Breaks index_panic) is (negative_true m l) e (Panics index_panic) 56
          (λ to_item. last_op P texts weight light used h (Panics index_panic) (fr j (pc + 1 + 1 + 1 + 1) (second_temps (Whole (pos 1)) l)) waiting base (forget h) (o.ItemGet (params + i) tl ti) has.1.1.1.1.0 (subst (λ z. M used h (Panics index_panic) z) (sym to_item) refl)))

      reads : (q : RowOf (Unit {0})) (ix : Value) → array_at (forget h) list ≡ Gives q → read_item (forget h) list ix ≡ then_gives (item_at q.items ix) (λ x. Gives x.1)
      reads q ix e = ap (λ x. then_gives x (λ (r : RowOf (Unit {0})). then_gives (item_at r.items ix) (λ x. Gives x.1))) e

      by_entry : (m : ℕ) (r : RowOf ValueType) (q : RowOf (Unit {0})) (x : Option Value) → index ≡ Whole (pos m) → r.items ≡ q.items → array_at (forget h) list ≡ Gives q → entry r.items m ≡ x
          → Mk 432 used h (goes_item (option_map (λ v. (m, v)) x)) (here (pc + 1) (first_temps (length q.items))) (forget h)
      by_entry m r q None is same at e =
          let past : length q.items ≤ m = entry_none q.items m (ap (λ (vs : List Value). entry vs m) (sym same) ∙ e) in
          within P texts weight light 368 432 used h _ _ _ (omega arith) (loop_ends m (length q.items) is past)
      by_entry m r q (Some v) is same at e =
          let e' : entry q.items m ≡ Some v = ap (λ (vs : List Value). entry vs m) (sym same) ∙ e in
          loop_goes_on m (length q.items) v is (entry_within q.items m v e') (reads q (Whole (pos m)) at ∙ ap (λ x. then_gives (found m x) (λ x. Gives x.1)) e')

      by_index : (ix : Value) → index ≡ ix → (r : RowOf ValueType) (q : RowOf (Unit {0})) → r.items ≡ q.items → array_at (forget h) list ≡ Gives q → NoFault (after (next_at r.items ix) goes_item)
          → Mk 432 used h (after (next_at r.items ix) goes_item) (here (pc + 1) (first_temps (length q.items))) (forget h)
      by_index (Whole (pos m)) is r q same at nf = by_entry m r q (entry r.items m) is same at refl
      by_index (Whole (negsuc m)) is r q same at nf = loop_breaks m (length q.items) is (reads q (Whole (negsuc m)) at)
      by_index (Object x) is r q same at nf = absurd nf
      by_index (Text x) is r q same at nf = absurd nf
      by_index (Code x) is r q same at nf = absurd nf

      pub turn_follows : NoFault (after (next_item h list index) goes_item) → Mk 464 used h (after (next_item h list index) goes_item) (here pc temps) (forget h)
      turn_follows nf =
          let split = after_then (array_at h list) (λ r. next_at r.items index) goes_item in
          let whole_turn = after (array_at h list) (λ r. after (next_at r.items index) goes_item) in
          let to : at_op (forget h) pc temps (o.Length d tl) ≡ after (array_at (forget h) list) (λ q. Goes (here (pc + 1) (first_temps (length q.items))) (forget h)) =
          ap (λ z. after (length_at (forget h) z) (λ v. Goes (here (pc + 1) (with_entry d v temps)) (forget h))) list_is
          ∙ after_then (array_at (forget h) list) (λ (q : RowOf (Unit {0})). Gives (Whole (pos (length q.items)))) (λ v. Goes (here (pc + 1) (with_entry d v temps)) (forget h)) in
          same_turn P texts weight light 464 used h (after (next_item h list index) goes_item) whole_turn _ _ split
          (then_after P texts weight light (λ r q. AreRows r q × (array_at h list ≡ Gives r) × (array_at (forget h) list ≡ Gives q)) 432 used h (array_at h list) (array_at (forget h) list) (λ r. after (next_at r.items index) goes_item)
          (λ q. here (pc + 1) (first_temps (length q.items))) (λ q. forget h) (fr j pc temps) waiting base (forget h) (o.Length d tl) has.0 to (agree_with AreRows (array_at h list) (array_at (forget h) list) (array_agrees h list))
          (same_fault P texts weight light _ whole_turn split nf) (λ r q e ok. by_index index refl r q e.0.items e.2 ok))
