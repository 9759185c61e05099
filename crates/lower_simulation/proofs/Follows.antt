-- Flat code follows the source, word by word.
use Rattle.std.proofs.Common.{◌≡◌, ◌≢◌, ℕ, suc, ◌+◌, ◌-◌, ◌<◌, ◌≤◌, inl, inr, ⊎_elim, List, [], ◌∷◌, length, map, min, Option, Some, None, Bool, true, false, refl, sym, ap, ◌∙◌, subst, arith}
use Rattle.std.specs.Prelude.{ℤ, ◌+ℤ◌, if◌then◌else◌, ◌==◌}
use Rattle.board_world.specs.Limits.{arena_limit}
use Rattle.board_world.specs.Observations.{ByteList}
use Rattle.board_world.specs.Kinds.{Turn, Goes, Takes}
use Rattle.board_world.specs.Requests.{asked}
use Rattle.board_world.specs.declared.requests.Request.{Request}
use Rattle.board_world.specs.Sound.{NoFault}
use Rattle.flat_ir.specs.declared.ops.Op.{Op}
use Rattle.flat_ir.specs.declared.ops.Op.TheVariants as o
use Rattle.flat_ir.specs.declared.ops.FlatClass.{FlatClass}
use Rattle.sts_syntax.specs.declared.typed.Spot.{Spot}
use Rattle.sts_syntax.specs.declared.typed.Spot.TheVariants.{Param, Local, Global}
use Rattle.sts_syntax.specs.TypedTrees.{ClassEntry, TypedProgram}
use Rattle.sts_syntax.specs.Measures.{object_words, array_words}
use Rattle.sts_syntax.specs.TypeRules.{entry, IsOneOf, IsOne}
use Rattle.sts_syntax.specs.WellTypedPrograms.{is_maker}
use Rattle.sts_meaning.specs.Values.{Value, Whole, Object, Text, Code, default, Outcome, Gives, Breaks, Stuck, then_gives, there, to_int32, applied, applied_before, bumped, Bumped, decided, with_entry}
use Rattle.sts_meaning.specs.Heaps.{FlatHeap, Heap, Fields, with_cell, write_global, object_at, read_field, write_field, read_item, write_item, length_at, pushed, popped}
use Rattle.sts_meaning.specs.Services.{requested}
use Rattle.sts_meaning.specs.Continuation.{Continuation, Put, Get, Store, Drop, Unary, Apply, Choose, Both, Either, Read, Peek, Write, At, PeekAt, SetAt, Bump, BumpField, BumpAt, Measure, Push, Pop, Open, Append, New, Build, Invoke, Send, Ask, Repeat, Again, Each, Leave, Give, Round, Impossible, runs}
use Rattle.sts_meaning.specs.Frames.{Names, Frame, Activity, Starts, Runs, after, grown, taken, named, with_local, with_param, stored, defaults, answered, round}
use Rattle.sts_meaning.specs.Steps as source
use Rattle.sts_implements.specs.Forgotten.{forget}
use Rattle.sts_implements.proofs.Laws.{Agree, after_matches, agree_then, agree_same, IsForgotten, ArePushed, ArePopped, object_agrees, read_field_agrees, write_field_agrees, read_item_agrees, write_item_agrees, pushed_agrees, popped_agrees, length_agrees, new_agrees, open_agrees, write_global_agrees}
use Rattle.flat_meaning.specs.Operators.{prefixed_by, answers, zeros}
use Rattle.flat_meaning.specs.Frames.{FlatFrame, FlatActivity, Enters, Stands, words, result_of, depth_of}
use Rattle.flat_meaning.specs.Steps as flat
use Rattle.sts_lower.specs.Sizes.{ToName, ToField, ToItem, bump_size}
use Rattle.sts_lower.specs.Code.{bump_code, get_op, set_op, bump_op, unbump_op, bumped_op, maker_of, span}
use Rattle.sts_lower.specs.Lowered.{lowered, repeating, repeated_in_program, flat_class, flat_classes}
use Rattle.lowered_code.specs.Fine.{IsThere, IsFine}
use Rattle.lower_simulation.specs.Places.{Marks, Marked, IsAbove, IsProper, HasAt}
use Rattle.std.specs.List.{AllZip}
use Rattle.lower_simulation.specs.Tied.{Shows, CodeTied, fetched, NearIn, FrameWaits, Tied}
use Rattle.lower_simulation.proofs.Lying.{LiesIn, FrameTied}
use Rattle.lower_simulation.specs.Limits.{limit, IsLight}
use Rattle.lower_simulation.proofs.Requests.{AllAmong, all_among}
use Rattle.lower_simulation.proofs.Statements.{statement_at, turn_at, each_at}
use Rattle.lower_simulation.proofs.Temporaries.{entry_same, entry_other, shows_rest, shows_above, shows_put, shows_param, shows_local, Taking, takes, marked}
use Rattle.lower_simulation.proofs.Functions.{maker_is, classes_agree, zeros_are}
use Rattle.lower_simulation.proofs.Turns.{Match, going, asked_matches, grown_matches, Makes, within, same_turn, same_fault, last_op, then_ops, then_after}
use Rattle.lower_simulation.proofs.Operators.{unary_is, after_then, bumps_to, unbumps_to}
use Rattle.lower_simulation.proofs.Starting.{called_matches, round_lies, starts_follow}
use Rattle.lower_simulation.proofs.Items.{turn_follows}

module _ (P : TypedProgram) (texts : List ByteList) (fine : IsFine P) (weight : FlatActivity → FlatHeap → ℕ) (light : IsLight (lowered P) weight) where
  abbrev M : ℕ → Heap → Turn Activity Heap → Turn FlatActivity FlatHeap → Type 0
  M used h u v = Match P texts weight light used h u v

  abbrev Mk : ℕ → ℕ → Heap → Turn Activity Heap → FlatActivity → FlatHeap → Type 0
  Mk n used h u b t = Makes P texts weight light n used h u b t

  abbrev fr : ℕ → ℕ → (ℕ → Value) → FlatFrame
  fr j place temps = record { function = j; place = place; temps = temps }

  module _ (used : ℕ) (h : Heap) (f j : ℕ) (n : Names) (callers : List Frame) (waiting : List FlatFrame) (base depth params locals : ℕ) (deep : words (lowered P) j ≡ source.words P texts f)
      (wait : AllZip (FrameWaits P texts) callers waiting) (deepness : depth ≡ base + (words (lowered P) j + depth_of (lowered P) waiting)) (this : is_maker P.classes f ≡ true → 0 < params) where
    abbrev fetch : ℕ → Option Op
    fetch pc = fetched P texts j pc

    abbrev here : ℕ → (ℕ → Value) → FlatActivity
    here pc temps = Stands (fr j pc temps) waiting base

    abbrev at_op : FlatHeap → ℕ → (ℕ → Value) → Op → Turn FlatActivity FlatHeap
    at_op t pc temps op = flat.act (lowered P) texts t (fr j pc temps) waiting base op

    abbrev now_with : Names → List Value → Continuation → Activity
    now_with m vs k = Runs (record { function = f; names = m; values = vs; todo = k }) callers base depth

    abbrev sact : Continuation → List Value → Turn Activity Heap
    sact k vs = source.act P texts h f n callers base depth k vs

    abbrev By : Continuation → ℕ → Marks → Type 0
    By k pc p = NearIn P texts f j params locals k pc p

    abbrev Sh : Names → Marks → List Value → (ℕ → Value) → Type 0
    Sh m p vs temps = Shows params locals m p vs temps

    goes_on : (m : Names) (p : Marks) (vs : List Value) (k : Continuation) (pc : ℕ) (temps : ℕ → Value) → Sh m p vs temps → By k pc p → Tied P texts (now_with m vs k) (here pc temps)
    goes_on m p vs k pc temps shows near = (record { params = params; locals = locals; marks = p; words = deep; this = this; shows = shows; near = near }, wait, refl, deepness)

    goes : (m : Names) (p : Marks) (vs : List Value) (k : Continuation) (pc : ℕ) (temps : ℕ → Value) (h' : Heap) (t' : FlatHeap) → forget h' ≡ t' → Sh m p vs temps → By k pc p → M used h (Goes (now_with m vs k) h') (Goes (here pc temps) t')
    goes m p vs k pc temps h' t' e shows near = going P texts weight light used h h' t' (now_with m vs k) (here pc temps) e (goes_on m p vs k pc temps shows near)

    last : (u : Turn Activity Heap) (pc : ℕ) (temps : ℕ → Value) (t : FlatHeap) (op : Op) → fetch pc ≡ Some op → M used h u (at_op t pc temps op) → Mk (limit op) used h u (here pc temps) t
    last u pc temps t op e m = last_op P texts weight light used h u (fr j pc temps) waiting base t op e m

    wide : (m k : ℕ) (u : Turn Activity Heap) (b : FlatActivity) (t : FlatHeap) → m ≤ k → Mk m used h u b t → Mk k used h u b t
    wide m k u b t le x = within P texts weight light m k used h u b t le x

    -- a value is put: w in flat code, which is v
    puts : (q : Marks) (mark : Option ℕ) (v w : Value) (vs : List Value) (k : Continuation) (pc : ℕ) (temps : ℕ → Value) (h' : Heap) (t' : FlatHeap) → forget h' ≡ t' → w ≡ v → Marked mark v → Sh n q vs temps → By k (pc + 1) (mark ∷ q)
        → M used h (Goes (now_with n (v ∷ vs) k) h') (Goes (here (pc + 1) (with_entry (params + locals + length q) w temps)) t')
    puts q mark v w vs k pc temps h' t' heap e m shows near =
        subst (λ x. M used h (Goes (now_with n (v ∷ vs) k) h') (Goes (here (pc + 1) (with_entry (params + locals + length q) x temps)) t')) (sym e)
        (goes n (mark ∷ q) (v ∷ vs) k (pc + 1) (with_entry (params + locals + length q) v temps) h' t' heap (shows_put params locals n mark q v vs temps m shows) near)

    -- what an operation gives is put
    puts_all : (q : Marks) (vs : List Value) (k : Continuation) (pc : ℕ) (temps : ℕ → Value) (x y : Outcome Value) → Agree (λ v w. v ≡ w) x y → Sh n q vs temps → By k (pc + 1) (None ∷ q)
        → M used h (after x (λ v. Goes (now_with n (v ∷ vs) k) h)) (after y (λ v. Goes (here (pc + 1) (with_entry (params + locals + length q) v temps)) (forget h)))
    puts_all q vs k pc temps x y agree shows near =
        after_matches (source.source P texts) (flat.flat (lowered P) texts) _ (λ v w. v ≡ w) used h (forget h) x y _ _ agree
        (λ v w e. puts q None v w vs k pc temps h (forget h) refl (sym e) tt shows near)

    -- a mark may be forgotten
    unmarked : (m : Option ℕ) (q : Marks) (v : Value) (vs : List Value) (temps : ℕ → Value) → Sh n (m ∷ q) (v ∷ vs) temps → Sh n (None ∷ q) (v ∷ vs) temps
    unmarked m q v vs temps shows = record { of_params = shows.of_params; of_locals = shows.of_locals; pending = (shows.pending.0, tt, shows.pending.2) }

    get_follows : (x : Spot) (p : Marks) (vs : List Value) (k : Continuation) (pc : ℕ) (temps : ℕ → Value) → IsThere (length P.functions) (repeated_in_program P) params locals x → Sh n p vs temps → By k (pc + 1) (None ∷ p)
        → M used h (after (named h n x) (λ v. Goes (now_with n (v ∷ vs) k) h)) (at_op (forget h) pc temps (get_op params (params + locals + length p) x))
    get_follows (Param i) p vs k pc temps lt shows near = puts p None (n.params i) (temps i) vs k pc temps h (forget h) refl (shows.of_params i lt) tt shows near
    get_follows (Local i) p vs k pc temps lt shows near = puts p None (n.locals i) (temps (params + i)) vs k pc temps h (forget h) refl (shows.of_locals i lt) tt shows near
    get_follows (Global g) p vs k pc temps lt shows near = puts_all p vs k pc temps (there (entry h.globals g)) (there (entry h.globals g)) (agree_same (there (entry h.globals g))) shows near

    -- an operation changes the heap
    changes_all : (q : Marks) (vs : List Value) (k : Continuation) (pc : ℕ) (temps : ℕ → Value) (x : Outcome Heap) (y : Outcome FlatHeap) → Agree IsForgotten x y → Sh n q vs temps → By k (pc + 1) q
        → M used h (after x (λ h'. Goes (now_with n vs k) h')) (after y (λ t'. Goes (here (pc + 1) temps) t'))
    changes_all q vs k pc temps x y agree shows near =
        after_matches (source.source P texts) (flat.flat (lowered P) texts) _ IsForgotten used h (forget h) x y _ _ agree
        (λ h' t' e. goes n q vs k (pc + 1) temps h' t' e shows near)

    abbrev with_names : Heap → Outcome (Names × Heap)
    with_names h' = Gives (n, h')

    -- a value is stored under a name
    store_follows : (x : Spot) (q : Marks) (v w : Value) (vs : List Value) (k : Continuation) (pc : ℕ) (temps : ℕ → Value) → IsThere (length P.functions) (repeated_in_program P) params locals x
        → temps (params + locals + length q) ≡ w → w ≡ v → Sh n (None ∷ q) (v ∷ vs) temps → By k (pc + 1) (None ∷ q)
        → M used h (after (stored x v n h) (λ s. Goes (now_with s.0 (v ∷ vs) k) s.1)) (at_op (forget h) pc temps (set_op params (params + locals + length q) x))
    store_follows (Param i) q v w vs k pc temps lt is e shows near =
        subst (λ y. M used h (Goes (now_with (with_param i v n) (v ∷ vs) k) h) (Goes (here (pc + 1) (with_entry i y temps)) (forget h))) (sym (is ∙ e))
        (goes (with_param i v n) (None ∷ q) (v ∷ vs) k (pc + 1) (with_entry i v temps) h (forget h) refl (shows_param params locals i n (None ∷ q) v (v ∷ vs) temps lt shows) near)
    store_follows (Local i) q v w vs k pc temps lt is e shows near =
        subst (λ y. M used h (Goes (now_with (with_local i v n) (v ∷ vs) k) h) (Goes (here (pc + 1) (with_entry (params + i) y temps)) (forget h))) (sym (is ∙ e))
        (goes (with_local i v n) (None ∷ q) (v ∷ vs) k (pc + 1) (with_entry (params + i) v temps) h (forget h) refl (shows_local params locals i n (None ∷ q) v (v ∷ vs) temps lt shows) near)
    store_follows (Global g) q v w vs k pc temps lt is e shows near =
        subst (λ y. M used h (after (stored (Global g) v n h) (λ s. Goes (now_with s.0 (v ∷ vs) k) s.1)) (after (write_global (forget h) g y) (λ t'. Goes (here (pc + 1) temps) t'))) (sym (is ∙ e))
        (subst (λ u. M used h u (after (write_global (forget h) g v) (λ t'. Goes (here (pc + 1) temps) t'))) (sym (after_then (write_global h g v) with_names (λ s. Goes (now_with s.0 (v ∷ vs) k) s.1)))
        (changes_all (None ∷ q) (v ∷ vs) k pc temps (write_global h g v) (write_global (forget h) g v) (write_global_agrees h g v) shows near))

    -- a condition that is decided
    chooses : (c : Outcome Bool) (p : Marks) (vs : List Value) (so otherwise : Continuation) (t pc : ℕ) (temps : ℕ → Value) → Sh n p vs temps → By so t p → By otherwise (pc + 1) p
        → M used h (after c (λ c. Goes (now_with n vs (if c then so else otherwise)) h)) (after c (λ c. Goes (here (if c then t else pc + 1) temps) (forget h)))
    chooses (Gives true) p vs so otherwise t pc temps shows near_so near_else = goes n p vs so t temps h (forget h) refl shows near_so
    chooses (Gives false) p vs so otherwise t pc temps shows near_so near_else = goes n p vs otherwise (pc + 1) temps h (forget h) refl shows near_else
    chooses (Breaks c) p vs so otherwise t pc temps shows near_so near_else = refl
    chooses Stuck p vs so otherwise t pc temps shows near_so near_else = (refl, refl)

    both_chooses : (c : Outcome Bool) (m : Option ℕ) (q : Marks) (v : Value) (vs : List Value) (so otherwise : Continuation) (t pc : ℕ) (temps : ℕ → Value) → Sh n (m ∷ q) (v ∷ vs) temps → By so t q → By otherwise (pc + 1) (None ∷ q)
        → M used h (after c (λ c. Goes (if c then now_with n vs so else now_with n (v ∷ vs) otherwise) h)) (after c (λ c. Goes (here (if c then t else pc + 1) temps) (forget h)))
    both_chooses (Gives true) m q v vs so otherwise t pc temps shows near_so near_else = goes n q vs so t temps h (forget h) refl (shows_rest params locals n m q v vs temps shows) near_so
    both_chooses (Gives false) m q v vs so otherwise t pc temps shows near_so near_else = goes n (None ∷ q) (v ∷ vs) otherwise (pc + 1) temps h (forget h) refl (unmarked m q v vs temps shows) near_else
    both_chooses (Breaks c) m q v vs so otherwise t pc temps shows near_so near_else = refl
    both_chooses Stuck m q v vs so otherwise t pc temps shows near_so near_else = (refl, refl)

    either_chooses : (c : Outcome Bool) (m : Option ℕ) (q : Marks) (v : Value) (vs : List Value) (so otherwise : Continuation) (t pc : ℕ) (temps : ℕ → Value) → Sh n (m ∷ q) (v ∷ vs) temps → By so t (None ∷ q) → By otherwise (pc + 1) q
        → M used h (after c (λ c. Goes (if c then now_with n (v ∷ vs) so else now_with n vs otherwise) h)) (after c (λ c. Goes (here (if c then t else pc + 1) temps) (forget h)))
    either_chooses (Gives true) m q v vs so otherwise t pc temps shows near_so near_else = goes n (None ∷ q) (v ∷ vs) so t temps h (forget h) refl (unmarked m q v vs temps shows) near_so
    either_chooses (Gives false) m q v vs so otherwise t pc temps shows near_so near_else = goes n q vs otherwise (pc + 1) temps h (forget h) refl (shows_rest params locals n m q v vs temps shows) near_else
    either_chooses (Breaks c) m q v vs so otherwise t pc temps shows near_so near_else = refl
    either_chooses Stuck m q v vs so otherwise t pc temps shows near_so near_else = (refl, refl)

    -- the number of operands below the latest one
    higher : (q : Marks) → params + locals + length q + 1 ≡ params + locals + suc (length q)
    higher q = omega arith

    -- The heap is changed, and the stored value becomes the only operand: two ops.
    write_follows : (q : Marks) (v : Value) (vs : List Value) (k : Continuation) (pc from : ℕ) (temps : ℕ → Value) (op : Op) (x : Outcome Heap) (y : Outcome FlatHeap) → fetch pc ≡ Some op → fetch (pc + 1) ≡ Some (o.Copy (params + locals + length q) from)
        → at_op (forget h) pc temps op ≡ after y (λ t'. Goes (here (pc + 1) temps) t') → Agree IsForgotten x y → temps from ≡ v → Sh n q vs temps → By k (pc + 1 + 1) (None ∷ q)
        → NoFault (after x (λ h'. Goes (now_with n (v ∷ vs) k) h')) → Mk (limit op + 24) used h (after x (λ h'. Goes (now_with n (v ∷ vs) k) h')) (here pc temps) (forget h)
    write_follows q v vs k pc from temps op x y e e' is agree same shows near nf =
        then_after P texts weight light IsForgotten 24 used h x y (λ h'. Goes (now_with n (v ∷ vs) k) h') (λ t'. here (pc + 1) temps) (λ t'. t') (fr j pc temps) waiting base (forget h) op e is agree nf
        (λ h' t' heap ok. last (Goes (now_with n (v ∷ vs) k) h') (pc + 1) temps t' (o.Copy (params + locals + length q) from) e' (puts q None v (temps from) vs k (pc + 1) temps h' t' heap same tt shows near))

    -- the value that `++` or `--` gives, and the value that it stores
    abbrev given_by : ℤ → Bool → ℤ → Value
    given_by by late z = if late then Whole (to_int32 z) else Whole (to_int32 (z +ℤ by))

    -- the last op of `++` and `--`: the old value is made of the new one, or this is given
    bumped_last : (by z : ℤ) (late : Bool) → IsOne by → (m : Names) (q : Marks) (vs : List Value) (k : Continuation) (pc from : ℕ) (temps : ℕ → Value) (h' : Heap) (t' : FlatHeap) → forget h' ≡ t' → fetch pc ≡ Some (bumped_op by late (params + locals + length q) from)
        → temps from ≡ Whole (to_int32 (z +ℤ by)) → Sh m q vs temps → By k (pc + 1) (None ∷ q) → Mk 32 used h (Goes (now_with m (given_by by late z ∷ vs) k) h') (here pc temps) t'
    bumped_last by z true one m q vs k pc from temps h' t' heap e is shows near =
        let d = params + locals + length q in
        let to : at_op t' pc temps (o.Unary d (unbump_op by) from) ≡ Goes (here (pc + 1) (with_entry d (Whole (to_int32 z)) temps)) t' =
        ap (λ w. after (prefixed_by (unbump_op by) w) (λ v. Goes (here (pc + 1) (with_entry d v temps)) t')) is ∙ ap (λ x. after x (λ v. Goes (here (pc + 1) (with_entry d v temps)) t')) (unbumps_to by z one) in
        last (Goes (now_with m (Whole (to_int32 z) ∷ vs) k) h') pc temps t' (o.Unary d (unbump_op by) from) e
        (subst (λ u. M used h (Goes (now_with m (Whole (to_int32 z) ∷ vs) k) h') u) (sym to)
        (goes m (None ∷ q) (Whole (to_int32 z) ∷ vs) k (pc + 1) (with_entry d (Whole (to_int32 z)) temps) h' t' heap (shows_put params locals m None q (Whole (to_int32 z)) vs temps tt shows) near))
    bumped_last by z false one m q vs k pc from temps h' t' heap e is shows near =
        let d = params + locals + length q in
        let new = Whole (to_int32 (z +ℤ by)) in
        wide 24 32 _ _ _ (omega arith) (last (Goes (now_with m (new ∷ vs) k) h') pc temps t' (o.Copy d from) e
        (subst (λ w. M used h (Goes (now_with m (new ∷ vs) k) h') (Goes (here (pc + 1) (with_entry d w temps)) t')) (sym is)
        (goes m (None ∷ q) (new ∷ vs) k (pc + 1) (with_entry d new temps) h' t' heap (shows_put params locals m None q new vs temps tt shows) near)))

    -- one more or one less in a temporary
    bump_here : (by z : ℤ) (t : ℕ) (pc : ℕ) (temps : ℕ → Value) (t' : FlatHeap) → IsOne by → temps t ≡ Whole z
        → at_op t' pc temps (o.Unary t (bump_op by) t) ≡ Goes (here (pc + 1) (with_entry t (Whole (to_int32 (z +ℤ by))) temps)) t'
    bump_here by z t pc temps t' one is =
        ap (λ w. after (prefixed_by (bump_op by) w) (λ v. Goes (here (pc + 1) (with_entry t v temps)) t')) is ∙ ap (λ x. after x (λ v. Goes (here (pc + 1) (with_entry t v temps)) t')) (bumps_to by z one)

    -- `++` and `--` of a name that is a temporary
    name_bump : (by : ℤ) (late : Bool) → IsOne by → (q : Marks) (vs : List Value) (k : Continuation) (pc t : ℕ) (temps : ℕ → Value) (names : Value → Names) (x : Value) → temps t ≡ x
        → fetch pc ≡ Some (o.Unary t (bump_op by) t) → fetch (pc + 1) ≡ Some (bumped_op by late (params + locals + length q) t) → ((y : Value) → Sh (names y) q vs (with_entry t y temps)) → By k (pc + 1 + 1) (None ∷ q)
        → NoFault (after (bumped by late x) (λ b. Goes (now_with (names b.new) (b.given ∷ vs) k) h)) → Mk 64 used h (after (bumped by late x) (λ b. Goes (now_with (names b.new) (b.given ∷ vs) k) h)) (here pc temps) (forget h)
    name_bump by late one q vs k pc t temps names (Whole z) is e e' shown near nf =
        let new = Whole (to_int32 (z +ℤ by)) in
        then_ops P texts weight light 32 used h (Goes (now_with (names new) (given_by by late z ∷ vs) k) h) (fr j pc temps) waiting base (forget h) (o.Unary t (bump_op by) t) (here (pc + 1) (with_entry t new temps)) (forget h) e (bump_here by z t pc temps (forget h) one is)
        (bumped_last by z late one (names new) q vs k (pc + 1) t (with_entry t new temps) h (forget h) refl e' (entry_same t new temps) (shown new) near)
    name_bump by late one q vs k pc t temps names (Object x) is e e' shown near nf = absurd nf
    name_bump by late one q vs k pc t temps names (Text x) is e e' shown near nf = absurd nf
    name_bump by late one q vs k pc t temps names (Code x) is e e' shown near nf = absurd nf

    -- `++` and `--` of what is read from the heap: a value is read, made one more or one less, and stored
    module _ (by : ℤ) (late : Bool) (one : IsOne by) (q : Marks) (vs : List Value) (k : Continuation) (pc from : ℕ) (temps : ℕ → Value) (op op' : Op) (wr : Value → Outcome Heap) (wr' : Value → Outcome FlatHeap) (F : Value → Value → Turn Activity Heap)
        (e2 : fetch (pc + 1) ≡ Some (o.Unary from (bump_op by) from)) (e3 : fetch (pc + 1 + 1) ≡ Some op')
        (a3 : (x y : Value) → at_op (forget h) (pc + 1 + 1) (with_entry from y (with_entry from x temps)) op' ≡ after (wr' y) (λ t'. Goes (here (pc + 1 + 1 + 1) (with_entry from y (with_entry from x temps))) t'))
        (agree : (y : Value) → Agree IsForgotten (wr y) (wr' y)) (is : (y v : Value) → F y v ≡ after (wr y) (λ h'. Goes (now_with n (v ∷ vs) k) h'))
        (shown : (x y : Value) → Sh n q vs (with_entry from y (with_entry from x temps))) (high : params + locals + length q ≤ from)
        (behind : (z : ℤ) (h' : Heap) (t' : FlatHeap) → forget h' ≡ t' → Mk 32 used h (Goes (now_with n (given_by by late z ∷ vs) k) h') (here (pc + 1 + 1 + 1) (with_entry from (Whole (to_int32 (z +ℤ by))) (with_entry from (Whole z) temps))) t') where
      bump_value : (x y : Value) → x ≡ y → NoFault (after (bumped by late x) (λ b. F b.new b.given)) → Mk (32 + (limit op' + 32)) used h (after (bumped by late x) (λ b. F b.new b.given)) (here (pc + 1) (with_entry from y temps)) (forget h)
      bump_value (Whole z) y e nf =
          let new = Whole (to_int32 (z +ℤ by)) in
          let turn = after (wr new) (λ h'. Goes (now_with n (given_by by late z ∷ vs) k) h') in
          subst (λ w. Mk (32 + (limit op' + 32)) used h (F new (given_by by late z)) (here (pc + 1) (with_entry from w temps)) (forget h)) e
          (then_ops P texts weight light (limit op' + 32) used h (F new (given_by by late z)) (fr j (pc + 1) (with_entry from (Whole z) temps)) waiting base (forget h) (o.Unary from (bump_op by) from)
          (here (pc + 1 + 1) (with_entry from new (with_entry from (Whole z) temps))) (forget h) e2 (bump_here by z from (pc + 1) (with_entry from (Whole z) temps) (forget h) one (entry_same from (Whole z) temps))
          (same_turn P texts weight light (limit op' + 32) used h (F new (given_by by late z)) turn _ _ (is new (given_by by late z))
          (then_after P texts weight light IsForgotten 32 used h (wr new) (wr' new) (λ h'. Goes (now_with n (given_by by late z ∷ vs) k) h') (λ t'. here (pc + 1 + 1 + 1) (with_entry from new (with_entry from (Whole z) temps))) (λ t'. t')
          (fr j (pc + 1 + 1) (with_entry from new (with_entry from (Whole z) temps))) waiting base (forget h) op' e3 (a3 (Whole z) new) (agree new)
          (same_fault P texts weight light (F new (given_by by late z)) turn (is new (given_by by late z)) nf)
          (λ h' t' heap ok. behind z h' t' heap))))
      bump_value (Object x) y e nf = absurd nf
      bump_value (Text x) y e nf = absurd nf
      bump_value (Code x) y e nf = absurd nf

      heap_bump : (rd rd' : Outcome Value) → fetch pc ≡ Some op → at_op (forget h) pc temps op ≡ after rd' (λ w. Goes (here (pc + 1) (with_entry from w temps)) (forget h)) → Agree (λ v w. v ≡ w) rd rd'
          → NoFault (after (then_gives rd (bumped by late)) (λ b. F b.new b.given)) → Mk (limit op + (32 + (limit op' + 32))) used h (after (then_gives rd (bumped by late)) (λ b. F b.new b.given)) (here pc temps) (forget h)
      heap_bump rd rd' e1 a1 agree1 nf =
          let whole_turn = after rd (λ x. after (bumped by late x) (λ b. F b.new b.given)) in
          let same = after_then rd (bumped by late) (λ b. F b.new b.given) in
          same_turn P texts weight light (limit op + (32 + (limit op' + 32))) used h (after (then_gives rd (bumped by late)) (λ b. F b.new b.given)) whole_turn _ _ same
          (then_after P texts weight light (λ v w. v ≡ w) (32 + (limit op' + 32)) used h rd rd' (λ x. after (bumped by late x) (λ b. F b.new b.given)) (λ w. here (pc + 1) (with_entry from w temps)) (λ w. forget h)
          (fr j pc temps) waiting base (forget h) op e1 a1 agree1 (same_fault P texts weight light _ whole_turn same nf) (λ x y e ok. bump_value x y e ok))

    -- a call by an op at which the frame then waits
    call_matches : (g : ℕ) (args args' : List Value) (q : Marks) (rest : List Value) (k : Continuation) (pc : ℕ) (temps : ℕ → Value) → args' ≡ args → result_of (fetch pc) ≡ Gives (params + locals + length q) → Sh n q rest temps → By k (pc + 1) (None ∷ q)
        → NoFault (source.invoked P texts h base depth g args (record { function = f; names = n; values = rest; todo = k } ∷ callers))
        → M used h (source.invoked P texts h base depth g args (record { function = f; names = n; values = rest; todo = k } ∷ callers)) (flat.called (lowered P) texts (forget h) base (fr j pc temps ∷ waiting) g args')
    call_matches g args args' q rest k pc temps same result shows near nf =
        let frame : Frame = record { function = f; names = n; values = rest; todo = k } in
        let waits : FrameWaits P texts frame (fr j pc temps) = record { frame = record { params = params; locals = locals; marks = q; words = deep; this = this; shows = shows; near = near }; result = result } in
        subst (λ xs. M used h (source.invoked P texts h base depth g args (frame ∷ callers)) (flat.called (lowered P) texts (forget h) base (fr j pc temps ∷ waiting) g xs)) (sym same)
        (called_matches P texts fine weight light used h base depth (frame ∷ callers) (fr j pc temps ∷ waiting) (waits, wait) deepness g args nf)

    -- the end of a function
    ended_matches : (v w : Value) → w ≡ v → (fs : List Frame) (bs : List FlatFrame) → AllZip (FrameWaits P texts) fs bs → depth ≡ base + (words (lowered P) j + depth_of (lowered P) bs)
        → M used h (source.ended P texts h base depth f v fs) (flat.ended (lowered P) texts (forget h) base waiting w bs)
    ended_matches v w e [] [] waits d = (record { each = λ i j code. (code, refl) }, record { shared = (refl, tt); others = λ a b x. x })
    ended_matches v w e (x ∷ fs) (y ∷ bs) waits d =
        let caller = waits.0.frame in
        let q = caller.marks in
        let t = caller.params + caller.locals + length q in
        let shown = shows_put caller.params caller.locals x.names None q v x.values y.temps tt caller.shows in
        let tied : FrameTied P texts (record x { values = v ∷ x.values }) (fr y.function (y.place + 1) (with_entry t v y.temps)) =
        record { params = caller.params; locals = caller.locals; marks = None ∷ q; words = caller.words; this = caller.this; shows = shown; near = caller.near } in
        let lower : depth - source.words P texts f ≡ base + depth_of (lowered P) (y ∷ bs) = let dd = deep in omega arith in
        let a = Runs (record x { values = v ∷ x.values }) fs base (depth - source.words P texts f) in
        subst (λ z. M used h (Goes a h) (after z (λ to. Goes (Stands (fr y.function (y.place + 1) (with_entry to w y.temps)) bs base) (forget h)))) (sym waits.0.result)
        (subst (λ z. M used h (Goes a h) (Goes (Stands (fr y.function (y.place + 1) (with_entry t z y.temps)) bs base) (forget h))) (sym e)
        (going P texts weight light used h h (forget h) a (Stands (fr y.function (y.place + 1) (with_entry t v y.temps)) bs base) refl (tied, waits.1, refl, lower)))
    ended_matches v w e [] (y ∷ bs) waits d = absurd waits
    ended_matches v w e (x ∷ fs) [] waits d = absurd waits

    -- a service of the board that is asked for
    ask_matches : (r : Outcome Request) (gives : Bool) (q : Marks) (rest : List Value) (k : Continuation) (pc : ℕ) (temps : ℕ → Value) → AllAmong (length P.functions) r → Sh n q rest temps → By k (pc + 1) (None ∷ q)
        → M used h (after r (λ x. asked (source.asker P texts h f n callers base depth gives rest k) x)) (after r (λ x. asked (flat.flat_asker (lowered P) texts (forget h) (fr j pc temps) waiting base (params + locals + length q) gives) x))
    ask_matches (Gives r) gives q rest k pc temps among shows near =
        asked_matches P texts weight light used h (λ g. Starts g depth) (λ g. Starts g base) (λ g. Enters g (base + depth_of (lowered P) (fr j pc temps ∷ waiting))) (λ g. Enters g base)
        (λ answer. (now_with n (answered gives answer ∷ rest) k, h)) (λ answer. (here (pc + 1) (with_entry (params + locals + length q) (answered gives answer) temps), forget h)) (λ i j code. (code, deepness)) (λ i j code. (code, refl))
        (λ z. goes_on n (None ∷ q) (answered gives z ∷ rest) k (pc + 1) (with_entry (params + locals + length q) (answered gives z) temps) (shows_put params locals n None q (answered gives z) rest temps tt shows) near) (λ z. refl) r among
    ask_matches (Breaks c) gives q rest k pc temps among shows near = refl
    ask_matches Stuck gives q rest k pc temps among shows near = (refl, refl)

    -- a value goes behind the items of an array
    push_matches : (to : ℕ) (a v : Value) (args : List Value) (b : Activity) (pc : ℕ) (temps : ℕ → Value) → args ≡ a ∷ (v ∷ []) → Tied P texts b (here (pc + 1) (with_entry to default temps))
        → M used h (after (pushed h a v) (λ x. grown x.0 x.1 b)) (flat.with_pair args (λ a v. after (pushed (forget h) a v) (λ x. grown x.0 x.1 (here (pc + 1) (with_entry to default temps)))))
    push_matches to a v args b pc temps e tied =
        subst (λ xs. M used h (after (pushed h a v) (λ x. grown x.0 x.1 b)) (flat.with_pair xs (λ a v. after (pushed (forget h) a v) (λ x. grown x.0 x.1 (here (pc + 1) (with_entry to default temps)))))) (sym e)
        (after_matches (source.source P texts) (flat.flat (lowered P) texts) _ ArePushed used h (forget h) (pushed h a v) (pushed (forget h) a v) _ _ (pushed_agrees h a v)
        (λ x y r. grown_matches P texts weight light used h x.1 y.1 x.0 y.0 b (here (pc + 1) (with_entry to default temps)) r.words r.heap tied))

    pair_is : (x y a v : Value) → x ≡ a → y ≡ v → x ∷ (y ∷ []) ≡ a ∷ (v ∷ [])
    pair_is x y a v e d = ap (λ z. z ∷ (y ∷ [])) e ∙ ap (λ z. a ∷ (z ∷ [])) d

    -- an object is made
    new_matches : (c : ℕ) (p : Marks) (vs : List Value) (k : Continuation) (pc : ℕ) (temps : ℕ → Value) → Sh n p vs temps → By k (pc + 1) (None ∷ p)
        → M used h (sact (New c k) vs) (at_op (forget h) pc temps (o.MakeObject (params + locals + length p) c))
    new_matches c p vs k pc temps shows near =
        after_matches (source.source P texts) (flat.flat (lowered P) texts) _ (λ x y. flat_class x ≡ y) used h (forget h) (there (entry P.classes c)) (there (entry (flat_classes P.classes) c)) _ _ (classes_agree P.classes c)
        (λ x y e. subst (λ (z : FlatClass). M used h (Takes (object_words x) (λ at. (now_with n (Object at ∷ vs) k, with_cell at (Fields c (defaults x.fields)) h)))
        (flat.makes (lowered P) texts (forget h) (fr j pc temps) waiting base (params + locals + length p) c z.words)) e (made x))
      where
        made : (x : ClassEntry) → M used h (Takes (object_words x) (λ at. (now_with n (Object at ∷ vs) k, with_cell at (Fields c (defaults x.fields)) h)))
            (flat.makes (lowered P) texts (forget h) (fr j pc temps) waiting base (params + locals + length p) c (object_words x))
        made x =
            let e : suc (length x.fields) ≡ object_words x = omega arith in
            let heap : (at : ℕ) → forget (with_cell at (Fields c (defaults x.fields)) h) ≡ with_cell at (Fields c (zeros (length x.fields))) (forget h) =
            λ at. new_agrees h at c (defaults x.fields) ∙ ap (λ vs. with_cell at (Fields c vs) (forget h)) (sym (zeros_are x.fields)) in
            subst (λ m. M used h (Takes (object_words x) (λ at. (now_with n (Object at ∷ vs) k, with_cell at (Fields c (defaults x.fields)) h))) (flat.makes (lowered P) texts (forget h) (fr j pc temps) waiting base (params + locals + length p) c m)) e
            (ap (λ k. min k (suc arena_limit)) (sym e), λ fits. going P texts weight light (used + object_words x) h _ _ _ _ (heap used) (goes_on n (None ∷ p) (Object used ∷ vs) k (pc + 1) (with_entry (params + locals + length p) (Object used) temps) (shows_put params locals n None p (Object used) vs temps tt shows) near))

    -- the method in a slot of an object's class
    method_agrees : (ob : Value) (s : ℕ) → Agree (λ x y. x ≡ y) (source.method P texts h ob s) (then_gives (object_at (forget h) ob) (λ c. then_gives (there (entry (flat_classes P.classes) c.0)) (λ class. there (entry class.slots s))))
    method_agrees ob s =
        agree_then (λ x y. x ≡ y) (λ x y. x ≡ y) (object_at h ob) (object_at (forget h) ob) _ _ (object_agrees h ob)
        (λ x y e. subst (λ (z : ℕ × List Value). Agree (λ a b. a ≡ b) (then_gives (there (entry P.classes x.0)) (λ class. there (entry class.slots s))) (then_gives (there (entry (flat_classes P.classes) z.0)) (λ class. there (entry class.slots s)))) e
        (agree_then (λ c d. flat_class c ≡ d) (λ a b. a ≡ b) (there (entry P.classes x.0)) (there (entry (flat_classes P.classes) x.0)) _ _ (classes_agree P.classes x.0)
        (λ c d r. subst (λ (y : FlatClass). Agree (λ a b. a ≡ b) (there (entry c.slots s)) (there (entry y.slots s))) r (agree_same (there (entry c.slots s))))))

    send_matches : (s : ℕ) (args args' : List Value) (q : Marks) (rest : List Value) (k : Continuation) (pc : ℕ) (temps : ℕ → Value) → args' ≡ args → result_of (fetch pc) ≡ Gives (params + locals + length q) → Sh n q rest temps → By k (pc + 1) (None ∷ q)
        → NoFault (after (then_gives (there (entry args 0)) (λ ob. source.method P texts h ob s)) (λ g. source.invoked P texts h base depth g args (record { function = f; names = n; values = rest; todo = k } ∷ callers)))
        → M used h (after (then_gives (there (entry args 0)) (λ ob. source.method P texts h ob s)) (λ g. source.invoked P texts h base depth g args (record { function = f; names = n; values = rest; todo = k } ∷ callers)))
        (after (flat.slot_function (lowered P) texts (forget h) (fr j pc temps) waiting base s args') (λ g. flat.called (lowered P) texts (forget h) base (fr j pc temps ∷ waiting) g args'))
    send_matches s args args' q rest k pc temps same result shows near nf =
        subst (λ xs. M used h turn (after (flat.slot_function (lowered P) texts (forget h) (fr j pc temps) waiting base s xs) (λ g. flat.called (lowered P) texts (forget h) base (fr j pc temps ∷ waiting) g xs))) (sym same)
        (by_found (then_gives (there (entry args 0)) (λ ob. source.method P texts h ob s)) (flat.slot_function (lowered P) texts (forget h) (fr j pc temps) waiting base s args)
        (agree_then (λ x y. x ≡ y) (λ x y. x ≡ y) (there (entry args 0)) (there (entry args 0)) _ _ (agree_same (there (entry args 0))) (λ x y e. subst (λ z. Agree (λ a b. a ≡ b) (source.method P texts h x s) (then_gives (object_at (forget h) z) (λ c. then_gives (there (entry (flat_classes P.classes) c.0)) (λ class. there (entry class.slots s))))) e (method_agrees x s))) nf)
      where
        goes_to : ℕ → Turn Activity Heap
        goes_to g = source.invoked P texts h base depth g args (record { function = f; names = n; values = rest; todo = k } ∷ callers)

        turn : Turn Activity Heap
        turn = after (then_gives (there (entry args 0)) (λ ob. source.method P texts h ob s)) (λ g. source.invoked P texts h base depth g args (record { function = f; names = n; values = rest; todo = k } ∷ callers))

        by_found : (x y : Outcome ℕ) → Agree (λ a b. a ≡ b) x y → NoFault (after x (λ g. source.invoked P texts h base depth g args (record { function = f; names = n; values = rest; todo = k } ∷ callers)))
            → M used h (after x (λ g. source.invoked P texts h base depth g args (record { function = f; names = n; values = rest; todo = k } ∷ callers))) (after y (λ g. flat.called (lowered P) texts (forget h) base (fr j pc temps ∷ waiting) g args))
        by_found (Gives g) (Gives g') agree ok = subst (λ z. M used h (source.invoked P texts h base depth g args (record { function = f; names = n; values = rest; todo = k } ∷ callers)) (flat.called (lowered P) texts (forget h) base (fr j pc temps ∷ waiting) z args)) agree (call_matches g args args q rest k pc temps refl result shows near ok)
        by_found (Breaks c) (Breaks d) agree ok = agree
        by_found Stuck Stuck agree ok = (refl, refl)
        by_found _ _ agree ok = absurd agree

    -- `++` and `--` of a name
    bump_follows : (x : Spot) (by : ℤ) (late : Bool) (p : Marks) (vs : List Value) (k : Continuation) (pc : ℕ) (temps : ℕ → Value) → HasAt fetch pc (bump_code P.classes (repeating P) params (params + locals) (ToName x) by late (length p))
        → IsThere (length P.functions) (repeated_in_program P) params locals x → IsOne by → By k (pc + bump_size (ToName x) late) (None ∷ p) → Sh n p vs temps
        → NoFault (sact (Bump x by late k) vs) → Mk 400 used h (sact (Bump x by late k) vs) (here pc temps) (forget h)
    bump_follows (Param i) by late p vs k pc temps has lt one near shows nf =
        let e : pc + (1 + 1) ≡ pc + 1 + 1 = omega arith in
        let near' = subst (λ z. By k z (None ∷ p)) e near in
        wide 64 400 _ _ _ (omega arith)
        (name_bump by late one p vs k pc i temps (λ y. with_param i y n) (n.params i) (shows.of_params i lt) has.0 has.1.0 (λ y. shows_param params locals i n p y vs temps lt shows) near' nf)
    bump_follows (Local i) by late p vs k pc temps has lt one near shows nf =
        let e : pc + (1 + 1) ≡ pc + 1 + 1 = omega arith in
        let near' = subst (λ z. By k z (None ∷ p)) e near in
        wide 64 400 _ _ _ (omega arith)
        (name_bump by late one p vs k pc (params + i) temps (λ y. with_local i y n) (n.locals i) (shows.of_locals i lt) has.0 has.1.0 (λ y. shows_local params locals i n p y vs temps lt shows) near' nf)
    bump_follows (Global g) by true p vs k pc temps has lt one near shows nf =
        let d = params + locals + length p in
        let e : pc + (1 + 1 + 1 + 1) ≡ pc + 1 + 1 + 1 + 1 = omega arith in
        let near' = subst (λ z. By k z (None ∷ p)) e near in
        let le : d ≤ d = omega arith in
        let shown : (x y : Value) → Sh n p vs (with_entry d y (with_entry d x temps)) = λ x y. shows_above params locals n p vs (with_entry d x temps) d y le (shows_above params locals n p vs temps d x le shows) in
        wide 112 400 _ _ _ (omega arith)
        (heap_bump by true one p vs k pc d temps (o.GlobalGet d g) (o.GlobalSet g d) (λ y. write_global h g y) (λ y. write_global (forget h) g y) (λ y v. after (stored (Global g) y n h) (λ s. Goes (now_with s.0 (v ∷ vs) k) s.1))
        has.1.0 has.1.1.0 (λ x y. ap (λ z. after (write_global (forget h) g z) (λ t'. Goes (here (pc + 1 + 1 + 1) (with_entry d y (with_entry d x temps))) t')) (entry_same d y (with_entry d x temps)))
        (λ y. write_global_agrees h g y) (λ y v. after_then (write_global h g y) with_names (λ s. Goes (now_with s.0 (v ∷ vs) k) s.1)) shown le
        (λ z h' t' heap. bumped_last by z true one n p vs k (pc + 1 + 1 + 1) d (with_entry d (Whole (to_int32 (z +ℤ by))) (with_entry d (Whole z) temps)) h' t' heap has.1.1.1.0 (entry_same d (Whole (to_int32 (z +ℤ by))) (with_entry d (Whole z) temps)) (shown (Whole z) (Whole (to_int32 (z +ℤ by)))) near')
        (there (entry h.globals g)) (there (entry h.globals g)) has.0 refl (agree_same (there (entry h.globals g))) nf)
    bump_follows (Global g) by false p vs k pc temps has lt one near shows nf = wide 80 400 _ _ _ (omega arith)
        (same_turn P texts weight light 80 used h (sact (Bump (Global g) by false k) vs) (after (there (entry h.globals g)) (λ x. after (bumped by false x) F)) _ _ split
        (then_after P texts weight light (λ v w. v ≡ w) 56 used h (there (entry h.globals g)) (there (entry h.globals g)) (λ x. after (bumped by false x) F) (λ w. here (pc + 1) (with_entry d w temps)) (λ w. forget h)
        (fr j pc temps) waiting base (forget h) (o.GlobalGet d g) has.0 refl (agree_same (there (entry h.globals g))) (same_fault P texts weight light _ (after (there (entry h.globals g)) (λ x. after (bumped by false x) F)) split nf)
        (λ x y e ok. subst (λ w. Mk 56 used h (after (bumped by false x) F) (here (pc + 1) (with_entry d w temps)) (forget h)) e (by_value x ok))))
      where
        d : ℕ
        d = params + locals + length p

        F : Bumped → Turn Activity Heap
        F b = after (stored (Global g) b.new n h) (λ s. Goes (now_with s.0 (b.given ∷ vs) k) s.1)

        split : sact (Bump (Global g) by false k) vs ≡ after (there (entry h.globals g)) (λ x. after (bumped by false x) F)
        split = after_then (there (entry h.globals g)) (bumped by false) F

        near' : By k (pc + 1 + 1 + 1) (None ∷ p)
        near' = let e : pc + (1 + 1 + 1) ≡ pc + 1 + 1 + 1 = omega arith in subst (λ z. By k z (None ∷ p)) e near

        by_value : (x : Value) → NoFault (after (bumped by false x) F) → Mk 56 used h (after (bumped by false x) F) (here (pc + 1) (with_entry d x temps)) (forget h)
        by_value (Whole z) ok =
            let new = Whole (to_int32 (z +ℤ by)) in
            let temps' = with_entry d new (with_entry d (Whole z) temps) in
            let kept = shows_above params locals n p vs temps d (Whole z) (omega arith) shows in
            let shown = shows_put params locals n None p new vs (with_entry d (Whole z) temps) tt kept in
            then_ops P texts weight light 24 used h (F (record { new = new; given = new })) (fr j (pc + 1) (with_entry d (Whole z) temps)) waiting base (forget h) (o.Unary d (bump_op by) d) (here (pc + 1 + 1) temps') (forget h) has.1.0
            (bump_here by z d (pc + 1) (with_entry d (Whole z) temps) (forget h) one (entry_same d (Whole z) temps))
            (last (F (record { new = new; given = new })) (pc + 1 + 1) temps' (forget h) (o.GlobalSet g d) has.1.1.0
            (subst (λ w. M used h (F (record { new = new; given = new })) (after (write_global (forget h) g w) (λ t'. Goes (here (pc + 1 + 1 + 1) temps') t'))) (sym (entry_same d new (with_entry d (Whole z) temps)))
            (subst (λ u. M used h u (after (write_global (forget h) g new) (λ t'. Goes (here (pc + 1 + 1 + 1) temps') t'))) (sym (after_then (write_global h g new) with_names (λ s. Goes (now_with s.0 (new ∷ vs) k) s.1)))
            (changes_all (None ∷ p) (new ∷ vs) k (pc + 1 + 1) temps' (write_global h g new) (write_global (forget h) g new) (write_global_agrees h g new) shown near'))))
        by_value (Object x) ok = absurd ok
        by_value (Text x) ok = absurd ok
        by_value (Code x) ok = absurd ok

    -- `++` and `--` of a field and of an item
    field_bump_follows : (i : ℕ) (by : ℤ) (late : Bool) (m : Option ℕ) (q : Marks) (ob : Value) (vs : List Value) (k : Continuation) (pc : ℕ) (temps : ℕ → Value) → HasAt fetch pc (bump_code P.classes (repeating P) params (params + locals) (ToField i) by late (length q))
        → IsOne by → By k (pc + 1 + 1 + 1 + 1) (None ∷ q) → Sh n (m ∷ q) (ob ∷ vs) temps → NoFault (sact (BumpField i by late k) (ob ∷ vs)) → Mk 400 used h (sact (BumpField i by late k) (ob ∷ vs)) (here pc temps) (forget h)
    field_bump_follows i by late m q ob vs k pc temps has one near shows nf =
        let d = params + locals + length q in
        let t = params + locals + suc (length q) in
        let le : d ≤ t = omega arith in
        let ne : d ≢ t = λ e. omega arith in
        let rest = shows_rest params locals n m q ob vs temps shows in
        let shown : (x y : Value) → Sh n q vs (with_entry t y (with_entry t x temps)) = λ x y. shows_above params locals n q vs (with_entry t x temps) t y le (shows_above params locals n q vs temps t x le rest) in
        let kept : (x y : Value) → with_entry t y (with_entry t x temps) d ≡ ob = λ x y. entry_other t d y (with_entry t x temps) ne ∙ entry_other t d x temps ne ∙ shows.pending.0 in
        wide 144 400 _ _ _ (omega arith)
        (heap_bump by late one q vs k pc t temps (o.FieldGet t d i) (o.FieldSet d i t) (λ y. write_field h ob i y) (λ y. write_field (forget h) ob i y) (λ y v. after (write_field h ob i y) (λ h'. Goes (now_with n (v ∷ vs) k) h'))
        has.1.0 has.1.1.0
        (λ x y. ap (λ z. after (write_field (forget h) z i (with_entry t y (with_entry t x temps) t)) (λ t'. Goes (here (pc + 1 + 1 + 1) (with_entry t y (with_entry t x temps))) t')) (kept x y)
        ∙ ap (λ z. after (write_field (forget h) ob i z) (λ t'. Goes (here (pc + 1 + 1 + 1) (with_entry t y (with_entry t x temps))) t')) (entry_same t y (with_entry t x temps)))
        (λ y. write_field_agrees h ob y i) (λ y v. refl) shown le
        (λ z h' t' heap. bumped_last by z late one n q vs k (pc + 1 + 1 + 1) t (with_entry t (Whole (to_int32 (z +ℤ by))) (with_entry t (Whole z) temps)) h' t' heap has.1.1.1.0 (entry_same t (Whole (to_int32 (z +ℤ by))) (with_entry t (Whole z) temps)) (shown (Whole z) (Whole (to_int32 (z +ℤ by)))) near)
        (read_field h ob i) (read_field (forget h) ob i) has.0 (ap (λ z. after (read_field (forget h) z i) (λ w. Goes (here (pc + 1) (with_entry t w temps)) (forget h))) shows.pending.0) (read_field_agrees h ob i) nf)

    item_bump_follows : (by : ℤ) (late : Bool) (m m' : Option ℕ) (q : Marks) (ix ob : Value) (vs : List Value) (k : Continuation) (pc : ℕ) (temps : ℕ → Value) → HasAt fetch pc (bump_code P.classes (repeating P) params (params + locals) ToItem by late (length q))
        → IsOne by → By k (pc + 1 + 1 + 1 + 1) (None ∷ q) → Sh n (m ∷ (m' ∷ q)) (ix ∷ (ob ∷ vs)) temps → NoFault (sact (BumpAt by late k) (ix ∷ (ob ∷ vs))) → Mk 400 used h (sact (BumpAt by late k) (ix ∷ (ob ∷ vs))) (here pc temps) (forget h)
    item_bump_follows by late m m' q ix ob vs k pc temps has one near shows nf =
        let d = params + locals + length q in
        let e = params + locals + suc (length q) in
        let t = params + locals + suc (suc (length q)) in
        let le : d ≤ t = omega arith in
        let ne : d ≢ t = λ e. omega arith in
        let ne' : e ≢ t = λ x. omega arith in
        let rest = shows_rest params locals n m' q ob vs temps (shows_rest params locals n m (m' ∷ q) ix (ob ∷ vs) temps shows) in
        let shown : (x y : Value) → Sh n q vs (with_entry t y (with_entry t x temps)) = λ x y. shows_above params locals n q vs (with_entry t x temps) t y le (shows_above params locals n q vs temps t x le rest) in
        let kept : (x y : Value) → with_entry t y (with_entry t x temps) d ≡ ob = λ x y. entry_other t d y (with_entry t x temps) ne ∙ entry_other t d x temps ne ∙ shows.pending.2.0 in
        let kept' : (x y : Value) → with_entry t y (with_entry t x temps) e ≡ ix = λ x y. entry_other t e y (with_entry t x temps) ne' ∙ entry_other t e x temps ne' ∙ shows.pending.0 in
        wide 176 400 _ _ _ (omega arith)
        (heap_bump by late one q vs k pc t temps (o.ItemGet t d e) (o.ItemSet d e t) (λ y. write_item h ob ix y) (λ y. write_item (forget h) ob ix y) (λ y v. after (write_item h ob ix y) (λ h'. Goes (now_with n (v ∷ vs) k) h'))
        has.1.0 has.1.1.0
        (λ x y. ap (λ z. after (write_item (forget h) z (with_entry t y (with_entry t x temps) e) (with_entry t y (with_entry t x temps) t)) (λ t'. Goes (here (pc + 1 + 1 + 1) (with_entry t y (with_entry t x temps))) t')) (kept x y)
        ∙ ap (λ z. after (write_item (forget h) ob z (with_entry t y (with_entry t x temps) t)) (λ t'. Goes (here (pc + 1 + 1 + 1) (with_entry t y (with_entry t x temps))) t')) (kept' x y)
        ∙ ap (λ z. after (write_item (forget h) ob ix z) (λ t'. Goes (here (pc + 1 + 1 + 1) (with_entry t y (with_entry t x temps))) t')) (entry_same t y (with_entry t x temps)))
        (λ y. write_item_agrees h ob ix y) (λ y v. refl) shown le
        (λ z h' t' heap. bumped_last by z late one n q vs k (pc + 1 + 1 + 1) t (with_entry t (Whole (to_int32 (z +ℤ by))) (with_entry t (Whole z) temps)) h' t' heap has.1.1.1.0 (entry_same t (Whole (to_int32 (z +ℤ by))) (with_entry t (Whole z) temps)) (shown (Whole z) (Whole (to_int32 (z +ℤ by)))) near)
        (read_item h ob ix) (read_item (forget h) ob ix) has.0
        (ap (λ z. after (read_item (forget h) z (temps e)) (λ w. Goes (here (pc + 1) (with_entry t w temps)) (forget h))) shows.pending.2.0 ∙ ap (λ z. after (read_item (forget h) ob z) (λ w. Goes (here (pc + 1) (with_entry t w temps)) (forget h))) shows.pending.0)
        (read_item_agrees h ob ix) nf)

    -- an activity begins that calls a function again and again
    repeat_follows : (g : ℕ) (q : Marks) (ob : Value) (vs : List Value) (k : Continuation) (pc : ℕ) (temps : ℕ → Value) → IsOneOf g (repeated_in_program P) → fetch pc ≡ Some (o.HandlerOf (params + locals + length q) (repeating P g))
        → fetch (pc + 1) ≡ Some (o.Ask (params + locals + length q) 4 ((params + locals + length q) ∷ [])) → By k (pc + 1 + 1) (None ∷ q) → Sh n (Some g ∷ q) (ob ∷ vs) temps
        → Mk 400 used h (sact (Repeat k) (Code g ∷ vs)) (here pc temps) (forget h)
    repeat_follows g q ob vs k pc temps among e e' near shows =
        let d = params + locals + length q in
        let temps' = with_entry d (Code (repeating P g)) temps in
        let le : d ≤ d = omega arith in
        let rest = shows_above params locals n q vs temps d (Code (repeating P g)) le (shows_rest params locals n (Some g) q ob vs temps shows) in
        let shown = shows_put params locals n None q default vs temps' tt rest in
        let spawned : CodeTied P texts (length P.functions + g) (repeating P g) = inr (g, among, refl, refl) in
        wide 56 400 _ _ _ (omega arith)
        (then_ops P texts weight light 32 used h (sact (Repeat k) (Code g ∷ vs)) (fr j pc temps) waiting base (forget h) (o.HandlerOf d (repeating P g)) (here (pc + 1) temps') (forget h) e refl
        (last (sact (Repeat k) (Code g ∷ vs)) (pc + 1) temps' (forget h) (o.Ask d 4 (d ∷ [])) e'
        (subst (λ z. M used h (sact (Repeat k) (Code g ∷ vs)) (flat.asks (lowered P) texts (forget h) (fr j (pc + 1) temps') waiting base d 4 (z ∷ []))) (sym (entry_same d (Code (repeating P g)) temps))
        (spawned, going P texts weight light used h h (forget h) (now_with n (default ∷ vs) k) (here (pc + 1 + 1) (with_entry d default temps')) refl (goes_on n (None ∷ q) (default ∷ vs) k (pc + 1 + 1) (with_entry d default temps') shown near)))))

    call_args : (m : ℕ) (r q : Marks) (vs : List Value) (temps : ℕ → Value) → IsAbove m r q → Sh n r vs temps → Taking params locals m n q vs temps
    call_args m r q vs temps above shows = takes m params locals n r q vs temps above shows

    -- a word that is one op
    alone : (k : Continuation) (vs : List Value) (pc : ℕ) (temps : ℕ → Value) (op : Op) → limit op ≤ 488 → fetch pc ≡ Some op → M used h (sact k vs) (at_op (forget h) pc temps op) → Mk 488 used h (sact k vs) (here pc temps) (forget h)
    alone k vs pc temps op le e m = wide (limit op) 488 (sact k vs) (here pc temps) (forget h) le (last (sact k vs) pc temps (forget h) op e m)

    put_follows : (v : Value) (k : Continuation) (p : Marks) (vs : List Value) (pc : ℕ) (temps : ℕ → Value) → Sh n p vs temps → LiesIn P texts f j params locals (Put v k) pc p → Mk 488 used h (sact (Put v k) vs) (here pc temps) (forget h)
    put_follows (Whole z) k p vs pc temps shows lies = alone (Put (Whole z) k) vs pc temps (o.Const (params + locals + length p) z) (omega arith) lies.0 (puts p None (Whole z) (Whole z) vs k pc temps h (forget h) refl refl tt shows lies.1)
    put_follows (Text x) k p vs pc temps shows lies = alone (Put (Text x) k) vs pc temps (o.TextOf (params + locals + length p) x) (omega arith) lies.0 (puts p None (Text x) (Text x) vs k pc temps h (forget h) refl refl tt shows lies.1)
    put_follows (Code g) k p vs pc temps shows lies = alone (Put (Code g) k) vs pc temps (o.HandlerOf (params + locals + length p) g) (omega arith) lies.0 (puts p (Some g) (Code g) (Code g) vs k pc temps h (forget h) refl refl refl shows lies.1)
    put_follows (Object x) k p vs pc temps shows lies = absurd lies.0

    light_get : (x : Spot) (t : ℕ) → limit (get_op params t x) ≤ 488
    light_get (Param i) t = omega arith
    light_get (Local i) t = omega arith
    light_get (Global g) t = omega arith

    light_set : (x : Spot) (t : ℕ) → limit (set_op params t x) ≤ 488
    light_set (Param i) t = omega arith
    light_set (Local i) t = omega arith
    light_set (Global g) t = omega arith

    unary_follows : (op : ℕ) (v w : Value) (m : Option ℕ) (q : Marks) (vs : List Value) (k : Continuation) (pc : ℕ) (temps : ℕ → Value) → w ≡ v → Sh n (m ∷ q) (v ∷ vs) temps → By k (pc + 1) (None ∷ q) → NoFault (after (applied_before op v) (λ x. Goes (now_with n (x ∷ vs) k) h))
        → M used h (after (applied_before op v) (λ x. Goes (now_with n (x ∷ vs) k) h)) (after (prefixed_by op w) (λ x. Goes (here (pc + 1) (with_entry (params + locals + length q) x temps)) (forget h)))
    unary_follows op v w m q vs k pc temps e shows near nf =
        subst (λ z. M used h (after (applied_before op v) (λ x. Goes (now_with n (x ∷ vs) k) h)) (after (prefixed_by op z) (λ x. Goes (here (pc + 1) (with_entry (params + locals + length q) x temps)) (forget h)))) (sym e)
        (⊎_elim
        (λ stuck_is. absurd (subst (λ x. NoFault (after x (λ x. Goes (now_with n (x ∷ vs) k) h))) stuck_is nf))
        (λ same. puts_all q vs k pc temps (applied_before op v) (prefixed_by op v) (subst (λ x. Agree (λ v w. v ≡ w) (applied_before op v) x) same (agree_same (applied_before op v))) (shows_rest params locals n m q v vs temps shows) near)
        (unary_is op v))

    -- what an operation gives, of operands that flat code has too
    given_same : (q : Marks) (vs : List Value) (k : Continuation) (pc : ℕ) (temps : ℕ → Value) (x : Outcome Value) (y : Outcome Value) (z : Outcome Value) → y ≡ z → Agree (λ v w. v ≡ w) x z → Sh n q vs temps → By k (pc + 1) (None ∷ q)
        → M used h (after x (λ v. Goes (now_with n (v ∷ vs) k) h)) (after y (λ v. Goes (here (pc + 1) (with_entry (params + locals + length q) v temps)) (forget h)))
    given_same q vs k pc temps x y z e agree shows near =
        subst (λ w. M used h (after x (λ v. Goes (now_with n (v ∷ vs) k) h)) (after w (λ v. Goes (here (pc + 1) (with_entry (params + locals + length q) v temps)) (forget h)))) (sym e) (puts_all q vs k pc temps x z agree shows near)

    rest_one : (m : Option ℕ) (q : Marks) (v : Value) (vs : List Value) (temps : ℕ → Value) → Sh n (m ∷ q) (v ∷ vs) temps → Sh n q vs temps
    rest_one m q v vs temps shows = shows_rest params locals n m q v vs temps shows

    rest_two : (m m' : Option ℕ) (q : Marks) (v w : Value) (vs : List Value) (temps : ℕ → Value) → Sh n (m ∷ (m' ∷ q)) (v ∷ (w ∷ vs)) temps → Sh n q vs temps
    rest_two m m' q v w vs temps shows = rest_one m' q w vs temps (rest_one m (m' ∷ q) v (w ∷ vs) temps shows)

    -- two values stay, unmarked
    plain_two : (m m' : Option ℕ) (q : Marks) (v w : Value) (vs : List Value) (temps : ℕ → Value) → Sh n (m ∷ (m' ∷ q)) (v ∷ (w ∷ vs)) temps → Sh n (None ∷ (None ∷ q)) (v ∷ (w ∷ vs)) temps
    plain_two m m' q v w vs temps shows = record { of_params = shows.of_params; of_locals = shows.of_locals; pending = (shows.pending.0, tt, (shows.pending.2.0, tt, shows.pending.2.2)) }

    called_follows : (g m : ℕ) (k : Continuation) (r : Marks) (q : Marks) (vs : List Value) (pc : ℕ) (temps : ℕ → Value) → IsAbove m r q → fetch pc ≡ Some (o.Call (params + locals + length q) g (span (params + locals + length q) m [])) → Sh n r vs temps → By k (pc + 1) (None ∷ q)
        → NoFault (sact (Invoke g m k) vs) → Mk 488 used h (sact (Invoke g m k) vs) (here pc temps) (forget h)
    called_follows g m k r q vs pc temps above e shows near nf =
        let t = call_args m r q vs temps above shows in
        let to : sact (Invoke g m k) vs ≡ source.invoked P texts h base depth g t.these (record { function = f; names = n; values = t.rest; todo = k } ∷ callers) =
        ap (λ x. after x (λ (x : List Value × List Value). source.invoked P texts h base depth g x.0 (record { function = f; names = n; values = x.1; todo = k } ∷ callers))) t.taken in
        alone (Invoke g m k) vs pc temps (o.Call (params + locals + length q) g (span (params + locals + length q) m [])) (omega arith) e
        (subst (λ u. M used h u (at_op (forget h) pc temps (o.Call (params + locals + length q) g (span (params + locals + length q) m [])))) (sym to)
        (call_matches g t.these (map temps (span (params + locals + length q) m [])) q t.rest k pc temps t.args (ap result_of e) t.shows near (same_fault P texts weight light (sact (Invoke g m k) vs) _ to nf)))

    built_follows : (c m : ℕ) (k : Continuation) (mk : Option ℕ) (r q : Marks) (ob : Value) (vs : List Value) (pc : ℕ) (temps : ℕ → Value) → IsAbove m r q
        → fetch pc ≡ Some (o.Call (params + locals + length q) (maker_of P.classes c) ((params + locals + length r) ∷ span (params + locals + length q) m [])) → Sh n (mk ∷ r) (ob ∷ vs) temps → By k (pc + 1) (None ∷ q)
        → (x : Option ClassEntry) → entry P.classes c ≡ x
        → NoFault (after (there x) (λ class. after (taken m vs) (λ x. source.invoked P texts h base depth class.maker (ob ∷ x.0) (record { function = f; names = n; values = x.1; todo = k } ∷ callers))))
        → Mk 488 used h (after (there x) (λ class. after (taken m vs) (λ x. source.invoked P texts h base depth class.maker (ob ∷ x.0) (record { function = f; names = n; values = x.1; todo = k } ∷ callers)))) (here pc temps) (forget h)
    built_follows c m k mk r q ob vs pc temps above e shows near None is nf = absurd nf
    built_follows c m k mk r q ob vs pc temps above e shows near (Some class) is nf =
        let t = call_args m r q vs temps above (rest_one mk r ob vs temps shows) in
        let turn = source.invoked P texts h base depth class.maker (ob ∷ t.these) (record { function = f; names = n; values = t.rest; todo = k } ∷ callers) in
        let to : after (taken m vs) (λ x. source.invoked P texts h base depth class.maker (ob ∷ x.0) (record { function = f; names = n; values = x.1; todo = k } ∷ callers)) ≡ turn =
        ap (λ x. after x (λ (x : List Value × List Value). source.invoked P texts h base depth class.maker (ob ∷ x.0) (record { function = f; names = n; values = x.1; todo = k } ∷ callers))) t.taken in
        let op = o.Call (params + locals + length q) (maker_of P.classes c) ((params + locals + length r) ∷ span (params + locals + length q) m []) in
        let args : map temps ((params + locals + length r) ∷ span (params + locals + length q) m []) ≡ ob ∷ t.these = ap (λ x. x ∷ map temps (span (params + locals + length q) m [])) shows.pending.0 ∙ ap (λ xs. ob ∷ xs) t.args in
        wide 200 488 _ _ _ (omega arith)
        (last _ pc temps (forget h) op e
        (subst (λ u. M used h u (at_op (forget h) pc temps op)) (sym to)
        (subst (λ g. M used h turn (flat.called (lowered P) texts (forget h) base (fr j pc temps ∷ waiting) g (map temps ((params + locals + length r) ∷ span (params + locals + length q) m [])))) (sym (maker_is P c class is))
        (call_matches class.maker (ob ∷ t.these) (map temps ((params + locals + length r) ∷ span (params + locals + length q) m [])) q t.rest k pc temps args (ap result_of e) t.shows near (same_fault P texts weight light _ turn to nf)))))

    sent_follows : (s m : ℕ) (k : Continuation) (r : Marks) (q : Marks) (vs : List Value) (pc : ℕ) (temps : ℕ → Value) → IsAbove m r q → fetch pc ≡ Some (o.CallSlot (params + locals + length q) s (span (params + locals + length q) m [])) → Sh n r vs temps → By k (pc + 1) (None ∷ q)
        → NoFault (sact (Send s m k) vs) → Mk 488 used h (sact (Send s m k) vs) (here pc temps) (forget h)
    sent_follows s m k r q vs pc temps above e shows near nf =
        let t = call_args m r q vs temps above shows in
        let turn = after (then_gives (there (entry t.these 0)) (λ ob. source.method P texts h ob s)) (λ g. source.invoked P texts h base depth g t.these (record { function = f; names = n; values = t.rest; todo = k } ∷ callers)) in
        let to : sact (Send s m k) vs ≡ turn =
        ap (λ x. after x (λ (x : List Value × List Value). after (then_gives (there (entry x.0 0)) (λ ob. source.method P texts h ob s)) (λ g. source.invoked P texts h base depth g x.0 (record { function = f; names = n; values = x.1; todo = k } ∷ callers)))) t.taken in
        let op = o.CallSlot (params + locals + length q) s (span (params + locals + length q) m []) in
        alone (Send s m k) vs pc temps op (omega arith) e
        (subst (λ u. M used h u (at_op (forget h) pc temps op)) (sym to)
        (send_matches s t.these (map temps (span (params + locals + length q) m [])) q t.rest k pc temps t.args (ap result_of e) t.shows near (same_fault P texts weight light (sact (Send s m k) vs) turn to nf)))

    asked_follows : (service m : ℕ) (gives : Bool) (k : Continuation) (r : Marks) (q : Marks) (vs : List Value) (pc : ℕ) (temps : ℕ → Value) → IsAbove m r q → fetch pc ≡ Some (o.Ask (params + locals + length q) service (span (params + locals + length q) m []))
        → service == 19 ≡ false → gives ≡ answers service → IsProper (length P.functions) r service m → Sh n r vs temps → By k (pc + 1) (None ∷ q) → Mk 488 used h (sact (Ask service m gives k) vs) (here pc temps) (forget h)
    asked_follows service m gives k r q vs pc temps above e other answering proper shows near =
        let t = call_args m r q vs temps above shows in
        let d = params + locals + length q in
        let turn = after (requested service t.these) (λ x. asked (source.asker P texts h f n callers base depth gives t.rest k) x) in
        let to : sact (Ask service m gives k) vs ≡ turn = ap (λ x. after x (λ (x : List Value × List Value). after (requested service x.0) (λ r. asked (source.asker P texts h f n callers base depth gives x.1 k) r))) t.taken in
        let op = o.Ask d service (span d m []) in
        let down : at_op (forget h) pc temps op ≡ after (requested service t.these) (λ x. asked (flat.flat_asker (lowered P) texts (forget h) (fr j pc temps) waiting base d gives) x) =
        ap (λ b. if b then flat.with_pair (map temps (span d m [])) (λ a v. after (pushed (forget h) a v) (λ x. grown x.0 x.1 (here (pc + 1) (with_entry d default temps)))) else after (requested service (map temps (span d m []))) (λ x. asked (flat.flat_asker (lowered P) texts (forget h) (fr j pc temps) waiting base d (answers service)) x)) other
        ∙ ap (λ xs. after (requested service xs) (λ x. asked (flat.flat_asker (lowered P) texts (forget h) (fr j pc temps) waiting base d (answers service)) x)) t.args
        ∙ ap (λ b. after (requested service t.these) (λ x. asked (flat.flat_asker (lowered P) texts (forget h) (fr j pc temps) waiting base d b) x)) (sym answering) in
        alone (Ask service m gives k) vs pc temps op (omega arith) e
        (subst (λ u. M used h u (at_op (forget h) pc temps op)) (sym to)
        (subst (λ v. M used h turn v) (sym down)
        (ask_matches (requested service t.these) gives q t.rest k pc temps (all_among (length P.functions) (requested service t.these) (λ x asks. proper vs t.these t.rest x (marked temps (params + locals) r vs shows.pending) t.taken asks)) t.shows near)))

    -- one counted step, of what is left to do and lies at the frame's place
    act_follows : (k : Continuation) (p : Marks) (vs : List Value) (pc : ℕ) (temps : ℕ → Value) → Sh n p vs temps → LiesIn P texts f j params locals k pc p → NoFault (sact k vs) → Mk 488 used h (sact k vs) (here pc temps) (forget h)
    act_follows (Put v k) p vs pc temps shows lies nf = put_follows v k p vs pc temps shows lies
    act_follows (Get x k) p vs pc temps shows lies nf = alone (Get x k) vs pc temps (get_op params (params + locals + length p) x) (light_get x (params + locals + length p)) lies.0 (get_follows x p vs k pc temps lies.1 shows lies.2)
    act_follows (Store x k) (m ∷ q) (v ∷ vs) pc temps shows lies nf =
        alone (Store x k) (v ∷ vs) pc temps (set_op params (params + locals + length q) x) (light_set x (params + locals + length q)) lies.0
        (store_follows x q v v vs k pc temps lies.1 shows.pending.0 refl (unmarked m q v vs temps shows) lies.2)
    act_follows (Drop k) (m ∷ q) (v ∷ vs) pc temps shows lies nf = act_follows k q vs pc temps (rest_one m q v vs temps shows) lies nf
    act_follows (Unary op k) (m ∷ q) (v ∷ vs) pc temps shows lies nf =
        alone (Unary op k) (v ∷ vs) pc temps (o.Unary (params + locals + length q) op (params + locals + length q)) (omega arith) lies.0 (unary_follows op v (temps (params + locals + length q)) m q vs k pc temps shows.pending.0 shows lies.1 nf)
    act_follows (Apply op k) (m ∷ (m' ∷ q)) (y ∷ (x ∷ vs)) pc temps shows lies nf =
        alone (Apply op k) (y ∷ (x ∷ vs)) pc temps (o.Binary (params + locals + length q) op (params + locals + length q) (params + locals + suc (length q))) (omega arith) lies.0
        (given_same q vs k pc temps (applied op x y) _ (applied op x y) (ap (λ w. applied op w (temps (params + locals + suc (length q)))) shows.pending.2.0 ∙ ap (λ w. applied op x w) shows.pending.0) (agree_same (applied op x y))
        (rest_two m m' q y x vs temps shows) lies.1)
    act_follows (Choose so otherwise) (m ∷ q) (v ∷ vs) pc temps shows lies nf =
        alone (Choose so otherwise) (v ∷ vs) pc temps (o.Branch (params + locals + length q) lies.0) (omega arith) lies.1
        (subst (λ w. M used h (sact (Choose so otherwise) (v ∷ vs)) (after (decided w) (λ b. Goes (here (if b then lies.0 else pc + 1) temps) (forget h)))) (sym shows.pending.0)
        (chooses (decided v) q vs so otherwise lies.0 pc temps (rest_one m q v vs temps shows) lies.2 lies.3))
    act_follows (Both so otherwise) (m ∷ q) (v ∷ vs) pc temps shows lies nf =
        alone (Both so otherwise) (v ∷ vs) pc temps (o.Branch (params + locals + length q) lies.0) (omega arith) lies.1
        (subst (λ w. M used h (sact (Both so otherwise) (v ∷ vs)) (after (decided w) (λ b. Goes (here (if b then lies.0 else pc + 1) temps) (forget h)))) (sym shows.pending.0)
        (both_chooses (decided v) m q v vs so otherwise lies.0 pc temps shows lies.2 lies.3))
    act_follows (Either so otherwise) (m ∷ q) (v ∷ vs) pc temps shows lies nf =
        alone (Either so otherwise) (v ∷ vs) pc temps (o.Branch (params + locals + length q) lies.0) (omega arith) lies.1
        (subst (λ w. M used h (sact (Either so otherwise) (v ∷ vs)) (after (decided w) (λ b. Goes (here (if b then lies.0 else pc + 1) temps) (forget h)))) (sym shows.pending.0)
        (either_chooses (decided v) m q v vs so otherwise lies.0 pc temps shows lies.2 lies.3))
    act_follows (Read i k) (m ∷ q) (v ∷ vs) pc temps shows lies nf =
        alone (Read i k) (v ∷ vs) pc temps (o.FieldGet (params + locals + length q) (params + locals + length q) i) (omega arith) lies.0
        (given_same q vs k pc temps (read_field h v i) _ (read_field (forget h) v i) (ap (λ w. read_field (forget h) w i) shows.pending.0) (read_field_agrees h v i) (rest_one m q v vs temps shows) lies.1)
    act_follows (Peek i k) (m ∷ q) (v ∷ vs) pc temps shows lies nf =
        alone (Peek i k) (v ∷ vs) pc temps (o.FieldGet (params + locals + suc (length q)) (params + locals + length q) i) (omega arith) lies.0
        (given_same (None ∷ q) (v ∷ vs) k pc temps (read_field h v i) _ (read_field (forget h) v i) (ap (λ w. read_field (forget h) w i) shows.pending.0) (read_field_agrees h v i) (unmarked m q v vs temps shows) lies.1)
    act_follows (Write i k) (m ∷ (m' ∷ q)) (v ∷ (ob ∷ vs)) pc temps shows lies nf =
        wide 64 488 _ _ _ (omega arith)
        (write_follows q v vs k pc (params + locals + suc (length q)) temps (o.FieldSet (params + locals + length q) i (params + locals + suc (length q))) (write_field h ob i v) (write_field (forget h) ob i v) lies.0 lies.1
        (ap (λ w. after (write_field (forget h) w i (temps (params + locals + suc (length q)))) (λ t'. Goes (here (pc + 1) temps) t')) shows.pending.2.0 ∙ ap (λ w. after (write_field (forget h) ob i w) (λ t'. Goes (here (pc + 1) temps) t')) shows.pending.0)
        (write_field_agrees h ob v i) shows.pending.0 (rest_two m m' q v ob vs temps shows) lies.2 nf)
    act_follows (At k) (m ∷ (m' ∷ q)) (ix ∷ (ob ∷ vs)) pc temps shows lies nf =
        alone (At k) (ix ∷ (ob ∷ vs)) pc temps (o.ItemGet (params + locals + length q) (params + locals + length q) (params + locals + suc (length q))) (omega arith) lies.0
        (given_same q vs k pc temps (read_item h ob ix) _ (read_item (forget h) ob ix) (ap (λ w. read_item (forget h) w (temps (params + locals + suc (length q)))) shows.pending.2.0 ∙ ap (λ w. read_item (forget h) ob w) shows.pending.0) (read_item_agrees h ob ix)
        (rest_two m m' q ix ob vs temps shows) lies.1)
    act_follows (PeekAt k) (m ∷ (m' ∷ q)) (ix ∷ (ob ∷ vs)) pc temps shows lies nf =
        alone (PeekAt k) (ix ∷ (ob ∷ vs)) pc temps (o.ItemGet (params + locals + suc (suc (length q))) (params + locals + length q) (params + locals + suc (length q))) (omega arith) lies.0
        (given_same (None ∷ (None ∷ q)) (ix ∷ (ob ∷ vs)) k pc temps (read_item h ob ix) _ (read_item (forget h) ob ix) (ap (λ w. read_item (forget h) w (temps (params + locals + suc (length q)))) shows.pending.2.0 ∙ ap (λ w. read_item (forget h) ob w) shows.pending.0) (read_item_agrees h ob ix)
        (plain_two m m' q ix ob vs temps shows) lies.1)
    act_follows (SetAt k) (m ∷ (m' ∷ (m'' ∷ q))) (v ∷ (ix ∷ (ob ∷ vs))) pc temps shows lies nf =
        let d = params + locals + length q in
        let e = params + locals + suc (length q) in
        let t = params + locals + suc (suc (length q)) in
        wide 80 488 _ _ _ (omega arith)
        (write_follows q v vs k pc t temps (o.ItemSet d e t) (write_item h ob ix v) (write_item (forget h) ob ix v) lies.0 lies.1
        (ap (λ w. after (write_item (forget h) w (temps e) (temps t)) (λ t'. Goes (here (pc + 1) temps) t')) shows.pending.2.2.0 ∙ ap (λ w. after (write_item (forget h) ob w (temps t)) (λ t'. Goes (here (pc + 1) temps) t')) shows.pending.2.0
        ∙ ap (λ w. after (write_item (forget h) ob ix w) (λ t'. Goes (here (pc + 1) temps) t')) shows.pending.0)
        (write_item_agrees h ob ix v) shows.pending.0 (rest_one m'' q ob vs temps (rest_two m m' (m'' ∷ q) v ix (ob ∷ vs) temps shows)) lies.2 nf)
    act_follows (Bump x by late k) p vs pc temps shows lies nf = wide 400 488 _ _ _ (omega arith) (bump_follows x by late p vs k pc temps lies.0 lies.1 lies.2 lies.3 shows nf)
    act_follows (BumpField i by late k) (m ∷ q) (ob ∷ vs) pc temps shows lies nf = wide 400 488 _ _ _ (omega arith) (field_bump_follows i by late m q ob vs k pc temps lies.0 lies.1 lies.2 shows nf)
    act_follows (BumpAt by late k) (m ∷ (m' ∷ q)) (ix ∷ (ob ∷ vs)) pc temps shows lies nf = wide 400 488 _ _ _ (omega arith) (item_bump_follows by late m m' q ix ob vs k pc temps lies.0 lies.1 lies.2 shows nf)
    act_follows (Measure k) (m ∷ q) (v ∷ vs) pc temps shows lies nf =
        alone (Measure k) (v ∷ vs) pc temps (o.Length (params + locals + length q) (params + locals + length q)) (omega arith) lies.0
        (given_same q vs k pc temps (length_at h v) _ (length_at (forget h) v) (ap (λ w. length_at (forget h) w) shows.pending.0) (length_agrees h v) (rest_one m q v vs temps shows) lies.1)
    act_follows (Push k) (m ∷ (m' ∷ q)) (v ∷ (ob ∷ vs)) pc temps shows lies nf =
        let d = params + locals + length q in
        let e = params + locals + suc (length q) in
        alone (Push k) (v ∷ (ob ∷ vs)) pc temps (o.Ask d 19 (d ∷ (e ∷ []))) (omega arith) lies.0
        (push_matches d ob v (temps d ∷ (temps e ∷ [])) (now_with n (default ∷ vs) k) pc temps (pair_is (temps d) (temps e) ob v shows.pending.2.0 shows.pending.0)
        (goes_on n (None ∷ q) (default ∷ vs) k (pc + 1) (with_entry d default temps) (shows_put params locals n None q default vs temps tt (rest_two m m' q v ob vs temps shows)) lies.1))
    act_follows (Pop k) (m ∷ q) (v ∷ vs) pc temps shows lies nf =
        let d = params + locals + length q in
        alone (Pop k) (v ∷ vs) pc temps (o.Pop d d) (omega arith) lies.0
        (subst (λ w. M used h (sact (Pop k) (v ∷ vs)) (after (popped (forget h) w) (λ x. Goes (here (pc + 1) (with_entry d x.0 temps)) x.1))) (sym shows.pending.0)
        (after_matches (source.source P texts) (flat.flat (lowered P) texts) _ ArePopped used h (forget h) (popped h v) (popped (forget h) v) _ _ (popped_agrees h v)
        (λ x y r. puts q None x.0 y.0 vs k pc temps x.1 y.1 r.heap (sym r.item) tt (rest_one m q v vs temps shows) lies.1)))
    act_follows (Open item room k) p vs pc temps shows lies nf =
        let d = params + locals + length p in
        alone (Open item room k) vs pc temps (o.MakeArray d room) (omega arith) lies.0
        (refl, λ fits. going P texts weight light (used + array_words room) h _ _ _ _ (open_agrees h used item room) (goes_on n (None ∷ p) (Object used ∷ vs) k (pc + 1) (with_entry d (Object used) temps) (shows_put params locals n None p (Object used) vs temps tt shows) lies.1))
    act_follows (Append k) (m ∷ (m' ∷ q)) (v ∷ (ob ∷ vs)) pc temps shows lies nf =
        let d = params + locals + length q in
        let e = params + locals + suc (length q) in
        let le : params + locals + length (m' ∷ q) ≤ e = omega arith in
        let kept = shows_above params locals n (m' ∷ q) (ob ∷ vs) temps e default le (rest_one m (m' ∷ q) v (ob ∷ vs) temps shows) in
        alone (Append k) (v ∷ (ob ∷ vs)) pc temps (o.Ask e 19 (d ∷ (e ∷ []))) (omega arith) lies.0
        (push_matches e ob v (temps d ∷ (temps e ∷ [])) (now_with n (ob ∷ vs) k) pc temps (pair_is (temps d) (temps e) ob v shows.pending.2.0 shows.pending.0)
        (goes_on n (None ∷ q) (ob ∷ vs) k (pc + 1) (with_entry e default temps) (unmarked m' q ob vs (with_entry e default temps) kept) lies.1))
    act_follows (New c k) p vs pc temps shows lies nf = alone (New c k) vs pc temps (o.MakeObject (params + locals + length p) c) (omega arith) lies.0 (new_matches c p vs k pc temps shows lies.1)
    act_follows (Build c m k) (mk ∷ r) (ob ∷ vs) pc temps shows lies nf = built_follows c m k mk r lies.0 ob vs pc temps lies.1 lies.2 shows lies.3 (entry P.classes c) refl nf
    act_follows (Invoke g m k) p vs pc temps shows lies nf = called_follows g m k p lies.0 vs pc temps lies.1 lies.2 shows lies.3 nf
    act_follows (Send s m k) p vs pc temps shows lies nf = sent_follows s m k p lies.0 vs pc temps lies.1 lies.2 shows lies.3 nf
    act_follows (Ask service m gives k) p vs pc temps shows lies nf = asked_follows service m gives k p lies.0 vs pc temps lies.1 lies.2 lies.3 lies.4 lies.5 shows lies.6
    act_follows (Repeat k) (Some g ∷ q) (v ∷ vs) pc temps shows lies nf =
        subst (λ w. Mk 488 used h (sact (Repeat k) (w ∷ vs)) (here pc temps) (forget h)) (sym shows.pending.1)
        (wide 400 488 _ _ _ (omega arith) (repeat_follows g q v vs k pc temps lies.0 lies.1 lies.2 lies.3 shows))
    act_follows (Again loop k) p vs pc temps shows lies nf =
        let back = turn_at P.classes (length P.functions) (repeating P) (repeated_in_program P) params locals (fetched P texts j) (is_maker P.classes f) this loop lies.1 lies.5 k lies.3 lies.4 lies.6 lies.7 in
        alone (Again loop k) vs pc temps (o.Jump lies.1) (omega arith) lies.2
        (goes n [] vs (runs (is_maker P.classes f) loop k k k) lies.1 temps h (forget h) refl (subst (λ q. Sh n q vs temps) lies.0 shows) (inl back))
    act_follows (Each i a k) p vs pc temps shows lies nf =
        let shows' = subst (λ q. Sh n q vs temps) lies.0 shows in
        let turn : LiesIn P texts f j params locals (Each i a k) pc [] = subst (λ q. LiesIn P texts f j params locals (Each i a k) pc q) lies.0 lies in
        let body = statement_at P.classes (length P.functions) (repeating P) (repeated_in_program P) params locals (fetched P texts j) (is_maker P.classes f) this a lies.2 in
        let near = each_at P.classes (length P.functions) (repeating P) (repeated_in_program P) params locals (fetched P texts j) (is_maker P.classes f) this i a body pc lies.3 k turn lies.4 lies.5 in
        wide 464 488 _ _ _ (omega arith) (turn_follows P texts fine weight light used h f j n callers waiting base depth params locals deep wait deepness this i a k vs pc lies.3 temps shows' lies.1 lies.4 lies.5 near nf)
    act_follows (Leave to) p vs pc temps shows lies nf = alone (Leave to) vs pc temps (o.Jump lies.0) (omega arith) lies.1 (goes n p vs to lies.0 temps h (forget h) refl shows (inl lies.2))
    act_follows Give (m ∷ q) (v ∷ vs) pc temps shows lies nf =
        alone Give (v ∷ vs) pc temps (o.Return (params + locals + length q)) (omega arith) lies (ended_matches v (temps (params + locals + length q)) shows.pending.0 callers waiting wait deepness)
    act_follows (Round g) p vs pc temps shows lies nf =
        let back : LiesIn P texts f j params locals (round g) 0 [] =
        subst (λ x. LiesIn P texts f j x locals (round g) 0 []) (sym lies.1) (subst (λ x. LiesIn P texts f j 0 x (round g) 0 []) (sym lies.2) (round_lies P texts fine weight light f j g lies.4)) in
        alone (Round g) vs pc temps (o.Jump 0) (omega arith) lies.3 (goes n [] vs (round g) 0 temps h (forget h) refl (subst (λ q. Sh n q vs temps) lies.0 shows) (inl back))
    act_follows Impossible p vs pc temps shows lies nf = absurd nf
    act_follows (Repeat k) (None ∷ q) vs pc temps shows lies nf = absurd lies
    act_follows (Repeat k) [] vs pc temps shows lies nf = absurd lies
    act_follows (Store x k) [] vs pc temps shows lies nf = absurd lies
    act_follows (Drop k) [] vs pc temps shows lies nf = absurd lies
    act_follows (Unary op k) [] vs pc temps shows lies nf = absurd lies
    act_follows (Apply op k) [] vs pc temps shows lies nf = absurd lies
    act_follows (Apply op k) (m ∷ []) vs pc temps shows lies nf = absurd lies
    act_follows (Choose so otherwise) [] vs pc temps shows lies nf = absurd lies
    act_follows (Both so otherwise) [] vs pc temps shows lies nf = absurd lies
    act_follows (Either so otherwise) [] vs pc temps shows lies nf = absurd lies
    act_follows (Read i k) [] vs pc temps shows lies nf = absurd lies
    act_follows (Peek i k) [] vs pc temps shows lies nf = absurd lies
    act_follows (Write i k) [] vs pc temps shows lies nf = absurd lies
    act_follows (Write i k) (m ∷ []) vs pc temps shows lies nf = absurd lies
    act_follows (At k) [] vs pc temps shows lies nf = absurd lies
    act_follows (At k) (m ∷ []) vs pc temps shows lies nf = absurd lies
    act_follows (PeekAt k) [] vs pc temps shows lies nf = absurd lies
    act_follows (PeekAt k) (m ∷ []) vs pc temps shows lies nf = absurd lies
    act_follows (SetAt k) [] vs pc temps shows lies nf = absurd lies
    act_follows (SetAt k) (m ∷ []) vs pc temps shows lies nf = absurd lies
    act_follows (SetAt k) (m ∷ (m' ∷ [])) vs pc temps shows lies nf = absurd lies
    act_follows (BumpField i by late k) [] vs pc temps shows lies nf = absurd lies
    act_follows (BumpAt by late k) [] vs pc temps shows lies nf = absurd lies
    act_follows (BumpAt by late k) (m ∷ []) vs pc temps shows lies nf = absurd lies
    act_follows (Measure k) [] vs pc temps shows lies nf = absurd lies
    act_follows (Push k) [] vs pc temps shows lies nf = absurd lies
    act_follows (Push k) (m ∷ []) vs pc temps shows lies nf = absurd lies
    act_follows (Pop k) [] vs pc temps shows lies nf = absurd lies
    act_follows (Append k) [] vs pc temps shows lies nf = absurd lies
    act_follows (Append k) (m ∷ []) vs pc temps shows lies nf = absurd lies
    act_follows (Build c m k) [] vs pc temps shows lies nf = absurd lies
    act_follows Give [] vs pc temps shows lies nf = absurd lies
    act_follows k (m ∷ q) [] pc temps shows lies nf = absurd shows.pending
    act_follows k (m ∷ (m' ∷ q)) (v ∷ []) pc temps shows lies nf = absurd shows.pending.2
    act_follows k (m ∷ (m' ∷ (m'' ∷ q))) (v ∷ (w ∷ [])) pc temps shows lies nf = absurd shows.pending.2.2

  pub follows : (used : ℕ) (h : Heap) (t : FlatHeap) (a : Activity) (b : FlatActivity) → forget h ≡ t → Tied P texts a b → NoFault (source.step P texts a h) → Mk 512 used h (source.step P texts a h) b t
  follows used h t (Starts f base) (Enters i base') e tied nf =
      subst (λ x. Mk 512 used h (source.begun P texts h base base f) (Enters i base') x) e
      (subst (λ x. Mk 512 used h (source.begun P texts h base base f) (Enters i x) (forget h)) tied.1
      (record {
        steps = 0;
        cost = 0;
        last = Enters i base;
        memory = forget h;
        path = (refl, refl, refl);
        little = omega (arith, light.enters i base (forget h));
        match = starts_follow P texts fine weight light used h f i base tied.0 nf;
      }))
  follows used h t (Runs a callers base depth) (Stands b waiting base') e tied nf =
      subst (λ x. Mk 512 used h turn (Stands b waiting base') x) e (subst (λ x. Mk 512 used h turn (Stands b waiting x) (forget h)) tied.2 (by_near tied.0.near))
    where
      turn : Turn Activity Heap
      turn = source.act P texts h a.function a.names callers base depth a.todo a.values

      acts : (pc : ℕ) → LiesIn P texts a.function b.function tied.0.params tied.0.locals a.todo pc tied.0.marks → Mk 488 used h turn (Stands (fr b.function pc b.temps) waiting base) (forget h)
      acts pc lies =
          act_follows used h a.function b.function a.names callers waiting base depth tied.0.params tied.0.locals tied.0.words tied.1 tied.3 tied.0.this a.todo tied.0.marks a.values pc b.temps tied.0.shows lies nf

      by_near : NearIn P texts a.function b.function tied.0.params tied.0.locals a.todo b.place tied.0.marks → Mk 512 used h turn (Stands b waiting base) (forget h)
      by_near (inl lies) = within P texts weight light 488 512 used h turn (Stands b waiting base) (forget h) (omega arith) (acts b.place lies)
      by_near (inr jump) =
          within P texts weight light 512 512 used h turn (Stands b waiting base) (forget h) (omega arith)
          (then_ops P texts weight light 488 used h turn b waiting base (forget h) (o.Jump jump.0) (Stands (fr b.function jump.0 b.temps) waiting base) (forget h) jump.1 refl (acts jump.0 jump.2))
  follows used h t (Starts f base) (Stands b waiting base') e tied nf = absurd tied
  follows used h t (Runs a callers base depth) (Enters i base') e tied nf = absurd tied
