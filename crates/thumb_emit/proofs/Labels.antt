-- Each label that a function's pieces go to stands once among them.
use Rattle.std.proofs.Common.{◌≡◌, ℕ, zero, suc, ◌+◌, ◌*◌, ◌<◌, ◌==◌, ◌||◌, Bool, true, false, nat_lt, if◌then◌else◌, List, [], ◌∷◌, ◌++◌, length, refl, ap, sym, ◌∙◌, zero-add, arith}
use Rattle.std.proofs.lemmas.Bool.Decides.{nat_tests}
use Rattle.thumb_code.specs.declared.instructions.Instr.{Instr}
use Rattle.thumb_code.specs.declared.instructions.Instr.TheVariants.{MovImm, And, SubImm8, StrImm, StrSp, LdrImm, LdrReg, Blx, MovHigh, Push, Pop as PopMany}
use Rattle.thumb_layout.specs.declared.pieces.Piece.{Piece}
use Rattle.thumb_layout.specs.declared.pieces.Piece.TheVariants.{Plain, Label, Go, CallTo, Number, Address}
use Rattle.thumb_layout.specs.Soundness.{times}
use Rattle.flat_ir.specs.declared.ops.Op.{Op}
use Rattle.flat_ir.specs.declared.ops.Op.TheVariants.{Const, Copy, Unary, Binary, GlobalGet, GlobalSet, FieldGet, FieldSet, ItemGet, ItemSet, Length, Pop, TextOf, MakeObject, MakeArray, Call, CallSlot, HandlerOf, Ask, Jump, Branch, Return}
use Rattle.flat_ir.specs.declared.ops.Function.{Function}
use Rattle.flat_ir.specs.WellFormed.{GoesBelow}
use Rattle.register_assign.specs.declared.places.Place.{Place}
use Rattle.register_assign.specs.declared.places.Place.TheVariants.{Reg, Slot, Incoming}
use Rattle.register_assign.specs.Unread.{is_unread}
use Rattle.thumb_emit.specs.Frame.{from_instr, to_instr, from_place, register_of, idle_piece, copies, carries, raises, lowers, below_saved, saved_list}
use Rattle.thumb_emit.specs.Emit.{its_register, bring, made_in, keep, land, passes, loads, op_pieces, unless, unequal, below_unsigned, at_least_unsigned, tests_null, tests_index, finds_item, decides, beside, combines, shifts, divides, loads_field, stores_field, asks, answers_in_r0, calls_slot, move_pieces, moves_pieces, entry_pieces}
use Rattle.thumb_emit.proofs.Lists.{if_has, times_append}
use Rattle.thumb_emit.proofs.Still.{IsStill, Idle, Single, brings_still, keeps_still, lands_still, moves_still}
use Rattle.thumb_emit.specs.Joined.{joined_by}
use Rattle.thumb_emit.proofs.Operators.{unary_has, binary_has}
use Rattle.thumb_emit.proofs.Joins.{tests_has, branches_has}

-- the labels that pieces go to
abbrev pub gos_of : List Piece → List ℕ
gos_of [] = []
gos_of (Go c l ∷ xs) = l ∷ gos_of xs
gos_of (x ∷ xs) = gos_of xs

abbrev pub count : ℕ → List ℕ → ℕ
count l [] = 0
count l (m ∷ ms) = (if m == l then 1 else 0) + count l ms

pub gos_append : (xs ys : List Piece) → gos_of (xs ++ ys) ≡ gos_of xs ++ gos_of ys
gos_append [] ys = refl
gos_append (Plain x ∷ xs) ys = gos_append xs ys
gos_append (Label m ∷ xs) ys = gos_append xs ys
gos_append (Go c m ∷ xs) ys = ap (λ (q : List ℕ). m ∷ q) (gos_append xs ys)
gos_append (CallTo f ∷ xs) ys = gos_append xs ys
gos_append (Number r v ∷ xs) ys = gos_append xs ys
gos_append (Address r w ∷ xs) ys = gos_append xs ys

pub counted_not : (m l : ℕ) → (m ≡ l → ⊥) → ◌≡◌ {A = ℕ} (if m == l then 1 else 0) 0
counted_not m l n = let e : (m == l) ≡ false = grind (arith, nat_tests) in rw e refl

count_append : (l : ℕ) (ms ns : List ℕ) → count l (ms ++ ns) ≡ count l ms + count l ns
count_append l [] ns = sym (zero-add (count l ns))
count_append l (m ∷ ms) ns = let h = count_append l ms ns in omega (arith, h)

-- the label to which nobody goes
abbrev pub idle : Function → ℕ
idle f = 3 * length f.ops + 1

module _ (f : Function) where
  -- exactly these labels stand among pieces, but for the idle one, and exactly these are gone to
  pub record IsMarked (labels gos : List ℕ) (xs : List Piece) : Type 0 where
    pub stand : (l : ℕ) → (idle f ≡ l → ⊥) → times l xs ≡ count l labels
    pub goes : gos_of xs ≡ gos

  marked_append : (ls gs ms hs : List ℕ) (xs ys : List Piece) → IsMarked ls gs xs → IsMarked ms hs ys → IsMarked (ls ++ ms) (gs ++ hs) (xs ++ ys)
  marked_append ls gs ms hs xs ys a b = record {
    stand = λ l d. let p = times_append l xs ys in let q = count_append l ls ms in let r = a.stand l d in let s = b.stand l d in omega (arith, p, q, r, s);
    goes = gos_append xs ys ∙ (ap (λ (q : List ℕ). q ++ gos_of ys) a.goes ∙ ap (λ (q : List ℕ). gs ++ q) b.goes);
  }

  -- pieces without a label and a branch in front of others
  bare_before : (ls gs : List ℕ) (xs ys : List Piece) → IsMarked [] [] xs → IsMarked ls gs ys → IsMarked ls gs (xs ++ ys)
  bare_before ls gs xs ys = marked_append [] [] ls gs xs ys

  bare_end : IsMarked [] [] []
  bare_end = record { stand = λ l d. refl; goes = refl }

  -- one more piece in front: what takes one instruction or nothing, or a label
  still_before : (ls gs : List ℕ) (x : Piece) (xs : List Piece) → IsStill f x → IsMarked ls gs xs → IsMarked ls gs (x ∷ xs)
  still_before ls gs _ xs Idle m = record { stand = λ l d. let a = counted_not (idle f) l d in let b = m.stand l d in omega (arith, a, b); goes = m.goes }
  still_before ls gs _ xs (Single x) m = record { stand = m.stand; goes = m.goes }

  label_before : (ls gs : List ℕ) (m : ℕ) (xs : List Piece) → IsMarked ls gs xs → IsMarked (m ∷ ls) gs (Label m ∷ xs)
  label_before ls gs m xs h = record { stand = λ l d. ap (λ q. (if m == l then 1 else 0) + q) (h.stand l d); goes = h.goes }

  -- a panic, unless a condition holds
  unless_before : (ls gs : List ℕ) (cond code m : ℕ) (xs : List Piece) → IsMarked ls gs xs → IsMarked (m ∷ ls) (m ∷ gs) (unless cond code m ++ xs)
  unless_before ls gs cond code m xs h =
      let k = label_before ls gs m xs h in record { stand = k.stand; goes = ap (λ (q : List ℕ). m ∷ q) k.goes }

  null_before : (ls gs : List ℕ) (r m : ℕ) (xs : List Piece) → IsMarked ls gs xs → IsMarked (m ∷ ls) (m ∷ gs) (tests_null r m ++ xs)
  null_before ls gs r m xs h = let k = unless_before ls gs unequal 105 m xs h in record { stand = k.stand; goes = k.goes }

  index_before : (ls gs : List ℕ) (array index m : ℕ) (xs : List Piece) → IsMarked ls gs xs → IsMarked (m ∷ ls) (m ∷ gs) (tests_index array index m ++ xs)
  index_before ls gs array index m xs h = let k = unless_before ls gs below_unsigned 104 m xs h in record { stand = k.stand; goes = k.goes }

  if_bare : (b : Bool) (xs ys : List Piece) → IsMarked [] [] xs → IsMarked [] [] ys → IsMarked [] [] (if b then xs else ys)
  if_bare b xs ys = if_has (λ zs. IsMarked [] [] zs) b xs ys

  fields_bare : (rd object field : ℕ) → IsMarked [] [] (loads_field rd object field)
  fields_bare rd object field = if_bare (nat_lt field 31) _ _ (record { stand = λ l d. refl; goes = refl }) (record { stand = λ l d. refl; goes = refl })

  stored_bare : (rs object field : ℕ) → IsMarked [] [] (stores_field rs object field)
  stored_bare rs object field = if_bare (nat_lt field 31) _ _ (record { stand = λ l d. refl; goes = refl }) (record { stand = λ l d. refl; goes = refl })

  raises_bare : (n : ℕ) → IsMarked [] [] (raises n)
  raises_bare n = if_bare (nat_lt 127 n) _ _ (record { stand = λ l d. refl; goes = refl }) (record { stand = λ l d. refl; goes = refl })

  lowers_bare : (n : ℕ) → IsMarked [] [] (lowers n)
  lowers_bare n = if_bare (nat_lt 127 n) _ _ (record { stand = λ l d. refl; goes = refl }) (record { stand = λ l d. refl; goes = refl })

  asks_bare : (unread : Bool) (service : ℕ) → IsMarked [] [] (asks unread service)
  asks_bare unread service = if_bare (unread || answers_in_r0 service) _ _ (record { stand = λ l d. refl; goes = refl }) (record { stand = λ l d. refl; goes = refl })

  -- The pieces of op k of n ops have no labels but their own two, the first or both, each of which they go to; or they go to an op.
  pub data Marks (k n : ℕ) (xs : List Piece) : Type 0 where
    None : IsMarked [] [] xs → Marks k n xs
    One : IsMarked ((3 * k + 1) ∷ []) ((3 * k + 1) ∷ []) xs → Marks k n xs
    Two : IsMarked ((3 * k + 1) ∷ (3 * k + 2) ∷ []) ((3 * k + 1) ∷ (3 * k + 2) ∷ []) xs → Marks k n xs
    Away : (target : ℕ) → target < n → IsMarked [] ((3 * target) ∷ []) xs → Marks k n xs

  -- one more piece in front of an op's
  still_marks : (k n : ℕ) (x : Piece) (xs : List Piece) → IsStill f x → Marks k n xs → Marks k n (x ∷ xs)
  still_marks k n x xs s (None m) = None (still_before [] [] x xs s m)
  still_marks k n x xs s (One m) = One (still_before ((3 * k + 1) ∷ []) ((3 * k + 1) ∷ []) x xs s m)
  still_marks k n x xs s (Two m) = Two (still_before ((3 * k + 1) ∷ (3 * k + 2) ∷ []) ((3 * k + 1) ∷ (3 * k + 2) ∷ []) x xs s m)
  still_marks k n x xs s (Away t l m) = Away t l (still_before [] ((3 * t) ∷ []) x xs s m)

  module _ (place : ℕ → Place) where
    brought : (scratch t : ℕ) → IsStill f (bring f place scratch t)
    brought scratch t = brings_still f scratch (place t)

    kept : (k t : ℕ) → IsMarked [] [] (keep f place k t ∷ [])
    kept k t = still_before [] [] (keep f place k t) [] (keeps_still f (is_unread f k) (place t)) bare_end

    landed : (k t : ℕ) → IsMarked [] [] (land f place k t ∷ [])
    landed k t = still_before [] [] (land f place k t) [] (lands_still f (is_unread f k) (place t)) bare_end

    passes_bare : (k : ℕ) (ts : List ℕ) → IsMarked [] [] (passes f place k ts)
    passes_bare k [] = bare_end
    passes_bare k (t ∷ ts) =
        let h = passes_bare (k + 1) ts in
        still_before [] [] (bring f place 0 t) (Plain (StrSp (its_register f place 0 t) k) ∷ passes f place (k + 1) ts) (brought 0 t) (record { stand = h.stand; goes = h.goes })

    loads_bare : (k : ℕ) (ts : List ℕ) → IsMarked [] [] (loads f place k ts)
    loads_bare k [] = bare_end
    loads_bare k (t ∷ ts) = let h = loads_bare (k + 1) ts in record { stand = h.stand; goes = h.goes }

    -- the kinds of operators, with the keeping of their result
    decides_marks : (k n rd by : ℕ) (x : Instr) (cond to : ℕ) → Marks k n (decides f rd by x cond (3 * k + 1) ++ (keep f place k to ∷ []))
    decides_marks k n rd by x cond to =
        let h = still_before [] [] (carries f rd by) (keep f place k to ∷ []) (moves_still f rd by) (kept k to) in
        let m = label_before [] [] (3 * k + 1) (carries f rd by ∷ keep f place k to ∷ []) h in
        One (record { stand = m.stand; goes = ap (λ (q : List ℕ). (3 * k + 1) ∷ q) m.goes })

    one_marks : (k n : ℕ) (x : Instr) (to : ℕ) → Marks k n (Plain x ∷ keep f place k to ∷ [])
    one_marks k n x to = still_marks k n (Plain x) (keep f place k to ∷ []) (Single x) (None (kept k to))

    combines_marks : (k n rd left right : ℕ) (x : ℕ → ℕ → Instr) (to : ℕ) → Marks k n (combines f rd left right x ++ (keep f place k to ∷ []))
    combines_marks k n rd left right x to =
        let b = beside 2 rd right in
        still_marks k n _ _ (moves_still f b left) (still_marks k n _ _ (Single (x b right)) (still_marks k n _ _ (moves_still f rd b) (None (kept k to))))

    shifts_marks : (k n rd left right : ℕ) (x : ℕ → ℕ → Instr) (to : ℕ) → Marks k n (shifts f rd left right x ++ (keep f place k to ∷ []))
    shifts_marks k n rd left right x to =
        still_marks k n _ _ (Single (MovImm 2 31)) (still_marks k n _ _ (Single (And 2 right)) (still_marks k n _ _ (moves_still f rd left)
        (still_marks k n _ _ (Single (x rd 2)) (None (kept k to)))))

    divides_marks : (k n rd left right answer to : ℕ) → Marks k n (divides f rd left right answer ++ (keep f place k to ∷ []))
    divides_marks k n rd left right answer to =
        let h = still_before [] [] (carries f rd answer) (keep f place k to ∷ []) (moves_still f rd answer) (kept k to) in
        still_marks k n _ _ (moves_still f 0 left) (still_marks k n _ _ (moves_still f 1 right) (None (record { stand = h.stand; goes = h.goes })))

    copies_bare : (unread : Bool) (q p : Place) → IsMarked [] [] (copies f unread q p)
    copies_bare true q p = still_before [] [] (from_place f 0 p) (idle_piece f ∷ []) (Single (from_instr f 0 p)) (still_before [] [] (idle_piece f) [] Idle bare_end)
    copies_bare false (Reg r) p = still_before [] [] (from_place f r p) (idle_piece f ∷ []) (Single (from_instr f r p)) (still_before [] [] (idle_piece f) [] Idle bare_end)
    copies_bare false (Slot j) p = still_before [] [] _ _ (brings_still f 0 p) (still_before [] [] _ [] (Single (to_instr f (register_of 0 p) (Slot j))) bare_end)
    copies_bare false (Incoming j) p = still_before [] [] _ _ (brings_still f 0 p) (still_before [] [] _ [] (Single (to_instr f (register_of 0 p) (Incoming j))) bare_end)

    -- what begins with a test for null
    null_marks : (k n r : ℕ) (xs : List Piece) → IsMarked [] [] xs → Marks k n (tests_null r (3 * k + 1) ++ xs)
    null_marks k n r xs h = One (null_before [] [] r (3 * k + 1) xs h)

    -- what tests for null, and then an index
    item_marks : (k n array index : ℕ) (xs : List Piece) → IsMarked [] [] xs
        → Marks k n (tests_null array (3 * k + 1) ++ (tests_index array index (3 * k + 2) ++ (finds_item array index ++ xs)))
    item_marks k n array index xs h =
        let g : IsMarked [] [] (finds_item array index ++ xs) = record { stand = h.stand; goes = h.goes } in
        Two (null_before ((3 * k + 2) ∷ []) ((3 * k + 2) ∷ []) array (3 * k + 1) _ (index_before [] [] array index (3 * k + 2) _ g))

    pub op_marks : (k n : ℕ) (op : Op) → GoesBelow n op → Marks k n (op_pieces f place k op)
    op_marks k n (Const to value) w = let h = kept k to in None (record { stand = h.stand; goes = h.goes })
    op_marks k n (Copy to from) w = None (copies_bare (is_unread f k) (place to) (place from))
    op_marks k n (Unary to op from) w =
        still_marks k n _ _ (brought 0 from) (tests_has (Marks k n) (joined_by f (suc k)) _ _ (None (record { stand = λ l d. refl; goes = refl }))
        (unary_has (λ xs. Marks k n (xs ++ (keep f place k to ∷ []))) f (made_in f place k to) op (3 * k + 1)
        (λ x. one_marks k n x to) (λ by x cond. decides_marks k n (made_in f place k to) by x cond to) (its_register f place 0 from)))
    op_marks k n (Binary to op left right) w =
        let rd = made_in f place k to in let a = its_register f place 0 left in let b = its_register f place 1 right in
        still_marks k n _ _ (brought 0 left) (still_marks k n _ _ (brought 1 right) (tests_has (Marks k n) (joined_by f (suc k)) _ _
        (None (record { stand = λ l d. refl; goes = refl }))
        (binary_has (λ xs. Marks k n (xs ++ (keep f place k to ∷ []))) f rd op (3 * k + 1)
        (λ x. one_marks k n x to) (λ by x cond. decides_marks k n rd by x cond to) a b
        (λ x. combines_marks k n rd a b x to) (λ x. shifts_marks k n rd a b x to) (λ answer. divides_marks k n rd a b answer to))))
    op_marks k n (GlobalGet to slot) w = let h = kept k to in None (record { stand = h.stand; goes = h.goes })
    op_marks k n (GlobalSet slot from) w = still_marks k n _ _ (brought 0 from) (None (record { stand = λ l d. refl; goes = refl }))
    op_marks k n (FieldGet to object field) w =
        still_marks k n _ _ (brought 0 object) (null_marks k n (its_register f place 0 object) _ (bare_before [] [] _ _ (fields_bare (made_in f place k to) (its_register f place 0 object) field) (kept k to)))
    op_marks k n (FieldSet object field from) w =
        still_marks k n _ _ (brought 0 object) (null_marks k n (its_register f place 0 object) _
        (still_before [] [] (bring f place 1 from) _ (brought 1 from) (stored_bare (its_register f place 1 from) (its_register f place 0 object) field)))
    op_marks k n (ItemGet to array index) w =
        let h = kept k to in
        still_marks k n _ _ (brought 0 array) (still_marks k n _ _ (brought 1 index) (item_marks k n (its_register f place 0 array) (its_register f place 1 index) _
        (record { stand = h.stand; goes = h.goes })))
    op_marks k n (ItemSet array index from) w =
        still_marks k n _ _ (brought 0 array) (still_marks k n _ _ (brought 1 index) (item_marks k n (its_register f place 0 array) (its_register f place 1 index) _
        (still_before [] [] (bring f place 3 from) _ (brought 3 from) (record { stand = λ l d. refl; goes = refl }))))
    op_marks k n (Length to array) w =
        let h = kept k to in still_marks k n _ _ (brought 0 array) (null_marks k n (its_register f place 0 array) _ (record { stand = h.stand; goes = h.goes }))
    op_marks k n (Pop to array) w =
        let h = kept k to in
        let g : IsMarked [] [] (Plain (SubImm8 1 1) ∷ Plain (StrImm 1 (its_register f place 0 array) 1) ∷ finds_item (its_register f place 0 array) 1 ++ (Plain (LdrReg (made_in f place k to) 2 1) ∷ keep f place k to ∷ []))
        = record { stand = h.stand; goes = h.goes } in
        let m = unless_before [] [] unequal 104 (3 * k + 2) _ g in
        still_marks k n _ _ (brought 0 array) (Two (null_before ((3 * k + 2) ∷ []) ((3 * k + 2) ∷ []) (its_register f place 0 array) (3 * k + 1) _ (record { stand = m.stand; goes = m.goes })))
    op_marks k n (TextOf to text) w = let h = kept k to in None (record { stand = h.stand; goes = h.goes })
    op_marks k n (MakeObject to class) w = let h = landed k to in None (record { stand = h.stand; goes = h.goes })
    op_marks k n (MakeArray to room) w = let h = landed k to in None (record { stand = h.stand; goes = h.goes })
    op_marks k n (Call to function args) w = None (bare_before [] [] (passes f place 0 args) (CallTo function ∷ land f place k to ∷ []) (passes_bare 0 args)
        (let h = landed k to in record { stand = h.stand; goes = h.goes }))
    op_marks k n (CallSlot to slot args) w =
        let h = landed k to in
        let g : IsMarked [] [] (Plain (LdrImm 1 0 0) ∷ Plain (LdrImm 1 1 (slot + 1)) ∷ Plain (Blx 1) ∷ land f place k to ∷ []) = record { stand = h.stand; goes = h.goes } in
        let m = null_before [] [] 0 (3 * k + 1) _ g in
        One (bare_before ((3 * k + 1) ∷ []) ((3 * k + 1) ∷ []) (passes f place 0 args) (calls_slot slot (3 * k + 1) ++ (land f place k to ∷ [])) (passes_bare 0 args)
        (record { stand = m.stand; goes = m.goes }))
    op_marks k n (HandlerOf to function) w = let h = kept k to in None (record { stand = h.stand; goes = h.goes })
    op_marks k n (Ask to service args) w =
        let h = bare_before [] [] (asks (is_unread f k) service) (land f place k to ∷ []) (asks_bare (is_unread f k) service) (landed k to) in
        None (bare_before [] [] (loads f place 0 args) (asks (is_unread f k) service ++ (land f place k to ∷ [])) (loads_bare 0 args) h)
    op_marks k n (Jump target) w = Away target w.0 (record { stand = λ l d. refl; goes = refl })
    op_marks k n (Branch when target) w = branches_has (Marks k n) (joined_by f k) _ _ _ (λ c e. Away target w.0 (record { stand = λ l d. refl; goes = refl }))
        (still_marks k n _ _ (brought 0 when) (Away target w.0 (record { stand = λ l d. refl; goes = refl })))
    op_marks k n (Return from) w =
        let h = bare_before [] [] (raises (below_saved f place)) (Plain (PopMany (saved_list f place) true) ∷ []) (raises_bare (below_saved f place)) (record { stand = λ l d. refl; goes = refl }) in
        None (record { stand = h.stand; goes = h.goes })

    moved_bare : (p : Place) (t : ℕ) → IsMarked [] [] (move_pieces f place p t)
    moved_bare (Incoming j) t = bare_end
    moved_bare (Reg r) t = let h = still_before [] [] (idle_piece f) [] Idle bare_end in record { stand = h.stand; goes = h.goes }
    moved_bare (Slot j) t = record { stand = λ l d. refl; goes = refl }

    moves_bare : (t n : ℕ) → IsMarked [] [] (moves_pieces f place t n)
    moves_bare t zero = bare_end
    moves_bare t (suc n) = bare_before [] [] (move_pieces f place (place t) t) (moves_pieces f place (t + 1) n) (moved_bare (place t) t) (moves_bare (t + 1) n)

    pub entry_marks : IsMarked ((3 * length f.ops) ∷ []) ((3 * length f.ops) ∷ []) (entry_pieces f place)
    entry_marks =
        let h = bare_before [] [] (lowers (below_saved f place)) (moves_pieces f place 0 f.params) (lowers_bare (below_saved f place)) (moves_bare 0 f.params) in
        let g : IsMarked [] [] (Plain (MovHigh 14 3) ∷ Plain (Push (saved_list f place) true) ∷ lowers (below_saved f place) ++ moves_pieces f place 0 f.params) = record { stand = h.stand; goes = h.goes } in
        let m = unless_before [] [] at_least_unsigned 102 (3 * length f.ops) _ g in
        record { stand = m.stand; goes = m.goes }
