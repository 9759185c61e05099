-- What the words show of each operation.
use Rattle.std.proofs.Common.{zero, suc, ◌≡◌, ℕ, ◌+◌, ◌<◌, ◌≤◌, List, [], ◌∷◌, ◌++◌, length, Option, Some, None, inl, inr, refl, sym, ap, ◌∙◌, subst, arith, slice_set, slice_index}
use Rattle.std.specs.Prelude.{pos, negsuc}
use Rattle.std.proofs.lemmas.List.{length-set}
use Rattle.bank_model.specs.Arrays.{behind_words}
use Rattle.sts_syntax.specs.TypeRules.{entry}
use Rattle.sts_meaning.specs.Values.{Value, Whole, Object, Text, Code, Gives, then_gives, there}
use Rattle.sts_meaning.specs.Heaps.{CellOf, Fields, Items, HeapOf, with_cell, write_global, fields_of, object_at, items_of, put_fields, put_items, read_field, write_field, found, item_at, read_item, write_item, length_at, last, shorter, popped}
use Rattle.arena_values.specs.Words.{Is}
use Rattle.arena_values.specs.Lies.{Stand, Lies, Shows}
use Rattle.arena_values.proofs.Showing.{Header, SeesClass, SeesField, PastItems, SeesItem, SeesLength, ChangesField, ChangesItem, PopsItem}
use Rattle.arena_values.proofs.Signs.{signed_low, null_is, index_is, negative_is}
use Rattle.arena_values.proofs.Standing.{entry_below, entry_none, changed_length, more_length, last_is, last_none, stand_at, stand_set, stand_front}
use Rattle.arena_values.proofs.Objects.{sets_field}
use Rattle.arena_values.proofs.Arrays.{sets_item, pops_item}

module _ (IsText IsCode : ℕ → ℕ → Type 0) (class_word : ℕ → ℕ) where
  abbrev pub Means : Value → ℕ → Type 0
  Means v w = Is IsText IsCode v w

  module _ {N : Type 0} (h : HeapOf N) (used : ℕ) (globals arena : List ℕ) (s : Shows Means class_word h used globals arena) where
    -- an array's header
    pub header_of : (m : ℕ) (item : N) (room : ℕ) (items : List Value) (w : ℕ) → (g : h.cells m ≡ Some (Items item room items)) → w ≡ behind_words m
        → Header arena w (length items) ((s.lies).each m (Items item room items) g).at
    header_of m item room items w g e =
        let l = s.lies in
        let x = l.each m (Items item room items) g in
        let a = (x.owned).within in let b = (x.owned_room).within in let u = l.within in let f = x.fits in
        record { array = m; at = e; within = omega arith; count_is = x.length_is; few = omega arith; first_is = x.at_is; behind = x.behind; room = omega arith }

    -- an object's class
    pub sees_class : (o : Value) (w : ℕ) → Means o w → SeesClass Means class_word arena w (object_at h o)
    sees_class (Object n) w i = by (h.cells n) refl
      where
        by : (c : Option (CellOf N)) → h.cells n ≡ c → SeesClass Means class_word arena w (fields_of c)
        by None q = tt
        by (Some (Items item room items)) q = tt
        by (Some (Fields class fields)) q =
            let l = s.lies in
            let x = l.each n (Fields class fields) q in
            let a = (x.owned).within in let u = l.within in
            record { object = n; at = i.0; within = omega arith; table = x.table }
    sees_class (Whole (pos zero)) w i = (null_is w i.0 i.1, refl)
    sees_class (Whole (pos (suc n))) w i = tt
    sees_class (Whole (negsuc n)) w i = tt
    sees_class (Text t) w i = tt
    sees_class (Code f) w i = tt

    -- a field is read
    pub sees_field : (o : Value) (w f : ℕ) → Means o w → SeesField Means class_word arena w f (read_field h o f)
    sees_field (Object n) w f i = by (h.cells n) refl
      where
        one : (class : ℕ) (fields : List Value) (e : Option Value) → h.cells n ≡ Some (Fields class fields) → entry fields f ≡ e → SeesField Means class_word arena w f (there e)
        one class fields None q e = tt
        one class fields (Some v) q e =
            let l = s.lies in
            let x = l.each n (Fields class fields) q in
            let a = (x.owned).within in let u = l.within in let b = entry_below fields f v e in
            record { object = n; at = i.0; within = omega arith; shows = stand_at Means class_word fields arena (n + 1) f v e x.values }

        by : (c : Option (CellOf N)) → h.cells n ≡ c → SeesField Means class_word arena w f (then_gives (fields_of c) (λ c. there (entry c.1 f)))
        by None q = tt
        by (Some (Items item room items)) q = tt
        by (Some (Fields class fields)) q = one class fields (entry fields f) q refl
    sees_field (Whole (pos zero)) w f i = (null_is w i.0 i.1, refl)
    sees_field (Whole (pos (suc n))) w f i = tt
    sees_field (Whole (negsuc n)) w f i = tt
    sees_field (Text t) w f i = tt
    sees_field (Code g) w f i = tt

    -- the heap behind a change of its arena alone
    shown_with : (h' : HeapOf N) (arena' : List ℕ) → h'.globals ≡ h.globals → Lies Means class_word h' used arena' → Shows Means class_word h' used globals arena'
    shown_with h' arena' e l =
        record {
          size = s.size;
          fits = subst (λ (gs : List Value). length gs ≤ 256) (sym e) s.fits;
          values = subst (λ (gs : List Value). Stand Means class_word gs globals 0) (sym e) s.values;
          lies = l;
        }

    -- a field is written
    pub changes_field : (o : Value) (w f : ℕ) (v : Value) → Means o w → ChangesField Means class_word arena used globals w f v (write_field h o f v)
    changes_field (Object n) w f v i = by (h.cells n) refl
      where
        one : (class : ℕ) (fields : List Value) (e : Option Value) → h.cells n ≡ Some (Fields class fields) → entry fields f ≡ e
            → ChangesField Means class_word arena used globals w f v (then_gives (there e) (λ old. Gives (put_fields (Object n) class (slice_set fields f v) h)))
        one class fields None q e = tt
        one class fields (Some old) q e =
            let l = s.lies in
            let x = l.each n (Fields class fields) q in
            let a = (x.owned).within in let u = l.within in let b = entry_below fields f old e in
            record { object = n; at = i.0; within = omega arith; stores = λ y m. shown_with _ _ refl (sets_field Means class_word h used n class f y arena fields v q b m l) }

        by : (c : Option (CellOf N)) → h.cells n ≡ c
            → ChangesField Means class_word arena used globals w f v (then_gives (fields_of c) (λ c. then_gives (there (entry c.1 f)) (λ old. Gives (put_fields (Object n) c.0 (slice_set c.1 f v) h))))
        by None q = tt
        by (Some (Items item room items)) q = tt
        by (Some (Fields class fields)) q = one class fields (entry fields f) q refl
    changes_field (Whole (pos zero)) w f v i = (null_is w i.0 i.1, refl)
    changes_field (Whole (pos (suc n))) w f v i = tt
    changes_field (Whole (negsuc n)) w f v i = tt
    changes_field (Text t) w f v i = tt
    changes_field (Code g) w f v i = tt

    -- an item is read
    pub sees_item : (a i : Value) (w x : ℕ) → Means a w → Means i x → SeesItem Means class_word arena w x (read_item h a i)
    sees_item (Object n) i w x m j = by (h.cells n) refl
      where
        past : (item : N) (room : ℕ) (items : List Value) → (g : h.cells n ≡ Some (Items item room items)) → length items ≤ x → PastItems arena w x 104
        past item room items g l = record { count = length items; first = _; header = header_of n item room items w g m.0; past = l; code_is = refl }

        one : (item : N) (room : ℕ) (items : List Value) (k : ℕ) (e : Option Value) → h.cells n ≡ Some (Items item room items) → x ≡ k → entry items k ≡ e
            → SeesItem Means class_word arena w x (then_gives (found k e) (λ y. Gives y.1))
        one item room items k None g q e = inr (past item room items g (let b = entry_none items k e in omega arith))
        one item room items k (Some v) g q e =
            let y = (s.lies).each n (Items item room items) g in
            record {
              count = length items;
              first = y.at;
              header = header_of n item room items w g m.0;
              below = (let b = entry_below items k v e in omega arith);
              shows = subst (λ j. Means v (slice_index arena (y.at + j))) (sym q) (stand_at Means class_word items arena y.at k v e y.values);
            }

        at : (item : N) (room : ℕ) (items : List Value) (i : Value) → Means i x → h.cells n ≡ Some (Items item room items) → SeesItem Means class_word arena w x (then_gives (item_at items i) (λ y. Gives y.1))
        at item room items (Whole (pos k)) j g = one item room items k (entry items k) g (index_is x k j.0 j.1) refl
        at item room items (Whole (negsuc k)) j g =
            inr (past item room items g (let b = negative_is x k j.0 j.1 in let f = (header_of n item room items w g m.0).few in omega arith))
        at item room items (Object k) j g = tt
        at item room items (Text k) j g = tt
        at item room items (Code k) j g = tt

        by : (c : Option (CellOf N)) → h.cells n ≡ c → SeesItem Means class_word arena w x (then_gives (items_of c) (λ r. then_gives (item_at r.items i) (λ y. Gives y.1)))
        by None q = tt
        by (Some (Fields class fields)) q = tt
        by (Some (Items item room items)) q = at item room items i j q
    sees_item (Whole (pos zero)) i w x m j = inl (null_is w m.0 m.1, refl)
    sees_item (Whole (pos (suc n))) i w x m j = tt
    sees_item (Whole (negsuc n)) i w x m j = tt
    sees_item (Text t) i w x m j = tt
    sees_item (Code g) i w x m j = tt

    -- an item is written
    pub changes_item : (a i : Value) (w x : ℕ) (v : Value) → Means a w → Means i x → ChangesItem Means class_word arena used globals w x v (write_item h a i v)
    changes_item (Object n) i w x v m j = by (h.cells n) refl
      where
        put : (item : N) (room : ℕ) (items : List Value) → ℕ → HeapOf N
        put item room items k = put_items (Object n) (record { item = item; room = room; items = items }) (slice_set items k v) h

        past : (item : N) (room : ℕ) (items : List Value) → (g : h.cells n ≡ Some (Items item room items)) → length items ≤ x → PastItems arena w x 104
        past item room items g l = record { count = length items; first = _; header = header_of n item room items w g m.0; past = l; code_is = refl }

        one : (item : N) (room : ℕ) (items : List Value) (k : ℕ) (e : Option Value) → h.cells n ≡ Some (Items item room items) → x ≡ k → entry items k ≡ e
            → ChangesItem Means class_word arena used globals w x v (then_gives (found k e) (λ y. Gives (put_items (Object n) (record { item = item; room = room; items = items }) (slice_set items y.0 v) h)))
        one item room items k None g q e = inr (past item room items g (let b = entry_none items k e in omega arith))
        one item room items k (Some old) g q e =
            let y = (s.lies).each n (Items item room items) g in
            let b = entry_below items k old e in
            record {
              count = length items;
              first = y.at;
              header = header_of n item room items w g m.0;
              below = omega arith;
              stores = λ z p. shown_with _ _ refl (subst (λ j. Lies Means class_word (with_cell n (Items item room (slice_set items k v)) h) used (slice_set arena (y.at + j) z)) (sym q) (sets_item Means class_word h used n item room k z arena items v g b p s.lies));
            }

        at : (item : N) (room : ℕ) (items : List Value) (i : Value) → Means i x → h.cells n ≡ Some (Items item room items)
            → ChangesItem Means class_word arena used globals w x v (then_gives (item_at items i) (λ y. Gives (put_items (Object n) (record { item = item; room = room; items = items }) (slice_set items y.0 v) h)))
        at item room items (Whole (pos k)) j g = one item room items k (entry items k) g (index_is x k j.0 j.1) refl
        at item room items (Whole (negsuc k)) j g =
            inr (past item room items g (let b = negative_is x k j.0 j.1 in let f = (header_of n item room items w g m.0).few in omega arith))
        at item room items (Object k) j g = tt
        at item room items (Text k) j g = tt
        at item room items (Code k) j g = tt

        by : (c : Option (CellOf N)) → h.cells n ≡ c
            → ChangesItem Means class_word arena used globals w x v (then_gives (items_of c) (λ r. then_gives (item_at r.items i) (λ y. Gives (put_items (Object n) r (slice_set r.items y.0 v) h))))
        by None q = tt
        by (Some (Fields class fields)) q = tt
        by (Some (Items item room items)) q = at item room items i j q
    changes_item (Whole (pos zero)) i w x v m j = inl (null_is w m.0 m.1, refl)
    changes_item (Whole (pos (suc n))) i w x v m j = tt
    changes_item (Whole (negsuc n)) i w x v m j = tt
    changes_item (Text t) i w x v m j = tt
    changes_item (Code g) i w x v m j = tt

    -- a length
    pub sees_length : (a : Value) (w : ℕ) → Means a w → SeesLength Means class_word arena w (length_at h a)
    sees_length (Object n) w m = by (h.cells n) refl
      where
        by : (c : Option (CellOf N)) → h.cells n ≡ c → SeesLength Means class_word arena w (then_gives (items_of c) (λ r. Gives (Whole (pos (length r.items)))))
        by None q = tt
        by (Some (Fields class fields)) q = tt
        by (Some (Items item room items)) q =
            let y = header_of n item room items w q m.0 in
            let f = y.few in
            record { count = length items; first = _; header = y; shows = (sym (signed_low (length items) (omega arith)), omega arith) }
    sees_length (Whole (pos zero)) w m = (null_is w m.0 m.1, refl)
    sees_length (Whole (pos (suc n))) w m = tt
    sees_length (Whole (negsuc n)) w m = tt
    sees_length (Text t) w m = tt
    sees_length (Code g) w m = tt

    -- the last item is taken away
    pub pops : (a : Value) (w : ℕ) → Means a w → PopsItem Means class_word arena used globals w (popped h a)
    unfolding header_of
    pops (Object n) w m = by (h.cells n) refl
      where
        one : (item : N) (room : ℕ) (items : List Value) (o : Option (Value × List Value)) → h.cells n ≡ Some (Items item room items) → last items ≡ o
            → PopsItem Means class_word arena used globals w (shorter h (Object n) (record { item = item; room = room; items = items }) o)
        one item room items None g e =
            let z = last_none items e in
            inr (record { first = _; header = header_of n item room [] w (g ∙ ap (λ (vs : List Value). Some (Items item room vs)) z) m.0; code_is = refl })
        one item room items (Some x) g e =
            let z = last_is items x e in
            let g' : h.cells n ≡ Some (Items item room (x.1 ++ x.0 ∷ [])) = g ∙ ap (λ (vs : List Value). Some (Items item room vs)) z in
            let y = (s.lies).each n (Items item room (x.1 ++ x.0 ∷ [])) g' in
            record {
              less = length x.1;
              first = y.at;
              header = subst (λ k. Header arena w k y.at) (more_length x.1 x.0) (header_of n item room (x.1 ++ x.0 ∷ []) w g' m.0);
              shows = (stand_front Means class_word x.1 arena y.at x.0 y.values).1;
              changed = shown_with _ _ refl (pops_item Means class_word h used n item room arena x.1 x.0 g' s.lies);
            }

        by : (c : Option (CellOf N)) → h.cells n ≡ c → PopsItem Means class_word arena used globals w (then_gives (items_of c) (λ r. shorter h (Object n) r (last r.items)))
        by None q = tt
        by (Some (Fields class fields)) q = tt
        by (Some (Items item room items)) q = one item room items (last items) q refl
    pops (Whole (pos zero)) w m = inl (null_is w m.0 m.1, refl)
    pops (Whole (pos (suc n))) w m = tt
    pops (Whole (negsuc n)) w m = tt
    pops (Text t) w m = tt
    pops (Code g) w m = tt

    -- a global is read
    pub sees_global : (g : ℕ) (v : Value) → entry h.globals g ≡ Some v → (g < 256) × Means v (slice_index globals g)
    sees_global g v e =
        let b = entry_below h.globals g v e in let f = s.fits in
        (omega arith, subst (λ j. Means v (slice_index globals j)) (omega arith) (stand_at Means class_word h.globals globals 0 g v e s.values))

    -- and written
    pub changes_global : (g : ℕ) (v : Value) (h' : HeapOf N) → write_global h g v ≡ Gives h' → (g < 256) × ((x : ℕ) → Means v x → Shows Means class_word h' used (slice_set globals g x) arena)
    changes_global g v h' e = by (entry h.globals g) refl e
      where
        by : (o : Option Value) → entry h.globals g ≡ o → then_gives (there o) (λ old. Gives (record h { globals = slice_set h.globals g v })) ≡ Gives h'
            → (g < 256) × ((x : ℕ) → Means v x → Shows Means class_word h' used (slice_set globals g x) arena)
        by None q e = cc
        by (Some old) q e =
            let b = entry_below h.globals g old q in let f = s.fits in let z = s.size in let n = changed_length h.globals g v in
            let same : record h { globals = slice_set h.globals g v } ≡ h' = (cc) in (
              omega arith,
              λ x m. subst (λ (k : HeapOf N). Shows Means class_word k used (slice_set globals g x) arena) same (record {
                size = length-set globals g x ∙ z;
                fits = omega arith;
                values = subst (λ j. Stand Means class_word (slice_set h.globals g v) (slice_set globals j x) 0) (omega arith) (stand_set Means class_word h.globals globals 0 g v x b (omega arith) m s.values);
                lies = (let l = s.lies in record { owner = l.owner; within = l.within; size = l.size; each = l.each; rest = l.rest });
              }),
            )
