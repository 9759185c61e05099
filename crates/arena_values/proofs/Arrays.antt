-- Arrays: their items, and new ones.
use Rattle.std.proofs.Common.{◌≡◌, ◌≢◌, ℕ, ◌+◌, ◌<◌, ◌≤◌, List, [], ◌∷◌, ◌++◌, length, Some, refl, sym, ap, ◌∙◌, subst, arith, slice_set, slice_index, get_or-set_same, get_or-set_other}
use Rattle.std.proofs.lemmas.List.{length-set}
use Rattle.thumb_code.specs.Map.{arena_words}
use Rattle.bank_model.specs.Arrays.{behind_words}
use Rattle.sts_meaning.specs.Values.{Value}
use Rattle.sts_meaning.specs.Heaps.{Items, HeapOf, with_cell}
use Rattle.arena_values.proofs.Update.{Same, stand_same}
use Rattle.arena_values.proofs.Update.{updated}
use Rattle.arena_values.proofs.Standing.{stand_set, stand_more, stand_front, stand_copied, changed_length, more_length}
use Rattle.arena_values.proofs.Objects.{Shown, set_changes, taken, taken_old, owned_new}

module _ (Is : Value → ℕ → Type 0) (class_word : ℕ → ℕ) {N : Type 0} where
  -- an item is written
  pub sets_item : (heap : HeapOf N) (used m : ℕ) (item : N) (room i w : ℕ) (arena : List ℕ) (items : List Value) (v : Value) → (g : heap.cells m ≡ Some (Items item room items)) → i < length items → Is v w
      → (h : Shown Is class_word heap used arena) → Shown Is class_word (with_cell m (Items item room (slice_set items i v)) heap) used (slice_set arena ((h.each m (Items item room items) g).at + i) w)
  sets_item heap used m item room i w arena items v g l e h =
      let x = h.each m (Items item room items) g in
      let o = x.owned_room in let a = o.within in let u = h.within in let z = h.size in let f = x.fits in let b = x.behind in
      let n = changed_length items i v in
      updated Is class_word heap used used m arena (slice_set arena (x.at + i) w) (Items item room (slice_set items i v)) h h.owner u (length-set arena (x.at + i) w ∙ z)
      (set_changes h.owner used m (x.at + i) w arena (o.mine i (omega arith)) (omega arith))
      (record {
        at = x.at;
        owned = x.owned;
        behind = x.behind;
        owned_room = x.owned_room;
        fits = omega arith;
        length_is = get_or-set_other arena (x.at + i) (m + 1) w 0 (omega arith) ∙ (x.length_is ∙ sym n);
        room_is = get_or-set_other arena (x.at + i) (m + 2) w 0 (omega arith) ∙ x.room_is;
        at_is = get_or-set_other arena (x.at + i) (m + 3) w 0 (omega arith) ∙ x.at_is;
        values = stand_set Is class_word items arena x.at i v w l (omega arith) e x.values;
      })

  -- the last item is gone: the length is one less
  pub pops_item : (heap : HeapOf N) (used m : ℕ) (item : N) (room : ℕ) (arena : List ℕ) (items : List Value) (v : Value) → heap.cells m ≡ Some (Items item room (items ++ v ∷ []))
      → Shown Is class_word heap used arena → Shown Is class_word (with_cell m (Items item room items) heap) used (slice_set arena (m + 1) (length items))
  pops_item heap used m item room arena items v g h =
      let x = h.each m (Items item room (items ++ v ∷ [])) g in
      let o = x.owned in let a = o.within in let u = h.within in let z = h.size in let f = x.fits in let b = x.behind in
      let n = more_length items v in
      updated Is class_word heap used used m arena (slice_set arena (m + 1) (length items)) (Items item room items) h h.owner u (length-set arena (m + 1) (length items) ∙ z)
      (set_changes h.owner used m (m + 1) (length items) arena (o.mine 1 (omega arith)) (omega arith))
      (record {
        at = x.at;
        owned = x.owned;
        behind = x.behind;
        owned_room = x.owned_room;
        fits = omega arith;
        length_is = get_or-set_same arena (m + 1) (length items) 0 (omega arith);
        room_is = get_or-set_other arena (m + 1) (m + 2) (length items) 0 (omega arith) ∙ x.room_is;
        at_is = get_or-set_other arena (m + 1) (m + 3) (length items) 0 (omega arith) ∙ x.at_is;
        values = stand_same Is class_word items arena (slice_set arena (m + 1) (length items)) x.at (λ i l. get_or-set_other arena (m + 1) (x.at + i) (length items) 0 (omega arith)) (stand_front Is class_word items arena x.at v x.values).0;
      })

  -- a new array: the header, and the room behind it, as one piece
  pub makes_array : (heap : HeapOf N) (used : ℕ) (item : N) (room : ℕ) (arena arena' : List ℕ) → used + (4 + room) ≤ arena_words → length arena' ≡ arena_words
      → Same arena arena' 0 used → ((k : ℕ) → used + (4 + room) ≤ k → slice_index arena' k ≡ slice_index arena k)
      → slice_index arena' (used + 1) ≡ 0 → slice_index arena' (used + 2) ≡ room → slice_index arena' (used + 3) ≡ behind_words (used + 4)
      → Shown Is class_word heap used arena → Shown Is class_word (with_cell used (Items item room []) heap) (used + (4 + room)) arena'
  makes_array heap used item room arena arena' l z s r a b c h =
      updated Is class_word heap used (used + (4 + room)) used arena arena' (Items item room []) h (taken h.owner used used) l z
      (record { grows = omega arith; stays = λ k q d. (ap (slice_index arena') (omega arith) ∙ (s k q ∙ ap (slice_index arena) (omega arith)), taken_old h.owner used used k q); rest = r })
      (record {
        at = used + 4;
        behind = omega arith;
        fits = omega arith;
        owned = owned_new h.owner used (used + (4 + room)) used used 4 (omega arith) (omega arith);
        owned_room = owned_new h.owner used (used + (4 + room)) used (used + 4) room (omega arith) (omega arith);
        length_is = a;
        room_is = b;
        at_is = c;
        values = tt;
      })

  -- a value goes behind the items, where there is room
  pub adds_item : (heap : HeapOf N) (used m : ℕ) (item : N) (room w : ℕ) (arena : List ℕ) (items : List Value) (v : Value) → (g : heap.cells m ≡ Some (Items item room items)) → length items < room → Is v w
      → (h : Shown Is class_word heap used arena)
      → Shown Is class_word (with_cell m (Items item room (items ++ v ∷ [])) heap) used (slice_set (slice_set arena ((h.each m (Items item room items) g).at + length items) w) (m + 1) (length items + 1))
  adds_item heap used m item room w arena items v g l e h =
      let x = h.each m (Items item room items) g in
      let o = x.owned_room in let a = o.within in let u = h.within in let z = h.size in let f = x.fits in let b = x.behind in
      let n = more_length items v in
      let i = x.at + length items in
      let a1 = slice_set arena i w in
      let len = length items + 1 in
      let a2 = slice_set a1 (m + 1) len in
      let z1 = length-set arena i w in
      let o' = x.owned in let b' = o'.within in
      updated Is class_word heap used used m arena a2 (Items item room (items ++ v ∷ [])) h h.owner u (length-set a1 (m + 1) len ∙ (z1 ∙ z))
      (record {
        grows = omega arith;
        stays = λ k q d. (get_or-set_other a1 (m + 1) k len 0 (λ p. d (ap h.owner p ∙ o'.mine 1 (omega arith))) ∙ get_or-set_other arena i k w 0 (λ p. d (ap h.owner p ∙ o.mine (length items) (omega arith))), refl);
        rest = λ k q. get_or-set_other a1 (m + 1) k len 0 (omega arith) ∙ get_or-set_other arena i k w 0 (omega arith);
      })
      (record {
        at = x.at;
        owned = x.owned;
        behind = x.behind;
        owned_room = x.owned_room;
        fits = omega arith;
        length_is = get_or-set_same a1 (m + 1) len 0 (omega arith) ∙ sym n;
        room_is = get_or-set_other a1 (m + 1) (m + 2) len 0 (omega arith) ∙ (get_or-set_other arena i (m + 2) w 0 (omega arith) ∙ x.room_is);
        at_is = get_or-set_other a1 (m + 1) (m + 3) len 0 (omega arith) ∙ (get_or-set_other arena i (m + 3) w 0 (omega arith) ∙ x.at_is);
        values = stand_more Is class_word items a2 x.at v
            (stand_same Is class_word items arena a2 x.at (λ k q. get_or-set_other a1 (m + 1) (x.at + k) len 0 (omega arith) ∙ get_or-set_other arena i (x.at + k) w 0 (omega arith)) x.values)
            (subst (Is v) (sym (get_or-set_other a1 (m + 1) (x.at + length items) len 0 (omega arith) ∙ get_or-set_same arena i w 0 (omega arith))) e);
      })

  -- where there is none: new words, the items copied there, the value behind them, and the header
  pub grows_array : (heap : HeapOf N) (used m : ℕ) (item : N) (room more w : ℕ) (arena arena' : List ℕ) (items : List Value) (v : Value) → (g : heap.cells m ≡ Some (Items item room items)) → length items < more → used + more ≤ arena_words → length arena' ≡ arena_words → Is v w
      → (h : Shown Is class_word heap used arena)
      → ((k : ℕ) → k < used → k ≢ m + 1 → k ≢ m + 2 → k ≢ m + 3 → slice_index arena' k ≡ slice_index arena k)
      → ((k : ℕ) → used + more ≤ k → slice_index arena' k ≡ slice_index arena k)
      → ((i : ℕ) → i < length items → slice_index arena' (used + i) ≡ slice_index arena ((h.each m (Items item room items) g).at + i))
      → slice_index arena' (used + length items) ≡ w → slice_index arena' (m + 1) ≡ length items + 1 → slice_index arena' (m + 2) ≡ more → slice_index arena' (m + 3) ≡ behind_words used
      → Shown Is class_word (with_cell m (Items item more (items ++ v ∷ [])) heap) (used + more) arena'
  grows_array heap used m item room more w arena arena' items v g l fit z e h s r copy last a b c =
      let x = h.each m (Items item room items) g in
      let o = x.owned in let q = o.within in
      let n = more_length items v in
      updated Is class_word heap used (used + more) m arena arena' (Items item more (items ++ v ∷ [])) h (taken h.owner used m) fit z
      (record { grows = omega arith; stays = λ k r d. (s k r (λ p. d (ap h.owner p ∙ o.mine 1 (omega arith))) (λ p. d (ap h.owner p ∙ o.mine 2 (omega arith))) (λ p. d (ap h.owner p ∙ o.mine 3 (omega arith))), taken_old h.owner used m k r); rest = r })
      (record {
        at = used;
        behind = omega arith;
        fits = omega arith;
        owned = record { within = omega arith; mine = λ i r. taken_old h.owner used m (m + i) (omega arith) ∙ o.mine i r };
        owned_room = owned_new h.owner used (used + more) m used more (omega arith) (omega arith);
        length_is = a ∙ sym n;
        room_is = b;
        at_is = c;
        values = stand_more Is class_word items arena' used v (stand_copied Is class_word items arena arena' x.at used copy x.values) (subst (Is v) (sym last) e);
      })
