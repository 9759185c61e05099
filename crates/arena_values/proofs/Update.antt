-- One object or array changes, and the others lie as they lay.
use Rattle.std.proofs.Common.{suc, ◌≡◌, ◌≢◌, ℕ, ◌+◌, ◌<◌, ◌≤◌, List, [], ◌∷◌, length, Bool, true, false, cond, nat_eq, Option, Some, refl, sym, ap, ◌∙◌, subst, arith, slice_index}
use Rattle.thumb_code.specs.Map.{arena_words}
use Rattle.sts_meaning.specs.Values.{Value}
use Rattle.sts_meaning.specs.Heaps.{CellOf, Fields, Items, HeapOf, with_cell}
use Rattle.arena_values.specs.Lies.{Stand, Owned, LiesCell, Lies}

-- the words from k on, n of them, are the same
abbrev pub Same : List ℕ → List ℕ → ℕ → ℕ → Type 0
Same xs ys k n = (i : ℕ) → i < n → slice_index ys (k + i) ≡ slice_index xs (k + i)

-- what thing n owns may change; all else stays
pub record Changes (owner owner' : ℕ → ℕ) (used used' n : ℕ) (xs ys : List ℕ) : Type 0 where
  pub grows : used ≤ used'
  pub stays : (k : ℕ) → k < used → owner k ≢ n → (slice_index ys k ≡ slice_index xs k) × (owner' k ≡ owner k)
  pub rest : (k : ℕ) → used' ≤ k → slice_index ys k ≡ slice_index xs k

module _ (Is : Value → ℕ → Type 0) (class_word : ℕ → ℕ) where
  pub stand_same : (vs : List Value) (xs ys : List ℕ) (k : ℕ) → Same xs ys k (length vs) → Stand Is class_word vs xs k → Stand Is class_word vs ys k
  stand_same [] xs ys k h s = tt
  stand_same (v ∷ vs) xs ys k h s = (
    subst (Is v) (sym (ap (slice_index ys) (omega arith) ∙ (h 0 (omega arith) ∙ ap (slice_index xs) (omega arith)))) s.0,
    stand_same vs xs ys (k + 1) (λ i l. ap (slice_index ys) (omega arith) ∙ (h (suc i) (omega arith) ∙ ap (slice_index xs) (omega arith))) s.1,
  )

  module _ (owner owner' : ℕ → ℕ) (used used' n : ℕ) (xs ys : List ℕ) (c : Changes owner owner' used used' n xs ys) (m : ℕ) (d : m ≢ n) where
    owned_on : (k l : ℕ) → Owned owner used m k l → Owned owner' used' m k l
    owned_on k l o = let a = o.within in let b = c.grows in record {
      within = omega arith;
      mine = λ i h. (c.stays (k + i) (omega arith) (λ e. d (sym (o.mine i h) ∙ e))).1 ∙ o.mine i h;
    }

    same_on : (k l : ℕ) → Owned owner used m k l → Same xs ys k l
    same_on k l o i h = let a = o.within in (c.stays (k + i) (omega arith) (λ e. d (sym (o.mine i h) ∙ e))).0

    cell_on : {N : Type 0} (x : CellOf N) → LiesCell Is class_word owner used xs m x → LiesCell Is class_word owner' used' ys m x
    cell_on (Fields class fields) h =
        let s = same_on m (1 + length fields) h.owned in
        record {
          owned = owned_on m (1 + length fields) h.owned;
          table = ap (slice_index ys) (omega arith) ∙ (s 0 (omega arith) ∙ (ap (slice_index xs) (omega arith) ∙ h.table));
          values = stand_same fields xs ys (m + 1) (λ i l. ap (slice_index ys) (omega arith) ∙ (s (1 + i) (omega arith) ∙ ap (slice_index xs) (omega arith))) h.values;
        }
    cell_on (Items item room items) h =
        let s = same_on m 4 h.owned in
        let f = h.fits in
        record {
          at = h.at;
          behind = h.behind;
          fits = h.fits;
          owned = owned_on m 4 h.owned;
          owned_room = owned_on h.at room h.owned_room;
          length_is = s 1 (omega arith) ∙ h.length_is;
          room_is = s 2 (omega arith) ∙ h.room_is;
          at_is = s 3 (omega arith) ∙ h.at_is;
          values = stand_same items xs ys h.at (λ i l. same_on h.at room h.owned_room i (omega arith)) h.values;
        }

  module _ {N : Type 0} where
    found_by : (owner owner' : ℕ → ℕ) (used used' n : ℕ) (xs ys : List ℕ) (cells : ℕ → Option (CellOf N)) (y : CellOf N) → Changes owner owner' used used' n xs ys
        → ((m : ℕ) (x : CellOf N) → cells m ≡ Some x → LiesCell Is class_word owner used xs m x) → LiesCell Is class_word owner' used' ys n y
        → (m : ℕ) (x : CellOf N) (b : Bool) → nat_eq m n ≡ b → cond b (Some y) (cells m) ≡ Some x → LiesCell Is class_word owner' used' ys m x
    found_by owner owner' used used' n xs ys cells y c e z m x true b g =
        let i : m ≡ n = grind arith in
        let q : y ≡ x = (cc) in
        subst (λ k. LiesCell Is class_word owner' used' ys k x) (sym i) (subst (LiesCell Is class_word owner' used' ys n) q z)
    found_by owner owner' used used' n xs ys cells y c e z m x false b g = cell_on owner owner' used used' n xs ys c m (λ q. grind arith) x (e m x g)

    -- The update: thing n becomes y, by whatever changes its own words and words that nobody has yet. The words that aren't used are 0 still.
    pub updated : (h : HeapOf N) (used used' n : ℕ) (xs ys : List ℕ) (y : CellOf N) (l : Lies Is class_word h used xs) (owner' : ℕ → ℕ) → used' ≤ arena_words → length ys ≡ arena_words
        → Changes l.owner owner' used used' n xs ys → LiesCell Is class_word owner' used' ys n y → Lies Is class_word (with_cell n y h) used' ys
    updated h used used' n xs ys y l owner' u s c z =
        let g = c.grows in
        record {
          owner = owner';
          within = u;
          size = s;
          each = λ m x e. found_by l.owner owner' used used' n xs ys h.cells y c l.each z m x (nat_eq m n) refl e;
          rest = λ k le. c.rest k le ∙ l.rest k (omega arith);
        }
