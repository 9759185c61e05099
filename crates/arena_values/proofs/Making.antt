-- New objects and arrays, behind the service that took their words.
use Rattle.std.proofs.Common.{suc, ◌≡◌, ◌≢◌, ℕ, ◌+◌, ◌<◌, ◌≤◌, List, [], length, Some, None, replicate, zero, refl, sym, ◌∙◌, subst, arith, slice_set, slice_index, get_or-set_same, get_or-set_other}
use Rattle.std.proofs.lemmas.List.{length-set, length-replicate}
use Rattle.thumb_code.specs.Map.{arena_words}
use Rattle.bank_model.specs.Arrays.{behind_words}
use Rattle.sts_syntax.specs.TypeRules.{entry}
use Rattle.sts_meaning.specs.Values.{Value, default}
use Rattle.sts_meaning.specs.Heaps.{Fields, Items, HeapOf, with_cell}
use Rattle.arena_values.specs.Lies.{Stand, Lies, Shows}
use Rattle.arena_values.proofs.Standing.{stand_all}
use Rattle.arena_values.proofs.Objects.{makes_object}
use Rattle.arena_values.proofs.Arrays.{makes_array}
use Rattle.arena_values.proofs.Seen.{Means}

all_zero : (n k : ℕ) → slice_index (replicate n 0) k ≡ 0
all_zero zero k = refl
all_zero (suc n) zero = refl
all_zero (suc n) (suc k) = all_zero n k

none_is : {X : Type 0} (x : X) → None ≡ Some x → ⊥
none_is x e = cc

module _ (IsText IsCode : ℕ → ℕ → Type 0) (class_word : ℕ → ℕ) {N : Type 0} (h : HeapOf N) (used : ℕ) (globals arena : List ℕ) (s : Shows (Means IsText IsCode class_word) class_word h used globals arena) where
  abbrev Word : Value → ℕ → Type 0
  Word v w = Means IsText IsCode class_word v w

  -- the arena with words behind the used ones shows a heap with one more object or array
  grown : (h' : HeapOf N) (used' : ℕ) (arena' : List ℕ) → h'.globals ≡ h.globals → Lies Word class_word h' used' arena' → Shows Word class_word h' used' globals arena'
  grown h' used' arena' e l = record {
    size = s.size;
    fits = subst (λ (gs : List Value). length gs ≤ 256) (sym e) s.fits;
    values = subst (λ (gs : List Value). Stand Word class_word gs globals 0) (sym e) s.values;
    lies = l;
  }

  -- An object whose fields are all the default: only its class is written, since the words that weren't used are 0.
  pub shows_object : (class : ℕ) (fields : List Value) → ((i : ℕ) (v : Value) → entry fields i ≡ Some v → v ≡ default) → used + suc (length fields) ≤ arena_words
      → Shows Word class_word (with_cell used (Fields class fields) h) (used + suc (length fields)) globals (slice_set arena used (class_word class))
  shows_object class fields plain fits =
      let l = s.lies in let z = l.size in
      let w = class_word class in
      let zero_at : (k : ℕ) → used < k → slice_index (slice_set arena used w) k ≡ 0 = λ k le. get_or-set_other arena used k w 0 (omega arith) ∙ l.rest k (omega arith) in
      let e : 1 + length fields ≡ suc (length fields) = omega arith in
      subst (λ n. Shows Word class_word (with_cell used (Fields class fields) h) (used + n) globals (slice_set arena used w)) e
      (grown (with_cell used (Fields class fields) h) (used + (1 + length fields)) (slice_set arena used w) refl
      (makes_object Word class_word h used class arena (slice_set arena used w) fields (omega arith) (length-set arena used w ∙ z)
      (λ i q. get_or-set_other arena used (0 + i) w 0 (omega arith))
      (λ k q. get_or-set_other arena used k w 0 (omega arith))
      (get_or-set_same arena used w 0 (omega arith))
      (stand_all Word class_word fields (slice_set arena used w) (used + 1) (λ i v q. subst (λ (x : Value). Word x (slice_index (slice_set arena used w) (used + 1 + i))) (sym (plain i v q)) (subst (Word default) (sym (zero_at (used + 1 + i) (omega arith))) (refl, omega arith))))
      l))

  -- an array without items: its room and the address of its items are written, and its length is 0 already
  pub shows_array : (item : N) (room : ℕ) → used + (4 + room) ≤ arena_words
      → Shows Word class_word (with_cell used (Items item room []) h) (used + (4 + room)) globals (slice_set (slice_set arena (used + 2) room) (used + 3) (behind_words (used + 4)))
  shows_array item room fits =
      let l = s.lies in let z = l.size in
      let a1 = slice_set arena (used + 2) room in
      let at = behind_words (used + 4) in
      let a2 = slice_set a1 (used + 3) at in
      let z1 = length-set arena (used + 2) room in
      let other : (k : ℕ) → k ≢ used + 2 → k ≢ used + 3 → slice_index a2 k ≡ slice_index arena k =
      λ k n m. get_or-set_other a1 (used + 3) k at 0 m ∙ get_or-set_other arena (used + 2) k room 0 n in
      grown (with_cell used (Items item room []) h) (used + (4 + room)) a2 refl
      (makes_array Word class_word h used item room arena a2 fits (length-set a1 (used + 3) at ∙ (z1 ∙ z))
      (λ i q. other (0 + i) (omega arith) (omega arith))
      (λ k q. other k (omega arith) (omega arith))
      (other (used + 1) (omega arith) (omega arith) ∙ l.rest (used + 1) (omega arith))
      (get_or-set_other a1 (used + 3) (used + 2) at 0 (omega arith) ∙ get_or-set_same arena (used + 2) room 0 (omega arith))
      (get_or-set_same a1 (used + 3) at 0 (omega arith))
      l)

-- A run begins with globals that are all the default, no object and no array; and with words that are all 0.
pub shows_nothing : (IsText IsCode : ℕ → ℕ → Type 0) (class_word : ℕ → ℕ) {N : Type 0} (globals : List Value) → ((i : ℕ) (v : Value) → entry globals i ≡ Some v → v ≡ default) → length globals ≤ 256
    → Shows (Means IsText IsCode class_word) class_word {N = N} (record { globals = globals; cells = λ n. None }) 0 (replicate 256 0) (replicate arena_words 0)
shows_nothing IsText IsCode class_word globals plain few =
    let zero_word : (n k : ℕ) → slice_index (replicate n 0) k ≡ 0 = λ n k. all_zero n k in
    record {
      size = length-replicate {A = ℕ} 256 0;
      fits = few;
      values = stand_all (Means IsText IsCode class_word) class_word globals (replicate 256 0) 0
          (λ i v e. subst (λ (x : Value). Means IsText IsCode class_word x (slice_index (replicate 256 0) (0 + i))) (sym (plain i v e)) (subst (Means IsText IsCode class_word default) (sym (zero_word 256 (0 + i))) (refl, omega arith)));
      lies = record {
        owner = λ k. 0;
        within = omega arith;
        size = length-replicate {A = ℕ} arena_words 0;
        each = λ m c e. absurd (none_is c e);
        rest = λ k l. zero_word arena_words k;
      };
    }
