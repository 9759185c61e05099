-- Objects: their fields, and new ones.
use Rattle.std.proofs.Common.{◌≡◌, ℕ, ◌+◌, ◌<◌, ◌≤◌, List, length, true, false, cond, nat_lt, Some, refl, ap, ◌∙◌, arith, slice_set, slice_index, get_or-set_other}
use Rattle.std.proofs.lemmas.List.{length-set}
use Rattle.thumb_code.specs.Map.{arena_words}
use Rattle.sts_meaning.specs.Values.{Value}
use Rattle.sts_meaning.specs.Heaps.{Fields, HeapOf, with_cell}
use Rattle.arena_values.specs.Lies.{Owned, Lies}
use Rattle.arena_values.proofs.Update.{Same, Changes, updated}
use Rattle.arena_values.proofs.Standing.{Stands, stand_set, changed_length}

-- whose a word is behind an allocation for thing m
abbrev pub taken : (ℕ → ℕ) → ℕ → ℕ → ℕ → ℕ
taken owner used m k = cond (nat_lt k used) (owner k) m

pub taken_old : (owner : ℕ → ℕ) (used m k : ℕ) → k < used → taken owner used m k ≡ owner k
taken_old owner used m k l = let e : nat_lt k used ≡ true = grind arith in rw e refl

pub taken_new : (owner : ℕ → ℕ) (used m k : ℕ) → used ≤ k → taken owner used m k ≡ m
taken_new owner used m k l = let e : nat_lt k used ≡ false = grind arith in rw e refl

pub owned_new : (owner : ℕ → ℕ) (used used' m k n : ℕ) → used ≤ k → k + n ≤ used' → Owned (taken owner used m) used' m k n
owned_new owner used used' m k n l e = record { within = e; mine = λ i h. taken_new owner used m (k + i) (omega arith) }

-- a write to a word of thing m changes nobody else's, and none that isn't used
pub set_changes : (owner : ℕ → ℕ) (used m i w : ℕ) (arena : List ℕ) → owner i ≡ m → i < used → Changes owner owner used used m arena (slice_set arena i w)
set_changes owner used m i w arena e l = record {
  grows = omega arith;
  stays = λ k l d. (get_or-set_other arena i k w 0 (λ q. d (ap owner q ∙ e)), refl);
  rest = λ k le. get_or-set_other arena i k w 0 (omega arith);
}

module _ (Is : Value → ℕ → Type 0) (class_word : ℕ → ℕ) {N : Type 0} where
  abbrev pub Shown : HeapOf N → ℕ → List ℕ → Type 0
  Shown heap used arena = Lies Is class_word heap used arena

  -- a field is written
  pub sets_field : (heap : HeapOf N) (used m class i w : ℕ) (arena : List ℕ) (fields : List Value) (v : Value) → heap.cells m ≡ Some (Fields class fields) → i < length fields → Is v w
      → Shown heap used arena → Shown (with_cell m (Fields class (slice_set fields i v)) heap) used (slice_set arena (m + 1 + i) w)
  sets_field heap used m class i w arena fields v g l e h =
      let x = h.each m (Fields class fields) g in
      let o = x.owned in let a = o.within in let u = h.within in let z = h.size in
      let n = changed_length fields i v in
      let j : h.owner (m + 1 + i) ≡ m = ap h.owner (omega arith) ∙ o.mine (1 + i) (omega arith) in
      updated Is class_word heap used used m arena (slice_set arena (m + 1 + i) w) (Fields class (slice_set fields i v)) h h.owner u (length-set arena (m + 1 + i) w ∙ z)
      (set_changes h.owner used m (m + 1 + i) w arena j (omega arith))
      (record {
        owned = record { within = omega arith; mine = λ k q. o.mine k (omega arith) };
        table = get_or-set_other arena (m + 1 + i) m w 0 (omega arith) ∙ x.table;
        values = stand_set Is class_word fields arena (m + 1) i v w l (omega arith) e x.values;
      })

  -- a new object: the used words grow by its size; it stands behind them, with these values in its fields
  pub makes_object : (heap : HeapOf N) (used class : ℕ) (arena arena' : List ℕ) (fields : List Value) → used + (1 + length fields) ≤ arena_words → length arena' ≡ arena_words
      → Same arena arena' 0 used → ((k : ℕ) → used + (1 + length fields) ≤ k → slice_index arena' k ≡ slice_index arena k) → slice_index arena' used ≡ class_word class → Stands Is class_word fields arena' (used + 1)
      → Shown heap used arena → Shown (with_cell used (Fields class fields) heap) (used + (1 + length fields)) arena'
  makes_object heap used class arena arena' fields l z s r t f h =
      updated Is class_word heap used (used + (1 + length fields)) used arena arena' (Fields class fields) h (taken h.owner used used) l z
      (record { grows = omega arith; stays = λ k q d. (ap (slice_index arena') (omega arith) ∙ (s k q ∙ ap (slice_index arena) (omega arith)), taken_old h.owner used used k q); rest = r })
      (record { owned = owned_new h.owner used (used + (1 + length fields)) used used (1 + length fields) (omega arith) (omega arith); table = t; values = f })
