-- Frames under a write, and where words come or go below them.
use Rattle.std.proofs.Common.{◌≡◌, ℕ, ◌+◌, ◌-◌, ◌<◌, ◌≤◌, ◌⊎◌, inl, inr, Bool, true, false, nat_lt, if◌then◌else◌, List, [], ◌∷◌, length, Option, Some, None, refl, sym, ap, ◌∙◌, subst, arith, slice_set, slice_get, slice_index, get_or-set_other}
use Rattle.std.proofs.lemmas.Bool.Decides.{nat_tests}
use Rattle.std.proofs.lemmas.List.{length-set}
use Rattle.flat_ir.specs.declared.ops.Function.{Function}
use Rattle.register_assign.specs.declared.places.Place.{Place}
use Rattle.register_assign.specs.declared.places.Place.TheVariants.{Reg, Slot, Incoming}
use Rattle.register_assign.specs.Saving.{saves}
use Rattle.placed_frames.specs.Places.{own, words, value}
use Rattle.placed_frames.specs.Frames.{Frame, saved_word, saved, saved_at, words_at, outgoing_at, Waits, outgoing_of, HasFrame, HasWaiting, HasFrames, AreWords}

pub four : (a b c d a' b' c' d' : ℕ) → a ≡ a' → b ≡ b' → c ≡ c' → d ≡ d' → (a ∷ (b ∷ (c ∷ (d ∷ [])))) ≡ (a' ∷ (b' ∷ (c' ∷ (d' ∷ []))))
four a b c d a' b' c' d' e f g h = λ i. e i ∷ (f i ∷ (g i ∷ (h i ∷ [])))

-- a choice whose first value, or whose second, is another one
same_first : (b : Bool) (x y z : ℕ) → (b ≡ true → x ≡ y) → (if b then x else z) ≡ (if b then y else z)
same_first true x y z h = h refl
same_first false x y z h = refl

same_second : (b : Bool) (x y z : ℕ) → (b ≡ false → y ≡ z) → (if b then x else y) ≡ (if b then x else z)
same_second true x y z h = refl
same_second false x y z h = h refl

-- what stays in a list where one word is written, where words go away in front, and where words come in front
word_set : (n : ℕ) (f : Function) (kept ws : List ℕ) (k i j v : ℕ) → i < 4 → (j < k + own f) ⊎ (k + words f ≤ j)
    → saved_word n f kept (slice_set ws j v) k i ≡ saved_word n f kept ws k i
word_set n f kept ws k i j v l (inl m) = same_first (nat_lt i n) _ _ _ (λ e. get_or-set_other ws j (k + (own f + (4 - n)) + i) v 0 (omega arith))
word_set n f kept ws k i j v l (inr m) =
    same_first (nat_lt i n) _ _ _
    (λ e. let q : i < n = grind (arith, nat_tests) in get_or-set_other ws j (k + (own f + (4 - n)) + i) v 0 (omega arith))

pub saved_set : (f : Function) (place : ℕ → Place) (kept ws : List ℕ) (k j v : ℕ) → (j < k + own f) ⊎ (k + words f ≤ j)
    → saved f place kept (slice_set ws j v) k ≡ saved f place kept ws k
saved_set f place kept ws k j v h =
    let n = saves f place in
    four _ _ _ _ _ _ _ _ (word_set n f kept ws k 0 j v (omega arith) h) (word_set n f kept ws k 1 j v (omega arith) h)
    (word_set n f kept ws k 2 j v (omega arith) h) (word_set n f kept ws k 3 j v (omega arith) h)

-- the registers that a function saves may change
word_changed : (n : ℕ) (f : Function) (kept kept' ws : List ℕ) (k i : ℕ) → ((j : ℕ) → n ≤ j → slice_index kept j ≡ slice_index kept' j)
    → saved_word n f kept ws k i ≡ saved_word n f kept' ws k i
word_changed n f kept kept' ws k i h = same_second (nat_lt i n) _ _ _ (λ e. h i (grind (arith, nat_tests)))

pub saved_changed : (f : Function) (place : ℕ → Place) (kept kept' ws : List ℕ) (k : ℕ)
    → ((j : ℕ) → saves f place ≤ j → slice_index kept j ≡ slice_index kept' j) → saved f place kept ws k ≡ saved f place kept' ws k
saved_changed f place kept kept' ws k h =
    let n = saves f place in
    four _ _ _ _ _ _ _ _ (word_changed n f kept kept' ws k 0 h) (word_changed n f kept kept' ws k 1 h)
    (word_changed n f kept kept' ws k 2 h) (word_changed n f kept kept' ws k 3 h)

-- words xs, and ys with each word from j on where xs has it from k on
abbrev pub Shifted : List ℕ → ℕ → List ℕ → ℕ → Type 0
Shifted xs j ys k = (i : ℕ) → slice_index ys (k + i) ≡ slice_index xs (j + i)

pub at_sum : (xs : List ℕ) (a b : ℕ) → a ≡ b → slice_index xs a ≡ slice_index xs b
at_sum xs a b e = ap (slice_index xs) e

shifted_at : (xs ys : List ℕ) (j k i a b : ℕ) → Shifted xs j ys k → b ≡ k + i → a ≡ j + i → slice_index ys b ≡ slice_index xs a
shifted_at xs ys j k i a b h e f = at_sum ys b (k + i) e ∙ (h i ∙ at_sum xs (j + i) a (sym f))

shifted_on : (xs ys : List ℕ) (j k n : ℕ) → Shifted xs j ys k → Shifted xs (j + n) ys (k + n)
shifted_on xs ys j k n h i = at_sum ys (k + n + i) (k + (n + i)) (omega arith) ∙ (h (n + i) ∙ at_sum xs (j + (n + i)) (j + n + i) (omega arith))

shifted_word : (n : ℕ) (f : Function) (kept xs ys : List ℕ) (j k i : ℕ) → Shifted xs j ys k → saved_word n f kept xs j i ≡ saved_word n f kept ys k i
shifted_word n f kept xs ys j k i h =
    let at = own f + (4 - n) in
    same_first (nat_lt i n) _ _ _ (λ e. sym (shifted_at xs ys j k (at + i) (j + at + i) (k + at + i) h (omega arith) (omega arith)))

shifted_saved : (f : Function) (place : ℕ → Place) (kept xs ys : List ℕ) (j k : ℕ) → Shifted xs j ys k → saved f place kept xs j ≡ saved f place kept ys k
shifted_saved f place kept xs ys j k h =
    let n = saves f place in
    four _ _ _ _ _ _ _ _ (shifted_word n f kept xs ys j k 0 h) (shifted_word n f kept xs ys j k 1 h)
    (shifted_word n f kept xs ys j k 2 h) (shifted_word n f kept xs ys j k 3 h)

shifted_value : (f : Function) (kept xs ys : List ℕ) (j k : ℕ) (p : Place) → Shifted xs j ys k → value f kept ys k p ≡ value f kept xs j p
shifted_value f kept xs ys j k (Reg r) h = refl
shifted_value f kept xs ys j k (Slot i) h = shifted_at xs ys j k (f.outgoing + i) (j + f.outgoing + i) (k + f.outgoing + i) h (omega arith) (omega arith)
shifted_value f kept xs ys j k (Incoming i) h = shifted_at xs ys j k (words f + i) (j + words f + i) (k + words f + i) h (omega arith) (omega arith)

module _ {V : Type 0} (Is : V → ℕ → Type 0) (code : List Function) (places : ℕ → ℕ → Place) (return_to : List (Frame V) → ℕ) where
  -- the frames elsewhere
  frame_shifts : (xs ys : List ℕ) (j k : ℕ) → Shifted xs j ys k → (fn : Function) (place : ℕ → Place) (need : ℕ → Type 0) (temps : ℕ → V) (fs : List (Frame V))
      (kept : List ℕ)
      → HasFrame Is code places return_to xs fn place need temps fs kept j → HasFrame Is code places return_to ys fn place need temps fs kept k
  frame_shifts xs ys j k h fn place need temps fs kept x = record {
    temporary = λ t l n. subst (Is (temps t)) (sym (shifted_value fn kept xs ys j k (place t) h)) (x.temporary t l n);
    link = shifted_at xs ys j k (own fn + 4) (j + own fn + 4) (k + own fn + 4) h (omega arith) (omega arith) ∙ x.link;
    params = x.params;
    small = x.small;
  }

  waiting_shifts : (xs ys : List ℕ) (j k : ℕ) → Shifted xs j ys k → (o : Option Function) (f : Frame V) (fs : List (Frame V)) (kept : List ℕ)
      → HasWaiting Is code places return_to xs o f fs kept j → HasWaiting Is code places return_to ys o f fs kept k
  waiting_shifts xs ys j k h None f fs kept x = x
  waiting_shifts xs ys j k h (Some fn) f fs kept x = frame_shifts xs ys j k h fn (places f.function) (Waits fn f.place) f.temps fs kept x

  shifted_saved_at : (o : Option Function) (place : ℕ → Place) (kept xs ys : List ℕ) (j k : ℕ) → Shifted xs j ys k
      → saved_at o place kept xs j ≡ saved_at o place kept ys k
  shifted_saved_at None place kept xs ys j k h = refl
  shifted_saved_at (Some f) place kept xs ys j k h = shifted_saved f place kept xs ys j k h

  pub frames_shift : (xs ys : List ℕ) (fs : List (Frame V)) (kept : List ℕ) (j k : ℕ) → Shifted xs j ys k → (length ys + j ≡ length xs + k)
      → HasFrames Is code places return_to xs fs kept j → HasFrames Is code places return_to ys fs kept k
  frames_shift xs ys [] kept j k h e x = let q = x.0 in (omega arith, x.1)
  frames_shift xs ys (f ∷ fs) kept j k h e x =
      let o = slice_get code f.function in
      let n = words_at o in (
        waiting_shifts xs ys j k h o f fs kept x.0,
        frames_shift xs ys fs (saved_at o (places f.function) kept ys k) (j + n) (k + n) (shifted_on xs ys j k n h) (omega arith)
            (subst (λ s. HasFrames Is code places return_to xs fs s (j + n)) (shifted_saved_at o (places f.function) kept xs ys j k h) x.1),
      )

  -- a word of the running frame, or of the outgoing words above it, is none of the frames above
  pub value_set : (f : Function) (kept ws : List ℕ) (k i v : ℕ) (p : Place) → i < k + f.outgoing → value f kept (slice_set ws i v) k p ≡ value f kept ws k p
  value_set f kept ws k i v (Reg r) l = refl
  value_set f kept ws k i v (Slot j) l = get_or-set_other ws i (k + f.outgoing + j) v 0 (omega arith)
  value_set f kept ws k i v (Incoming j) l = get_or-set_other ws i (k + words f + j) v 0 (omega arith)

  waiting_stays : (ws : List ℕ) (i v : ℕ) (o : Option Function) (f : Frame V) (fs : List (Frame V)) (kept : List ℕ) (k : ℕ) → i < k + outgoing_at o
      → HasWaiting Is code places return_to ws o f fs kept k → HasWaiting Is code places return_to (slice_set ws i v) o f fs kept k
  waiting_stays ws i v None f fs kept k l x = x
  waiting_stays ws i v (Some fn) f fs kept k l x = record {
    temporary = λ t m n. subst (Is (f.temps t)) (sym (value_set fn kept ws k i v (places f.function t) l)) (x.temporary t m n);
    link = get_or-set_other ws i (k + own fn + 4) v 0 (omega arith) ∙ x.link;
    params = x.params;
    small = x.small;
  }

  stays_saved : (ws : List ℕ) (i v : ℕ) (o : Option Function) (place : ℕ → Place) (kept : List ℕ) (k : ℕ) → i < k + outgoing_at o
      → saved_at o place kept ws k ≡ saved_at o place kept (slice_set ws i v) k
  stays_saved ws i v None place kept k l = refl
  stays_saved ws i v (Some f) place kept k l = sym (saved_set f place kept ws k i v (inl (omega arith)))

  more : (o : Option Function) → outgoing_at o ≤ words_at o
  more None = omega arith
  more (Some f) = omega arith

  pub frames_stay : (ws : List ℕ) (i v : ℕ) (fs : List (Frame V)) (kept : List ℕ) (k : ℕ) → i < k + outgoing_of code fs
      → HasFrames Is code places return_to ws fs kept k → HasFrames Is code places return_to (slice_set ws i v) fs kept k
  frames_stay ws i v [] kept k l x = (x.0 ∙ sym (length-set ws i v), x.1)
  frames_stay ws i v (f ∷ fs) kept k l x =
      let o = slice_get code f.function in
      let m = more o in (
        waiting_stays ws i v o f fs kept k l x.0,
        subst (λ s. HasFrames Is code places return_to (slice_set ws i v) fs s (k + words_at o)) (stays_saved ws i v o (places f.function) kept k l)
            (frames_stay ws i v fs (saved_at o (places f.function) kept ws k) (k + words_at o) (omega arith) x.1),
      )

  -- the frames fill the bank, and the outgoing words of the first are there
  pub frames_room : (ws : List ℕ) (fs : List (Frame V)) (kept : List ℕ) (k : ℕ) → HasFrames Is code places return_to ws fs kept k
      → k + outgoing_of code fs ≤ length ws
  frames_room ws [] kept k x = let q = x.0 in omega arith
  frames_room ws (f ∷ fs) kept k x =
      let o = slice_get code f.function in
      let m = more o in
      let i = frames_room ws fs (saved_at o (places f.function) kept ws k) (k + words_at o) x.1 in
      omega arith

  waiting_small : (ws : List ℕ) (o : Option Function) (f : Frame V) (fs : List (Frame V)) (kept : List ℕ) (k : ℕ) → HasWaiting Is code places return_to ws o f
      fs kept k → AreWords kept
  waiting_small ws None f fs kept k x = elim x [ ]
  waiting_small ws (Some fn) f fs kept k x = x.small

  -- the first frame's registers hold words
  pub frames_small : (ws : List ℕ) (fs : List (Frame V)) (kept : List ℕ) (k : ℕ) → HasFrames Is code places return_to ws fs kept k → AreWords kept
  frames_small ws [] kept k x = x.1
  frames_small ws (f ∷ fs) kept k x = waiting_small ws (slice_get code f.function) f fs kept k x.0
