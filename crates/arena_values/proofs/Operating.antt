-- The word of an operator stands for what the operator makes of values.
use Rattle.std.proofs.Common.{◌≡◌, ◌≢◌, ℕ, ◌⊎◌, inl, inr, ⊎_elim, zero, Bool, true, false, not, ◌==◌, Option, None, refl, sym, ap, ◌∙◌, subst, arith}
use Rattle.std.specs.Prelude.{ℤ, pos, negsuc, ◌+ℤ◌, int_lt, int_le}
use Rattle.std.specs.Ordering.{int_eq}
use Rattle.thumb_code.specs.Arithmetic.{bit_of}
use Rattle.sts_meaning.specs.Values.{Value, Whole, Object, Text, Code, Outcome, Gives, Breaks, Stuck, then_gives, there, whole, to_int32, truth, same, arithmetic, order, either_value, of_numbers, applied, prefixed, applied_before, decided}
use Rattle.arena_values.specs.Words.{Is}
use Rattle.arena_values.proofs.Equal.{AreWords, same_words, is_small}
use Rattle.arena_values.proofs.Operators.{compared, operated, prefix_word}
use Rattle.arena_values.proofs.Comparing.{words_tell, words_equal, words_unequal}
use Rattle.arena_values.proofs.Numbers.{Reads, or_reads, xor_reads, and_reads, sum_reads, difference_reads, product_reads, left_reads, right_reads, signed_reads, quotient_reads, remainder_reads, negative_reads, inverted_reads, more_reads, less_reads}

-- a truth value's word
truth_reads : (c : Bool) (n : ℕ) → n ≡ bit_of c → (IsText IsCode : ℕ → ℕ → Type 0) → Is IsText IsCode (truth c) n
truth_reads true n e IsText IsCode = rw e (refl, omega arith)
truth_reads false n e IsText IsCode = rw e (refl, omega arith)

tested : (op k : ℕ) → (op ≡ k) ⊎ (op ≢ k)
tested op k = by (op == k) refl
  where
    by : (b : Bool) → (op == k) ≡ b → (op ≡ k) ⊎ (op ≢ k)
    by true e = inl (grind arith)
    by false e = inr (λ q. grind arith)

isnt : (op k : ℕ) → op ≢ k → (op == k) ≡ false
isnt op k n = grind arith

-- an operator of none of these numbers makes nothing of numbers
no_number : (op : ℕ) → op ≢ 1 → op ≢ 2 → op ≢ 3 → op ≢ 6 → op ≢ 7 → op ≢ 8 → op ≢ 9 → op ≢ 10 → op ≢ 11 → op ≢ 12 → op ≢ 13 → op ≢ 14 → op ≢ 15 → op ≢ 16 → op ≢ 17
    → (x y : ℤ) → either_value (arithmetic op x y) (order op x y) ≡ Stuck
no_number op n1 n2 n3 n6 n7 n8 n9 n10 n11 n12 n13 n14 n15 n16 n17 x y =
    let e1 = isnt op 1 n1 in
    let e2 = isnt op 2 n2 in
    let e3 = isnt op 3 n3 in
    let e6 = isnt op 6 n6 in
    let e7 = isnt op 7 n7 in
    let e8 = isnt op 8 n8 in
    let e9 = isnt op 9 n9 in
    let e10 = isnt op 10 n10 in
    let e11 = isnt op 11 n11 in
    let e12 = isnt op 12 n12 in
    let e13 = isnt op 13 n13 in
    let e14 = isnt op 14 n14 in
    let e15 = isnt op 15 n15 in
    let e16 = isnt op 16 n16 in
    let e17 = isnt op 17 n17 in
    rw e1 (rw e2 (rw e3 (rw e10 (rw e11 (rw e12 (rw e13 (rw e14 (rw e15 (rw e16 (rw e17 (rw e6 (rw e7 (rw e8 (rw e9 refl))))))))))))))

-- a comparison is no panic
same_breaks : (a b : Value) (code : ℕ) → same a b ≡ Breaks code → ⊥
same_breaks (Whole x) (Whole y) code e = cc
same_breaks (Object x) (Object y) code e = cc
same_breaks (Text x) (Text y) code e = cc
same_breaks (Whole (pos zero)) (Object y) code e = cc
same_breaks (Whole (pos zero)) (Text y) code e = cc
same_breaks (Object x) (Whole (pos zero)) code e = cc
same_breaks (Text x) (Whole (pos zero)) code e = cc
same_breaks _ _ code e = cc

module _ (IsText IsCode : ℕ → ℕ → Type 0) (words : AreWords IsText IsCode) (flags : ℕ) where
  abbrev Means : Value → ℕ → Type 0
  Means v w = Is IsText IsCode v w

  -- what an outcome gives stands in a word; it is no panic
  abbrev pub Leaves : Outcome Value → ℕ → Type 0
  Leaves (Gives c) u = Means c u
  Leaves (Breaks code) u = ⊥
  Leaves Stuck u = Unit {0}

  -- of two numbers, by the operator's number
  abbrev Numbers : ℕ → Type 0
  Numbers op = (x y : ℤ) (v w : ℕ) → Reads x v → Reads y w → Leaves (either_value (arithmetic op x y) (order op x y)) (operated flags op v w)

  numbers_1 : Numbers 1
  numbers_1 = λ x y v w a b. or_reads x y v w a b

  numbers_2 : Numbers 2
  numbers_2 = λ x y v w a b. xor_reads x y v w a b

  numbers_3 : Numbers 3
  numbers_3 = λ x y v w a b. and_reads x y v w a b

  numbers_6 : Numbers 6
  numbers_6 = λ x y v w a b. truth_reads (int_lt x y) _ (ap bit_of (words_tell v w a.1 b.1 x y a.0 b.0).less) IsText IsCode

  numbers_7 : Numbers 7
  numbers_7 = λ x y v w a b. truth_reads (int_lt y x) _ (ap bit_of (words_tell v w a.1 b.1 x y a.0 b.0).greater) IsText IsCode

  numbers_8 : Numbers 8
  numbers_8 = λ x y v w a b. truth_reads (int_le x y) _ (ap bit_of (words_tell v w a.1 b.1 x y a.0 b.0).at_most) IsText IsCode

  numbers_9 : Numbers 9
  numbers_9 = λ x y v w a b. truth_reads (int_le y x) _ (ap bit_of (words_tell v w a.1 b.1 x y a.0 b.0).at_least) IsText IsCode

  numbers_10 : Numbers 10
  numbers_10 = λ x y v w a b. left_reads flags x y v w a b

  numbers_11 : Numbers 11
  numbers_11 = λ x y v w a b. signed_reads flags x y v w a b

  numbers_12 : Numbers 12
  numbers_12 = λ x y v w a b. right_reads flags x y v w a b

  numbers_13 : Numbers 13
  numbers_13 = λ x y v w a b. sum_reads x y v w a b

  numbers_14 : Numbers 14
  numbers_14 = λ x y v w a b. difference_reads x y v w a b

  numbers_15 : Numbers 15
  numbers_15 = λ x y v w a b. product_reads x y v w a b

  numbers_16 : Numbers 16
  numbers_16 = λ x y v w a b. quotient_reads x y v w a b

  numbers_17 : Numbers 17
  numbers_17 = λ x y v w a b. remainder_reads x y v w a b

  numbers : (op : ℕ) → Numbers op
  numbers op =
      (⊎_elim (λ e. subst Numbers (sym e) numbers_1) (λ n1. (⊎_elim (λ e. subst Numbers (sym e) numbers_2) (λ n2. (⊎_elim (λ e. subst Numbers (sym e) numbers_3) (λ n3. (⊎_elim (λ e. subst Numbers (sym e) numbers_6) (λ n6. (⊎_elim (λ e. subst Numbers (sym e) numbers_7) (λ n7. (⊎_elim (λ e. subst Numbers (sym e) numbers_8) (λ n8. (⊎_elim (λ e. subst Numbers (sym e) numbers_9) (λ n9. (⊎_elim (λ e. subst Numbers (sym e) numbers_10) (λ n10. (⊎_elim (λ e. subst Numbers (sym e) numbers_11) (λ n11. (⊎_elim (λ e. subst Numbers (sym e) numbers_12) (λ n12. (⊎_elim (λ e. subst Numbers (sym e) numbers_13) (λ n13. (⊎_elim (λ e. subst Numbers (sym e) numbers_14) (λ n14. (⊎_elim (λ e. subst Numbers (sym e) numbers_15) (λ n15. (⊎_elim (λ e. subst Numbers (sym e) numbers_16) (λ n16. (⊎_elim (λ e. subst Numbers (sym e) numbers_17) (λ n17. (λ x y v w a b. subst (λ (o : Outcome Value). Leaves o (operated flags op v w)) (sym (no_number op n1 n2 n3 n6 n7 n8 n9 n10 n11 n12 n13 n14 n15 n16 n17 x y)) tt)) (tested op 17))) (tested op 16))) (tested op 15))) (tested op 14))) (tested op 13))) (tested op 12))) (tested op 11))) (tested op 10))) (tested op 9))) (tested op 8))) (tested op 7))) (tested op 6))) (tested op 3))) (tested op 2))) (tested op 1))

  equals : (a b : Value) (v w : ℕ) → Means a v → Means b w → Leaves (then_gives (same a b) (λ e. Gives (truth e))) (compared 0 v w)
  equals a b v w i j = by (same a b) refl
    where
      by : (o : Outcome Bool) → same a b ≡ o → Leaves (then_gives o (λ e. Gives (truth e))) (compared 0 v w)
      by (Gives c) e = truth_reads c _ (ap bit_of (words_equal v w (is_small IsText IsCode words a v i) (is_small IsText IsCode words b w j) ∙ sym (same_words IsText IsCode words a b v w c e i j))) IsText IsCode
      by (Breaks code) e = same_breaks a b code e
      by Stuck e = tt

  differs : (a b : Value) (v w : ℕ) → Means a v → Means b w → Leaves (then_gives (same a b) (λ e. Gives (truth (not e)))) (compared 1 v w)
  differs a b v w i j = by (same a b) refl
    where
      by : (o : Outcome Bool) → same a b ≡ o → Leaves (then_gives o (λ e. Gives (truth (not e)))) (compared 1 v w)
      by (Gives c) e =
          truth_reads (not c) _ (ap bit_of (words_unequal v w (is_small IsText IsCode words a v i) (is_small IsText IsCode words b w j) ∙ ap not (sym (same_words IsText IsCode words a b v w c e i j)))) IsText IsCode
      by (Breaks code) e = same_breaks a b code e
      by Stuck e = tt

  of_two : (op : ℕ) (a b : Value) (v w : ℕ) → Means a v → Means b w → Leaves (of_numbers op a b) (operated flags op v w)
  of_two op (Whole x) (Whole y) v w i j = numbers op x y v w i j
  of_two op (Whole x) (Object n) v w i j = tt
  of_two op (Whole x) (Text n) v w i j = tt
  of_two op (Whole x) (Code n) v w i j = tt
  of_two op (Object m) b v w i j = tt
  of_two op (Text m) b v w i j = tt
  of_two op (Code m) b v w i j = tt

  -- the operator of two values
  pub applied_leaves : (op : ℕ) (a b : Value) (v w : ℕ) → Means a v → Means b w → Leaves (applied op a b) (operated flags op v w)
  applied_leaves op a b v w i j = ⊎_elim
      (λ e. subst (λ k. Leaves (applied k a b) (operated flags k v w)) (sym e) (equals a b v w i j))
      (λ n4. ⊎_elim
      (λ e. subst (λ k. Leaves (applied k a b) (operated flags k v w)) (sym e) (differs a b v w i j))
      (λ n5. (let e4 = isnt op 4 n4 in let e5 = isnt op 5 n5 in
      let e : applied op a b ≡ of_numbers op a b = rw e4 (rw e5 refl) in
      subst (λ (o : Outcome Value). Leaves o (operated flags op v w)) (sym e) (of_two op a b v w i j)))
      (tested op 5))
      (tested op 4)

  -- prefix operators but for one more and one less
  negative_of : (op : ℕ) → op ≢ 1 → op ≢ 2 → op ≢ 3 → op ≢ 4 → (x : ℤ) → prefixed op x ≡ None
  negative_of op n1 n2 n3 n4 x = let e1 = isnt op 1 n1 in let e2 = isnt op 2 n2 in let e3 = isnt op 3 n3 in let e4 = isnt op 4 n4 in rw e1 (rw e2 (rw e3 (rw e4 refl)))

  is_zero : (x : ℤ) (v : ℕ) → Reads x v → int_eq x (pos 0) ≡ (v == 0)
  is_zero x v r = same_words IsText IsCode words (Whole x) (Whole (pos 0)) v 0 (int_eq x (pos 0)) refl r (refl, omega arith)

  prefixes : (op : ℕ) (x : ℤ) (v : ℕ) → Reads x v → op ≢ 5 → op ≢ 6 → Leaves (there (prefixed op x)) (prefix_word op v)
  prefixes op x v r n5 n6 =
      (⊎_elim (λ e. subst (λ k. Leaves (there (prefixed k x)) (prefix_word k v)) (sym e) (negative_reads x v r)) (λ n1.
      (⊎_elim (λ e. subst (λ k. Leaves (there (prefixed k x)) (prefix_word k v)) (sym e) r) (λ n2.
      (⊎_elim (λ e. subst (λ k. Leaves (there (prefixed k x)) (prefix_word k v)) (sym e)
      (truth_reads (int_eq x (pos 0)) _ (ap bit_of (words_equal v 0 r.1 (omega arith) ∙ sym (is_zero x v r))) IsText IsCode)) (λ n3.
      (⊎_elim (λ e. subst (λ k. Leaves (there (prefixed k x)) (prefix_word k v)) (sym e) (inverted_reads x v r)) (λ n4.
      subst (λ (o : Option Value). Leaves (there o) (prefix_word op v)) (sym (negative_of op n1 n2 n3 n4 x)) tt)
      (tested op 4))) (tested op 3))) (tested op 2))) (tested op 1))

  pub applied_before_leaves : (op : ℕ) (a : Value) (v : ℕ) → Means a v → op ≢ 5 → op ≢ 6 → Leaves (applied_before op a) (prefix_word op v)
  applied_before_leaves op (Whole x) v i n5 n6 = prefixes op x v i n5 n6
  applied_before_leaves op (Object m) v i n5 n6 = tt
  applied_before_leaves op (Text m) v i n5 n6 = tt
  applied_before_leaves op (Code m) v i n5 n6 = tt

  -- one more, and one less
  pub more_leaves : (a : Value) (v : ℕ) → Means a v → Leaves (then_gives (whole a) (λ x. Gives (Whole (to_int32 (x +ℤ pos 1))))) (prefix_word 5 v)
  more_leaves (Whole x) v i = more_reads x v i
  more_leaves (Object m) v i = tt
  more_leaves (Text m) v i = tt
  more_leaves (Code m) v i = tt

  pub less_leaves : (a : Value) (v : ℕ) → Means a v → Leaves (then_gives (whole a) (λ x. Gives (Whole (to_int32 (x +ℤ negsuc 0))))) (prefix_word 6 v)
  less_leaves (Whole x) v i = less_reads x v i
  less_leaves (Object m) v i = tt
  less_leaves (Text m) v i = tt
  less_leaves (Code m) v i = tt

  -- a condition holds where the word isn't 0
  pub decided_is : (a : Value) (v : ℕ) (b : Bool) → Means a v → decided a ≡ Gives b → b ≡ not (v == 0)
  decided_is (Whole x) v b i e = (let f : not (int_eq x (pos 0)) ≡ b = (cc) in sym f) ∙ ap not (is_zero x v i)
  decided_is (Object m) v b i e = cc
  decided_is (Text m) v b i e = cc
  decided_is (Code m) v b i e = cc
