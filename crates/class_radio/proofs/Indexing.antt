-- Losses are found by their numbers.
use Rattle.std.proofs.Common.{◌≡◌, ℕ, ◌+◌, ◌≤◌, ◌<◌, ◌⊎◌, inl, inr, Bool, true, false, ◌&&◌, ◌||◌, ◌==◌, List, [], ◌∷◌, ◌++◌, length, take, get_or, nat_lt, Result, Ok, Err, is_ok, refl, ap, sym, ◌∙◌, subst, arith}
use Rattle.std.proofs.lemmas.Bool.Decides.{nat_tests}
use Rattle.std.proofs.lemmas.List.{take_more}
use Rattle.std.proofs.lemmas.List.Folds.{list_any-append, list_any_at, list_any_none}
use Rattle.std.proofs.lemmas.List.Elements.{All-from_get_or}
use Rattle.std.proofs.lemmas.List.Sorted.{list_any-IsPermutation, IsNonDecreasingBy-from_sort, searched}
use Rattle.std.specs.List.{list_any}
use Rattle.std.specs.List.Sorted.{IsPermutation, IsBinarySearchResult, IsSortedByKey}
use Rattle.std.specs.Ordering.{nat_cmp}
use Rattle.std.specs.Prelude.{slice_index}
use Rattle.std.specs.Result.{MatchResult}
use Rattle.class_file.specs.declared.class.Loss.{Loss}
use Rattle.class_radio.specs.Losses.{lost_by}
use Rattle.class_radio.specs.Index.{loss_key, HasKeys, IsIndex}

-- numbers below 2^32 are told apart
keys_apart : (a b c x y z : ℕ) → b < 4294967296 → c < 4294967296 → y < 4294967296 → z < 4294967296 → loss_key a b c ≡ loss_key x y z → (a ≡ x) × (b ≡ y) × (c ≡ z)
keys_apart a b c x y z p q r s e = (omega (arith, p, q, r, s, e), omega (arith, p, q, r, s, e), omega (arith, p, q, r, s, e))

same_test : (a b c x y z : ℕ) → b < 4294967296 → c < 4294967296 → y < 4294967296 → z < 4294967296 → ((a == x) && ((b == y) && (c == z))) ≡ (loss_key a b c == loss_key x y z)
same_test a b c x y z p q r s = by_key (loss_key a b c == loss_key x y z) refl (a == x) refl (b == y) refl (c == z) refl
  where
    by_key : (k : Bool) → (loss_key a b c == loss_key x y z) ≡ k → (t : Bool) → (a == x) ≡ t → (u : Bool) → (b == y) ≡ u → (v : Bool) → (c == z) ≡ v → (t && (u && v)) ≡ k
    by_key true k t d u e v f =
        (let same : loss_key a b c ≡ loss_key x y z = grind (arith, nat_tests) in
        let each = keys_apart a b c x y z p q r s same in
        let one : a ≡ x = each.0 in
        let two : b ≡ y = each.1 in
        let three : c ≡ z = each.2 in
        let t' : (a == x) ≡ true = grind (arith, nat_tests) in
        let u' : (b == y) ≡ true = grind (arith, nat_tests) in
        let v' : (c == z) ≡ true = grind (arith, nat_tests) in
        ap (λ (i : Bool). i && (u && v)) (sym d ∙ t') ∙ ap (λ (i : Bool). i && v) (sym e ∙ u') ∙ (sym f ∙ v'))
    by_key false k false d u e v f = refl
    by_key false k true d false e v f = refl
    by_key false k true d true e false f = refl
    by_key false k true d true e true f =
        absurd (let one : a ≡ x = grind (arith, nat_tests) in
        let two : b ≡ y = grind (arith, nat_tests) in
        let three : c ≡ z = grind (arith, nat_tests) in
        let same : loss_key a b c ≡ loss_key x y z = omega (arith, one, two, three) in
        let yes : (loss_key a b c == loss_key x y z) ≡ true = grind (arith, nat_tests) in
        cc)

lost_append : (list more : List Loss) (at from to : ℕ) → lost_by (list ++ more) at from to ≡ (lost_by list at from to || lost_by more at from to)
lost_append [] more at from to = refl
lost_append (l ∷ ls) more at from to = (let t = (l.at == at) && ((l.from == from) && (l.to == to)) in ap (λ (b : Bool). t || b) (lost_append ls more at from to) ∙ or_assoc t (lost_by ls at from to) (lost_by more at from to))
  where
    or_assoc : (a b c : Bool) → (a || (b || c)) ≡ ((a || b) || c)
    or_assoc true b c = refl
    or_assoc false b c = refl

pub none_yet : HasKeys [] []
none_yet = record { below = λ at from to l. refl; found = λ at from to a b c. refl }

-- no board has a number past 2^32
others : (l : Loss) → l.from < 4294967296 → l.to < 4294967296 → (at from to : ℕ) → 4294967296 ≤ from ⊎ 4294967296 ≤ to → ((l.at == at) && ((l.from == from) && (l.to == to))) ≡ false
others l p q at from to past = by_tests (l.at == at) (l.from == from) refl (l.to == to) refl past
  where
    by_tests : (c : Bool) (d : Bool) → (l.from == from) ≡ d → (e : Bool) → (l.to == to) ≡ e → 4294967296 ≤ from ⊎ 4294967296 ≤ to → (c && (d && e)) ≡ false
    by_tests false d f e g h = refl
    by_tests true false f e g h = refl
    by_tests true true f false g h = refl
    by_tests true true f true g (inl h) = absurd (let same : l.from ≡ from = grind (arith, nat_tests) in omega (arith, same, h, p))
    by_tests true true f true g (inr h) = absurd (let same : l.to ≡ to = grind (arith, nat_tests) in omega (arith, same, h, q))

pub one_more : (list : List Loss) (keys : List ℕ) (l : Loss) → l.from < 4294967296 → l.to < 4294967296 → HasKeys list keys → HasKeys (list ++ l ∷ []) (keys ++ loss_key l.at l.from l.to ∷ [])
one_more list keys l p q h = record {
  below = λ at from to past. lost_append list (l ∷ []) at from to ∙ ap (λ (x : Bool). x || lost_by (l ∷ []) at from to) (h.below at from to past) ∙ ap (λ (x : Bool). x || false) (others l p q at from to past);
  found = λ at from to a b c.
      (let k = λ (i : ℕ). i == loss_key at from to in
      lost_append list (l ∷ []) at from to
      ∙ ap (λ (x : Bool). x || lost_by (l ∷ []) at from to) (h.found at from to a b c)
      ∙ ap (λ (x : Bool). list_any (λ i. i == loss_key at from to) keys || (x || false)) (same_test l.at l.from l.to at from to p q b c)
      ∙ sym (list_any-append (λ i. i == loss_key at from to) keys (loss_key l.at l.from l.to ∷ [])));
}

-- a step of a loop over all
pub one_step : (all : List Loss) (i : ℕ) (d : Loss) (keys new : List ℕ) (k : ℕ) → i < length all → (get_or all i d).from < 4294967296 → (get_or all i d).to < 4294967296
    → k ≡ loss_key (get_or all i d).at (get_or all i d).from (get_or all i d).to → new ≡ keys ++ k ∷ [] → HasKeys (take i all) keys → HasKeys (take (i + 1) all) new
one_step all i d keys new k l p q e f h =
    subst (λ (ks : List ℕ). HasKeys (take (i + 1) all) ks) (ap (λ (n : ℕ). keys ++ n ∷ []) (sym e) ∙ sym f)
    (subst (λ (ls : List Loss). HasKeys ls (keys ++ loss_key (get_or all i d).at (get_or all i d).from (get_or all i d).to ∷ [])) (sym (take_more all i d l)) (one_more (take i all) keys (get_or all i d) p q h))

pub sorted_keys : (list : List Loss) (keys sorted : List ℕ) → HasKeys list keys → IsPermutation keys sorted → IsSortedByKey (λ (x : ℕ). x) nat_cmp sorted → IsIndex list sorted
sorted_keys list keys sorted h p s = record {
  has = record { below = h.below; found = λ at from to a b c. h.found at from to a b c ∙ list_any-IsPermutation (λ i. i == loss_key at from to) keys sorted p };
  rises = IsNonDecreasingBy-from_sort (λ x. x) sorted s;
}

pub found_in : (list : List Loss) (keys : List ℕ) → IsIndex list keys → (at from to : ℕ) → at < 4294967296 → from < 4294967296 → to < 4294967296
    → (r : Result ℕ ℕ) → IsBinarySearchResult (λ y. nat_cmp y (loss_key at from to)) keys r → is_ok r ≡ lost_by list at from to
found_in list keys h at from to a b c r s = by_result r (searched keys (loss_key at from to) r s (λ i j l m. h.rises i j 0 l m)) ∙ sym (h.has.found at from to a b c)
  where
    by_result : (r' : Result ℕ ℕ) → MatchResult r' (λ i. (i < length keys) × (slice_index keys i ≡ loss_key at from to)) (λ i. (i ≤ length keys) × ((k : ℕ) → k < i → slice_index keys k < loss_key at from to) × ((k : ℕ) → i ≤ k → k < length keys → loss_key at from to < slice_index keys k))
        → is_ok r' ≡ list_any (λ i. i == loss_key at from to) keys
    by_result (Ok i) m = sym (list_any_at (λ j. j == loss_key at from to) keys i 0 m.0 (let same : slice_index keys i ≡ loss_key at from to = m.1 in grind (arith, nat_tests)))
    by_result (Err i) m = sym (list_any_none (λ j. j == loss_key at from to) keys (All-from_get_or (λ j. (j == loss_key at from to) ≡ false) keys 0 (λ k l. by_side k l)))
      where
        by_side : (k : ℕ) → k < length keys → (slice_index keys k == loss_key at from to) ≡ false
        by_side k l = by_test (nat_lt k i) refl
          where
            by_test : (d : Bool) → nat_lt k i ≡ d → (slice_index keys k == loss_key at from to) ≡ false
            by_test true d = (let low : slice_index keys k < loss_key at from to = m.1 k (grind (arith, nat_tests)) in grind (arith, nat_tests))
            by_test false d = (let high : loss_key at from to < slice_index keys k = m.2 k (grind (arith, nat_tests)) l in grind (arith, nat_tests))
