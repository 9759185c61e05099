-- Parts of a list.
use Rattle.std.proofs.Common.{zero, suc, ◌≡◌, ◌≢◌, ℕ, ◌+◌, ◌<◌, ◌≤◌, List, ◌∷◌, length, get_or, drop, set, slice_index, true, false, nat_eq, refl, sym, ap, ◌∙◌, arith, ◌⊎◌, inl, inr, length-set, length-drop}
use Rattle.std.proofs.lemmas.List.{get_or-set_other, get_or-drop}
use Rattle.std.proofs.lemmas.Grind.{get_or-set_at}
use Rattle.std.proofs.lemmas.Bool.Decides.{nat_tests}
use Rattle.bank_model.specs.Standing.{IsPart}

pub same_or_not : (P : Type 0) (i j : ℕ) → (i ≡ j → P) → (i ≢ j → P) → P
same_or_not P i j f g = elim (nat_eq i j) as (λ b. nat_eq i j ≡ b → P) [
  | true ↦ λ e. f (grind (arith, nat_tests))
  | false ↦ λ e. g (grind (arith, nat_tests))
] refl

-- a word within the part is set in both
pub part_set_in : (xs ys : List ℕ) (from k p v : ℕ) → IsPart xs from ys → k < length ys → p ≡ from + k → IsPart (set xs p v) from (set ys k v)
part_set_in xs ys from k p v h l e = record {
  within = omega (arith, h.within, length-set ys k v, length-set xs p v);
  same = λ j q.
      let q' : j < length ys = omega (arith, length-set ys k v) in
      same_or_not _ j k
      (λ s. get_or-set_at ys k j v 0 s l ∙ sym (get_or-set_at xs p (from + j) v 0 (omega arith) (omega (arith, h.within))))
      (λ s. get_or-set_other ys k j v 0 s ∙ h.same j q' ∙ sym (get_or-set_other xs p (from + j) v 0 (omega arith)));
}

-- a word outside the part is set in the whole
pub part_set_out : (xs ys : List ℕ) (from p v : ℕ) → IsPart xs from ys → (p < from) ⊎ (from + length ys ≤ p) → IsPart (set xs p v) from ys
part_set_out xs ys from p v h (inl l) = record {
  within = omega (arith, h.within, length-set xs p v);
  same = λ j q. h.same j q ∙ sym (get_or-set_other xs p (from + j) v 0 (omega arith));
}
part_set_out xs ys from p v h (inr l) = record {
  within = omega (arith, h.within, length-set xs p v);
  same = λ j q. h.same j q ∙ sym (get_or-set_other xs p (from + j) v 0 (omega arith));
}

pub part_drop : (xs ys : List ℕ) (from n from' : ℕ) → IsPart xs from ys → n ≤ length ys → from' ≡ from + n → IsPart xs from' (drop n ys)
part_drop xs ys from n from' h l e = record {
  within = omega (arith, h.within, length-drop n ys);
  same = λ j q. get_or-drop n ys j 0 ∙ h.same (n + j) (omega (arith, length-drop n ys)) ∙ ap (λ i. get_or xs i 0) (omega arith);
}

cons_at : (xs ys : List ℕ) (from from' : ℕ) → IsPart xs from ys → from ≡ from' + 1 → (j : ℕ) → j < length (get_or xs from' 0 ∷ ys) → slice_index (get_or xs from' 0 ∷ ys) j ≡ slice_index xs (from' + j)
cons_at xs ys from from' h e zero q = ap (λ i. get_or xs i 0) (omega arith)
cons_at xs ys from from' h e (suc j) q = h.same j (omega arith) ∙ ap (λ i. get_or xs i 0) (omega arith)

-- one more word in front
pub part_cons : (xs ys : List ℕ) (from from' : ℕ) → IsPart xs from ys → from ≡ from' + 1 → IsPart xs from' (get_or xs from' 0 ∷ ys)
part_cons xs ys from from' h e = record {
  within = omega (arith, h.within);
  same = λ j q. cons_at xs ys from from' h e j q;
}

-- a word within the part is changed in both
pub part_changed : (f : ℕ → ℕ) (xs ys : List ℕ) (from k p : ℕ) → IsPart xs from ys → k < length ys → p ≡ from + k → IsPart (set xs p (f (slice_index xs p))) from (set ys k (f (slice_index ys k)))
part_changed f xs ys from k p h l e =
    let q : slice_index ys k ≡ slice_index xs p = h.same k l ∙ ap (λ i. slice_index xs i) (sym e) in
    rw q (part_set_in xs ys from k p (f (slice_index xs p)) h l e)
