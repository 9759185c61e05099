-- Numbers in a row.
use Rattle.std.proofs.Common.{◌≡◌, ℕ, zero, suc, ◌+◌, List, [], ◌∷◌, ◌++◌, refl, sym, ap, ◌∙◌, append_assoc, add-one}
use Rattle.sts_lower.specs.Code.{span}

span_onto : (t n : ℕ) (rest : List ℕ) → span t n rest ≡ span t n [] ++ rest
span_onto t zero rest = refl
span_onto t (suc n) rest =
    span_onto t n ((t + n) ∷ rest) ∙ sym (append_assoc (span t n []) ((t + n) ∷ []) rest) ∙ ap (λ xs. xs ++ rest) (sym (span_onto t n ((t + n) ∷ [])))

-- one more at the end
pub span_more : (t n : ℕ) → span t (n + 1) [] ≡ span t n [] ++ (t + n) ∷ []
span_more t n = ap (λ m. span t m []) (add-one n) ∙ span_onto t n ((t + n) ∷ [])
