-- A character of a text before the others.
use Rattle.std.proofs.Common.{◌≡◌, ℕ, zero, suc, ◌-◌, ◌<◌, ◌≤◌, nat_lt, true, List, [], ◌∷◌, ◌++◌, length, take, drop, ap, ◌∙◌, sym, refl, arith}
use Rattle.std.proofs.lemmas.Bool.{cond-true}
use Rattle.std.proofs.lemmas.Bool.Decides.{nat_tests}
use Rattle.std.proofs.lemmas.List.{append_assoc}
use Rattle.view_forms.specs.Shown.{seen_size, shown_byte, shown_from}

begun : (n : ℕ) (bs : List ℕ) → shown_from n bs ≡ take n bs ++ shown_from 0 (drop n bs)
begun zero bs = refl
begun (suc n) [] = refl
begun (suc n) (b ∷ bs) = ap (λ t. b ∷ t) (begun n bs)

seen-first : (n : ℕ) (b : ℕ) (bs : List ℕ) → 0 < n → b ∷ shown_from (n - 1) bs ≡ take n (b ∷ bs) ++ shown_from 0 (drop n (b ∷ bs))
seen-first zero b bs h = absurd (omega (arith, h))
seen-first (suc n) b bs h = ap (λ k. b ∷ shown_from k bs) (omega arith) ∙ ap (λ t. b ∷ t) (begun n bs)

more-than : (n : ℕ) → 0 < n → nat_lt 0 n ≡ true
more-than n h = grind (arith, nat_tests)

pub character-first : (bs : List ℕ) (n : ℕ) → n ≡ seen_size bs → 0 < n → 0 < length bs → shown_from 0 bs ≡ take n bs ++ shown_from 0 (drop n bs)
character-first [] n e h k = absurd (omega (arith, k))
character-first (b ∷ bs) n e h k =
    cond-true (nat_lt 0 (seen_size (b ∷ bs))) (b ∷ shown_from (seen_size (b ∷ bs) - 1) bs) (shown_byte b ++ shown_from 0 bs) (ap (nat_lt 0) (sym e) ∙ more-than n h)
    ∙ ap (λ k. b ∷ shown_from (k - 1) bs) (sym e) ∙ seen-first n b bs h

pub added : (old out text rest : List ℕ) (n : ℕ) → n ≡ seen_size text → 0 < n → 0 < length text → n ≤ length text → out ≡ old ++ take n text → rest ≡ drop n text → out ++ shown_from 0 rest ≡ old ++ shown_from 0 text
added old out text rest n e h k w o r =
    ap (λ t. t ++ shown_from 0 rest) o ∙ append_assoc old (take n text) (shown_from 0 rest)
    ∙ ap (λ t. old ++ (take n text ++ shown_from 0 t)) r ∙ ap (λ t. old ++ t) (sym (character-first text n e h k))
