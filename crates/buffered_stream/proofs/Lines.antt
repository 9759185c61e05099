-- Where the lines of a text end, in what is held back.
use Rattle.std.proofs.Common.{◌≡◌, ◌≢◌, ℕ, ◌+◌, ◌-◌, zero, suc, length-append, List, [], ◌∷◌, ◌++◌, sym, ap, subst, append-nil, ◌∙◌, refl, arith, length}
use Rattle.std.specs.Prelude.{slice_get}
use Rattle.buffered_stream.specs.Pieces.{IsSuffix}
use Rattle.buffered_stream.specs.Lines.{EndsLine}

-- the last byte of a text with something behind it
last-at : (a : List ℕ) (y : ℕ) (ys : List ℕ) (n : ℕ) → n ≡ length a + length ys → slice_get (a ++ y ∷ ys) n ≡ slice_get (y ∷ ys) (length ys)
last-at [] y ys n e = let same : n ≡ length ys = omega (arith, e) in ap (λ k. slice_get (y ∷ ys) k) same
last-at (x ∷ a) y ys zero e = absurd (omega arith)
last-at (x ∷ a) y ys (suc n) e = last-at a y ys n (omega arith)

last-behind : (a : List ℕ) (y : ℕ) (ys : List ℕ) → slice_get (a ++ y ∷ ys) (length (a ++ y ∷ ys) - 1) ≡ slice_get (y ∷ ys) (length (y ∷ ys) - 1)
last-behind a y ys =
    let long : length (a ++ y ∷ ys) ≡ length a + length (y ∷ ys) = length-append a (y ∷ ys) in
    let short : length (y ∷ ys) - 1 ≡ length ys = omega arith in
    last-at a y ys (length (a ++ y ∷ ys) - 1) (omega (arith, long)) ∙ ap (λ k. slice_get (y ∷ ys) k) (sym short)

-- a text that ends a line does so by its rear, or the rear is empty
pub ends-rear : (a b : List ℕ) → b ≢ [] → EndsLine (a ++ b) → EndsLine b
ends-rear a [] n e = absurd (n refl)
ends-rear a (y ∷ ys) n e = sym (last-behind a y ys) ∙ e

pub ends-whole : (a b : List ℕ) → EndsLine b → EndsLine (a ++ b)
ends-whole a [] e = absurd (cc)
ends-whole a (y ∷ ys) e = last-behind a y ys ∙ e

-- What is held back behind a piece that ends no line ends one only where it did before.
pub held-ends : (old new piece : List ℕ) → IsSuffix new (old ++ piece) → (EndsLine piece → ⊥) → EndsLine new → EndsLine old
held-ends old new [] s n e =
    subst (λ x. EndsLine x) (s.1 ∙ append-nil old) (ends-whole s.0 new e)
held-ends old new (y ∷ ys) s n e =
    absurd (n (ends-rear old (y ∷ ys) (λ q. absurd (cc)) (subst (λ x. EndsLine x) s.1 (ends-whole s.0 new e))))
