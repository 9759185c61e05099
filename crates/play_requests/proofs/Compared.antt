-- Two texts that are compared byte by byte.
use Rattle.std.proofs.Common.{◌≡◌, ◌&&◌, ◌∙◌, ◌<◌, ◌+◌, ℕ, suc, zero, Bool, true, false, List, [], ◌∷◌, length, take, refl, ap, arith}
use Rattle.std.specs.Prelude.{nat_eq}
use Rattle.std.specs.Str.{bytes_eq}
use Rattle.std.proofs.Math.ListN.{get_or}

-- a test that comes last might come first
after : (a : Bool) → (a && true) ≡ (true && a)
after true = refl
after false = refl

grouped : (a b c : Bool) → (a && (b && c)) ≡ ((a && b) && c)
grouped true b c = refl
grouped false b c = refl

longer : (xs ys : List ℕ) (n d e : ℕ) → n < length xs → n < length ys → bytes_eq (take (suc n) xs) (take (suc n) ys) ≡ (bytes_eq (take n xs) (take n ys) && nat_eq (get_or xs n d) (get_or ys n e))
longer [] ys n d e l m = absurd (omega arith)
longer (x ∷ xs) [] n d e l m = absurd (omega arith)
longer (x ∷ xs) (y ∷ ys) zero d e l m = after (nat_eq x y)
longer (x ∷ xs) (y ∷ ys) (suc n) d e l m =
    ap (λ b. nat_eq x y && b) (longer xs ys n d e (omega arith) (omega arith)) ∙ grouped (nat_eq x y) (bytes_eq (take n xs) (take n ys)) (nat_eq (get_or xs n d) (get_or ys n e))

-- one byte more is compared
pub one-more : (xs ys : List ℕ) (n d e : ℕ) → n < length xs → n < length ys → bytes_eq (take (n + 1) xs) (take (n + 1) ys) ≡ (bytes_eq (take n xs) (take n ys) && nat_eq (get_or xs n d) (get_or ys n e))
one-more xs ys n d e l m = let on : n + 1 ≡ suc n = omega arith in ap (λ k. bytes_eq (take k xs) (take k ys)) on ∙ longer xs ys n d e l m
