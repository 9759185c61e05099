-- The program of `big`, line by line.
use Rattle.std.proofs.Common.{◌≡◌, ℕ, suc, ◌+◌, List, [], ◌++◌, ap, subst, sym, ◌∙◌, refl, append_assoc, append-nil, arith}
use Rattle.run_tool.specs.Big.{lines_of_numbers}

-- no line yet
pub no-lines : (line : ℕ → List ℕ) (had : List ℕ) → had ≡ had ++ lines_of_numbers line 0
unfolding lines_of_numbers
no-lines line had = sym (append-nil had)

by-suc : (line : ℕ → List ℕ) (n m : ℕ) → suc n ≡ m → lines_of_numbers line n ++ line m ≡ lines_of_numbers line m
unfolding lines_of_numbers
by-suc line n m e = subst (λ k. lines_of_numbers line n ++ line k ≡ lines_of_numbers line k) e refl

one-behind : (line : ℕ → List ℕ) (n : ℕ) → lines_of_numbers line n ++ line (n + 1) ≡ lines_of_numbers line (n + 1)
one-behind line n = by-suc line n (n + 1) (let e : suc n ≡ n + 1 = omega arith in e)

-- one line more
pub next-line : (line : ℕ → List ℕ) (n : ℕ) (had now after : List ℕ) → now ≡ had ++ lines_of_numbers line n → after ≡ now ++ line (n + 1) → after ≡ had ++ lines_of_numbers line (n + 1)
next-line line n had now after h e =
    e ∙ ap (λ x. x ++ line (n + 1)) h ∙ append_assoc had (lines_of_numbers line n) (line (n + 1)) ∙ ap (λ x. had ++ x) (one-behind line n)

-- five pieces behind a text
five-behind : (had a b c d e : List ℕ) → had ++ a ++ b ++ c ++ d ++ e ≡ had ++ (a ++ (b ++ (c ++ (d ++ e))))
five-behind had a b c d e =
    append_assoc (had ++ a ++ b ++ c) d e ∙ append_assoc (had ++ a ++ b) c (d ++ e) ∙ append_assoc (had ++ a) b (c ++ (d ++ e)) ∙ append_assoc had a (b ++ (c ++ (d ++ e)))

-- the same text, put piece by piece
pub five-puts : (had a b c d e o p q r s : List ℕ) → o ≡ had ++ a → p ≡ o ++ b → q ≡ p ++ c → r ≡ q ++ d → s ≡ r ++ e → s ≡ had ++ (a ++ (b ++ (c ++ (d ++ e))))
five-puts had a b c d e o p q r s f g h i j =
    j ∙ ap (λ x. x ++ e) i ∙ ap (λ x. x ++ d ++ e) h ∙ ap (λ x. x ++ c ++ d ++ e) g ∙ ap (λ x. x ++ b ++ c ++ d ++ e) f ∙ five-behind had a b c d e

pub three-behind : (a b c : List ℕ) → [] ++ a ++ b ++ c ≡ a ++ (b ++ c)
three-behind a b c = append_assoc a b c
