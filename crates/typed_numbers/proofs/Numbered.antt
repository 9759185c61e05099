-- Numbers of functions in one text behind another.
use Rattle.std.proofs.Common.{◌≡◌, ℕ, ◌+◌, [], ◌∷◌, ◌++◌, sym, ap, ◌∙◌, append_assoc, arith}
use Rattle.sts_syntax.specs.Programs.{Program}
use Rattle.sts_scope.specs.Handlers.{item_routines, all_routines}
use Rattle.sts_scope.specs.Numbers.{item_numbers, numbers_from, item_makers, makers_from}

pub numbers_append : (n : ℕ) (xs ys : Program) → numbers_from n (xs ++ ys) ≡ numbers_from n xs ++ numbers_from (n + all_routines xs) ys
numbers_append n [] ys = let z : n ≡ n + 0 = omega arith in ap (λ k. numbers_from k ys) z
numbers_append n (x ∷ xs) ys =
    let z : n + item_routines x + all_routines xs ≡ n + (item_routines x + all_routines xs) = omega arith in
    ap (λ q. item_numbers n x ++ q) (numbers_append (n + item_routines x) xs ys)
    ∙ (sym (append_assoc (item_numbers n x) (numbers_from (n + item_routines x) xs) (numbers_from (n + item_routines x + all_routines xs) ys))
    ∙ ap (λ k. (item_numbers n x ++ numbers_from (n + item_routines x) xs) ++ numbers_from k ys) z)

pub makers_append : (n : ℕ) (xs ys : Program) → makers_from n (xs ++ ys) ≡ makers_from n xs ++ makers_from (n + all_routines xs) ys
makers_append n [] ys = let z : n ≡ n + 0 = omega arith in ap (λ k. makers_from k ys) z
makers_append n (x ∷ xs) ys =
    let z : n + item_routines x + all_routines xs ≡ n + (item_routines x + all_routines xs) = omega arith in
    ap (λ q. item_makers n x ++ q) (makers_append (n + item_routines x) xs ys)
    ∙ (sym (append_assoc (item_makers n x) (makers_from (n + item_routines x) xs) (makers_from (n + item_routines x + all_routines xs) ys))
    ∙ ap (λ k. (item_makers n x ++ makers_from (n + item_routines x) xs) ++ makers_from k ys) z)
