-- What stands behind so many items.
use Rattle.std.proofs.Common.{◌≡◌, ℕ, ◌-◌, ◌≤◌, min, List, [], length, take, drop, replicate, ap, ◌∙◌, sym, arith, inl, inr}
use Rattle.std.proofs.lemmas.Bool.{cases_lt}
use Rattle.std.proofs.lemmas.List.{take_rest, take_all, nil_from_length, length-drop, length-replicate, drop-replicate}

drop-none : (n : ℕ) (xs : List ℕ) → length xs ≤ n → drop n xs ≡ []
drop-none n xs h = nil_from_length (drop n xs) (length-drop n xs ∙ omega arith)

drop-less : (n : ℕ) (xs : List ℕ) → drop (min (length xs) n) xs ≡ drop n xs
drop-less n xs =
    elim (cases_lt n (length xs)) [
      | inl lt ↦ ap (λ m. drop m xs) (omega arith)
      | inr le ↦ ap (λ m. drop m xs) (omega arith) ∙ drop-none (length xs) xs (omega arith) ∙ sym (drop-none n xs le)
    ]

pub drop-rest : (n : ℕ) (xs : List ℕ) → take (length xs - min (length xs) n) (drop (min (length xs) n) xs) ≡ drop n xs
drop-rest n xs = take_rest xs (min (length xs) n) ∙ drop-less n xs

left : (n : ℕ) → 13 - min n 13 ≡ 13 - n
left n = omega arith

pub spaces-left : (n : ℕ) → take {A = ℕ} (13 - min n 13) (drop (min n 13) (replicate 13 32)) ≡ replicate (13 - n) 32
spaces-left n =
    ap (λ (t : List ℕ). take (13 - min n 13) t) (drop-replicate {X = ℕ} (min n 13) 13 32)
    ∙ take_all {A = ℕ} (13 - min n 13) (replicate (13 - min n 13) 32) (omega (arith, length-replicate {A = ℕ} (13 - min n 13) 32))
    ∙ ap (λ k. replicate {A = ℕ} k 32) (left n)
