-- Entries of lists.
use Rattle.std.proofs.Common.{◌≡◌, ℕ, zero, suc, ◌+◌, ◌<◌, List, [], ◌∷◌, ◌++◌, length, Some, None, ap, ◌∙◌, refl, arith}
use Rattle.sts_syntax.specs.TypeRules.{entry}

-- an entry of two lists, one behind the other
pub entry_front : {X : Type 0} (xs ys : List X) (i : ℕ) (x : X) → entry xs i ≡ Some x → entry (xs ++ ys) i ≡ Some x
entry_front [] ys i x h = cc h
entry_front (z ∷ xs) ys zero x h = h
entry_front (z ∷ xs) ys (suc i) x h = entry_front xs ys i x h

pub entry_behind : {X : Type 0} (xs ys : List X) (i : ℕ) → entry (xs ++ ys) (length xs + i) ≡ entry ys i
entry_behind [] ys i = let e : 0 + i ≡ i = omega arith in ap (entry ys) e
entry_behind (z ∷ xs) ys i = let e : length (z ∷ xs) + i ≡ suc (length xs + i) = omega arith in ap (entry (z ∷ (xs ++ ys))) e ∙ entry_behind xs ys i

pub entry_past : {X : Type 0} (xs : List X) (i : ℕ) → entry xs (length xs + i) ≡ None
entry_past [] i = refl
entry_past (z ∷ xs) i = let e : length (z ∷ xs) + i ≡ suc (length xs + i) = omega arith in ap (entry (z ∷ xs)) e ∙ entry_past xs i

pub entry_within : {X : Type 0} (xs : List X) (i : ℕ) (x : X) → entry xs i ≡ Some x → i < length xs
entry_within [] i x h = cc h
entry_within (z ∷ xs) zero x h = omega arith
entry_within (z ∷ xs) (suc i) x h = omega (arith, entry_within xs i x h)
