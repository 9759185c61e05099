-- Lists that are made piece by piece.
use Rattle.std.proofs.Common.{◌≡◌, ℕ, ◌≤◌, List, [], ◌++◌, length, take, map, ap, ◌∙◌, sym}
use Rattle.std.specs.List.{flat_map}
use Rattle.std.proofs.lemmas.List.{take_all, append_assoc, append-nil}
use Rattle.std.proofs.lemmas.List.Folds.{flat_map-map}

pub all-pieces : {X Y : Type 0} (g : X → Y) (f : Y → List ℕ) (old out : List ℕ) (xs : List X) (i : ℕ) → length xs ≤ i → out ≡ old ++ flat_map (λ x. f (g x)) (take i xs) → out ≡ old ++ flat_map f (map g xs)
all-pieces g f old out xs i h before = before ∙ ap (λ t. old ++ t) (ap (flat_map (λ x. f (g x))) (take_all i xs h) ∙ sym (flat_map-map f g xs))

pub six-pieces : (o a b c d e f : List ℕ) → o ++ a ++ b ++ c ++ d ++ e ++ f ≡ o ++ (a ++ (b ++ (c ++ (d ++ (e ++ (f ++ []))))))
six-pieces o a b c d e f =
    append_assoc (o ++ a ++ b ++ c ++ d) e f
    ∙ append_assoc (o ++ a ++ b ++ c) d (e ++ f)
    ∙ append_assoc (o ++ a ++ b) c (d ++ (e ++ f))
    ∙ append_assoc (o ++ a) b (c ++ (d ++ (e ++ f)))
    ∙ append_assoc o a (b ++ (c ++ (d ++ (e ++ f))))
    ∙ ap (λ t. o ++ (a ++ (b ++ (c ++ (d ++ (e ++ t)))))) (sym (append-nil f))
