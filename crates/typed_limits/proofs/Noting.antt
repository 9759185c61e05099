-- What is noted of lists of expressions.
use Rattle.std.proofs.Common.{◌≡◌, ℕ, ◌+◌, ◌-◌, ◌^◌, min, List, [], ◌∷◌, ◌++◌, refl, sym, ◌∙◌, append_assoc, append-nil, arith}
use Rattle.sts_syntax.specs.declared.typed.Callee.TheVariants as c
use Rattle.sts_syntax.specs.TypedTrees as e
use Rattle.sts_syntax.specs.TypedTrees.{TypedTree}
use Rattle.sts_syntax.specs.BoardTable.{row_of, BoardAction, Service, Library, Repeats}
use Rattle.sts_syntax.specs.Nodes.{texts_in, repeats_in, starts_repeating}
use Rattle.typed_limits.specs.declared.uses.Uses.{Uses}
use Rattle.typed_limits.specs.Uses.{repeats_with, with_node, noted}

pub noted_append : (u : Uses) (xs ys : List TypedTree) → noted u (xs ++ ys) ≡ noted (noted u xs) ys
noted_append u [] ys = refl
noted_append u (x ∷ xs) ys = noted_append (with_node u x) xs ys

pub noted_texts : (u : Uses) (xs : List TypedTree) → (noted u xs).texts ≡ u.texts ++ texts_in xs
noted_texts u [] = sym (append-nil u.texts)
noted_texts u (e.Text t n ∷ xs) = noted_texts (with_node u (e.Text t n)) xs ∙ append_assoc u.texts (n ∷ []) (texts_in xs)
noted_texts u (e.Call t (c.Board call) args ∷ xs) = noted_texts (with_node u (e.Call t (c.Board call) args)) xs
noted_texts u (x ∷ xs) = noted_texts (with_node u x) xs

repeats_more : (n : ℕ) (action : BoardAction) → min (repeats_with n action) (2 ^ 32 - 1) ≡ min (n + starts_repeating action) (2 ^ 32 - 1)
repeats_more n (Service number places) = omega arith
repeats_more n (Library function) = omega arith
repeats_more n Repeats = omega arith

-- as many as there are, or as 32 bits count
pub noted_repeats : (u : Uses) (xs : List TypedTree) → min (noted u xs).repeats (2 ^ 32 - 1) ≡ min (u.repeats + repeats_in xs) (2 ^ 32 - 1)
noted_repeats u [] = omega arith
noted_repeats u (e.Text t n ∷ xs) = noted_repeats (with_node u (e.Text t n)) xs
noted_repeats u (e.Call t (c.Board call) args ∷ xs) =
    (let h = noted_repeats (with_node u (e.Call t (c.Board call) args)) xs in
    let m = repeats_more u.repeats (row_of call).action in
    omega (arith, h, m))
noted_repeats u (x ∷ xs) = noted_repeats (with_node u x) xs
