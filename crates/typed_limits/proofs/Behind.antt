-- The functions behind the library's.
use Rattle.std.proofs.Common.{◌≡◌, ℕ, zero, suc, List, [], ◌∷◌, ◌++◌, length, take, drop, ◌<◌, ◌≤◌, Bool, true, false, Option, Some, None, refl, arith, ap, sym, subst, ◌∙◌, append_assoc}
use Rattle.std.specs.Prelude.{is_some, IfSome, ◌&&◌, nat_le}
use Rattle.std.proofs.lemmas.Bool.Decides.{nat_tests}
use Rattle.sts_syntax.specs.declared.typed.TypedClass.{TypedClass}
use Rattle.sts_syntax.specs.declared.typed.TypedBody.{TypedBody}
use Rattle.sts_syntax.specs.TypedTrees.{TypedTree, TypedRoutine}
use Rattle.sts_syntax.specs.TypedViews.{class_entries, typed_routine, typed_routines}
use Rattle.sts_syntax.specs.Nodes.{expressions_of, all_expressions}

pub routines_length : (xs : List TypedBody) → length (typed_routines xs) ≡ length xs
routines_length [] = refl
routines_length (x ∷ xs) = ap suc (routines_length xs)

pub drop_routines : (n : ℕ) (xs : List TypedBody) → typed_routines (drop n xs) ≡ drop n (typed_routines xs)
drop_routines zero xs = refl
drop_routines (suc n) [] = refl
drop_routines (suc n) (x ∷ xs) = drop_routines n xs

pub parted : (n : ℕ) (xs : List TypedBody) → typed_routines (take n xs) ++ typed_routines (drop n xs) ≡ typed_routines xs
parted zero xs = refl
parted (suc n) [] = refl
parted (suc n) (x ∷ xs) = ap (λ (rs : List TypedRoutine). typed_routine x ∷ rs) (parted n xs)

pub drop_least : (k n : ℕ) (xs : List TypedRoutine) → n ≤ k → (n < k → length xs ≤ n) → drop n xs ≡ drop k xs
drop_least zero zero xs h g = refl
drop_least zero (suc n) xs h g = absurd (omega (arith, h))
drop_least (suc k) zero [] h g = refl
drop_least (suc k) zero (x ∷ xs) h g = absurd (let l : 0 < suc k = omega arith in let m = g l in omega (arith, m))
drop_least (suc k) (suc n) [] h g = refl
drop_least (suc k) (suc n) (x ∷ xs) h g = drop_least k n xs (omega (arith, h)) (λ l. let m : suc n < suc k = omega (arith, l) in let w = g m in omega (arith, w))

pub some_gives : (o : Option ℕ) (A : Type 0) → true ≡ is_some o → IfSome o (λ n. A) → A
some_gives None A e h = absurd cc
some_gives (Some n) A e h = h

pub given : (o : Option ℕ) (n : ℕ) (P : ℕ → Type 0) → o ≡ Some n → IfSome o P → P n
given o n P e h = subst (λ (x : Option ℕ). IfSome x P) e h

pub is_given : (o : Option ℕ) (n : ℕ) (b : Bool) → o ≡ Some n → b ≡ is_some o → b ≡ true
is_given o n b e h = h ∙ ap is_some e

pub expressions_append : (rs ss : List TypedRoutine) → all_expressions (rs ++ ss) ≡ all_expressions rs ++ all_expressions ss
expressions_append [] ss = refl
expressions_append (r ∷ rs) ss =
    ap (λ (xs : List TypedTree). expressions_of r.all ++ xs) (expressions_append rs ss) ∙ sym (append_assoc (expressions_of r.all) (all_expressions rs) (all_expressions ss))

-- tests one after the other
pub no_first : (a b c d e f : Bool) → a ≡ false → false ≡ (a && b && c && d && e && f)
no_first true b c d e f h = absurd cc
no_first false b c d e f h = refl

pub no_second : (a b c d e f : Bool) → a ≡ true → b ≡ false → false ≡ (a && b && c && d && e && f)
no_second true true c d e f g h = absurd cc
no_second true false c d e f g h = refl
no_second false b c d e f g h = absurd cc

pub no_fifth : (a b c d e f : Bool) → a ≡ true → b ≡ true → c ≡ true → d ≡ true → e ≡ false → false ≡ (a && b && c && d && e && f)
no_fifth true true true true true f g h i j k = absurd cc
no_fifth true true true true false f g h i j k = refl
no_fifth true true true false e f g h i j k = absurd cc
no_fifth true true false d e f g h i j k = absurd cc
no_fifth true false c d e f g h i j k = absurd cc
no_fifth false b c d e f g h i j k = absurd cc

pub last_alone : (a b c d e f : Bool) → a ≡ true → b ≡ true → c ≡ true → d ≡ true → e ≡ true → f ≡ (a && b && c && d && e && f)
last_alone true true true true true f g h i j k = refl
last_alone true true true true false f g h i j k = absurd cc
last_alone true true true false e f g h i j k = absurd cc
last_alone true true false d e f g h i j k = absurd cc
last_alone true false c d e f g h i j k = absurd cc
last_alone false b c d e f g h i j k = absurd cc

pub classes_length : (xs : List TypedClass) → length (class_entries xs) ≡ length xs
classes_length [] = refl
classes_length (x ∷ xs) = ap suc (classes_length xs)

pub over : (most n : ℕ) → most < n → nat_le n most ≡ false
over most n h = grind (arith, nat_tests, h)

pub within : (most n : ℕ) → n ≤ most → nat_le n most ≡ true
within most n h = grind (arith, nat_tests, h)
