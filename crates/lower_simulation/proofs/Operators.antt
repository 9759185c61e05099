-- What operators of the source give beside flat code's, one by one.
use Rattle.std.proofs.Common.{◌≡◌, ℕ, zero, suc, ◌<◌, ◌≤◌, ◌⊎◌, inl, inr, ⊎_elim, List, [], ◌∷◌, length, None, true, false, refl, sym, ap, ◌∙◌, subst, arith}
use Rattle.std.specs.Prelude.{ℤ, pos, negsuc, ◌+ℤ◌, if◌then◌else◌, ◌==◌, int_lt}
use Rattle.std.specs.Int.{int_wrap, w32}
use Rattle.std.proofs.lemmas.Int.{ints, int_wrap-add_left}
use Rattle.std.proofs.lemmas.Bool.Decides.{eqb_tells}
use Rattle.board_world.specs.Kinds.{Turn}
use Rattle.sts_syntax.specs.TypeRules.{entry, IsOne}
use Rattle.sts_meaning.specs.Values.{Value, Whole, Object, Text, Code, Outcome, Gives, Breaks, Stuck, then_gives, whole, to_int32, applied_before}
use Rattle.sts_meaning.specs.Frames.{after}
use Rattle.sts_implements.proofs.Laws.{Agree}
use Rattle.flat_meaning.specs.Operators.{prefixed_by}
use Rattle.sts_lower.specs.Code.{bump_op, unbump_op}

-- a prefix operator of the source is one of flat code, where it has a meaning
five : (v : Value) → applied_before 5 v ≡ Stuck
five (Whole x) = refl
five (Object x) = refl
five (Text x) = refl
five (Code x) = refl

six : (v : Value) → applied_before 6 v ≡ Stuck
six (Whole x) = refl
six (Object x) = refl
six (Text x) = refl
six (Code x) = refl

pub unary_is : (op : ℕ) (v : Value) → (applied_before op v ≡ Stuck) ⊎ (applied_before op v ≡ prefixed_by op v)
unary_is op v =
    ⊎_elim
    (λ y. inl (subst (λ x. applied_before x v ≡ Stuck) (sym y.1) (five v)))
    (λ y. ⊎_elim
    (λ z. inl (subst (λ x. applied_before x v ≡ Stuck) (sym z.1) (six v)))
    (λ z. inr (sym (ap (λ b. if b then then_gives (whole v) (λ x. Gives (Whole (to_int32 (x +ℤ pos 1)))) else if op == 6 then then_gives (whole v) (λ x. Gives (Whole (to_int32 (x +ℤ negsuc 0)))) else applied_before op v) y.0
    ∙ ap (λ b. if b then then_gives (whole v) (λ x. Gives (Whole (to_int32 (x +ℤ negsuc 0)))) else applied_before op v) z.0)))
    (eqb_tells op 6))
    (eqb_tells op 5)

-- what comes of two operations one after the other
pub after_then : {X Y A S : Type 0} (o : Outcome X) (g : X → Outcome Y) (F : Y → Turn A S) → after (then_gives o g) F ≡ after o (λ x. after (g x) F)
after_then (Gives x) g F = refl
after_then (Breaks c) g F = refl
after_then Stuck g F = refl

-- a number that `++` or `--` makes, and the old one that is made of it
pub bumps_to : (by z : ℤ) → IsOne by → prefixed_by (bump_op by) (Whole z) ≡ Gives (Whole (to_int32 (z +ℤ by)))
bumps_to by z (inl e) = subst (λ x. prefixed_by (bump_op x) (Whole z) ≡ Gives (Whole (to_int32 (z +ℤ x)))) (sym e) refl
bumps_to by z (inr e) = subst (λ x. prefixed_by (bump_op x) (Whole z) ≡ Gives (Whole (to_int32 (z +ℤ x)))) (sym e) refl

back_up : (z : ℤ) → to_int32 (to_int32 (z +ℤ pos 1) +ℤ negsuc 0) ≡ to_int32 z
back_up z = let e : z +ℤ pos 1 +ℤ negsuc 0 ≡ z = omega (arith, ints) in int_wrap-add_left w32 (z +ℤ pos 1) (negsuc 0) ∙ ap (int_wrap w32) e

back_down : (z : ℤ) → to_int32 (to_int32 (z +ℤ negsuc 0) +ℤ pos 1) ≡ to_int32 z
back_down z = let e : z +ℤ negsuc 0 +ℤ pos 1 ≡ z = omega (arith, ints) in int_wrap-add_left w32 (z +ℤ negsuc 0) (pos 1) ∙ ap (int_wrap w32) e

pub unbumps_to : (by z : ℤ) → IsOne by → prefixed_by (unbump_op by) (Whole (to_int32 (z +ℤ by))) ≡ Gives (Whole (to_int32 z))
unbumps_to by z (inl e) = subst (λ x. prefixed_by (unbump_op x) (Whole (to_int32 (z +ℤ x))) ≡ Gives (Whole (to_int32 z))) (sym e) (ap (λ x. Gives (Whole x)) (back_up z))
unbumps_to by z (inr e) = subst (λ x. prefixed_by (unbump_op x) (Whole (to_int32 (z +ℤ x))) ≡ Gives (Whole (to_int32 z))) (sym e) (ap (λ x. Gives (Whole x)) (back_down z))

pub below_true : (m l : ℕ) → m < l → int_lt (pos m) (pos l) ≡ true
below_true m l lt = grind (arith, ints)

pub below_false : (m l : ℕ) → l ≤ m → int_lt (pos m) (pos l) ≡ false
below_false m l le = grind (arith, ints)

pub negative_true : (m l : ℕ) → int_lt (negsuc m) (pos l) ≡ true
negative_true m l = grind (arith, ints)

pub agree_with : {X Y : Type 0} (R : X → Y → Type 0) (x : Outcome X) (y : Outcome Y) → Agree R x y → Agree (λ a b. R a b × (x ≡ Gives a) × (y ≡ Gives b)) x y
agree_with R (Gives a) (Gives b) h = (h, refl, refl)
agree_with R (Breaks c) (Breaks d) h = h
agree_with R Stuck Stuck h = tt
agree_with R _ _ h = absurd h

pub entry_none : {X : Type 0} (xs : List X) (i : ℕ) → entry xs i ≡ None → length xs ≤ i
entry_none [] i h = omega arith
entry_none (x ∷ xs) zero h = cc h
entry_none (x ∷ xs) (suc i) h = omega (arith, entry_none xs i h)
