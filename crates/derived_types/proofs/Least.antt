-- On the way to the least table: whatever declaration is set whose rule gives a type, it stays on the way; where nothing new is said, it has arrived.
use Rattle.std.proofs.Common.{◌≡◌, ◌+◌, ◌<◌, ◌≢◌, ℕ, zero, suc, Option, Some, None, List, [], ◌∷◌, length, set, refl, ap, sym, ◌∙◌, subst, arith, get_or-set_same, get_or-set_other, length-set, ◌⊎◌, inl, inr}
use Rattle.std.specs.Prelude.{Bool, true, false, ◌||◌, T}
use Rattle.std.proofs.Math.Dec.{eqb}
use Rattle.std.proofs.Math.Facts.{eqb_yes, yes_eqb}
use Rattle.sts_scope.specs.declared.kinds.StaticType.{StaticType}
use Rattle.type_derive.specs.Derived.{Less, Within, IsLeast, at}
use Rattle.derived_types.specs.Underway.{IsUnderway, IsStill, Moves, holes}

-- a rule gives no less where more is known
abbrev pub IsMonotone : (List (Option StaticType) → ℕ → Option StaticType) → Type 0
IsMonotone rule = (xs ys : List (Option StaticType)) → Within xs ys → (d : ℕ) → Less (rule xs d) (rule ys d)

less_none : (x y : Option StaticType) → x ≡ None → Less x y
less_none None y h = tt
less_none (Some a) y h = cc

less_same : (x y : Option StaticType) → x ≡ y → Less x y
less_same None y h = tt
less_same (Some a) y h = sym h

less_to : (x y : Option StaticType) (t : StaticType) → x ≡ Some t → Less x y → y ≡ Some t
less_to None y t h l = cc
less_to (Some a) y t h l = l ∙ h

less_both : (x y : Option StaticType) → Less x y → (y ≡ None → x ≡ None)
less_both None y l h = refl
less_both (Some a) y l h = cc

less_trans : (x y z : Option StaticType) → Less x y → Less y z → Less x z
less_trans None y z l m = tt
less_trans (Some a) y z l m = less_to y z a l m

pub begins : (rule : List (Option StaticType) → ℕ → Option StaticType) (xs : List (Option StaticType)) → ((d : ℕ) → at xs d ≡ None) → IsUnderway rule xs
begins rule xs h = record {
  below = λ ys e s d. less_none (at xs d) (at ys d) (h d);
  kept = λ d lt. less_none (at xs d) (rule xs d) (h d);
}

-- a place is this one or another
decided : {P : Type 0} (b : Bool) → (T b → P) → (P → T b) → P ⊎ (P → ⊥)
decided true f g = inl (f tt)
decided false f g = inr g

either : (d e : ℕ) → (d ≡ e) ⊎ (d ≢ e)
either d e = decided (eqb d e) (λ t. eqb_yes {a = d} {b = e} t) (λ t. yes_eqb {a = d} {b = e} t)

set_within : (xs ys : List (Option StaticType)) (d : ℕ) (t : StaticType) → d < length xs → at ys d ≡ Some t → Within xs ys → Within (set xs d (Some t)) ys
set_within xs ys d t lt h w e = elim (either e d) [
  | inl is ↦ subst (λ n. Less (at (set xs d (Some t)) n) (at ys n)) (sym is) (subst (λ o. Less o (at ys d)) (sym (get_or-set_same xs d (Some t) None lt)) h)
  | inr other ↦ subst (λ o. Less o (at ys e)) (sym (get_or-set_other xs d e (Some t) None other)) (w e)
]

grown : (xs : List (Option StaticType)) (d : ℕ) (t : StaticType) → d < length xs → at xs d ≡ None → Within xs (set xs d (Some t))
grown xs d t lt h e = elim (either e d) [
  | inl is ↦ less_none (at xs e) (at (set xs d (Some t)) e) (ap (at xs) is ∙ h)
  | inr other ↦ less_same (at xs e) (at (set xs d (Some t)) e) (sym (get_or-set_other xs d e (Some t) None other))
]

-- one more is said
pub goes_on : (rule : List (Option StaticType) → ℕ → Option StaticType) (xs : List (Option StaticType)) (d : ℕ) (t : StaticType) → IsMonotone rule → d < length xs → at xs d ≡ None → rule xs d ≡ Some t → IsUnderway rule xs → IsUnderway rule (set xs d (Some t))
goes_on rule xs d t mono lt hollow is u =
    let len : length (set xs d (Some t)) ≡ length xs = length-set xs d (Some t) in
    let more = grown xs d t lt hollow in
    record {
      below = λ ys e s. let e' = e ∙ len in set_within xs ys d t lt (s d (subst (λ n. d < n) (sym e') lt) ∙ less_to (rule xs d) (rule ys d) t is (mono xs ys (u.below ys e' s) d)) (u.below ys e' s);
      kept = λ e lt'. elim (either e d) [
        | inl same ↦ subst (λ n. Less (at (set xs d (Some t)) n) (rule (set xs d (Some t)) n)) (sym same) (subst (λ o. Less o (rule (set xs d (Some t)) d)) (sym (get_or-set_same xs d (Some t) None lt)) (less_to (rule xs d) (rule (set xs d (Some t)) d) t is (mono xs (set xs d (Some t)) more d)))
        | inr other ↦ subst (λ o. Less o (rule (set xs d (Some t)) e)) (sym (get_or-set_other xs d e (Some t) None other)) (less_trans (at xs e) (rule xs e) (rule (set xs d (Some t)) e) (u.kept e (subst (λ n. e < n) len lt')) (mono xs (set xs d (Some t)) more e))
      ];
    }

rest : (x y : Option StaticType) → Less x y → (x ≡ None → y ≡ None) → x ≡ y
rest None y l h = sym (h refl)
rest (Some a) y l h = sym l

-- nothing new: the table is the least
pub ends : (rule : List (Option StaticType) → ℕ → Option StaticType) (xs : List (Option StaticType)) → IsUnderway rule xs → IsStill rule xs (length xs) → IsLeast rule xs
ends rule xs u s = record {
  solves = λ d lt. rest (at xs d) (rule xs d) (u.kept d lt) (s d lt);
  least = u.below;
}

-- one hole less
pub holes_set : (xs : List (Option StaticType)) (d : ℕ) (t : StaticType) → d < length xs → at xs d ≡ None → holes (set xs d (Some t)) < holes xs
holes_set [] d t lt h = absurd (omega arith)
holes_set (None ∷ xs) zero t lt h = omega arith
holes_set (Some a ∷ xs) zero t lt h = cc
holes_set (None ∷ xs) (suc d) t lt h = let lt' : d < length xs = omega arith in let r : holes (set xs d (Some t)) < holes xs = holes_set xs d t lt' h in omega arith
holes_set (Some a ∷ xs) (suc d) t lt h = let lt' : d < length xs = omega arith in holes_set xs d t lt' h

-- a declaration is said
pub said_one : (rule : List (Option StaticType) → ℕ → Option StaticType) (xs : List (Option StaticType)) (d : ℕ) (t : StaticType) → IsMonotone rule → d < length xs → at xs d ≡ None → rule xs d ≡ Some t → IsUnderway rule xs → Moves rule xs (set xs d (Some t)) true
said_one rule xs d t mono lt hollow is u = record {
  underway = goes_on rule xs d t mono lt hollow is u;
  len = length-set xs d (Some t);
  fewer = λ e. holes_set xs d t lt hollow;
  idle = λ e. cc;
}

-- nothing is
pub said_none : (rule : List (Option StaticType) → ℕ → Option StaticType) (xs : List (Option StaticType)) → IsUnderway rule xs → Moves rule xs xs false
said_none rule xs u = record { underway = u; len = refl; fewer = λ e. cc; idle = λ e. refl }

fewer_both : (a b : Bool) (xs ys zs : List (Option StaticType)) → (a ≡ true → holes ys < holes xs) → (a ≡ false → ys ≡ xs) → (b ≡ true → holes zs < holes ys) → (b ≡ false → zs ≡ ys) → (a || b) ≡ true → holes zs < holes xs
fewer_both true true xs ys zs f i g j e = omega (arith, f refl, g refl)
fewer_both true false xs ys zs f i g j e = subst (λ ws. holes ws < holes xs) (sym (j refl)) (f refl)
fewer_both false true xs ys zs f i g j e = subst (λ ws. holes zs < holes ws) (i refl) (g refl)
fewer_both false false xs ys zs f i g j e = cc

idle_both : (a b : Bool) (xs ys zs : List (Option StaticType)) → (a ≡ false → ys ≡ xs) → (b ≡ false → zs ≡ ys) → (a || b) ≡ false → zs ≡ xs
idle_both true b xs ys zs i j e = cc
idle_both false true xs ys zs i j e = cc
idle_both false false xs ys zs i j e = j refl ∙ i refl

pub moves_on : (rule : List (Option StaticType) → ℕ → Option StaticType) (a b : Bool) (xs ys zs : List (Option StaticType)) → Moves rule xs ys a → Moves rule ys zs b → Moves rule xs zs (a || b)
moves_on rule a b xs ys zs m n = record {
  underway = n.underway;
  len = n.len ∙ m.len;
  fewer = fewer_both a b xs ys zs m.fewer m.idle n.fewer n.idle;
  idle = idle_both a b xs ys zs m.idle n.idle;
}

-- no further declaration has something new
pub still_on : (rule : List (Option StaticType) → ℕ → Option StaticType) (a b : Bool) (xs ys : List (Option StaticType)) (d : ℕ) → (b ≡ false → ys ≡ xs) → (a ≡ false → IsStill rule xs d) →
    (b ≡ false → at xs d ≡ None → rule xs d ≡ None) → (a || b) ≡ false → IsStill rule ys (d + 1)
still_on rule true b xs ys d i s h e = cc
still_on rule false true xs ys d i s h e = cc
still_on rule false false xs ys d i s h e = subst (λ zs. IsStill rule zs (d + 1)) (sym (i refl)) (λ n lt no'. elim (either n d) [
  | inl same ↦ ap (rule xs) same ∙ h refl (sym (ap (at xs) same) ∙ no')
  | inr other ↦ s refl n (omega arith) no'
])
