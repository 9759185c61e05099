-- What holds of lists one after another.
use Rattle.std.proofs.Common.{◌≡◌, ℕ, zero, suc, ◌+◌, Bool, true, false, if◌then◌else◌, List, [], ◌∷◌, ◌++◌, Some, slice_get, refl, ap, sym, ◌∙◌, subst, add_assoc, zero-add, append_assoc, arith}
use Rattle.std.specs.Prelude.{Result, Ok, Err, OnOk}
use Rattle.std.specs.List.{AllByRecursion}
use Rattle.thumb_layout.specs.declared.pieces.What.{What}
use Rattle.thumb_layout.specs.declared.pieces.What.TheVariants.{Function}
use Rattle.thumb_layout.specs.declared.pieces.Piece.{Piece}
use Rattle.thumb_layout.specs.declared.pieces.Piece.TheVariants.{Plain, Label, Go, CallTo, Number, Address}
use Rattle.thumb_layout.specs.Soundness.{times}
use Rattle.thumb_layout.specs.Holds.{cost}
use Rattle.thumb_layout.specs.Rounds.{most, total_most}
use Rattle.thumb_layout.specs.Openings.{called, named}
use Rattle.thumb_emit.specs.Bounds.{total_cost}

-- what holds of both holds of either
pub if_has : {X : Type 0} (P : X → Type 0) (b : Bool) (x y : X) → P x → P y → P (if b then x else y)
if_has P true x y p q = p
if_has P false x y p q = q

pub all_append : {X : Type 0} (P : X → Type 0) (xs ys : List X) → AllByRecursion P xs → AllByRecursion P ys → AllByRecursion P (xs ++ ys)
all_append P [] ys a b = b
all_append P (x ∷ xs) ys a b = (a.0, all_append P xs ys a.1 b)

pub all_at : {X : Type 0} (P : X → Type 0) (xs : List X) → AllByRecursion P xs → (k : ℕ) (x : X) → slice_get xs k ≡ Some x → P x
all_at P [] a k x g = absurd (cc)
all_at P (y ∷ xs) a zero x g = let e : y ≡ x = cc in subst P e a.0
all_at P (y ∷ xs) a (suc k) x g = all_at P xs a.1 k x g

pub cost_append : (xs ys : List Piece) → total_cost (xs ++ ys) ≡ total_cost xs + total_cost ys
cost_append [] ys = sym (zero-add (total_cost ys))
cost_append (x ∷ xs) ys = ap (λ n. cost x + n) (cost_append xs ys) ∙ sym (add_assoc (cost x) (total_cost xs) (total_cost ys))

pub most_append : (xs ys : List Piece) → total_most (xs ++ ys) ≡ total_most xs + total_most ys
most_append [] ys = sym (zero-add (total_most ys))
most_append (x ∷ xs) ys = ap (λ n. most x + n) (most_append xs ys) ∙ sym (add_assoc (most x) (total_most xs) (total_most ys))

pub times_append : (label : ℕ) (xs ys : List Piece) → times label (xs ++ ys) ≡ times label xs + times label ys
times_append l [] ys = sym (zero-add (times l ys))
times_append l (Plain x ∷ xs) ys = times_append l xs ys
times_append l (Label m ∷ xs) ys = let h = times_append l xs ys in omega (arith, h)
times_append l (Go c m ∷ xs) ys = times_append l xs ys
times_append l (CallTo f ∷ xs) ys = times_append l xs ys
times_append l (Number r v ∷ xs) ys = times_append l xs ys
times_append l (Address r w ∷ xs) ys = times_append l xs ys

pub named_append : (xs ys : List Piece) → named (xs ++ ys) ≡ named xs ++ named ys
named_append [] ys = refl
named_append (Plain x ∷ xs) ys = named_append xs ys
named_append (Label m ∷ xs) ys = named_append xs ys
named_append (Go c m ∷ xs) ys = named_append xs ys
named_append (CallTo f ∷ xs) ys = named_append xs ys
named_append (Number r v ∷ xs) ys = named_append xs ys
named_append (Address r w ∷ xs) ys = ap (λ (q : List What). w ∷ q) (named_append xs ys)

pub called_append : (xs ys : List Piece) → called (xs ++ ys) ≡ called xs ++ called ys
called_append [] ys = refl
called_append (Plain x ∷ xs) ys = called_append xs ys
called_append (Label m ∷ xs) ys = called_append xs ys
called_append (Go c m ∷ xs) ys = called_append xs ys
called_append (CallTo f ∷ xs) ys = ap (λ (q : List What). Function f ∷ q) (called_append xs ys)
called_append (Number r v ∷ xs) ys = called_append xs ys
called_append (Address r w ∷ xs) ys = called_append xs ys

-- three lists put behind another, one after another
pub put_thrice : (o p q r a b d : List Piece) → p ≡ o ++ a → q ≡ p ++ b → r ≡ q ++ d → r ≡ o ++ (a ++ (b ++ d))
put_thrice o p q r a b d e g h =
    h ∙ (ap (λ (x : List Piece). x ++ d) (g ∙ ap (λ (x : List Piece). x ++ b) e)
    ∙ (append_assoc (o ++ a) b d ∙ append_assoc o a (b ++ d)))

pub put_four : (o p q r s a b d f : List Piece) → p ≡ o ++ a → q ≡ p ++ b → r ≡ q ++ d → s ≡ r ++ f → s ≡ o ++ (a ++ (b ++ (d ++ f)))
put_four o p q r s a b d f e g h k =
    k ∙ (ap (λ (x : List Piece). x ++ f) h ∙ (append_assoc q d f ∙ put_thrice o p q (q ++ (d ++ f)) a b (d ++ f) e g refl))

pub on_ok : {A E : Type 0} (r : Result A E) (P Q : Type 0) → (P → Q) → OnOk r P → OnOk r Q
on_ok (Ok x) P Q h p = h p
on_ok (Err e) P Q h p = tt
