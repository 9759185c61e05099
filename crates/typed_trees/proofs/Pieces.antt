-- What a builder made, piece behind piece.
use Rattle.std.proofs.Common.{◌≡◌, ℕ, zero, suc, min, ◌+◌, ◌-◌, ◌^◌, ◌<◌, ◌≤◌, drop, subst, refl, sym, ap, ◌∙◌, List, [], ◌∷◌, ◌++◌, length, arith, length-append, append_assoc, append-nil, add-zero}
use Rattle.sts_syntax.specs.Types.{ValueType, value_types}
use Rattle.sts_syntax.specs.TypedTrees.{TypedRoutine}
use Rattle.sts_syntax.specs.TypedViews.{typed_routines}
use Rattle.type_derive.specs.Making.{Made}
use Rattle.type_derive.specs.inner.Filling.{Making, pure, ◌>=>◌, a_local}
use Rattle.typed_trees.specs.Fits.{numbers_taken, NumbersFit}
use Rattle.typed_trees.specs.Steps.{IsMade, IsBuilt}
use Rattle.typed_trees.specs.declared.build_places.Builder.{Builder}

-- three more, one by one
pub three : {A : Type 0} (xs : List A) (a b c : A) → ((xs ++ a ∷ []) ++ b ∷ []) ++ c ∷ [] ≡ xs ++ a ∷ b ∷ c ∷ []
three xs a b c = append_assoc (xs ++ a ∷ []) (b ∷ []) (c ∷ []) ∙ append_assoc xs (a ∷ []) (b ∷ c ∷ [])

pub taken_append : (xs ys : List TypedRoutine) → numbers_taken (xs ++ ys) ≡ numbers_taken xs + numbers_taken ys
taken_append [] ys = omega arith
taken_append (x ∷ xs) ys = (let a = taken_append xs ys in omega (arith, a))

-- a function takes a number at least
pub taken_many : (xs : List TypedRoutine) → length xs ≤ numbers_taken xs
taken_many [] = omega arith
taken_many (x ∷ xs) = (let a = taken_many xs in omega (arith, a))

-- where both pieces fit, so does the first
pub fits_first : {A B : Type 0} (b : Builder) (f : Making A) (g : A → Making B) → NumbersFit b ((f >=> g) b.local b.function) → NumbersFit b (f b.local b.function)
fits_first {A} {B} b f g fits =
    let X : Made A = f b.local b.function in
    let Y : Made B = g X.it (b.local + length X.locals) (b.function + length X.routines) in
    let la = length-append X.locals Y.locals in
    let ra = taken_append X.routines Y.routines in
    let local : b.local + length X.locals < 2 ^ 32 = omega (arith, fits.0, la) in
    let function : b.function + numbers_taken X.routines < 2 ^ 32 = omega (arith, fits.1, ra) in
    (local, function)

-- the second piece is made from the numbers behind the first
same_numbers : {A B : Type 0} (b c : Builder) (f : Making A) (g : A → Making B) (x : A) → IsMade b c (f b.local b.function) x
    → g x c.local c.function ≡ (let X : Made A = f b.local b.function in g X.it (b.local + length X.locals) (b.function + length X.routines))
same_numbers {A} {B} b c f g x (ex, (lx, (rx, (mx, nx)))) =
    let X : Made A = f b.local b.function in
    ap (λ (i : ℕ). g x i c.function) mx ∙ ap (λ (j : ℕ). g x (b.local + length X.locals) j) nx ∙ ap (λ (z : A). g z (b.local + length X.locals) (b.function + length X.routines)) ex

-- and the second, behind the first
pub fits_then : {A B : Type 0} (b c : Builder) (f : Making A) (g : A → Making B) (x : A) → IsMade b c (f b.local b.function) x → NumbersFit b ((f >=> g) b.local b.function) → NumbersFit c (g x c.local c.function)
fits_then {A} {B} b c f g x made fits =
    let X : Made A = f b.local b.function in
    let Y : Made B = g X.it (b.local + length X.locals) (b.function + length X.routines) in
    let (ex, (lx, (rx, (mx, nx)))) = made in
    let E : g x c.local c.function ≡ Y = same_numbers b c f g x made in
    let L = ap (λ (q : Made B). length q.locals) E in
    let R = ap (λ (q : Made B). numbers_taken q.routines) E in
    let la = length-append X.locals Y.locals in
    let ra = taken_append X.routines Y.routines in
    let many = taken_many X.routines in
    let local : c.local + length (g x c.local c.function).locals < 2 ^ 32 = omega (arith, fits.0, la, L, mx) in
    let function : c.function + numbers_taken (g x c.local c.function).routines < 2 ^ 32 = omega (arith, fits.1, ra, R, nx, many) in
    (local, function)

-- one piece behind the other, which is built where the first one fits
pub then_if : {A B : Type 0} (b c d : Builder) (f : Making A) (g : A → Making B) (x : A) (y : B) → IsBuilt b c f x → (NumbersFit b (f b.local b.function) → IsBuilt c d (g x) y) → IsBuilt b d (f >=> g) y
then_if {A} {B} b c d f g x y first second fits =
    let X : Made A = f b.local b.function in
    let Y : Made B = g X.it (b.local + length X.locals) (b.function + length X.routines) in
    let here = fits_first b f g fits in
    let made : IsMade b c X x = first here in
    let (ex, (lx, (rx, (mx, nx)))) = made in
    let (ey, (ly, (ry, (my, ny)))) = second here (fits_then b c f g x made fits) in
    let E : g x c.local c.function ≡ Y = same_numbers b c f g x made in
    let L : (g x c.local c.function).locals ≡ Y.locals = ap (λ (q : Made B). q.locals) E in
    let R : (g x c.local c.function).routines ≡ Y.routines = ap (λ (q : Made B). q.routines) E in
    let it : y ≡ Y.it = ey ∙ ap (λ (q : Made B). q.it) E in
    let locals : value_types d.locals ≡ value_types b.locals ++ (X.locals ++ Y.locals) =
    ly ∙ ap (λ (us : List ValueType). value_types c.locals ++ us) L ∙ ap (λ (us : List ValueType). us ++ Y.locals) lx ∙ append_assoc (value_types b.locals) X.locals Y.locals in
    let routines : typed_routines d.routines ≡ typed_routines b.routines ++ (X.routines ++ Y.routines) =
    ry ∙ ap (λ (us : List TypedRoutine). typed_routines c.routines ++ us) R ∙ ap (λ (us : List TypedRoutine). us ++ Y.routines) rx ∙ append_assoc (typed_routines b.routines) X.routines Y.routines in
    let la = length-append X.locals Y.locals in
    let ra = length-append X.routines Y.routines in
    let l' = ap (λ (us : List ValueType). length us) L in
    let r' = ap (λ (us : List TypedRoutine). length us) R in
    let local : d.local ≡ b.local + length (X.locals ++ Y.locals) = omega (arith, my, mx, la, l') in
    let function : d.function ≡ b.function + length (X.routines ++ Y.routines) = omega (arith, ny, nx, ra, r') in
    (it, (locals, (routines, (local, function))))

-- one piece behind the other
pub then : {A B : Type 0} (b c d : Builder) (f : Making A) (g : A → Making B) (x : A) (y : B) → IsBuilt b c f x → IsBuilt c d (g x) y → IsBuilt b d (f >=> g) y
then b c d f g x y first second = then_if b c d f g x y first (λ fits. second)

-- nothing is made, but what stands there
pub stays : {A : Type 0} (b : Builder) (a : A) → IsBuilt b b (pure a) a
stays b a fits =
    (refl, (sym (append-nil (value_types b.locals)), (sym (append-nil (typed_routines b.routines)), (sym (add-zero b.local), sym (add-zero b.function)))))

-- a local is made, whose number is that one
pub one_made : {A : Type 0} (b c : Builder) (u : ValueType) (make : ℕ → A) (i : ℕ)
    → i ≡ b.local → value_types c.locals ≡ value_types b.locals ++ u ∷ [] → typed_routines c.routines ≡ typed_routines b.routines → c.local ≡ min (b.local + 1) (2 ^ 32 - 1) → c.function ≡ b.function → IsBuilt b c (a_local u make) (make i)
one_made b c u make i number locals routines local function fits =
    let few : b.local + length (u ∷ []) < 2 ^ 32 = fits.0 in
    (ap make number, (locals, (routines ∙ sym (append-nil (typed_routines b.routines)), (omega (arith, few, local), function ∙ sym (add-zero b.function)))))

-- a last piece, of which a node is made
pub last : {A B : Type 0} (b c : Builder) (f : Making A) (h : A → B) (x : A) → IsBuilt b c f x → IsBuilt b c (f >=> λ a. pure (h a)) (h x)
last {A} {B} b c f h x built = then b c c f (λ a. pure (h a)) x (h x) built (stays c (h x))

-- the same, in other words
pub via : {A : Type 0} (b c : Builder) (f g : Making A) (x y : A) → f ≡ g → x ≡ y → IsBuilt b c f x → IsBuilt b c g y
via {A} b c f g x y e h built = subst (λ (z : A). IsBuilt b c g z) h (subst (λ (k : Making A). IsBuilt b c k x) e built)

pub via_at : {A : Type 0} (b c : Builder) (f g : Making A) (x y : A) → f b.local b.function ≡ g b.local b.function → x ≡ y → IsBuilt b c f x → IsBuilt b c g y
via_at {A} b c f g x y is same built =
    subst (λ (z : A). IsBuilt b c g z) same (subst (λ (q : Made A). NumbersFit b q → IsMade b c q x) is built)

pub drop_all : {A : Type 0} (xs : List A) (i : ℕ) → length xs ≤ i → drop i xs ≡ []
drop_all [] zero le = refl
drop_all [] (suc i) le = refl
drop_all (x ∷ xs) zero le = absurd (omega (arith, le))
drop_all (x ∷ xs) (suc i) le = drop_all xs i (omega (arith, le))
