-- What is made is what is filled in, part by part.
use Rattle.std.proofs.Common.{◌≡◌, ℕ, suc, ◌+◌, refl, ap, ◌∙◌, Option, Some, List, ◌∷◌, ◌++◌, length}
use Rattle.sts_syntax.specs.Types.{ValueType}
use Rattle.sts_syntax.specs.TypedTrees.{TypedStatements}
use Rattle.type_derive.specs.Typing.{◌>>=◌}
use Rattle.type_derive.specs.Making.{Made, Making, pure, ◌>=>◌, looked}
use Rattle.type_derive.specs.Built.{routines_made}
use Rattle.type_derive.specs.inner.Filling as f
use Rattle.typed_laws.proofs.FilledParts.{onward}

abbrev pub Agree : {A : Type 0} → Making A → f.Making A → Type 0
Agree p q = (m n : ℕ) → p m n ≡ Some (q m n)

pub agree_bind : {A B : Type 0} (p : Making A) (P : A → Making B) (q : f.Making A) (Q : A → f.Making B) → Agree p q → ((a : A) → Agree (P a) (Q a)) → Agree (p >=> P) (onward q Q)
agree_bind {A} {B} p P q Q h g m n =
    let J : Made A → Made B → Option (Made B) = λ x y. Some (record { it = y.it; locals = x.locals ++ y.locals; routines = x.routines ++ y.routines }) in
    let K : Made A → Option (Made B) = λ x. P x.it (m + length x.locals) (n + length x.routines) >>= J x in
    let x : Made A = q m n in
    ap (λ (o : Option (Made A)). o >>= K) (h m n) ∙ ap (λ (o : Option (Made B)). o >>= J x) (g x.it (m + length x.locals) (n + length x.routines))

pub agree_looked : {A B : Type 0} (o : Option A) (u : A) (P : A → Making B) (q : f.Making B) → o ≡ Some u → Agree (P u) q → Agree (looked o P) q
agree_looked {A} {B} o u P q is h m n = ap (λ (x : Option A). x >>= λ a. P a m n) is ∙ h m n

-- of one, two and three parts
pub agree1 : {A B : Type 0} (c : A → B) (p : Making A) (q : f.Making A) → Agree p q → Agree (p >=> λ x. pure (c x)) (onward q (λ x. f.pure (c x)))
agree1 {A} {B} c p q h = agree_bind p (λ x. pure (c x)) q (λ x. f.pure (c x)) h (λ x m n. refl)

pub agree2 : {A B C : Type 0} (c : A → B → C) (p : Making A) (q : f.Making A) (p' : Making B) (q' : f.Making B) → Agree p q → Agree p' q'
    → Agree (p >=> λ x. p' >=> λ y. pure (c x y)) (onward q (λ x. onward q' (λ y. f.pure (c x y))))
agree2 {A} {B} {C} c p q p' q' h h' = agree_bind p (λ x. p' >=> λ y. pure (c x y)) q (λ x. onward q' (λ y. f.pure (c x y))) h (λ x. agree1 (c x) p' q' h')

-- functions
pub agree_routines : (params : List ValueType) (gives : ValueType) (p : Making TypedStatements) (q : f.Making TypedStatements) (n : ℕ) → Agree p q
    → routines_made params gives p n ≡ Some (record { params = params; locals = (q 0 (suc n)).locals; gives = gives; all = (q 0 (suc n)).it } ∷ (q 0 (suc n)).routines)
agree_routines params gives p q n h =
    ap (λ (o : Option (Made TypedStatements)). o >>= λ made. Some (record { params = params; locals = made.locals; gives = gives; all = made.it } ∷ made.routines)) (h 0 (suc n))
