-- What a result says: its failure is this, and what it is otherwise is so. One after the other.
use Rattle.std.proofs.Common.{◌≡◌, ℕ, Option, Some, None, refl, sym, ap, ◌∙◌, subst}
use Rattle.std.specs.Prelude.{Result, Ok, Err}
use Rattle.sts_base.specs.declared.refused.Code.{Code}
use Rattle.sts_scope.specs.Failures.{Failure, ◌then◌}
use Rattle.type_derive.specs.Making.{Made}
use Rattle.elaborated.proofs.Laws.{failed, Tells}
use Rattle.typed_program.specs.ElaboratedTexts.{◌>>-◌, needed, checked}

abbrev pub failure_of : {A : Type 0} → Result A Failure → Option Failure
failure_of (Err why) = Some why
failure_of (Ok x) = None

pub record Says {A : Type 0} (r : Result A Failure) (F : Option Failure) (K : A → Type 0) : Type 0 where
  pub fails : failure_of r ≡ F
  pub made : (x : A) → r ≡ Ok x → K x

abbrev ok : {A : Type 0} → A → Result A Failure
ok x = Ok x

abbrev err : {A : Type 0} → Failure → Result A Failure
err f = Err f

pub ok_is : {A : Type 0} (a b : A) → ok a ≡ ok b → a ≡ b
ok_is {A} a b h = cc

pub err_is : {A : Type 0} (f g : Failure) → err {A = A} f ≡ err g → f ≡ g
err_is {A} f g h = cc

pub not_ok : {A : Type 0} (f : Failure) (a : A) → err f ≡ ok a → ⊥
not_ok {A} f a h = cc

pub says_ok : {A : Type 0} (a : A) (K : A → Type 0) → K a → Says (ok a) None K
says_ok {A} a K h = record { fails = refl; made = λ x is. subst K (ok_is a x is) h }

says_err : {A : Type 0} (f : Failure) (K : A → Type 0) → Says (err f) (Some f) K
says_err {A} f K = record { fails = refl; made = λ x is. absurd (not_ok f x is) }

pub says_as : {A : Type 0} (r : Result A Failure) (F G : Option Failure) (K : A → Type 0) → F ≡ G → Says r F K → Says r G K
says_as {A} r F G K same said = record { fails = said.fails ∙ same; made = said.made }

failed_is : {A : Type 0} (r : Result (Made A) Failure) → failure_of r ≡ failed r
failed_is {A} (Err why) = refl
failed_is {A} (Ok x) = refl

pub told_says : {A : Type 0} (r : Result (Made A) Failure) (F : Option Failure) (K : Made A → Type 0) → Tells r F K → Says r F K
told_says {A} r F K told = record { fails = failed_is r ∙ told.fails; made = told.made }

-- one after the other
pub says_then : {A B : Type 0} (r : Result A Failure) (g : A → Result B Failure) (F G : Option Failure) (K : A → Type 0) (L : B → Type 0) → Says r F K
    → ((x : A) → F ≡ None → K x → Says (g x) G L) → Says (r >>- g) (F then G) L
says_then {A} {B} (Err why) g F G K L said next =
    record { fails = ap (λ (f : Option Failure). f then G) said.fails; made = λ z is. absurd (not_ok why z is) }
says_then {A} {B} (Ok x) g F G K L said next =
    let rest = next x (sym said.fails) (said.made x refl) in
    record { fails = rest.fails ∙ ap (λ (f : Option Failure). f then G) said.fails; made = rest.made }

pub no_more : (F : Option Failure) → (F then None) ≡ F
no_more None = refl
no_more (Some f) = refl

-- after which nothing fails
pub says_last : {A B : Type 0} (r : Result A Failure) (g : A → Result B Failure) (F : Option Failure) (K : A → Type 0) (L : B → Type 0) → Says r F K
    → ((x : A) → F ≡ None → K x → Says (g x) None L) → Says (r >>- g) F L
says_last {A} {B} r g F K L said next = says_as (r >>- g) (F then None) F L (no_more F) (says_then r g F None K L said next)

pub says_needed : {A B : Type 0} (o : Option A) (a : A) (code : Code) (at : ℕ) (g : A → Result B Failure) (F : Option Failure) (K : B → Type 0)
    → o ≡ Some a → Says (g a) F K → Says (needed o code at g) F K
says_needed {A} {B} o a code at g F K is said = subst (λ (x : Option A). Says (needed x code at g) F K) (sym is) said

pub says_checked : {A : Type 0} (F : Option Failure) (r : Result A Failure) (G : Option Failure) (K : A → Type 0)
    → (F ≡ None → Says r G K) → Says (checked F r) (F then G) K
says_checked {A} None r G K said = said refl
says_checked {A} (Some why) r G K said = says_err why K

pub says_so : {A : Type 0} (r : Result A Failure) (F : Option Failure) (K L : A → Type 0) → ((x : A) → K x → L x) → Says r F K → Says r F L
says_so {A} r F K L so said = record { fails = said.fails; made = λ x is. so x (said.made x is) }
