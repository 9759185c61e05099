-- What an elaboration tells: its failure is this, and what it gives is so. Part by part, as it goes on.
use Rattle.std.proofs.Common.{◌≡◌, ℕ, ◌+◌, Bool, true, false, Option, Some, None, List, [], ◌∷◌, length, refl, sym, ap, ◌∙◌, subst}
use Rattle.std.specs.Prelude.{Result, Ok, Err}
use Rattle.sts_base.specs.declared.refused.Code.{Code}
use Rattle.sts_base.specs.declared.refused.Code.TheVariants.{BadHandler}
use Rattle.sts_syntax.specs.Types as t
use Rattle.sts_syntax.specs.Types.{ValueType}
use Rattle.sts_syntax.specs.TypedTrees as e
use Rattle.sts_syntax.specs.TypedTrees.{TypedTree, TypedStatements, TypedRoutine}
use Rattle.sts_scope.specs.declared.kinds.StaticType.{StaticType}
use Rattle.sts_scope.specs.Failures.{Failure, ◌then◌, own, unless, failure_at}
use Rattle.sts_scope.specs.Kinds.{value_type}
use Rattle.type_derive.specs.Typing.{◌>>=◌}
use Rattle.type_derive.specs.Making.{Made}
use Rattle.elaborated.specs.Elaborating.{Elab, yields, fails, both_made, joined_with, carries_on, need, check, handled_by}
use Rattle.elaborated.specs.Elaborated.{Seen, of_kind}

abbrev pub failed : {A : Type 0} → Result (Made A) Failure → Option Failure
failed (Err why) = Some why
failed (Ok x) = None

pub record Tells {A : Type 0} (r : Result (Made A) Failure) (F : Option Failure) (K : Made A → Type 0) : Type 0 where
  pub fails : failed r ≡ F
  pub made : (x : Made A) → r ≡ Ok x → K x

abbrev ok : {A : Type 0} → Made A → Result (Made A) Failure
ok x = Ok x

abbrev err : {A : Type 0} → Failure → Result (Made A) Failure
err f = Err f

ok_is : {A : Type 0} (a b : Made A) → ok a ≡ ok b → a ≡ b
ok_is {A} a b h = cc

not_ok : {A : Type 0} (f : Failure) (a : Made A) → err f ≡ ok a → ⊥
not_ok {A} f a h = cc

abbrev given_made : {A : Type 0} → A → Made A
given_made a = record { it = a; locals = []; routines = [] }

pub ok_tells : {A : Type 0} (a : Made A) (K : Made A → Type 0) → K a → Tells (ok a) None K
ok_tells {A} a K h = record { fails = refl; made = λ x is. subst K (ok_is a x is) h }

pub err_tells : {A : Type 0} (f : Failure) (K : Made A → Type 0) → Tells (err f) (Some f) K
err_tells {A} f K = record { fails = refl; made = λ x is. absurd (not_ok f x is) }

pub as_failure : {A : Type 0} (r : Result (Made A) Failure) (F G : Option Failure) (K : Made A → Type 0) → F ≡ G → Tells r F K → Tells r G K
as_failure {A} r F G K same told = record { fails = told.fails ∙ same; made = told.made }

pub as_made : {A : Type 0} (r : Result (Made A) Failure) (F : Option Failure) (K L : Made A → Type 0) → ((x : Made A) → K x → L x) → Tells r F K → Tells r F L
as_made {A} r F K L so told = record { fails = told.fails; made = λ x is. so x (told.made x is) }

pub joined_tells : {A B : Type 0} (x : Made A) (r : Result (Made B) Failure) (G : Option Failure) (L : Made B → Type 0)
    → Tells r G (λ y. L (both_made x y)) → Tells (joined_with x r) G L
joined_tells {A} {B} x (Err why) G L told = record { fails = told.fails; made = λ z is. absurd (not_ok why z is) }
joined_tells {A} {B} x (Ok y) G L told = record { fails = told.fails; made = λ z is. subst L (ok_is (both_made x y) z is) (told.made y refl) }

-- one behind the other
pub then_tells : {A B : Type 0} (r : Result (Made A) Failure) (g : A → Elab B) (m n : ℕ) (F G : Option Failure) (K : Made A → Type 0) (L : Made B → Type 0) → Tells r F K
    → ((x : Made A) → K x → Tells (g x.it (m + length x.locals) (n + length x.routines)) G (λ y. L (both_made x y))) → Tells (carries_on r g m n) (F then G) L
then_tells {A} {B} (Err why) g m n F G K L told next =
    record { fails = ap (λ (f : Option Failure). f then G) told.fails; made = λ z is. absurd (not_ok why z is) }
then_tells {A} {B} (Ok x) g m n F G K L told next =
    let rest = joined_tells x (g x.it (m + length x.locals) (n + length x.routines)) G L (next x (told.made x refl)) in
    record { fails = rest.fails ∙ ap (λ (f : Option Failure). f then G) told.fails; made = rest.made }

-- the last one only gives something
pub last_tells : {A B : Type 0} (r : Result (Made A) Failure) (h : A → B) (m n : ℕ) (F : Option Failure) (K : Made A → Type 0) (L : Made B → Type 0) → Tells r F K
    → ((x : Made A) → K x → L (both_made x (given_made (h x.it)))) → Tells (carries_on r (λ a. yields (h a)) m n) F L
last_tells {A} {B} (Err why) h m n F K L told next = record { fails = told.fails; made = λ z is. absurd (not_ok why z is) }
last_tells {A} {B} (Ok x) h m n F K L told next =
    record { fails = told.fails; made = λ z is. subst L (ok_is (both_made x (given_made (h x.it))) z is) (next x (told.made x refl)) }

-- the last one fails
pub ends_tells : {A B : Type 0} (r : Result (Made A) Failure) (code : Code) (at m n : ℕ) (F : Option Failure) (K : Made A → Type 0) (L : Made B → Type 0) → Tells r F K
    → Tells (carries_on r (λ a. fails {A = B} code at) m n) (F then failure_at code at) L
ends_tells {A} {B} r code at m n F K L told =
    then_tells r (λ a. fails code at) m n F (failure_at code at) K L told (λ x k. err_tells (record { code = code; at = at }) (λ y. L (both_made x y)))

-- what has to be there
pub need_tells : {A B : Type 0} (o : Option A) (code : Code) (at m n : ℕ) (g : A → Elab B) (G : Option Failure) (K : Made B → Type 0)
    → ((a : A) → o ≡ Some a → Tells (g a m n) G K) → Tells (need o code at g m n) (own o code at then G) K
need_tells {A} {B} None code at m n g G K next = err_tells (record { code = code; at = at }) K
need_tells {A} {B} (Some a) code at m n g G K next = next a refl

pub need_last : {A B : Type 0} (o : Option A) (code : Code) (at m n : ℕ) (g : A → Elab B) (K : Made B → Type 0)
    → ((a : A) → o ≡ Some a → Tells (g a m n) None K) → Tells (need o code at g m n) (own o code at) K
need_last {A} {B} None code at m n g K next = err_tells (record { code = code; at = at }) K
need_last {A} {B} (Some a) code at m n g K next = next a refl

-- and is there
pub need_there : {A B : Type 0} (o : Option A) (a : A) (code : Code) (at m n : ℕ) (g : A → Elab B) (F : Option Failure) (K : Made B → Type 0)
    → o ≡ Some a → Tells (g a m n) F K → Tells (need o code at g m n) F K
need_there {A} {B} o a code at m n g F K is told = subst (λ (x : Option A). Tells (need x code at g m n) F K) (sym is) told

-- a node of this type
pub node_tells : (o : Option StaticType) (code : Code) (at m n : ℕ) (make : ValueType → TypedTree) (F : Option Failure) (K : Made Seen → Type 0)
    → own o code at ≡ F → ((kind : StaticType) → o ≡ Some kind → K (given_made (record { tree = make (value_type kind); kind = kind })))
    → Tells (need o code at (λ kind. of_kind kind make) m n) F K
node_tells o code at m n make F K same next =
    as_failure (need o code at (λ kind. of_kind kind make) m n) (own o code at) F K same
    (need_last o code at m n (λ kind. of_kind kind make) K (λ kind is. ok_tells (given_made (record { tree = make (value_type kind); kind = kind })) K (next kind is)))

pub check_tells : {A : Type 0} (F : Option Failure) (g : Elab A) (m n : ℕ) (G : Option Failure) (K : Made A → Type 0)
    → (F ≡ None → Tells (g m n) G K) → Tells (check F g m n) (F then G) K
check_tells {A} None g m n G K told = told refl
check_tells {A} (Some why) g m n G K told = err_tells why K

pub check_last : {A : Type 0} (F : Option Failure) (a : A) (m n : ℕ) (K : Made A → Type 0)
    → (F ≡ None → K (given_made a)) → Tells (check F (yields a) m n) F K
check_last {A} None a m n K h = ok_tells (given_made a) K (h refl)
check_last {A} (Some why) a m n K h = err_tells why K

-- behind the last part
pub no_more : {A : Type 0} (r : Result (Made A) Failure) (F : Option Failure) (K : Made A → Type 0) → Tells r (F then None) K → Tells r F K
no_more {A} r None K told = told
no_more {A} r (Some f) K told = told

-- a function expression
abbrev pub as_routine : Made TypedStatements → List TypedRoutine
as_routine x = record { params = []; locals = x.locals; gives = t.Nothing; all = x.it } ∷ x.routines

pub handled_tells : {A : Type 0} (serves : Bool) (at n : ℕ) (make : TypedTree → A) (r : Result (Made TypedStatements) Failure) (F : Option Failure) (K : Made TypedStatements
    → Type 0) (L : Made A → Type 0)
    → Tells r F K → ((x : Made TypedStatements) → serves ≡ true → K x → L (record { it = make (e.Handler t.Nothing n); locals = []; routines = as_routine x }))
    → Tells (handled_by serves at make n r) (F then unless serves BadHandler at) L
handled_tells {A} serves at n make (Err why) F K L told next =
    record { fails = ap (λ (f : Option Failure). f then unless serves BadHandler at) told.fails; made = λ z is. absurd (not_ok why z is) }
handled_tells {A} false at n make (Ok x) F K L told next =
    record { fails = ap (λ (f : Option Failure). f then unless false BadHandler at) told.fails; made = λ z is. absurd (not_ok _ z is) }
handled_tells {A} true at n make (Ok x) F K L told next =
    record {
      fails = ap (λ (f : Option Failure). f then unless true BadHandler at) told.fails;
      made = λ z is. subst L (ok_is (record { it = make (e.Handler t.Nothing n); locals = []; routines = as_routine x }) z is) (next x refl (told.made x refl));
    }

-- what is made
pub made_then : {A B : Type 0} (o : Option (Made A)) (h : Made A → Option (Made B)) (x : Made A) (y : Made B) → o ≡ Some x → h x ≡ Some y
    → (o >>= λ (a : Made A). h a >>= λ (b : Made B). Some (both_made a b)) ≡ Some (both_made x y)
made_then {A} {B} o h x y first second =
    let whole : Option (Made A) → Option (Made B) = λ (p : Option (Made A)). p >>= λ (a : Made A). h a >>= λ (b : Made B). Some (both_made a b) in
    let rest : Option (Made B) → Option (Made B) = λ (p : Option (Made B)). p >>= λ (b : Made B). Some (both_made x b) in
    ap whole first ∙ ap rest second

pub looked_is : {A B : Type 0} (o : Option A) (h : A → Option B) (a : A) (y : Option B) → o ≡ Some a → h a ≡ y → (o >>= h) ≡ y
looked_is {A} {B} o h a y is so =
    let whole : Option A → Option B = λ (p : Option A). p >>= h in
    ap whole is ∙ so

-- the last of them
pub made_end : {A B : Type 0} (o : Option A) (h : A → Option B) (x : A) → o ≡ Some x → (o >>= h) ≡ h x
made_end {A} {B} o h x is = let whole : Option A → Option B = λ (p : Option A). p >>= h in ap whole is
