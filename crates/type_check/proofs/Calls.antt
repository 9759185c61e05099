-- Types of arguments that were found one by one: of calls and lists.
use Rattle.std.proofs.Common.{◌≡◌, ℕ, ◌&&◌, Bool, true, false, Option, Some, None, List, [], ◌∷◌, refl, sym, ap, ◌∙◌}
use Rattle.std.specs.Prelude.{if◌then◌else◌}
use Rattle.sts_base.specs.declared.tables.Tables.{Tables}
use Rattle.sts_base.specs.declared.refused.Code.TheVariants.{Mismatch}
use Rattle.sts_syntax.specs.Trees.{Trees, none, more}
use Rattle.sts_scope.specs.declared.kinds.StaticType.{StaticType}
use Rattle.sts_scope.specs.declared.entries.ClassHead.{ClassHead}
use Rattle.sts_scope.specs.declared.known.Known.{Known}
use Rattle.sts_scope.specs.Failures.{own}
use Rattle.sts_scope.specs.Kinds.{array_of}
use Rattle.sts_scope.specs.Codes.{why_call}
use Rattle.sts_scope.specs.Places.{NameScope}
use Rattle.sts_scope.specs.Rules.{goes, all_go, all_go_to, call_kind, items_type}
use Rattle.type_derive.specs.declared.roles.Role.TheVariants.{Given}
use Rattle.type_derive.specs.Shown.{goes_some}
use Rattle.type_derive.proofs.Laws.{typed_go, typed_go_to}
use Rattle.type_derive.specs.Typing.{◌>>=◌, Callee, type_of, types_of, called}
use Rattle.type_check.specs.Seen.{fit_all, fit_one, listed_kind, called_kind, own_called_kind, kinds_given}

and_false : (b : Bool) → (b && false) ≡ false
and_false true = refl
and_false false = refl

go_more : (classes : List ClassHead) (o : Option StaticType) (os : Option (List StaticType)) (t : StaticType) (ts : List StaticType) →
    typed_go classes (o >>= λ u. os >>= λ us. Some (u ∷ us)) (t ∷ ts) ≡ (goes_some classes o t && typed_go classes os ts)
unfolding all_go
go_more classes None os t ts = refl
go_more classes (Some u) None t ts = sym (and_false (goes classes u t))
go_more classes (Some u) (Some us) t ts = refl

go_past : (classes : List ClassHead) (o : Option StaticType) (os : Option (List StaticType)) → typed_go classes (o >>= λ u. os >>= λ us. Some (u ∷ us)) [] ≡ false
unfolding all_go
go_past classes None os = refl
go_past classes (Some u) None = refl
go_past classes (Some u) (Some us) = refl

go_to_more : (classes : List ClassHead) (t : StaticType) (o : Option StaticType) (os : Option (List StaticType)) →
    typed_go_to classes t (o >>= λ u. os >>= λ us. Some (u ∷ us)) ≡ (goes_some classes o t && typed_go_to classes t os)
unfolding all_go_to
go_to_more classes t None os = refl
go_to_more classes t (Some u) None = sym (and_false (goes classes u t))
go_to_more classes t (Some u) (Some us) = refl

go_none : (classes : List ClassHead) → typed_go classes (Some []) [] ≡ true
unfolding all_go
go_none classes = refl

go_short : (classes : List ClassHead) (t : StaticType) (ts : List StaticType) → typed_go classes (Some []) (t ∷ ts) ≡ false
unfolding all_go
go_short classes t ts = refl

go_to_none : (classes : List ClassHead) (t : StaticType) → typed_go_to classes t (Some []) ≡ true
unfolding all_go_to
go_to_none classes t = refl

call_if : (classes : List ClassHead) (takes : List StaticType) (gives : Option StaticType) (os : Option (List StaticType)) →
    (os >>= λ us. call_kind classes takes gives us) ≡ (if typed_go classes os takes then gives else None)
unfolding call_kind
call_if classes takes gives None = refl
call_if classes takes gives (Some us) = refl

items_if : (classes : List ClassHead) (t : StaticType) (os : Option (List StaticType)) → (os >>= λ us. items_type classes t us) ≡ (if typed_go_to classes t os then array_of t else None)
unfolding items_type
items_if classes t None = refl
items_if classes t (Some us) = refl

module _ (t : Tables) (k : Known) (p : NameScope) where
  -- arguments fit as their types do
  pub fits : (args : Trees) (takes : List StaticType) → typed_go k.classes (types_of t k p args) takes ≡ fit_all k.classes (kinds_given t k p [] args) takes
  fits none [] = go_none k.classes
  fits none (u ∷ us) = go_short k.classes u us
  fits (more e rest) [] = go_past k.classes (type_of t k p Given e) (types_of t k p rest)
  fits (more e rest) (u ∷ us) = go_more k.classes (type_of t k p Given e) (types_of t k p rest) u us ∙ ap (λ b. goes_some k.classes (type_of t k p Given e) u && b) (fits rest us)

  fits_to : (u : StaticType) (args : Trees) → typed_go_to k.classes u (types_of t k p args) ≡ fit_one k.classes u (kinds_given t k p [] args)
  fits_to u none = go_to_none k.classes u
  fits_to u (more e rest) = go_to_more k.classes u (type_of t k p Given e) (types_of t k p rest) ∙ ap (λ b. goes_some k.classes (type_of t k p Given e) u && b) (fits_to u rest)

  pub called_is : (d : Option Callee) (args : Trees) → called k d (types_of t k p args) ≡ called_kind k.classes d (kinds_given t k p [] args)
  called_is None args = refl
  called_is (Some c) args = call_if k.classes c.takes c.gives (types_of t k p args) ∙ ap (λ b. if b then c.gives else None) (fits args c.takes)

  pub own_called_is : (d : Option Callee) (args : Trees) (at : ℕ) →
      own (called k d (types_of t k p args)) (elim d [ None ↦ Mismatch | Some c ↦ why_call c.gives ]) at ≡ own_called_kind k d (kinds_given t k p [] args) at
  own_called_is None args at = refl
  own_called_is (Some c) args at = ap (λ o. own o (why_call c.gives) at) (called_is (Some c) args)

  pub list_is : (o : Option StaticType) (rest : Trees) → (o >>= λ u. types_of t k p rest >>= λ us. items_type k.classes u us) ≡ listed_kind k.classes o (kinds_given t k p [] rest)
  list_is None rest = refl
  list_is (Some u) rest = items_if k.classes u (types_of t k p rest) ∙ ap (λ b. if b then array_of u else None) (fits_to u rest)
