-- Types, failures and tests that the laws of trees speak of.
use Rattle.std.proofs.Common.{◌≡◌, ℕ, refl, subst, ap, Bool, true, false, ◌&&◌, Option, Some, None, List, [], ◌∷◌}
use Rattle.std.specs.Prelude.{nat_lt, if◌then◌else◌, unwrap_or}
use Rattle.std.specs.Option.{option_map, option_and_then}
use Rattle.sts_syntax.specs.Types as t
use Rattle.sts_syntax.specs.Annotations as s
use Rattle.sts_syntax.specs.Annotations.{Annotation}
use Rattle.sts_scope.specs.Entries.{Naming, kind_of, written_kind}
use Rattle.sts_scope.specs.declared.kinds.StaticType.{StaticType}
use Rattle.sts_scope.specs.declared.known.This.{This as Self}
use Rattle.sts_scope.specs.declared.known.This.TheVariants as this
use Rattle.sts_scope.specs.Kinds.{number, boolean, text, nothing, object, array, array_of, most_brackets, null, empty, same, is_array, takes_null, value_type}
use Rattle.sts_scope.specs.Failures.{Failure, ◌then◌}
use Rattle.sts_scope.specs.Places.{hidden}
use Rattle.sts_scope.specs.Rules.{none_taken, is_nothing, is_boolean}
use Rattle.typed_laws.proofs.Stands.{is_proper_base, IsProper}
use Rattle.typed_laws.proofs.OneNode.{if_some, same_is, same_types}
use Rattle.typed_laws.proofs.Names.{some_is}
use Rattle.typed_laws.proofs.Typed.{last, first}
use Rattle.typed_laws.proofs.Sites.{improper}

-- nothing, whichever way
pub nothing_either : (b : Bool) → (if b then t.Nothing else t.Nothing) ≡ t.Nothing
nothing_either true = refl
nothing_either false = refl

-- a noted type
pub noted_is : (o : Option StaticType) (u : StaticType) → o ≡ Some u → value_type (unwrap_or o nothing) ≡ value_type u
noted_is o u h = ap (λ (x : Option StaticType). value_type (unwrap_or x nothing)) h

pub kind_is : (o : Option StaticType) (u : StaticType) → o ≡ Some u → unwrap_or o nothing ≡ u
kind_is o u h = ap (λ (x : Option StaticType). unwrap_or x nothing) h

-- failures of parts
pub parts2 : (A B C : Option Failure) → (A then B then C) ≡ None → (A ≡ None) × (B ≡ None) × (C ≡ None)
parts2 A B C h = let r = last A (B then C) h in (first A (B then C) h, first B C r, last B C r)

pub parts3 : (A B C D : Option Failure) → (A then B then C then D) ≡ None → (A ≡ None) × (B ≡ None) × (C ≡ None) × (D ≡ None)
parts3 A B C D h = let r = last A (B then C then D) h in let (x, y, z) = parts2 B C D r in (first A (B then C then D) h, x, y, z)

-- no operator takes `[]`
and_false : (x : Bool) → (x && false) ≡ true → ⊥
and_false true h = cc
and_false false h = cc

pub and_first : (x y : Bool) → (x && y) ≡ true → (x ≡ true → ⊥) → ⊥
and_first true y h f = f refl
and_first false y h f = cc

pub empty_same : (v : StaticType) → IsProper v → same v empty ≡ true → ⊥
empty_same v p h = improper v (ap (λ (x : StaticType). is_proper_base x.base) (same_is v empty h)) p

pub empty_takes_null : takes_null empty ≡ true → ⊥
unfolding takes_null is_array
empty_takes_null h = cc

pub empty_null : same empty null ≡ true → ⊥
unfolding same
empty_null h = cc

pub empty_number : same empty number ≡ true → ⊥
unfolding same
empty_number h = cc

pub settable_is : (x : Bool) (o : Option StaticType) (u : StaticType) → (if x then o else None) ≡ Some u → (x ≡ true) × (o ≡ Some u)
settable_is true o u h = (refl, h)
settable_is false o u h = cc

pub nothing_is : (o : Option StaticType) → is_nothing o ≡ true → (u : StaticType) × (o ≡ Some u) × (value_type u ≡ t.Nothing)
nothing_is None h = cc
nothing_is (Some u) h = (u, refl, same_types u nothing h)

pub none_is : (us : List StaticType) → none_taken us ≡ true → us ≡ []
none_is [] h = refl
none_is (u ∷ us) h = cc

pub test_is : (o : Option StaticType) → is_boolean o ≡ true → (u : StaticType) × (o ≡ Some u) × (value_type u ≡ t.Boolean)
test_is None h = cc
test_is (Some u) h = (u, refl, same_types u boolean h)

pub hidden_is : (self : Self) (i : ℕ) → hidden self ≡ this.Object i → ⊥
hidden_is (this.Object j) i h = cc
hidden_is (this.Hidden j) i h = cc
hidden_is this.Nowhere i h = cc

pub alone_is : (x : Bool) (o : Option StaticType) (u : StaticType) → (if x then None else o) ≡ Some u → (x ≡ false) × (o ≡ Some u)
alone_is true o u h = cc
alone_is false o u h = (refl, h)

pub unless_waived : (x : Bool) (o : Option Failure) → x ≡ false → (if x then None else o) ≡ None → o ≡ None
unless_waived true o q h = cc
unless_waived false o q h = h

pub parts4 : (A B C D E : Option Failure) → (A then B then C then D then E) ≡ None → (A ≡ None) × (B ≡ None) × (C ≡ None) × (D ≡ None) × (E ≡ None)
parts4 A B C D E h = let r = last A (B then C then D then E) h in let (x, y, z, o) = parts3 B C D E r in (first A (B then C then D then E) h, x, y, z, o)

-- a written type is one that values have
pub kind_proper : (names : Naming) (a : Annotation) (u : StaticType) → kind_of names a ≡ Some u → IsProper u
kind_proper names s.Number u h = subst IsProper (some_is number u h) refl
kind_proper names s.Boolean u h = subst IsProper (some_is boolean u h) refl
kind_proper names s.Text u h = subst IsProper (some_is text u h) refl
kind_proper names s.Nothing u h = subst IsProper (some_is nothing u h) refl
kind_proper names (s.Named i x) u h =
    let go : (o : Option ℕ) → option_map object o ≡ Some u → IsProper u = λ o. elim o as (λ y. option_map object y ≡ Some u → IsProper u) [ None ↦ (λ q. cc) | Some c ↦ (λ q. subst IsProper (some_is (object c) u q) refl) ] in
    go (names x) h
kind_proper names (s.ListOf a) u h =
    let go : (o : Option StaticType) → kind_of names a ≡ o → option_and_then array_of o ≡ Some u → IsProper u =
    λ o. elim o as (λ y. kind_of names a ≡ y → option_and_then array_of y ≡ Some u → IsProper u) [
      | None ↦ (λ r q. cc)
      | Some v ↦ (λ r q. let p : IsProper v = kind_proper names a v r in subst IsProper (if_some (nat_lt v.depth most_brackets) (array v) u q).1 p)
    ] in
    go (kind_of names a) refl h

pub written_proper : (names : Naming) (a : Option Annotation) (u : StaticType) → written_kind names a ≡ Some u → IsProper u
written_proper names None u h = cc
written_proper names (Some a) u h = kind_proper names a u h
