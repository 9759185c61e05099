-- What the counted limits say of declarations: few classes, few globals, and short lists of the names of members.
use Rattle.std.proofs.Common.{◌≡◌, ℕ, zero, suc, ◌+◌, ◌≤◌, ◌&&◌, Bool, true, false, Option, Some, None, List, [], ◌∷◌, length, get_or, refl, arith}
use Rattle.std.specs.Prelude.{nat_le, slice_get}
use Rattle.std.specs.List.{list_all}
use Rattle.std.proofs.lemmas.Bool.Decides.{nat_tests}
use Rattle.sts_scope.specs.declared.entries.Owner.TheVariants.{Class}
use Rattle.sts_scope.specs.declared.entries.ClassHead.{ClassHead}
use Rattle.sts_scope.specs.declared.entries.Entry.{Entry}
use Rattle.sts_scope.specs.declared.entries.DeclarationKind.{DeclarationKind}
use Rattle.sts_scope.specs.declared.known.Known.{Known}
use Rattle.sts_scope.specs.Lookup.{base_of, is_field, same_owner}
use Rattle.sts_scope.specs.Numbers.{is_method, own_names, added, names_from}
use Rattle.sts_scope.specs.Scopes.{is_global, names_of}
use Rattle.typed_numbers.specs.Building.{names_upto}
use Rattle.typed_numbers.specs.Counts.{is_short, counts_fit}

both : (x y : Bool) → (x && y) ≡ true → (x ≡ true) × (y ≡ true)
both true y h = (refl, h)
both false y h = cc

at_most : (n m : ℕ) → nat_le n m ≡ true → n ≤ m
at_most n m h = grind (arith, nat_tests)

record AreFew (k : Known) : Type 0 where
  classes : length k.classes ≤ 64
  globals : length (names_of is_global k.entries) ≤ 256
  fields : list_all is_short (names_upto is_field k (length k.classes)) ≡ true
  slots : list_all is_short (names_upto is_method k (length k.classes)) ≡ true

are_few : (k : Known) → counts_fit k ≡ true → AreFew k
are_few k h =
    let n = length k.classes in
    let g = length (names_of is_global k.entries) in
    let (h3, s) = both (nat_le n 64 && nat_le g 256 && list_all is_short (names_upto is_field k n)) (list_all is_short (names_upto is_method k n)) h in
    let (h2, f) = both (nat_le n 64 && nat_le g 256) (list_all is_short (names_upto is_field k n)) h3 in
    let (h1, h0) = both (nat_le n 64) (nat_le g 256) h2 in
    record { classes = at_most n 64 h1; globals = at_most g 256 h0; fields = f; slots = s }

pub few_classes : (k : Known) → counts_fit k ≡ true → length k.classes ≤ 64
few_classes k h = (are_few k h).classes

pub few_globals : (k : Known) → counts_fit k ≡ true → length (names_of is_global k.entries) ≤ 256
few_globals k h = (are_few k h).globals

short_at : (xs : List (List ℕ)) (c : ℕ) → list_all is_short xs ≡ true → length (get_or xs c []) ≤ 30
short_at [] c h = omega arith
short_at (x ∷ xs) zero h = at_most (length x) 30 (both (is_short x) (list_all is_short xs) h).0
short_at (x ∷ xs) (suc c) h = short_at xs c (both (is_short x) (list_all is_short xs) h).1

-- the names of a class's members
pub few_fields : (k : Known) (c : ℕ) → counts_fit k ≡ true → length (get_or (names_upto is_field k (length k.classes)) c []) ≤ 30
few_fields k c h = short_at (names_upto is_field k (length k.classes)) c (are_few k h).fields

pub few_slots : (k : Known) (c : ℕ) → counts_fit k ≡ true → length (get_or (names_upto is_method k (length k.classes)) c []) ≤ 30
few_slots k c h = short_at (names_upto is_method k (length k.classes)) c (are_few k h).slots

-- those that a class which isn't there has are own ones, and each is declared
one_more : (which : Option DeclarationKind → Bool) (own : Bool) (e : Entry) (names : List ℕ) (n : ℕ) → length names ≤ n
    → length (elim own as (λ z. List ℕ) [ true ↦ elim (which (Some e.sort)) as (λ z. List ℕ) [ true ↦ e.name ∷ names | false ↦ names ] | false ↦ names ]) ≤ suc n
one_more which false e names n h = omega (arith, h)
one_more which true e names n h = by (which (Some e.sort))
  where
    by : (b : Bool) → length (elim b as (λ z. List ℕ) [ true ↦ e.name ∷ names | false ↦ names ]) ≤ suc n
    by true = omega (arith, h)
    by false = omega (arith, h)

own_few : (which : Option DeclarationKind → Bool) (es : List Entry) (c : ℕ) → length (own_names which es c) ≤ length es
own_few which [] c = omega arith
own_few which (e ∷ es) c = one_more which (same_owner e.owner (Class c)) e (own_names which es c) (length es) (own_few which es c)

no_base : (classes : List ClassHead) (c : ℕ) → length classes ≤ c → base_of classes c ≡ None
no_base [] c l = refl
no_base (x ∷ xs) zero l = absurd (omega (arith, l))
no_base (x ∷ xs) (suc c) l = no_base xs c (omega (arith, l))

pub few_behind : (which : Option DeclarationKind → Bool) (k : Known) (n c : ℕ) → length k.classes ≤ c → length (names_from which k n c) ≤ length k.entries
few_behind which k zero c l = omega arith
few_behind which k (suc n) c l = by (base_of k.classes c) (no_base k.classes c l)
  where
    by : (base : Option ℕ) → base ≡ None → length (elim base as (λ o. List ℕ) [ None ↦ own_names which k.entries c | Some b ↦ added (names_from which k n b) (own_names which k.entries c) ]) ≤ length k.entries
    by None h = own_few which k.entries c
    by (Some b) h = cc
