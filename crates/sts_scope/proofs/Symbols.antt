-- What is kept when a declaration is added.
use Rattle.std.proofs.Common.{◌≡◌, ℕ, zero, suc, ◌+◌, ◌<◌, ◌≤◌, ◌==◌, ◌&&◌, Bool, true, false, cond, Option, Some, None, List, [], ◌∷◌, ◌++◌, length, take, refl, sym, ap, ◌∙◌, arith}
use Rattle.std.specs.Prelude.{is_some, nat_lt, slice_get, set}
use Rattle.std.specs.Map.{lookup}
use Rattle.std.proofs.lemmas.Option.{same_Some}
use Rattle.std.specs.List.{position_from}
use Rattle.std.specs.BTreeMap.{BTreeMap, get}
use Rattle.std.specs.Ordering.{nat_cmp, is_eq}
use Rattle.std.proofs.lemmas.Bool.Decides.{nat_tests}
use Rattle.sts_scope.specs.declared.entries.Owner.{Owner}
use Rattle.sts_scope.specs.declared.entries.Entry.{Entry}
use Rattle.std.specs.Option.{option_or}
use Rattle.sts_scope.specs.Lookup.{same_owner, declares, entry_number, is_second}
use Rattle.sts_scope.specs.declared.numbers.Numbers.{Numbers}
use Rattle.sts_scope.specs.Symbols.{number_at, member_at, Notes, IsIndexed}
use Rattle.sts_scope.proofs.Lists.{position-append, or_else-none}

-- the first one of a name, when a declaration is added
number_added : (es : List Entry) (e : Entry) (owner : Owner) (x : ℕ) →
    entry_number (es ++ e ∷ []) owner x ≡ option_or (entry_number es owner x) (cond (declares owner x e) (Some (length es)) None)
number_added es e owner x =
    let n : 0 + length es ≡ length es = omega arith in
    position-append (declares owner x) 0 es (e ∷ []) ∙ ap (λ m. option_or (entry_number es owner x) (cond (declares owner x e) (Some m) None)) n

-- when a declaration is added and its number noted
pub indexed_noted : (old new : Numbers) (es : List Entry) (e : Entry) → IsIndexed old es →
    ((owner : Owner) (x : ℕ) → number_at new owner x ≡ option_or (number_at old owner x) (cond (same_owner e.owner owner && (e.name == x)) (Some (length es)) None)) →
    IsIndexed new (es ++ e ∷ [])
indexed_noted old new es e i n = λ owner x.
    n owner x ∙ ap (λ first. option_or first (cond (declares owner x e) (Some (length es)) None)) (i owner x) ∙ sym (number_added es e owner x)

none_more : (o : Option ℕ) (b : Bool) (d : ℕ) → b ≡ false → o ≡ option_or o (cond b (Some d) None)
none_more o b d h = sym (or_else-none o) ∙ ap (λ c. option_or o (cond c (Some d) None)) (sym h)

-- a number was noted for a name of one class's members
pub member_noted : (ms : List (BTreeMap ℕ ℕ)) (at x d b y : ℕ) (m n : BTreeMap ℕ ℕ) → slice_get ms at ≡ Some m → Notes m n x d →
    member_at (set ms at n) b y ≡ option_or (member_at ms b y) (cond (at == b && (x == y)) (Some d) None)
member_noted [] at x d b y m n is h = absurd (cc)
member_noted (k ∷ ks) zero x d zero y m n is h = h y ∙ ap (λ q. option_or (get nat_cmp q y) (cond (x == y) (Some d) None)) (sym (same_Some k m is))
member_noted (k ∷ ks) zero x d (suc b) y m n is h =
    let e : (0 == suc b && (x == y)) ≡ false = grind (arith, nat_tests) in
    none_more (member_at ks b y) (0 == suc b && (x == y)) d e
member_noted (k ∷ ks) (suc at) x d zero y m n is h =
    let e : (suc at == 0 && (x == y)) ≡ false = grind (arith, nat_tests) in
    none_more (get nat_cmp k y) (suc at == 0 && (x == y)) d e
member_noted (k ∷ ks) (suc at) x d (suc b) y m n is h =
    let e : (at == b) ≡ (suc at == suc b) = grind (arith, nat_tests) in
    member_noted ks at x d b y m n is h ∙ ap (λ c. option_or (member_at ks b y) (cond (c && (x == y)) (Some d) None)) e

-- one more class without numbers
pub member_room : (ms : List (BTreeMap ℕ ℕ)) (m : BTreeMap ℕ ℕ) (b y : ℕ) → m.entries ≡ [] → member_at (ms ++ m ∷ []) b y ≡ member_at ms b y
member_room [] m zero y h = ap (λ es. lookup (λ k. is_eq (nat_cmp y k)) es) h
member_room [] m (suc b) y h = refl
member_room (k ∷ ks) m zero y h = refl
member_room (k ∷ ks) m (suc b) y h = member_room ks m b y h

-- what is found behind a place doesn't stand before it
found_behind : (b : Bool) (n m : ℕ) (rest : Option ℕ) → n ≤ m → elim rest [ None ↦ false | Some e ↦ nat_lt e n ] ≡ false →
    elim (cond b (Some m) rest) [ None ↦ false | Some e ↦ nat_lt e n ] ≡ false
found_behind true n m rest h g = grind (arith, nat_tests)
found_behind false n m rest h g = g

beyond : {A : Type 0} (p : A → Bool) (n m : ℕ) (xs : List A) → n ≤ m → elim (position_from p m xs) [ None ↦ false | Some e ↦ nat_lt e n ] ≡ false
beyond p n m [] h = refl
beyond p n m (x ∷ xs) h = let g : n ≤ m + 1 = omega arith in found_behind (p x) n m (position_from p (m + 1) xs) h (beyond p n (m + 1) xs g)

found_before : (b : Bool) (n k : ℕ) (part whole : Option ℕ) → n < k → is_some part ≡ elim whole [ None ↦ false | Some e ↦ nat_lt e k ] →
    is_some (cond b (Some n) part) ≡ elim (cond b (Some n) whole) [ None ↦ false | Some e ↦ nat_lt e k ]
found_before true n k part whole h g = grind (arith, nat_tests)
found_before false n k part whole h g = g

before : {A : Type 0} (p : A → Bool) (n d : ℕ) (xs : List A) →
    is_some (position_from p n (take d xs)) ≡ elim (position_from p n xs) [ None ↦ false | Some e ↦ nat_lt e (n + d) ]
before p n zero [] = refl
before p n (suc d) [] = refl
before p n zero (x ∷ xs) = let h : n + 0 ≤ n = omega arith in sym (beyond p (n + 0) n (x ∷ xs) h)
before p n (suc d) (x ∷ xs) =
    let e : n + 1 + d ≡ n + suc d = omega arith in
    let h : n < n + suc d = omega arith in
    found_before (p x) n (n + suc d) (position_from p (n + 1) (take d xs)) (position_from p (n + 1) xs) h
    (before p (n + 1) d xs ∙ ap (λ m. elim (position_from p (n + 1) xs) [ None ↦ false | Some f ↦ nat_lt f m ]) e)

-- a declaration is a second one where the first of its name stands before it
pub second_is : (es : List Entry) (d : ℕ) (owner : Owner) (x : ℕ) → is_second es d owner x ≡ elim (entry_number es owner x) [ None ↦ false | Some e ↦ nat_lt e d ]
second_is es d owner x =
    let n : 0 + d ≡ d = omega arith in
    before (declares owner x) 0 d es ∙ ap (λ m. elim (entry_number es owner x) [ None ↦ false | Some e ↦ nat_lt e m ]) n
