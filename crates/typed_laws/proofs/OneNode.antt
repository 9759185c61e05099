-- What the rules of one node say of types, said of types of values.
use Rattle.std.proofs.Common.{◌≡◌, ℕ, zero, suc, ◌-◌, ◌==◌, ◌&&◌, ◌||◌, refl, sym, ap, ◌∙◌, subst, Bool, true, false, Option, Some, None, List, [], ◌∷◌, length, inl, inr, arith, eqb-true, add-one}
use Rattle.std.specs.Prelude.{if◌then◌else◌, not, ◌⊎◌}
use Rattle.sts_syntax.specs.Types as t
use Rattle.sts_syntax.specs.Layered.{layered}
use Rattle.sts_syntax.specs.Types.{ValueType}
use Rattle.sts_syntax.specs.TypedTrees.{ClassEntry, TypedProgram}
use Rattle.sts_syntax.specs.TypeRules.{IsOneOf, TakesNull, arithmetic_operators, order_operators, equality_operators, Prefixes, HasClass, IsBelow, GoesTo, AreCompared, Join, Works}
use Rattle.sts_scope.specs.declared.kinds.StaticType.{StaticType}
use Rattle.sts_scope.specs.declared.kinds.Base.{Base}
use Rattle.sts_scope.specs.declared.kinds.Base.TheVariants as b
use Rattle.sts_scope.specs.declared.entries.ClassHead.{ClassHead}
use Rattle.sts_scope.specs.Kinds.{number, boolean, nothing, null, empty, array, item, same_base, same, is_array, class_of, base_class, takes_null, base_takes_null, base_type, value_type}
use Rattle.sts_scope.specs.Lookup.{base_of}
use Rattle.typed_laws.proofs.Stands.{is_proper_base, IsProper}
use Rattle.sts_scope.specs.Rules.{reaches, below, goes, comparable, is_arithmetic, is_equality, is_order, operate, prefix, joined, common, choose, counted, element}

same_base_is : (a c : Base) → same_base a c ≡ true → a ≡ c
same_base_is b.Number c h = elim c as (λ x. same_base b.Number x ≡ true → b.Number ≡ x) [ b.Number ↦ (λ q. refl) | b.Boolean ↦ (λ q. cc) | b.Text ↦ (λ q. cc) | b.Nothing ↦ (λ q. cc) | b.Null ↦ (λ q. cc) | b.Empty ↦ (λ q. cc) | b.Class n ↦ (λ q. cc) ] h
same_base_is b.Boolean c h = elim c as (λ x. same_base b.Boolean x ≡ true → b.Boolean ≡ x) [ b.Boolean ↦ (λ q. refl) | b.Number ↦ (λ q. cc) | b.Text ↦ (λ q. cc) | b.Nothing ↦ (λ q. cc) | b.Null ↦ (λ q. cc) | b.Empty ↦ (λ q. cc) | b.Class n ↦ (λ q. cc) ] h
same_base_is b.Text c h = elim c as (λ x. same_base b.Text x ≡ true → b.Text ≡ x) [ b.Text ↦ (λ q. refl) | b.Boolean ↦ (λ q. cc) | b.Number ↦ (λ q. cc) | b.Nothing ↦ (λ q. cc) | b.Null ↦ (λ q. cc) | b.Empty ↦ (λ q. cc) | b.Class n ↦ (λ q. cc) ] h
same_base_is b.Nothing c h = elim c as (λ x. same_base b.Nothing x ≡ true → b.Nothing ≡ x) [ b.Nothing ↦ (λ q. refl) | b.Boolean ↦ (λ q. cc) | b.Text ↦ (λ q. cc) | b.Number ↦ (λ q. cc) | b.Null ↦ (λ q. cc) | b.Empty ↦ (λ q. cc) | b.Class n ↦ (λ q. cc) ] h
same_base_is b.Null c h = elim c as (λ x. same_base b.Null x ≡ true → b.Null ≡ x) [ b.Null ↦ (λ q. refl) | b.Boolean ↦ (λ q. cc) | b.Text ↦ (λ q. cc) | b.Nothing ↦ (λ q. cc) | b.Number ↦ (λ q. cc) | b.Empty ↦ (λ q. cc) | b.Class n ↦ (λ q. cc) ] h
same_base_is b.Empty c h = elim c as (λ x. same_base b.Empty x ≡ true → b.Empty ≡ x) [ b.Empty ↦ (λ q. refl) | b.Boolean ↦ (λ q. cc) | b.Text ↦ (λ q. cc) | b.Nothing ↦ (λ q. cc) | b.Null ↦ (λ q. cc) | b.Number ↦ (λ q. cc) | b.Class n ↦ (λ q. cc) ] h
same_base_is (b.Class m) c h = elim c as (λ x. same_base (b.Class m) x ≡ true → b.Class m ≡ x) [ b.Class n ↦ (λ q. ap (λ (i : ℕ). b.Class i) (eqb-true m n q)) | b.Boolean ↦ (λ q. cc) | b.Text ↦ (λ q. cc) | b.Nothing ↦ (λ q. cc) | b.Null ↦ (λ q. cc) | b.Empty ↦ (λ q. cc) | b.Number ↦ (λ q. cc) ] h

pub both_true : (x y : Bool) → (x && y) ≡ true → (x ≡ true) × (y ≡ true)
both_true true y h = (refl, h)
both_true false y h = cc

pub either_true : (x y : Bool) → (x || y) ≡ true → (x ≡ true) ⊎ (y ≡ true)
either_true true y h = inl refl
either_true false y h = inr h

pub not_true : (x : Bool) → not x ≡ true → x ≡ false
not_true false h = refl
not_true true h = cc

pub if_some : {A : Type 0} (x : Bool) (a : A) (r : A) → (if x then Some a else None) ≡ Some r → (x ≡ true) × (a ≡ r)
if_some true a r h = (refl, cc)
if_some false a r h = cc

pub if_gives : {A : Type 0} (x : Bool) (a : Option A) (r : A) → (if x then a else None) ≡ Some r → (x ≡ true) × (a ≡ Some r)
if_gives true a r h = (refl, h)
if_gives false a r h = cc

-- types that are the same are one
pub same_is : (s u : StaticType) → same s u ≡ true → s ≡ u
unfolding same
same_is s u h =
    let p = both_true (same_base s.base u.base) (s.depth == u.depth) h in
    let q : s.base ≡ u.base = same_base_is s.base u.base p.0 in
    let r : s.depth ≡ u.depth = eqb-true s.depth u.depth p.1 in
    let first : s ≡ record { base = u.base; depth = s.depth } = ap (λ (x : Base). let y : StaticType = record { base = x; depth = s.depth } in y) q in
    let second : record { base = u.base; depth = s.depth } ≡ u = ap (λ (n : ℕ). let y : StaticType = record { base = u.base; depth = n } in y) r in
    first ∙ second

pub same_types : (s u : StaticType) → same s u ≡ true → value_type s ≡ value_type u
same_types s u h = ap (λ (k : StaticType). value_type k) (same_is s u h)

pub if_cases : {A : Type 0} (x : Bool) (a c : Option A) (r : A) → (if x then a else c) ≡ Some r → ((x ≡ true) × (a ≡ Some r)) ⊎ ((x ≡ false) × (c ≡ Some r))
if_cases true a c r h = inl (refl, h)
if_cases false a c r h = inr (refl, h)

pub test_false : (x : Bool) → (x ≡ true → ⊥) → x ≡ false
test_false true h = absurd (h refl)
test_false false h = refl

no_zero : (n : ℕ) → (suc n == 0) ≡ false
no_zero n = test_false (suc n == 0) (λ e. let q : suc n ≡ 0 = eqb-true (suc n) 0 e in absurd (omega arith))

-- classes
class_at : (d : ℕ) (a : Base) (c : ℕ) → elim (d == 0) [ true ↦ base_class a | false ↦ None ] ≡ Some c → layered t.ListOf d (base_type a) ≡ t.Object c
class_at zero (b.Class n) c h = ap t.Object cc
class_at zero b.Number c h = cc
class_at zero b.Boolean c h = cc
class_at zero b.Text c h = cc
class_at zero b.Nothing c h = cc
class_at zero b.Null c h = cc
class_at zero b.Empty c h = cc
class_at (suc n) a c h = let q : None ≡ Some c = rw (no_zero n) at h in cc

pub class_type : (s : StaticType) (c : ℕ) → class_of s ≡ Some c → value_type s ≡ t.Object c
unfolding class_of
class_type s c h = class_at s.depth s.base c h

null_at : (d : ℕ) (a : Base) → (not (d == 0) || base_takes_null a) ≡ true → TakesNull (layered t.ListOf d (base_type a))
null_at zero (b.Class n) h = tt
null_at zero b.Text h = tt
null_at zero b.Number h = cc
null_at zero b.Boolean h = cc
null_at zero b.Nothing h = cc
null_at zero b.Null h = cc
null_at zero b.Empty h = cc
null_at (suc n) a h = tt

pub null_goes : (s : StaticType) → takes_null s ≡ true → TakesNull (value_type s)
unfolding takes_null is_array
null_goes s h = null_at s.depth s.base h

array_at : (d : ℕ) (a : Base) → not (d == 0) ≡ true → layered t.ListOf d (base_type a) ≡ t.ListOf (layered t.ListOf (d - 1) (base_type a))
array_at zero a h = cc
array_at (suc n) a h = let e : suc n - 1 ≡ n = omega arith in ap (λ (m : ℕ). t.ListOf (layered t.ListOf m (base_type a))) (sym e)

pub array_type : (s : StaticType) → is_array s ≡ true → value_type s ≡ t.ListOf (value_type (item s))
unfolding is_array
array_type s h = array_at s.depth s.base h

pub arrayed : (s : StaticType) → value_type (array s) ≡ t.ListOf (value_type s)
arrayed s = ap (λ (m : ℕ). layered t.ListOf m (base_type s.base)) (add-one s.depth)

nothing_at : (d : ℕ) (a : Base) → is_proper_base a ≡ true → layered t.ListOf d (base_type a) ≡ t.Nothing → (same_base a b.Nothing && (d == 0)) ≡ true
nothing_at zero b.Nothing p h = refl
nothing_at zero b.Empty p h = cc
nothing_at zero b.Number p h = cc
nothing_at zero b.Boolean p h = cc
nothing_at zero b.Text p h = cc
nothing_at zero b.Null p h = cc
nothing_at zero (b.Class n) p h = cc
nothing_at (suc n) a p h = cc

pub is_nothing : (s : StaticType) → IsProper s → value_type s ≡ t.Nothing → same s nothing ≡ true
unfolding same
is_nothing s p h = nothing_at s.depth s.base p h

-- an operator is one of some
abbrev any_from : Bool → List ℕ → ℕ → Bool
any_from holds [] op = holds
any_from holds (n ∷ ns) op = any_from (holds || op == n) ns op

one_of : (holds : Bool) (ns : List ℕ) (op : ℕ) → any_from holds ns op ≡ true → (holds ≡ true) ⊎ IsOneOf op ns
one_of holds [] op h = inl h
one_of holds (n ∷ ns) op h = elim (one_of (holds || op == n) ns op h) [
  | inl e ↦ elim (either_true holds (op == n) e) [ inl q ↦ inl q | inr q ↦ inr (inl (eqb-true op n q)) ]
  | inr e ↦ inr (inr e)
]

first_of : (n : ℕ) (ns : List ℕ) (op : ℕ) → any_from (op == n) ns op ≡ true → IsOneOf op (n ∷ ns)
first_of n ns op h = elim (one_of (op == n) ns op h) [ inl e ↦ inl (eqb-true op n e) | inr e ↦ inr e ]

pub arithmetic : (op : ℕ) → is_arithmetic op ≡ true → IsOneOf op arithmetic_operators
arithmetic op h = first_of 1 (2 ∷ 3 ∷ 10 ∷ 11 ∷ 12 ∷ 13 ∷ 14 ∷ 15 ∷ 16 ∷ 17 ∷ []) op h

pub ordered : (op : ℕ) → is_order op ≡ true → IsOneOf op order_operators
ordered op h = first_of 6 (7 ∷ 8 ∷ 9 ∷ []) op h

pub equal : (op : ℕ) → is_equality op ≡ true → IsOneOf op equality_operators
equal op h = first_of 4 (5 ∷ []) op h

pub proper_number : (s : StaticType) → same s number ≡ true → value_type s ≡ t.Number
proper_number s h = same_types s number h

module _ (classes : List ClassHead) (P : TypedProgram) (bases : (c b : ℕ) → base_of classes c ≡ Some b → (class : ClassEntry) × HasClass P c class × (class.base ≡ Some b)) where
  climbs_up : (m n : ℕ) (reach : ℕ → Bool) (o : Option ℕ) → base_of classes m ≡ o → ((up : ℕ) → reach up ≡ true → IsBelow P up n) → elim o [ None ↦ false | Some up ↦ reach up ] ≡ true
      → IsBelow P m n
  climbs_up m n reach None q more h = cc
  climbs_up m n reach (Some up) q more h = let (class, has, base) = bases m up q in let (steps, rest) = more up h in (suc steps, (class, up, has, base, rest))

  climbs : (fuel m n : ℕ) → reaches classes fuel m n ≡ true → IsBelow P m n
  unfolding reaches
  climbs zero m n h = (0, eqb-true m n h)
  climbs (suc fuel) m n h = elim (either_true (m == n) (elim (base_of classes m) [ None ↦ false | Some up ↦ reaches classes fuel up n ]) h) [
    | inl e ↦ (0, eqb-true m n e)
    | inr e ↦ climbs_up m n (λ up. reaches classes fuel up n) (base_of classes m) refl (λ up. climbs fuel up n) e
  ]

  below_of : (s u : StaticType) (o p : Option ℕ) → class_of s ≡ o → class_of u ≡ p → elim o [ None ↦ false | Some m ↦ elim p [ None ↦ false | Some n ↦ reaches classes (length classes) m n ] ] ≡ true
      → (m : ℕ) × (n : ℕ) × (value_type s ≡ t.Object m) × (value_type u ≡ t.Object n) × IsBelow P m n
  below_of s u None p q r h = cc
  below_of s u (Some m) None q r h = cc
  below_of s u (Some m) (Some n) q r h = (m, n, class_type s m q, class_type u n r, climbs (length classes) m n h)

  pub is_below : (s u : StaticType) → below classes s u ≡ true → (m : ℕ) × (n : ℕ) × (value_type s ≡ t.Object m) × (value_type u ≡ t.Object n) × IsBelow P m n
  unfolding below
  is_below s u h = below_of s u (class_of s) (class_of u) refl refl h

  pub same_goes : (u v : ValueType) → u ≡ v → GoesTo P u v
  same_goes u v q = inl q

  object_goes : (u v : ValueType) (m n : ℕ) → u ≡ t.Object m → v ≡ t.Object n → IsBelow P m n → GoesTo P u v
  object_goes u v m n q r h = subst (λ (x : ValueType). GoesTo P x v) (sym q) (subst (λ (y : ValueType). GoesTo P (t.Object m) y) (sym r) (inr (inl h)))

  pub below_goes : (s u : StaticType) → below classes s u ≡ true → GoesTo P (value_type s) (value_type u)
  below_goes s u h = let (m, n, q, r, under) = is_below s u h in object_goes (value_type s) (value_type u) m n q r under

  pub nulls_go : (s u : StaticType) → (same s null && takes_null u) ≡ true → GoesTo P (value_type s) (value_type u)
  nulls_go s u h = let (p, q) = both_true (same s null) (takes_null u) h in inr (inr (same_types s null p, null_goes u q))

  not_empty : (s : StaticType) → IsProper s → same s empty ≡ true → ⊥
  not_empty s p h = let q : s ≡ empty = same_is s empty h in let r : is_proper_base empty.base ≡ true = subst (λ (x : StaticType). is_proper_base x.base ≡ true) q p in cc

  -- a value that has a type goes where it is given
  pub goes_to : (s u : StaticType) → IsProper s → goes classes s u ≡ true → GoesTo P (value_type s) (value_type u)
  unfolding goes
  goes_to s u p h = elim (either_true (same s u || below classes s u || (same s null && takes_null u)) (same s empty && is_array u) h) [
    | inl h ↦ elim (either_true (same s u || below classes s u) (same s null && takes_null u) h) [
      | inl h ↦ elim (either_true (same s u) (below classes s u) h) [ inl e ↦ inl (same_types s u e) | inr e ↦ below_goes s u e ]
      | inr e ↦ nulls_go s u e
    ]
    | inr e ↦ absurd (not_empty s p (both_true (same s empty) (is_array u) e).0)
  ]

  object_is_something : (u : ValueType) (c : ℕ) → u ≡ t.Object c → u ≡ t.Nothing → ⊥
  object_is_something u c p q = cc

  null_is_something : (u : ValueType) → u ≡ t.NullType → u ≡ t.Nothing → ⊥
  null_is_something u p q = cc

  compared_same : (s u : StaticType) → IsProper s → (same s u && not (same s nothing)) ≡ true → AreCompared P (value_type s) (value_type u)
  compared_same s u p h =
      let (q, r) = both_true (same s u) (not (same s nothing)) h in
      ((λ n. let holds : same s nothing ≡ true = is_nothing s p n in let fails : same s nothing ≡ false = not_true (same s nothing) r in cc), inl (inl (same_types s u q)))

  compared_below : (s u : StaticType) → below classes s u ≡ true → AreCompared P (value_type s) (value_type u)
  compared_below s u h = let (m, n, q, r, under) = is_below s u h in (object_is_something (value_type s) m q, inl (below_goes s u h))

  compared_above : (s u : StaticType) → below classes u s ≡ true → AreCompared P (value_type s) (value_type u)
  compared_above s u h = let (m, n, q, r, under) = is_below u s h in (object_is_something (value_type s) n r, inr (below_goes u s h))

  compared_null : (s u : StaticType) → (same s null && takes_null u) ≡ true → AreCompared P (value_type s) (value_type u)
  compared_null s u h = (null_is_something (value_type s) (same_types s null (both_true (same s null) (takes_null u) h).0), inl (nulls_go s u h))

  compared_nulled : (s u : StaticType) → (same u null && takes_null s) ≡ true → AreCompared P (value_type s) (value_type u)
  compared_nulled s u h =
      let q : TakesNull (value_type s) = null_goes s (both_true (same u null) (takes_null s) h).1 in
      ((λ n. subst TakesNull n q), inr (nulls_go u s h))

  pub compared : (s u : StaticType) → IsProper s → comparable classes s u ≡ true → AreCompared P (value_type s) (value_type u)
  unfolding comparable
  compared s u p h =
      let A : Bool = same s u && not (same s nothing) in
      let B : Bool = same s null && takes_null u in
      let C : Bool = same u null && takes_null s in
      elim (either_true (A || below classes s u || below classes u s || B) C h) [
        | inl h ↦ elim (either_true (A || below classes s u || below classes u s) B h) [
          | inl h ↦ elim (either_true (A || below classes s u) (below classes u s) h) [
            | inl h ↦ elim (either_true A (below classes s u) h) [ inl e ↦ compared_same s u p e | inr e ↦ compared_below s u e ]
            | inr e ↦ compared_above s u e
          ]
          | inr e ↦ compared_null s u e
        ]
        | inr e ↦ compared_nulled s u e
      ]

  -- operators
  operate_numbers : (op : ℕ) (s u w : StaticType) → (same s number && same u number) ≡ true → (if is_arithmetic op then Some number else if is_order op then Some boolean else None) ≡ Some w
      → Works P op (value_type s) (value_type u) (value_type w)
  operate_numbers op s u w h r =
      let (p, q) = both_true (same s number) (same u number) h in
      elim (if_cases (is_arithmetic op) (Some number) (if is_order op then Some boolean else None) w r) [
        | inl (holds, e) ↦ inl (arithmetic op holds, same_types s number p, same_types u number q, ap (λ (x : StaticType). value_type x) (let f : w ≡ number = cc in f))
        | inr (fails, e) ↦ (let (holds, f) = if_some (is_order op) boolean w e in
            inr (inl (ordered op holds, same_types s number p, same_types u number q, ap (λ (x : StaticType). value_type x) (sym f))))
      ]

  pub works : (op : ℕ) (s u w : StaticType) → IsProper s → operate classes op s u ≡ Some w → Works P op (value_type s) (value_type u) (value_type w)
  unfolding operate
  works op s u w p h = elim (if_cases (is_equality op) (if comparable classes s u then Some boolean else None) (if same s number && same u number then (if is_arithmetic op then Some number else if is_order op then Some boolean else None) else None) w h) [
    | inl (holds, e) ↦ (let (c, f) = if_some (comparable classes s u) boolean w e in
        inr (inr (equal op holds, compared s u p c, ap (λ (x : StaticType). value_type x) (sym f))))
    | inr (fails, e) ↦ elim (if_cases (same s number && same u number) (if is_arithmetic op then Some number else if is_order op then Some boolean else None) None w e) [
      | inl (both, f) ↦ operate_numbers op s u w both f
      | inr (fails, f) ↦ cc
    ]
  ]

  pub prefixes : (op : ℕ) (s w : StaticType) → prefix op s ≡ Some w → Prefixes op (value_type s) (value_type w)
  unfolding prefix
  prefixes op s w h = elim (if_cases (op == 3) (if same s boolean then Some boolean else None) (if (op == 1 || op == 2 || op == 4) && same s number then Some number else None) w h) [
    | inl (holds, e) ↦ (let (p, f) = if_some (same s boolean) boolean w e in inr (eqb-true op 3 holds, same_types s boolean p, ap (λ (x : StaticType). value_type x) (sym f)))
    | inr (fails, e) ↦ (let (both, f) = if_some ((op == 1 || op == 2 || op == 4) && same s number) number w e in
        let (one, p) = both_true (op == 1 || op == 2 || op == 4) (same s number) both in
        inl (first_of 1 (2 ∷ 4 ∷ []) op one, same_types s number p, ap (λ (x : StaticType). value_type x) (sym f)))
  ]

  pub joins : (s u w : StaticType) → joined s u ≡ Some w → (value_type s ≡ t.Boolean) × (value_type u ≡ t.Boolean) × (w ≡ boolean)
  unfolding joined
  joins s u w h =
      let (both, f) = if_some (same s boolean && same u boolean) boolean w h in
      let (p, q) = both_true (same s boolean) (same u boolean) both in
      (same_types s boolean p, same_types u boolean q, sym f)

  left_join : (s u : StaticType) → GoesTo P (value_type u) (value_type s) → Join P (value_type s) (value_type u) (value_type s)
  left_join s u g = (inl refl, inl refl, g)

  right_join : (s u : StaticType) → GoesTo P (value_type s) (value_type u) → Join P (value_type s) (value_type u) (value_type u)
  right_join s u g = (inr refl, g, inl refl)

  first_goes : (s u : StaticType) → (same s u || below classes u s || (same u null && takes_null s)) ≡ true → GoesTo P (value_type u) (value_type s)
  first_goes s u h = elim (either_true (same s u || below classes u s) (same u null && takes_null s) h) [
    | inl h ↦ elim (either_true (same s u) (below classes u s) h) [ inl e ↦ inl (sym (same_types s u e)) | inr e ↦ below_goes u s e ]
    | inr e ↦ nulls_go u s e
  ]

  second_goes : (s u : StaticType) → (below classes s u || (same s null && takes_null u)) ≡ true → GoesTo P (value_type s) (value_type u)
  second_goes s u h = elim (either_true (below classes s u) (same s null && takes_null u) h) [ inl e ↦ below_goes s u e | inr e ↦ nulls_go s u e ]

  common_joins : (s u w : StaticType) → common classes s u ≡ Some w → Join P (value_type s) (value_type u) (value_type w)
  unfolding common
  common_joins s u w h =
      let A : Bool = same s u || below classes u s || (same u null && takes_null s) in
      let B : Bool = below classes s u || (same s null && takes_null u) in
      elim (if_cases A (Some s) (if B then Some u else None) w h) [
        | inl (holds, e) ↦ (let f : s ≡ w = cc in subst (λ (x : StaticType). Join P (value_type s) (value_type u) (value_type x)) f (left_join s u (first_goes s u holds)))
        | inr (fails, e) ↦ (let (holds, f) = if_some B u w e in subst (λ (x : StaticType). Join P (value_type s) (value_type u) (value_type x)) f (right_join s u (second_goes s u holds)))
      ]

  pub chooses : (q s u w : StaticType) → choose classes q s u ≡ Some w → (value_type q ≡ t.Boolean) × Join P (value_type s) (value_type u) (value_type w)
  unfolding choose
  chooses q s u w h = elim (if_cases (same q boolean) (common classes s u) None w h) [
    | inl (holds, e) ↦ (same_types q boolean holds, common_joins s u w e)
    | inr (fails, e) ↦ cc
  ]

  pub counts : (s w : StaticType) → counted s ≡ Some w → (value_type s ≡ t.Number) × (w ≡ number)
  unfolding counted
  counts s w h = let (p, f) = if_some (same s number) number w h in (same_types s number p, sym f)

  pub elements : (a i w : StaticType) → element a i ≡ Some w → (value_type a ≡ t.ListOf (value_type w)) × (value_type i ≡ t.Number)
  unfolding element
  elements a i w h =
      let (both, f) = if_some (is_array a && same i number) (item a) w h in
      let (p, q) = both_true (is_array a) (same i number) both in
      (array_type a p ∙ ap (λ (x : StaticType). t.ListOf (value_type x)) f, same_types i number q)
