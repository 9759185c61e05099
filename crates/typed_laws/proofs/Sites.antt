-- Where the values of names in scope are.
use Rattle.std.proofs.Common.{◌≡◌, ℕ, zero, suc, ◌+◌, ◌<◌, refl, sym, ap, ◌∙◌, subst, Bool, true, false, ◌&&◌, ◌||◌, Option, Some, None, List, [], ◌∷◌, ◌++◌, length, get_or, inl, inr, arith, length-append}
use Rattle.std.specs.Prelude.{◌⊎◌, if◌then◌else◌}
use Rattle.std.proofs.lemmas.List.{get_or_append_left}
use Rattle.std.proofs.Math.Seq.{get_or-append_seam}
use Rattle.sts_base.specs.declared.tables.Tables.{Tables}
use Rattle.sts_syntax.specs.declared.typed.Spot.{Spot}
use Rattle.sts_syntax.specs.declared.typed.Spot.TheVariants.{Param, Local, Global}
use Rattle.sts_syntax.specs.Types as t
use Rattle.sts_syntax.specs.Types.{ValueType}
use Rattle.sts_syntax.specs.TypedTrees.{TypedTree, TypedProgram}
use Rattle.sts_syntax.specs.TypeRules.{entry, GoesTo}
use Rattle.sts_syntax.specs.WellTyped.{Setting, Has, HasThis, IsTyped}
use Rattle.sts_syntax.specs.WellTyped as w
use Rattle.sts_scope.specs.declared.kinds.StaticType.{StaticType}
use Rattle.sts_scope.specs.declared.known.Known.{Known}
use Rattle.sts_scope.specs.declared.known.Local.{Local as Scoped}
use Rattle.sts_scope.specs.declared.known.Found.{Found}
use Rattle.sts_scope.specs.declared.known.Found.TheVariants as found
use Rattle.sts_scope.specs.declared.known.This.{This as Self}
use Rattle.sts_scope.specs.declared.known.This.TheVariants as this
use Rattle.sts_scope.specs.declared.entries.ClassHead.{ClassHead}
use Rattle.sts_scope.specs.Kinds.{null, empty, object, same, is_array, takes_null, class_of, value_type}
use Rattle.sts_scope.specs.Places.{with, local}
use Rattle.sts_scope.specs.Entries.{Naming}
use Rattle.sts_scope.specs.Rules.{local_kind, name_kind, this_kind, goes, below}
use Rattle.sts_scope.specs.Numbers.{Numbering}
use Rattle.type_derive.specs.Built.{Site, in_block}
use Rattle.type_derive.specs.inner.Filled.{spot_of}
use Rattle.typed_laws.proofs.Stands.{is_proper_base, IsProper, Stands}
use Rattle.typed_laws.proofs.OneNode.{both_true, either_true, same_is, goes_to}
use Rattle.typed_laws.proofs.Names.{Real, some_is}

-- what a list of locals has behind its last
pub kind_split : (ls : List Scoped) (l : Scoped) (i : ℕ) (u : StaticType) → local_kind (ls ++ l ∷ []) i ≡ Some u → ((i < length ls) × (local_kind ls i ≡ Some u)) ⊎ ((i ≡ length ls) × (l.kind ≡ Some u))
kind_split [] l zero u h = inr (refl, h)
kind_split [] l (suc i) u h = cc
kind_split (a ∷ ls) l zero u h = inl (omega arith, h)
kind_split (a ∷ ls) l (suc i) u h = elim (kind_split ls l i u h) [ inl p ↦ inl (omega (arith, p.0), p.1) | inr p ↦ inr (ap suc p.0, p.1) ]

-- what is given to `[]`, else the type itself
abbrev pub seen : Option StaticType → StaticType → StaticType
seen None u = u
seen (Some v) u = if is_proper_base u.base then u else v

pub seen_proper : (g : Option StaticType) (u : StaticType) → IsProper u → seen g u ≡ u
seen_proper None u p = refl
seen_proper (Some v) u p = let F : Bool → StaticType = λ (x : Bool). if x then u else v in ap F p

pub seen_empty : (v u : StaticType) → is_proper_base u.base ≡ false → seen (Some v) u ≡ v
seen_empty v u p = let F : Bool → StaticType = λ (x : Bool). if x then u else v in ap F p

-- `[]` stands only where an array is given
abbrev pub Suits : Option StaticType → StaticType → Type 0
Suits None u = Unit {0}
Suits (Some v) u = is_proper_base u.base ≡ false → is_array v ≡ true

abbrev pub Wanted : Option StaticType → Type 0
Wanted None = Unit {0}
Wanted (Some v) = IsProper v

pub improper : (u : StaticType) → is_proper_base u.base ≡ false → IsProper u → ⊥
improper u p q = let r : true ≡ false = sym q ∙ p in cc

pub by_cases : (A : Type 0) (x : Bool) → (x ≡ true → A) → (x ≡ false → A) → A
by_cases A true f g = f refl
by_cases A false f g = g refl

module _ (classes : List ClassHead) (P : TypedProgram) where
  no_class_below : (v : StaticType) (c : Option ℕ) → elim c [ None ↦ false | Some m ↦ false ] ≡ true → ⊥
  no_class_below v None h = cc
  no_class_below v (Some m) h = cc

  pub empty_is_not_below : (v : StaticType) → below classes empty v ≡ true → ⊥
  unfolding below class_of
  empty_is_not_below v h = cc

  pub nothing_below_empty : (v : StaticType) → below classes v empty ≡ true → ⊥
  unfolding below class_of
  nothing_below_empty v h = no_class_below v (class_of v) h

  empty_is_not_null : same empty null ≡ true → ⊥
  unfolding same
  empty_is_not_null h = cc

  pub empty_suits : (v : StaticType) → IsProper v → goes classes empty v ≡ true → is_array v ≡ true
  unfolding goes
  empty_suits v p h = elim (either_true (same empty v || below classes empty v || (same empty null && takes_null v)) (same empty empty && is_array v) h) [
    | inl h ↦ elim (either_true (same empty v || below classes empty v) (same empty null && takes_null v) h) [
      | inl h ↦ elim (either_true (same empty v) (below classes empty v) h) [
        | inl e ↦ absurd (improper v (ap (λ (x : StaticType). is_proper_base x.base) (sym (same_is empty v e))) p)
        | inr e ↦ absurd (empty_is_not_below v e)
      ]
      | inr e ↦ absurd (empty_is_not_null (both_true (same empty null) (takes_null v) e).0)
    ]
    | inr e ↦ (both_true (same empty empty) (is_array v) e).1
  ]

module _ (tables : Tables) (names : Naming) (k : Known) (numbers : Numbering) (P : TypedProgram) (st : Stands tables k numbers P) where
  -- a type of a place that may give one: it is `[]`'s, or one that values have
  abbrev pub IsEmptyOr : StaticType → Type 0
  IsEmptyOr u = IsProper u ⊎ (u ≡ empty)

  pub suits_given : (u v : StaticType) → IsEmptyOr u → IsProper v → goes k.classes u v ≡ true → Suits (Some v) u
  suits_given u v (inl p) q h = λ e. absurd (improper u e p)
  suits_given u v (inr r) q h = λ e. empty_suits k.classes P v q (subst (λ (x : StaticType). goes k.classes x v ≡ true) r h)

  pub given_goes : (u v : StaticType) → goes k.classes u v ≡ true → GoesTo P (value_type (seen (Some v) u)) (value_type v)
  given_goes u v h = by_cases (GoesTo P (value_type (seen (Some v) u)) (value_type v)) (is_proper_base u.base)
      (λ e. subst (λ (x : StaticType). GoesTo P (value_type x) (value_type v)) (sym (seen_proper (Some v) u e)) (goes_to k.classes P st.bases u v e h))
      (λ e. inl (ap (λ (x : StaticType). value_type x) (seen_empty v u e)))

  -- an expression is well typed, of this type
  abbrev pub IsGood : Setting → List ℕ → ValueType → TypedTree → Type 0
  IsGood S known u x = IsTyped P S known x × (w.type_of x ≡ u)

  -- What is known at a place: each name of this function in scope is a parameter or a local of its type.
  pub record At (S : Setting) (known : List ℕ) (s : Site) : Type 0 where
    pub even : length s.spots ≡ length s.place.locals
    pub here : (i : ℕ) (u : StaticType) → local_kind s.place.locals i ≡ Some u → Has P S known (get_or s.spots i (Global 0)) (value_type u)
    pub proper : (i : ℕ) (u : StaticType) → local_kind s.place.locals i ≡ Some u → IsProper u
    pub this : (c : ℕ) → s.place.this ≡ this.Object c → HasThis P S (t.Object c)

  has_more : (S : Setting) (known : List ℕ) (m : ℕ) (x : Spot) (u : ValueType) → Has P S known x u → Has P S (m ∷ known) x u
  has_more S known m (Param i) u h = h
  has_more S known m (Local i) u h = (inr h.0, h.1)
  has_more S known m (Global g) u h = h

  pub at_block : (S : Setting) (known : List ℕ) (s : Site) → At S known s → At S known (in_block s)
  at_block S known s a = record { even = a.even; here = a.here; proper = a.proper; this = a.this }

  -- behind a new local
  pub at_local : (S : Setting) (known : List ℕ) (s : Site) (x : ℕ) (kind : Option StaticType) (fixed : Bool) (m : ℕ) → At S known s
      → ((u : StaticType) → kind ≡ Some u → (entry S.routine.locals m ≡ Some (value_type u)) × IsProper u) → At S (m ∷ known) (record { place = with s.place x kind fixed; spots = s.spots ++ Local m ∷ [] })
  at_local S known s x kind fixed m a new =
      let l : Scoped = local x kind fixed in
      record {
        even = length-append s.spots (Local m ∷ []) ∙ ap (λ (i : ℕ). i + 1) a.even ∙ sym (length-append s.place.locals (l ∷ []));
        here = λ i u h. elim (kind_split s.place.locals l i u h) [
          | inl p ↦ (let near : i < length s.spots = omega (arith, p.0, a.even) in
              let q : get_or (s.spots ++ Local m ∷ []) i (Global 0) ≡ get_or s.spots i (Global 0) = get_or_append_left s.spots (Local m ∷ []) (Global 0) i near in
              subst (λ (y : Spot). Has P S (m ∷ known) y (value_type u)) (sym q) (has_more S known m (get_or s.spots i (Global 0)) (value_type u) (a.here i u p.1)))
          | inr p ↦ (let r : i ≡ length s.spots = p.0 ∙ sym a.even in
              let q : get_or (s.spots ++ Local m ∷ []) i (Global 0) ≡ Local m = ap (λ (j : ℕ). get_or (s.spots ++ Local m ∷ []) j (Global 0)) r ∙ get_or-append_seam s.spots (Local m) [] (Global 0) in
              subst (λ (y : Spot). Has P S (m ∷ known) y (value_type u)) (sym q) (inl refl, (new u p.1).0))
        ];
        proper = λ i u h. elim (kind_split s.place.locals l i u h) [ inl p ↦ a.proper i u p.1 | inr p ↦ (new u p.1).1 ];
        this = a.this;
      }

  pub name_good : (S : Setting) (known : List ℕ) (s : Site) (f : Found) (u : StaticType) → At S known s → Real k s.place f → name_kind k s.place f ≡ Some u → Has P S known (spot_of tables names k numbers s f) (value_type u)
  name_good S known s (found.Local i) u a r h = a.here i u h
  name_good S known s (found.Global d) u a r h = st.globals d r.0 u r.1 h
  name_good S known s found.Captured u a r h = cc
  name_good S known s (found.Function d) u a r h = cc
  name_good S known s (found.Class c) u a r h = cc
  name_good S known s found.Unknown u a r h = cc

  pub this_good : (S : Setting) (known : List ℕ) (s : Site) (self : Self) (u : StaticType) → At S known s → s.place.this ≡ self → this_kind self ≡ Some u → HasThis P S (value_type u)
  this_good S known s (this.Object c) u a r h = subst (λ (x : StaticType). HasThis P S (value_type x)) (some_is (object c) u h) (a.this c r)
  this_good S known s (this.Hidden c) u a r h = cc
  this_good S known s this.Nowhere u a r h = cc
