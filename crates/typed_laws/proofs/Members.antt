-- Fields and slots of classes: which names there are, and which declarations they stand for.
use Rattle.std.proofs.Common.{◌≡◌, ℕ, zero, suc, ◌+◌, ◌<◌, ◌==◌, ◌&&◌, ◌||◌, refl, sym, ap, ◌∙◌, subst, Bool, true, false, Option, Some, None, List, [], ◌∷◌, length, take, arith, eqb-true, eq-eqb, inl, inr}
use Rattle.std.specs.Prelude.{slice_get, ◌⊎◌}
use Rattle.sts_scope.specs.declared.entries.Owner.{Owner}
use Rattle.sts_scope.specs.declared.entries.Owner.TheVariants as o
use Rattle.sts_scope.specs.declared.entries.DeclarationKind.{DeclarationKind}
use Rattle.sts_scope.specs.declared.entries.DeclarationKind.TheVariants as sort
use Rattle.sts_scope.specs.declared.entries.Entry.{Entry}
use Rattle.sts_scope.specs.declared.known.Known.{Known}
use Rattle.sts_scope.specs.Bases.{above}
use Rattle.sts_scope.specs.Lookup.{same_owner, declares, entry_number, is_second, base_of, member_from, member_number, inherited, sort_of, is_field, inherits_field}
use Rattle.sts_scope.specs.Numbers.{is_method, own_names, is_listed, added, names_from}
use Rattle.typed_laws.proofs.OneNode.{either_true, both_true}
use Rattle.typed_laws.proofs.Searching.{some_or_none, position_is, position_first, not_some, added_left, added_cases, added_right, or_right}
use Rattle.typed_laws.proofs.Chains.{some_many, above_base}
use Rattle.typed_laws.proofs.Climbing.{names_of_base, names_of_top}

owner_is : (a : Owner) (c : ℕ) → same_owner a (o.Class c) ≡ true → a ≡ o.Class c
owner_is o.Whole c h = cc
owner_is (o.Class d) c h = ap (λ (i : ℕ). o.Class i) (eqb-true d c h)

owner_same : (c : ℕ) → same_owner (o.Class c) (o.Class c) ≡ true
owner_same c = eq-eqb c c refl

-- What the headings say of a declaration: members stand once in their class, fields hide nothing, and methods hide no field.
module _ (k : Known) where
  abbrev pub SaneAs : DeclarationKind → Owner → ℕ → ℕ → Type 0
  SaneAs sort.Field (o.Class c) x d = (is_second k.entries d (o.Class c) x ≡ false) × (inherited k.entries k.classes c x ≡ None) × (c < length k.classes)
  SaneAs sort.Method (o.Class c) x d = (is_second k.entries d (o.Class c) x ≡ false) × (inherits_field k.entries k.classes c x ≡ false) × (c < length k.classes)
  SaneAs sort.Function (o.Class c) x d = ⊥
  SaneAs (sort.Global fixed) (o.Class c) x d = ⊥
  SaneAs (sort.Class i) (o.Class c) x d = ⊥
  SaneAs sort.Field o.Whole x d = ⊥
  SaneAs sort.Method o.Whole x d = ⊥
  SaneAs sort.Function o.Whole x d = Unit {0}
  SaneAs (sort.Global fixed) o.Whole x d = Unit {0}
  SaneAs (sort.Class i) o.Whole x d = i < length k.classes

  abbrev pub AreSane : Type 0
  AreSane = (d : ℕ) (a : Entry) → slice_get k.entries d ≡ Some a → SaneAs a.sort a.owner a.name d

  -- every chain of bases ends, and a base is a class
  pub record AreChained : Type 0 where
    pub ends : (c : ℕ) → c < length k.classes → above k.classes (length k.classes) c ≡ None
    pub bases : (c b : ℕ) → base_of k.classes c ≡ Some b → b < length k.classes

  module _ (sane : AreSane) (chained : AreChained) where
    abbrev number_of : ℕ → ℕ → Option ℕ
    number_of c x = entry_number k.entries (o.Class c) x

    -- a member's own declaration
    pub own_number : (d c x : ℕ) (a : Entry) → slice_get k.entries d ≡ Some a → a.owner ≡ o.Class c → a.name ≡ x → number_of c x ≡ Some d
    own_number d c x a h q r =
        let second : (s : DeclarationKind) → SaneAs s (o.Class c) x d → is_second k.entries d (o.Class c) x ≡ false =
        λ s. elim s as (λ y. SaneAs y (o.Class c) x d → is_second k.entries d (o.Class c) x ≡ false) [
          | sort.Field ↦ (λ z. z.0)
          | sort.Method ↦ (λ z. z.0)
          | sort.Function ↦ (λ z. absurd z)
          | sort.Global fixed ↦ (λ z. absurd z)
          | sort.Class i ↦ (λ z. absurd z)
        ] in
        let here : SaneAs a.sort (o.Class c) x d = subst (λ (w : Owner). SaneAs a.sort w x d) q (subst (λ (y : ℕ). SaneAs a.sort a.owner y d) r (sane d a h)) in
        let test : declares (o.Class c) x a ≡ true =
        ap (λ (w : Owner). same_owner w (o.Class c) && (a.name == x)) q ∙ ap (λ (b : Bool). b && (a.name == x)) (owner_same c) ∙ eq-eqb a.name x r in
        position_first (declares (o.Class c) x) 0 k.entries d a h test (not_some (entry_number (take d k.entries) (o.Class c) x) (second a.sort here)) ∙ ap (λ (i : ℕ). Some i) (let z : 0 + d ≡ d = omega arith in z)

    pub number_own : (c x d : ℕ) → number_of c x ≡ Some d → (a : Entry) × (slice_get k.entries d ≡ Some a) × (a.owner ≡ o.Class c) × (a.name ≡ x)
    number_own c x d h =
        let (i, at, a, is, test) = position_is (declares (o.Class c) x) 0 k.entries d h in
        let (p, q) = both_true (same_owner a.owner (o.Class c)) (a.name == x) test in
        (a, ap (λ (j : ℕ). slice_get k.entries j) (at ∙ (let z : 0 + i ≡ i = omega arith in z)) ∙ is, owner_is a.owner c p, eqb-true a.name x q)

    pub sort_there : (d : ℕ) (a : Entry) → slice_get k.entries d ≡ Some a → sort_of k.entries d ≡ Some a.sort
    sort_there d a h = let F : Option Entry → Option DeclarationKind = λ x. elim x [ None ↦ None | Some e ↦ Some e.sort ] in ap F h

    -- a declaration of a class is one of an existing class
    pub class_within : (d c : ℕ) (a : Entry) → slice_get k.entries d ≡ Some a → a.owner ≡ o.Class c → c < length k.classes
    class_within d c a h q =
        let go : (s : DeclarationKind) → SaneAs s (o.Class c) a.name d → c < length k.classes =
        λ s. elim s as (λ y. SaneAs y (o.Class c) a.name d → c < length k.classes) [
          | sort.Field ↦ (λ z. z.2)
          | sort.Method ↦ (λ z. z.2)
          | sort.Function ↦ (λ z. absurd z)
          | sort.Global fixed ↦ (λ z. absurd z)
          | sort.Class i ↦ (λ z. absurd z)
        ] in
        go a.sort (subst (λ (w : Owner). SaneAs a.sort w a.name d) q (sane d a h))

    -- and so is one that is declared
    pub class_there : (d c : ℕ) (a : Entry) → slice_get k.entries d ≡ Some a → a.sort ≡ sort.Class c → c < length k.classes
    class_there d c a h s =
        let go : (w : Owner) → SaneAs (sort.Class c) w a.name d → c < length k.classes = λ w. elim w as (λ y. SaneAs (sort.Class c) y a.name d → c < length k.classes) [ o.Whole ↦ (λ z. z) | o.Class i ↦ (λ z. absurd z) ] in
        go a.owner (subst (λ (y : DeclarationKind). SaneAs y a.owner a.name d) s (sane d a h))

    -- names of a class's own members
    module _ (W : Option DeclarationKind → Bool) where
      own_listed : (es : List Entry) (c x : ℕ) → is_listed (own_names W es c) x ≡ true → (i : ℕ) × (a : Entry) × (slice_get es i ≡ Some a) × (a.owner ≡ o.Class c) × (W (Some a.sort) ≡ true) × (a.name ≡ x)
      own_listed [] c x h = cc
      own_listed (e ∷ rest) c x h =
          let R : Type 0 = (i : ℕ) × (a : Entry) × (slice_get (e ∷ rest) i ≡ Some a) × (a.owner ≡ o.Class c) × (W (Some a.sort) ≡ true) × (a.name ≡ x) in
          let later : is_listed (own_names W rest c) x ≡ true → R = λ q. let (i, a, is, w, y, z) = own_listed rest c x q in (suc i, a, is, w, y, z) in
          let inner : (b : Bool) → same_owner e.owner (o.Class c) ≡ true → W (Some e.sort) ≡ b → is_listed (elim b [ true ↦ e.name ∷ own_names W rest c | false ↦ own_names W rest c ]) x ≡ true → R =
          λ b. elim b as (λ y. same_owner e.owner (o.Class c) ≡ true → W (Some e.sort) ≡ y → is_listed (elim y [ true ↦ e.name ∷ own_names W rest c | false ↦ own_names W rest c ]) x ≡ true → R) [
            | true ↦ (λ p w q. elim (either_true (e.name == x) (is_listed (own_names W rest c) x) q) [ inl r ↦ (0, e, refl, owner_is e.owner c p, w, eqb-true e.name x r) | inr r ↦ later r ])
            | false ↦ (λ p w q. later q)
          ] in
          let outer : (b : Bool) → same_owner e.owner (o.Class c) ≡ b → is_listed (elim b [ true ↦ elim (W (Some e.sort)) [ true ↦ e.name ∷ own_names W rest c | false ↦ own_names W rest c ] | false ↦ own_names W rest c ]) x ≡ true → R =
          λ b. elim b as (λ y. same_owner e.owner (o.Class c) ≡ y → is_listed (elim y [ true ↦ elim (W (Some e.sort)) [ true ↦ e.name ∷ own_names W rest c | false ↦ own_names W rest c ] | false ↦ own_names W rest c ]) x ≡ true → R) [
            | true ↦ (λ p q. inner (W (Some e.sort)) p refl q)
            | false ↦ (λ p q. later q)
          ] in
          outer (same_owner e.owner (o.Class c)) refl h

      listed_own : (es : List Entry) (c x i : ℕ) (a : Entry) → slice_get es i ≡ Some a → a.owner ≡ o.Class c → W (Some a.sort) ≡ true → a.name ≡ x → is_listed (own_names W es c) x ≡ true
      listed_own [] c x i a h p w n = cc
      listed_own (e ∷ rest) c x zero a h p w n =
          let ea : e ≡ a = cc in
          let pe : same_owner e.owner (o.Class c) ≡ true = ap (λ (y : Entry). same_owner y.owner (o.Class c)) ea ∙ ap (λ (y : Owner). same_owner y (o.Class c)) p ∙ owner_same c in
          let we : W (Some e.sort) ≡ true = ap (λ (y : Entry). W (Some y.sort)) ea ∙ w in
          let ne : (e.name == x) ≡ true = eq-eqb e.name x (ap (λ (y : Entry). y.name) ea ∙ n) in
          let here : is_listed (e.name ∷ own_names W rest c) x ≡ true = ap (λ (b : Bool). b || is_listed (own_names W rest c) x) ne in
          let F : Bool → Bool → List ℕ = λ b d. elim b [ true ↦ elim d [ true ↦ e.name ∷ own_names W rest c | false ↦ own_names W rest c ] | false ↦ own_names W rest c ] in
          subst (λ (b : Bool). is_listed (F b (W (Some e.sort))) x ≡ true) (sym pe) (subst (λ (d : Bool). is_listed (F true d) x ≡ true) (sym we) here)
      listed_own (e ∷ rest) c x (suc i) a h p w n =
          let later = listed_own rest c x i a h p w n in
          let F : Bool → Bool → List ℕ = λ b d. elim b [ true ↦ elim d [ true ↦ e.name ∷ own_names W rest c | false ↦ own_names W rest c ] | false ↦ own_names W rest c ] in
          let go : (b d : Bool) → is_listed (F b d) x ≡ true = λ b d. elim b as (λ y. is_listed (F y d) x ≡ true) [
            | true ↦ elim d as (λ z. is_listed (F true z) x ≡ true) [ true ↦ or_right (e.name == x) (is_listed (own_names W rest c) x) later | false ↦ later ]
            | false ↦ later
          ] in
          go (same_owner e.owner (o.Class c)) (W (Some e.sort))

    members_stay : (n c x : ℕ) → above k.classes n c ≡ None → member_from k.entries k.classes n c x ≡ member_from k.entries k.classes (suc n) c x
    members_stay zero c x h = cc
    members_stay (suc n) c x h =
        let F : (ℕ → Option ℕ) → Option ℕ → Option ℕ = λ f y. elim (number_of c x) [ Some d ↦ Some d | None ↦ elim y [ None ↦ None | Some b ↦ f b ] ] in
        let G : Option ℕ → Option ℕ = λ y. elim y [ None ↦ None | Some b ↦ above k.classes n b ] in
        let H : Option ℕ → Option ℕ → Option ℕ = λ y z. elim y [ Some d ↦ Some d | None ↦ z ] in
        let go : (y : Option ℕ) → G y ≡ None → F (λ b. member_from k.entries k.classes n b x) y ≡ F (λ b. member_from k.entries k.classes (suc n) b x) y =
        λ y. elim y as (λ z. G z ≡ None → F (λ b. member_from k.entries k.classes n b x) z ≡ F (λ b. member_from k.entries k.classes (suc n) b x) z) [
          | None ↦ (λ q. refl)
          | Some b ↦ (λ q. ap (λ (z : Option ℕ). H (number_of c x) z) (members_stay n b x q))
        ] in
        go (base_of k.classes c) h

    -- a member is the class's own, or its base's
    pub number_step : (c b x : ℕ) → c < length k.classes → base_of k.classes c ≡ Some b
        → member_number k.entries k.classes c x ≡ elim (number_of c x) [ Some d ↦ Some d | None ↦ member_number k.entries k.classes b x ]
    number_step c b x near q =
        let (l, many) = some_many k.classes c near in
        let none_so : above k.classes (suc l) c ≡ None = ap (λ (i : ℕ). above k.classes i c) (sym many) ∙ chained.ends c near in
        let H : Option ℕ → Option ℕ = λ z. elim (number_of c x) [ Some d ↦ Some d | None ↦ z ] in
        let G : Option ℕ → Option ℕ = λ y. elim y [ None ↦ None | Some i ↦ member_from k.entries k.classes l i x ] in
        ap (λ (i : ℕ). member_from k.entries k.classes i c x) many ∙ ap H (ap G q ∙ members_stay l b x (above_base k.classes l c b q none_so) ∙ ap (λ (i : ℕ). member_from k.entries k.classes i b x) (sym many))

    pub number_top : (c x : ℕ) → c < length k.classes → base_of k.classes c ≡ None → member_number k.entries k.classes c x ≡ number_of c x
    number_top c x near q =
        let (l, many) = some_many k.classes c near in
        let H : Option ℕ → Option ℕ = λ z. elim (number_of c x) [ Some d ↦ Some d | None ↦ z ] in
        let G : Option ℕ → Option ℕ = λ y. elim y [ None ↦ None | Some i ↦ member_from k.entries k.classes l i x ] in
        let last : (z : Option ℕ) → elim z [ Some d ↦ Some d | None ↦ None ] ≡ z = λ z. elim z as (λ y. elim y [ Some d ↦ Some d | None ↦ None ] ≡ y) [ Some d ↦ refl | None ↦ refl ] in
        ap (λ (i : ℕ). member_from k.entries k.classes i c x) many ∙ ap H (ap G q) ∙ last (number_of c x)

    pub own_member : (c x d : ℕ) → c < length k.classes → number_of c x ≡ Some d → member_number k.entries k.classes c x ≡ Some d
    own_member c x d near q =
        let (l, many) = some_many k.classes c near in
        let H : Option ℕ → Option ℕ = λ y. elim y [ Some i ↦ Some i | None ↦ elim (base_of k.classes c) [ None ↦ None | Some b ↦ member_from k.entries k.classes l b x ] ] in
        ap (λ (i : ℕ). member_from k.entries k.classes i c x) many ∙ ap H q

    module _ (W : Option DeclarationKind → Bool) where
      abbrev names_of : ℕ → List ℕ
      names_of c = names_from W k (length k.classes) c

      pub names_step : (c b : ℕ) → c < length k.classes → base_of k.classes c ≡ Some b → names_of c ≡ added (names_of b) (own_names W k.entries c)
      names_step c b near q = names_of_base k W c near b (chained.ends c near) q

      pub names_top : (c : ℕ) → c < length k.classes → base_of k.classes c ≡ None → names_of c ≡ own_names W k.entries c
      names_top c near q = names_of_top k W c near q

      -- a member of that sort has its name among them
      number_listed : (n c x d : ℕ) (a : Entry) → above k.classes n c ≡ None → c < length k.classes → member_number k.entries k.classes c x ≡ Some d → slice_get k.entries d ≡ Some a → W (Some a.sort) ≡ true → is_listed (names_of c) x ≡ true
      number_listed zero c x d a e near h q w = cc
      number_listed (suc n) c x d a e near h q w =
          let own_case : number_of c x ≡ Some d → is_listed (own_names W k.entries c) x ≡ true = λ r.
          let (a', is, owner, name) = number_own c x d r in
          let same : a' ≡ a = (let z : Some a' ≡ Some a = sym is ∙ q in cc) in
          listed_own W k.entries c x d a q (ap (λ (y : Entry). y.owner) (sym same) ∙ owner) w (ap (λ (y : Entry). y.name) (sym same) ∙ name) in
          some_or_none (is_listed (names_of c) x ≡ true) (base_of k.classes c)
          (λ b qb. some_or_none (is_listed (names_of c) x ≡ true) (number_of c x)
          (λ d' r. let dd : d' ≡ d = (let H : Option ℕ → Option ℕ = λ y. elim y [ Some i ↦ Some i | None ↦ member_number k.entries k.classes b x ] in let z : Some d' ≡ Some d = sym (number_step c b x near qb ∙ ap H r) ∙ h in cc) in
          subst (λ (xs : List ℕ). is_listed xs x ≡ true) (sym (names_step c b near qb)) (added_right (names_of b) (own_names W k.entries c) x (own_case (r ∙ ap (λ (i : ℕ). Some i) dd))))
          (λ r. let H : Option ℕ → Option ℕ = λ y. elim y [ Some i ↦ Some i | None ↦ member_number k.entries k.classes b x ] in
          let from_base : member_number k.entries k.classes b x ≡ Some d = sym (number_step c b x near qb ∙ ap H r) ∙ h in
          subst (λ (xs : List ℕ). is_listed xs x ≡ true) (sym (names_step c b near qb))
          (added_left (names_of b) (own_names W k.entries c) x (number_listed n b x d a (above_base k.classes n c b qb e) (chained.bases c b qb) from_base q w))))
          (λ qn. subst (λ (xs : List ℕ). is_listed xs x ≡ true) (sym (names_top c near qn)) (own_case (sym (number_top c x near qn) ∙ h)))

      pub member_listed : (c x d : ℕ) (a : Entry) → c < length k.classes → member_number k.entries k.classes c x ≡ Some d → slice_get k.entries d ≡ Some a → W (Some a.sort) ≡ true → is_listed (names_of c) x ≡ true
      member_listed c x d a near h q w = number_listed (length k.classes) c x d a (chained.ends c near) near h q w

      -- A member of that sort is hidden only by one of that sort.
      abbrev pub Keeps : Type 0
      Keeps = (c b x d d' : ℕ) (a a' : Entry) → base_of k.classes c ≡ Some b → number_of c x ≡ Some d → slice_get k.entries d ≡ Some a → member_number k.entries k.classes b x ≡ Some d' → slice_get k.entries d' ≡ Some a' → W (Some a'.sort) ≡ true → W (Some a.sort) ≡ true

      module _ (keeps : Keeps) where
        -- a name among them stands for a member of that sort
        listed_number : (n c x : ℕ) → above k.classes n c ≡ None → c < length k.classes → is_listed (names_of c) x ≡ true → (d : ℕ) × (a : Entry) × (member_number k.entries k.classes c x ≡ Some d) × (slice_get k.entries d ≡ Some a) × (W (Some a.sort) ≡ true)
        listed_number zero c x e near h = cc
        listed_number (suc n) c x e near h =
            let R : Type 0 = (d : ℕ) × (a : Entry) × (member_number k.entries k.classes c x ≡ Some d) × (slice_get k.entries d ≡ Some a) × (W (Some a.sort) ≡ true) in
            let own_case : is_listed (own_names W k.entries c) x ≡ true → R = λ q.
            let (i, a, is, owner, w, name) = own_listed W k.entries c x q in
            (i, a, own_member c x i near (own_number i c x a is owner name), is, w) in
            some_or_none R (base_of k.classes c)
            (λ b qb. elim (added_cases (names_of b) (own_names W k.entries c) x (subst (λ (xs : List ℕ). is_listed xs x ≡ true) (names_step c b near qb) h)) [
              | inl q ↦ (let (d', a', m', is', w') = listed_number n b x (above_base k.classes n c b qb e) (chained.bases c b qb) q in
                  some_or_none R (number_of c x)
                  (λ d r. let (a, is, owner, name) = number_own c x d r in (d, a, own_member c x d near r, is, keeps c b x d d' a a' qb r is m' is' w'))
                  (λ r. let H : Option ℕ → Option ℕ = λ y. elim y [ Some i ↦ Some i | None ↦ member_number k.entries k.classes b x ] in (d', a', number_step c b x near qb ∙ ap H r ∙ m', is', w')))
              | inr q ↦ own_case q
            ])
            (λ qn. own_case (subst (λ (xs : List ℕ). is_listed xs x ≡ true) (names_top c near qn) h))

        pub listed_member : (c x : ℕ) → c < length k.classes → is_listed (names_of c) x ≡ true → (d : ℕ) × (a : Entry) × (member_number k.entries k.classes c x ≡ Some d) × (slice_get k.entries d ≡ Some a) × (W (Some a.sort) ≡ true)
        listed_member c x near h = listed_number (length k.classes) c x (chained.ends c near) near h

    -- fields and methods keep their sort
    inherited_is : (c b x : ℕ) → base_of k.classes c ≡ Some b → inherited k.entries k.classes c x ≡ member_number k.entries k.classes b x
    inherited_is c b x q = let G : Option ℕ → Option ℕ = λ y. elim y [ None ↦ None | Some i ↦ member_number k.entries k.classes i x ] in ap G q

    pub own_field_alone : (c b x d d' : ℕ) (a : Entry) → base_of k.classes c ≡ Some b → number_of c x ≡ Some d → slice_get k.entries d ≡ Some a → a.sort ≡ sort.Field → member_number k.entries k.classes b x ≡ Some d' → ⊥
    own_field_alone c b x d d' a qb r is s m =
        let (a1, is1, owner, name) = number_own c x d r in
        let same : a1 ≡ a = (let z : Some a1 ≡ Some a = sym is1 ∙ is in cc) in
        let here : SaneAs sort.Field (o.Class c) x d =
        subst (λ (w : Owner). SaneAs sort.Field w x d) (ap (λ (y : Entry). y.owner) (sym same) ∙ owner) (subst (λ (y : ℕ). SaneAs sort.Field a.owner y d) (ap (λ (y : Entry). y.name) (sym same) ∙ name) (subst (λ (y : DeclarationKind). SaneAs y a.owner a.name d) s (sane d a is))) in
        let z : None ≡ Some d' = sym here.1 ∙ inherited_is c b x qb ∙ m in cc

    pub own_method_hides : (c b x d d' : ℕ) (a a' : Entry) → base_of k.classes c ≡ Some b → number_of c x ≡ Some d → slice_get k.entries d ≡ Some a → a.sort ≡ sort.Method → member_number k.entries k.classes b x ≡ Some d' → slice_get k.entries d' ≡ Some a' → a'.sort ≡ sort.Field → ⊥
    own_method_hides c b x d d' a a' qb r is s m is' s' =
        let (a1, is1, owner, name) = number_own c x d r in
        let same : a1 ≡ a = (let z : Some a1 ≡ Some a = sym is1 ∙ is in cc) in
        let here : SaneAs sort.Method (o.Class c) x d =
        subst (λ (w : Owner). SaneAs sort.Method w x d) (ap (λ (y : Entry). y.owner) (sym same) ∙ owner) (subst (λ (y : ℕ). SaneAs sort.Method a.owner y d) (ap (λ (y : Entry). y.name) (sym same) ∙ name) (subst (λ (y : DeclarationKind). SaneAs y a.owner a.name d) s (sane d a is))) in
        let F : Option ℕ → Bool = λ y. elim y [ None ↦ false | Some i ↦ is_field (sort_of k.entries i) ] in
        let yes' : inherits_field k.entries k.classes c x ≡ true = ap F (inherited_is c b x qb ∙ m) ∙ ap is_field (sort_there d' a' is' ∙ ap (λ (y : DeclarationKind). Some y) s') in
        let z : true ≡ false = sym yes' ∙ here.1 in cc

    pub field_is : (s : DeclarationKind) → is_field (Some s) ≡ true → s ≡ sort.Field
    field_is sort.Field h = refl
    field_is sort.Method h = cc
    field_is sort.Function h = cc
    field_is (sort.Global fixed) h = cc
    field_is (sort.Class i) h = cc

    pub method_is : (s : DeclarationKind) → is_method (Some s) ≡ true → s ≡ sort.Method
    method_is sort.Method h = refl
    method_is sort.Field h = cc
    method_is sort.Function h = cc
    method_is (sort.Global fixed) h = cc
    method_is (sort.Class i) h = cc

    -- a class declares fields and methods alone
    pub member_sort : (d c x : ℕ) (a : Entry) → number_of c x ≡ Some d → slice_get k.entries d ≡ Some a → (a.sort ≡ sort.Field) ⊎ (a.sort ≡ sort.Method)
    member_sort d c x a r is =
        let (a1, is1, owner, name) = number_own c x d r in
        let same : a1 ≡ a = (let z : Some a1 ≡ Some a = sym is1 ∙ is in cc) in
        let go : (s : DeclarationKind) → SaneAs s (o.Class c) a.name d → (s ≡ sort.Field) ⊎ (s ≡ sort.Method) =
        λ s. elim s as (λ y. SaneAs y (o.Class c) a.name d → (y ≡ sort.Field) ⊎ (y ≡ sort.Method)) [
          | sort.Field ↦ (λ z. inl refl)
          | sort.Method ↦ (λ z. inr refl)
          | sort.Function ↦ (λ z. absurd z)
          | sort.Global fixed ↦ (λ z. absurd z)
          | sort.Class i ↦ (λ z. absurd z)
        ] in
        go a.sort (subst (λ (w : Owner). SaneAs a.sort w a.name d) (ap (λ (y : Entry). y.owner) (sym same) ∙ owner) (sane d a is))

    pub fields_keep : Keeps is_field
    fields_keep c b x d d' a a' qb r is m is' w = elim (member_sort d c x a r is) [
      | inl s ↦ ap (λ (y : DeclarationKind). is_field (Some y)) s
      | inr s ↦ absurd (own_method_hides c b x d d' a a' qb r is s m is' (field_is a'.sort w))
    ]

    pub methods_keep : Keeps is_method
    methods_keep c b x d d' a a' qb r is m is' w = elim (member_sort d c x a r is) [
      | inl s ↦ absurd (own_field_alone c b x d d' a qb r is s m)
      | inr s ↦ ap (λ (y : DeclarationKind). is_method (Some y)) s
    ]

    -- a member is declared in the class or in one above it
    pub reached : (P : (ℕ → ℕ → Type 0)) → ((c : ℕ) → P c c) → ((c b x : ℕ) → base_of k.classes c ≡ Some b → P b x → P c x)
        → (c x d : ℕ) (a : Entry) → c < length k.classes → member_number k.entries k.classes c x ≡ Some d → slice_get k.entries d ≡ Some a → (i : ℕ) × (a.owner ≡ o.Class i) × P c i
    reached P here up c x d a near h is =
        let go : (n j : ℕ) → above k.classes n j ≡ None → j < length k.classes → member_number k.entries k.classes j x ≡ Some d → (i : ℕ) × (a.owner ≡ o.Class i) × P j i =
        λ n. elim n as (λ m. (j : ℕ) → above k.classes m j ≡ None → j < length k.classes → member_number k.entries k.classes j x ≡ Some d → (i : ℕ) × (a.owner ≡ o.Class i) × P j i) [
          | zero ↦ (λ j e l m. cc)
          | suc (n' → ih) ↦ (λ j e l m.
              let R : Type 0 = (i : ℕ) × (a.owner ≡ o.Class i) × P j i in
              let own_case : number_of j x ≡ Some d → R = λ r.
              let (a1, is1, owner, name) = number_own j x d r in
              let same : a1 ≡ a = (let z : Some a1 ≡ Some a = sym is1 ∙ is in cc) in
              (j, ap (λ (y : Entry). y.owner) (sym same) ∙ owner, here j) in
              some_or_none R (base_of k.classes j)
              (λ b qb. let H : Option ℕ → Option ℕ = λ y. elim y [ Some i ↦ Some i | None ↦ member_number k.entries k.classes b x ] in
              some_or_none R (number_of j x)
              (λ d' r. let dd : d' ≡ d = (let z : Some d' ≡ Some d = sym (number_step j b x l qb ∙ ap H r) ∙ m in cc) in own_case (r ∙ ap (λ (i : ℕ). Some i) dd))
              (λ r. let (i, q, p) = ih b (above_base k.classes n' j b qb e) (chained.bases j b qb) (sym (number_step j b x l qb ∙ ap H r) ∙ m) in (i, q, up j b i qb p)))
              (λ qn. own_case (sym (number_top j x l qn) ∙ m)))
        ] in
        go (length k.classes) c (chained.ends c near) near h
