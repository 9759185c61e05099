-- What is asked of a class and those above it: as many steps as there are classes are enough.
use Rattle.std.proofs.Common.{◌≡◌, ℕ, zero, suc, ◌<◌, ◌≤◌, ◌==◌, ◌||◌, refl, sym, ap, ◌∙◌, Bool, true, false, Option, Some, None, List, [], length, arith, leb-true, leb-false, eqb-true, eq-eqb}
use Rattle.std.specs.Prelude.{slice_get, nat_le, unwrap_or}
use Rattle.std.proofs.lemmas.Option.{same_Some}
use Rattle.sts_scope.specs.declared.kinds.StaticType.{StaticType}
use Rattle.sts_scope.specs.declared.entries.Owner.TheVariants as o
use Rattle.sts_scope.specs.declared.entries.DeclarationKind.{DeclarationKind}
use Rattle.sts_scope.specs.declared.entries.Entry.{Entry}
use Rattle.sts_scope.specs.declared.entries.ClassHead.{ClassHead}
use Rattle.sts_scope.specs.declared.known.Known.{Known}
use Rattle.sts_scope.specs.Bases.{above}
use Rattle.sts_scope.specs.Lookup.{entry_number, base_of, member_from, member_number, inherited}
use Rattle.sts_scope.specs.Numbers.{own_names, added, names_from}
use Rattle.sts_scope.specs.Rules.{reaches, maker_from, maker_takes_of}
use Rattle.typed_laws.specs.Chains.{BasesAreClasses, HasAbove, ComesBack, IsNearest, IsMemberOf, own_maker_takes}
use Rattle.typed_laws.proofs.Searching.{some_or_none}
use Rattle.typed_laws.proofs.Chains.{up, some_many, based_within, step_up, above_base, above_sooner, above_soon, chain_ends}

module _ (classes : List ClassHead) where
  abbrev L : ℕ
  L = length classes

  -- the first that has something, of a class and so many above it
  module _ {A : Type 0} (has : ℕ → Option A) where
    abbrev nearest_from : ℕ → ℕ → Option A
    nearest_from zero c = None
    nearest_from (suc n) c = elim (has c) [ Some it ↦ Some it | None ↦ elim (base_of classes c) [ None ↦ None | Some b ↦ nearest_from n b ] ]

    abbrev asked : ℕ → Option A → Option ℕ → Option A
    asked n own base = elim own [ Some it ↦ Some it | None ↦ elim base [ None ↦ None | Some b ↦ nearest_from n b ] ]

    abbrev NoneBefore : ℕ → ℕ → Type 0
    NoneBefore c n = (m b : ℕ) → m < n → above classes m c ≡ Some b → has b ≡ None

    none_before : (c base n : ℕ) → has c ≡ None → base_of classes c ≡ Some base → NoneBefore base n → NoneBefore c (suc n)
    none_before c base n own q before zero b less at = ap has (sym (same_Some c b at)) ∙ own
    none_before c base n own q before (suc m) b less at = before m b (omega (arith, less)) (sym (ap (up classes m) q) ∙ at)

    from_is_nearest : (n c : ℕ) (it : A) → nearest_from n c ≡ Some it → IsNearest classes has c it
    from_is_nearest zero c it h = cc
    from_is_nearest (suc n) c it h = some_or_none (IsNearest classes has c it) (has c)
        (λ x q. (0, c, refl, q ∙ sym (ap (λ (y : Option A). asked n y (base_of classes c)) q) ∙ h, λ m b less at. absurd (omega (arith, less))))
        (λ q. some_or_none (IsNearest classes has c it) (base_of classes c)
        (λ base r. let (m, a, at, is, before) = from_is_nearest n base it (sym (ap (asked n None) r) ∙ sym (ap (λ (y : Option A). asked n y (base_of classes c)) q) ∙ h) in
        (suc m, a, ap (up classes m) r ∙ at, is, none_before c base m q r before))
        (λ r. let z : None ≡ Some it = sym (ap (asked n None) r) ∙ sym (ap (λ (y : Option A). asked n y (base_of classes c)) q) ∙ h in cc))

    nearest_is_from : (fuel n c a : ℕ) (it : A) → n < fuel → above classes n c ≡ Some a → has a ≡ Some it → NoneBefore c n → nearest_from fuel c ≡ Some it
    nearest_is_from zero n c a it enough at is before = absurd (omega (arith, enough))
    nearest_is_from (suc fuel) zero c a it enough at is before = ap (λ (y : Option A). asked fuel y (base_of classes c)) (ap has (same_Some c a at) ∙ is)
    nearest_is_from (suc fuel) (suc n) c a it enough at is before =
        let (base, q, rest) = step_up classes n c a at in
        ap (λ (y : Option A). asked fuel y (base_of classes c)) (before 0 c (omega arith) refl) ∙ ap (asked fuel None) q
        ∙ nearest_is_from fuel n base a it (omega (arith, enough)) rest is (λ m b less up_m. before (suc m) b (omega (arith, less)) (ap (up classes m) q ∙ up_m))

    -- so the nearest is fewer steps up than there are classes
    nearest_soon : BasesAreClasses classes → (n c a : ℕ) (it : A) → c < L → above classes n c ≡ Some a → has a ≡ Some it → NoneBefore c n → n < L
    nearest_soon bases n c a it near at is before =
        let go : (b : Bool) → nat_le L n ≡ b → n < L =
        λ b. elim b as (λ t. nat_le L n ≡ t → n < L) [
          | false ↦ (λ q. leb-false L n q)
          | true ↦ (λ q. let (m, less, at_m) = above_sooner classes bases n c a near (leb-true L n q) at in
              let z : Some it ≡ None = sym is ∙ before m a less at_m in cc)
        ] in
        go (nat_le L n) refl

    nearest_is : BasesAreClasses classes → (c : ℕ) (it : A) → c < L → IsNearest classes has c it → nearest_from L c ≡ Some it
    nearest_is bases c it near (n, a, at, is, before) = nearest_is_from L n c a it (nearest_soon bases n c a it near at is before) at is before

  -- members
  module _ (entries : List Entry) (x : ℕ) where
    abbrev own : ℕ → Option ℕ
    own c = entry_number entries (o.Class c) x

    member_nearest : (n c : ℕ) → member_from entries classes n c x ≡ nearest_from own n c
    member_nearest zero c = refl
    member_nearest (suc n) c =
        let F : Option ℕ → Option ℕ = λ rest. elim (own c) [ Some d ↦ Some d | None ↦ rest ] in
        let G : Option ℕ → Option ℕ = λ base. elim base [ None ↦ None | Some b ↦ member_from entries classes n b x ] in
        let H : Option ℕ → Option ℕ = λ base. elim base [ None ↦ None | Some b ↦ nearest_from own n b ] in
        ap F (some_or_none (G (base_of classes c) ≡ H (base_of classes c)) (base_of classes c)
        (λ b q. ap G q ∙ member_nearest n b ∙ sym (ap H q))
        (λ q. ap G q ∙ sym (ap H q)))

    pub member_is_nearest : (c d : ℕ) → member_number entries classes c x ≡ Some d → IsMemberOf entries classes c x d
    member_is_nearest c d h = from_is_nearest own L c d (sym (member_nearest L c) ∙ h)

    pub nearest_is_member : BasesAreClasses classes → (c d : ℕ) → c < L → IsMemberOf entries classes c x d → member_number entries classes c x ≡ Some d
    nearest_is_member bases c d near h = member_nearest L c ∙ nearest_is own bases c d near h

    abbrev of_base : Option ℕ → Option ℕ
    of_base base = elim base [ None ↦ None | Some b ↦ member_number entries classes b x ]

    pub inherited_is_nearest : (c d : ℕ) → inherited entries classes c x ≡ Some d → (b : ℕ) × (base_of classes c ≡ Some b) × IsMemberOf entries classes b x d
    inherited_is_nearest c d h = some_or_none ((b : ℕ) × (base_of classes c ≡ Some b) × IsMemberOf entries classes b x d) (base_of classes c)
        (λ b q. (b, q, member_is_nearest b d (sym (ap of_base q) ∙ h)))
        (λ q. let z : None ≡ Some d = sym (ap of_base q) ∙ h in cc)

    pub nearest_is_inherited : BasesAreClasses classes → (c d : ℕ) → ((b : ℕ) × (base_of classes c ≡ Some b) × IsMemberOf entries classes b x d) → inherited entries classes c x ≡ Some d
    nearest_is_inherited bases c d (b, q, h) = ap of_base q ∙ nearest_is_member bases b d (bases c b q) h

  -- classes that are reached
  pub reached_above : (n c a : ℕ) → reaches classes n c a ≡ true → HasAbove classes c a
  unfolding reaches
  reached_above zero c a h = (0, ap (λ (i : ℕ). Some i) (eqb-true c a h))
  reached_above (suc n) c a h =
      let F : Option ℕ → Bool = λ base. elim base [ None ↦ false | Some b ↦ reaches classes n b a ] in
      let go : (t : Bool) → (c == a) ≡ t → (t || F (base_of classes c)) ≡ true → HasAbove classes c a =
      λ t. elim t as (λ s. (c == a) ≡ s → (s || F (base_of classes c)) ≡ true → HasAbove classes c a) [
        | true ↦ (λ q r. (0, ap (λ (i : ℕ). Some i) (eqb-true c a q)))
        | false ↦ (λ q r. some_or_none (HasAbove classes c a) (base_of classes c)
            (λ b s. let (m, at) = reached_above n b a (sym (ap F s) ∙ r) in (suc m, ap (up classes m) s ∙ at))
            (λ s. let z : false ≡ true = sym (ap F s) ∙ r in cc))
      ] in
      go (c == a) refl h

  above_is_reached : (n m c a : ℕ) → m ≤ n → above classes m c ≡ Some a → reaches classes n c a ≡ true
  unfolding reaches
  above_is_reached zero zero c a enough at = eq-eqb c a (same_Some c a at)
  above_is_reached zero (suc m) c a enough at = absurd (omega (arith, enough))
  above_is_reached (suc n) zero c a enough at =
      let F : Option ℕ → Bool = λ base. elim base [ None ↦ false | Some b ↦ reaches classes n b a ] in
      ap (λ t. t || F (base_of classes c)) (eq-eqb c a (same_Some c a at))
  above_is_reached (suc n) (suc m) c a enough at =
      let F : Option ℕ → Bool = λ base. elim base [ None ↦ false | Some b ↦ reaches classes n b a ] in
      let (base, q, rest) = step_up classes m c a at in
      let later : F (base_of classes c) ≡ true = ap F q ∙ above_is_reached n m base a (omega (arith, enough)) rest in
      let go : (t : Bool) → (t || F (base_of classes c)) ≡ true = λ t. elim t as (λ s. (s || F (base_of classes c)) ≡ true) [ true ↦ refl | false ↦ later ] in
      go (c == a)

  pub above_reached : BasesAreClasses classes → (c a : ℕ) → HasAbove classes c a → reaches classes L c a ≡ true
  above_reached bases c a (zero, at) = above_is_reached L zero c a (omega arith) at
  above_reached bases c a (suc n, at) =
      let (base, q, rest) = step_up classes n c a at in
      let (m, less, at_m) = above_soon classes bases (suc n) (suc n) c a (omega arith) (based_within classes c base q) at in
      above_is_reached L m c a (omega (arith, less)) at_m

  -- what constructors take
  abbrev or_nothing : Option (List StaticType) → List StaticType
  or_nothing takes = unwrap_or takes []

  maker_nearest : (n c : ℕ) → maker_from classes n c ≡ or_nothing (nearest_from (own_maker_takes classes) n c)
  maker_nearest zero c = refl
  maker_nearest (suc n) c =
      let K : Option (List StaticType) → Option ℕ → List StaticType = λ own base. elim own [ Some takes ↦ takes | None ↦ elim base [ None ↦ [] | Some b ↦ maker_from classes n b ] ] in
      let N : Option (List StaticType) → Option ℕ → List StaticType = λ own base. or_nothing (asked (own_maker_takes classes) n own base) in
      let both : (own : Option (List StaticType)) (base : Option ℕ) → K own base ≡ N own base = λ own base. elim own as (λ y. K y base ≡ N y base) [
        | Some takes ↦ refl
        | None ↦ elim base as (λ z. K None z ≡ N None z) [ None ↦ refl | Some b ↦ maker_nearest n b ]
      ] in
      let E : Option ClassHead → List StaticType = λ x. elim x [ None ↦ [] | Some class ↦ K class.takes class.base ] in
      let W : Option ClassHead → Option (List StaticType) = λ x. elim x [ None ↦ None | Some class ↦ class.takes ] in
      let B : Option ClassHead → Option ℕ = λ x. elim x [ None ↦ None | Some class ↦ class.base ] in
      let go : (x : Option ClassHead) → E x ≡ N (W x) (B x) = λ x. elim x as (λ y. E y ≡ N (W y) (B y)) [ None ↦ refl | Some class ↦ both class.takes class.base ] in
      go (slice_get classes c)

  pub nearest_maker_takes : BasesAreClasses classes → (c : ℕ) (takes : List StaticType) → c < L → IsNearest classes (own_maker_takes classes) c takes → maker_takes_of classes c ≡ takes
  nearest_maker_takes bases c takes near h = maker_nearest L c ∙ ap or_nothing (nearest_is (own_maker_takes classes) bases c takes near h)

  pub no_maker_takes : (c : ℕ) → ((a : ℕ) → HasAbove classes c a → own_maker_takes classes a ≡ None) → maker_takes_of classes c ≡ []
  no_maker_takes c none = some_or_none (maker_takes_of classes c ≡ []) (nearest_from (own_maker_takes classes) L c)
      (λ takes q. let (n, a, at, is, before) = from_is_nearest (own_maker_takes classes) L c takes q in let z : None ≡ Some takes = sym (none a (n, at)) ∙ is in cc)
      (λ q. maker_nearest L c ∙ ap or_nothing q)

-- names of fields and slots
module _ (k : Known) (which : Option DeclarationKind → Bool) where
  names_stay : (n c : ℕ) → above k.classes n c ≡ None → names_from which k n c ≡ names_from which k (suc n) c
  names_stay zero c h = cc
  names_stay (suc n) c h =
      let F : (ℕ → List ℕ) → Option ℕ → List ℕ = λ f x. elim x [ None ↦ own_names which k.entries c | Some b ↦ added (f b) (own_names which k.entries c) ] in
      some_or_none (names_from which k (suc n) c ≡ names_from which k (suc (suc n)) c) (base_of k.classes c)
      (λ b q. ap (F (names_from which k n)) q ∙ ap (λ (xs : List ℕ). added xs (own_names which k.entries c)) (names_stay n b (above_base k.classes n c b q h)) ∙ sym (ap (F (names_from which k (suc n))) q))
      (λ q. ap (F (names_from which k n)) q ∙ sym (ap (F (names_from which k (suc n))) q))

  abbrev all_from : ℕ → List ℕ
  all_from c = names_from which k (length k.classes) c

  -- where the chain ends
  module _ (c : ℕ) (near : c < length k.classes) where
    pub names_of_base : (b : ℕ) → above k.classes (length k.classes) c ≡ None → base_of k.classes c ≡ Some b → all_from c ≡ added (all_from b) (own_names which k.entries c)
    names_of_base b ends q =
        let (l, many) = some_many k.classes c near in
        let ends_at : above k.classes (suc l) c ≡ None = ap (λ (i : ℕ). above k.classes i c) (sym many) ∙ ends in
        let G : Option ℕ → List ℕ = λ y. elim y [ None ↦ own_names which k.entries c | Some i ↦ added (names_from which k l i) (own_names which k.entries c) ] in
        ap (λ (i : ℕ). names_from which k i c) many ∙ ap G q
        ∙ ap (λ (xs : List ℕ). added xs (own_names which k.entries c)) (names_stay l b (above_base k.classes l c b q ends_at) ∙ ap (λ (i : ℕ). names_from which k i b) (sym many))

    pub names_of_top : base_of k.classes c ≡ None → all_from c ≡ own_names which k.entries c
    names_of_top q =
        let (l, many) = some_many k.classes c near in
        let G : Option ℕ → List ℕ = λ y. elim y [ None ↦ own_names which k.entries c | Some i ↦ added (names_from which k l i) (own_names which k.entries c) ] in
        ap (λ (i : ℕ). names_from which k i c) many ∙ ap G q

    abbrev behind : Option ℕ → List ℕ
    behind base = elim base [ None ↦ own_names which k.entries c | Some b ↦ added (all_from b) (own_names which k.entries c) ]

    pub names_behind_base : BasesAreClasses k.classes → (ComesBack k.classes c → ⊥) → all_from c ≡ behind (base_of k.classes c)
    names_behind_base bases forward = some_or_none (all_from c ≡ behind (base_of k.classes c)) (base_of k.classes c)
        (λ b q. names_of_base b (chain_ends k.classes bases c near forward) q ∙ sym (ap behind q))
        (λ q. names_of_top q ∙ sym (ap behind q))
