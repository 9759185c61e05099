-- Chains of bases: one of as many classes as there are comes back.
use Rattle.std.proofs.Common.{◌≡◌, ℕ, zero, suc, ◌+◌, ◌-◌, ◌<◌, ◌≤◌, refl, sym, ap, ◌∙◌, Bool, true, false, Option, Some, None, List, [], ◌∷◌, length, arith, leb-true, leb-false}
use Rattle.std.specs.Prelude.{slice_get, is_some, nat_le}
use Rattle.std.proofs.lemmas.Option.{same_Some, slice_get_within}
use Rattle.sts_scope.specs.declared.entries.ClassHead.{ClassHead}
use Rattle.sts_scope.specs.Bases.{above, is_endless}
use Rattle.sts_scope.specs.Lookup.{base_of}
use Rattle.typed_laws.specs.Chains.{BasesAreClasses, ComesBack}
use Rattle.typed_laws.proofs.Searching.{some_or_none}
use Rattle.typed_laws.proofs.Pigeons.{one_twice}

module _ (classes : List ClassHead) where
  abbrev L : ℕ
  L = length classes

  -- where there is a class, there are some
  pub some_many : (c : ℕ) → c < L → (l : ℕ) × (L ≡ suc l)
  some_many c h =
      let go : (n : ℕ) → c < n → (l : ℕ) × (n ≡ suc l) = λ n. elim n as (λ m. c < m → (l : ℕ) × (m ≡ suc l)) [ zero ↦ (λ q. absurd (omega arith)) | suc l ↦ (λ q. (l, refl)) ] in
      go L h

  -- so many steps up from a base, if there is one
  abbrev pub up : ℕ → Option ℕ → Option ℕ
  up n base = elim base [ None ↦ None | Some b ↦ above classes n b ]

  pub based_within : (c b : ℕ) → base_of classes c ≡ Some b → c < L
  based_within c b h =
      let F : Option ClassHead → Option ℕ = λ x. elim x [ None ↦ None | Some class ↦ class.base ] in
      some_or_none (c < L) (slice_get classes c) (λ class q. slice_get_within classes c class q) (λ q. let z : None ≡ Some b = sym (ap F q) ∙ h in cc)

  pub step_up : (n c a : ℕ) → above classes (suc n) c ≡ Some a → (b : ℕ) × (base_of classes c ≡ Some b) × (above classes n b ≡ Some a)
  step_up n c a h = some_or_none ((b : ℕ) × (base_of classes c ≡ Some b) × (above classes n b ≡ Some a)) (base_of classes c)
      (λ b q. (b, q, sym (ap (up n) q) ∙ h))
      (λ q. let z : None ≡ Some a = sym (ap (up n) q) ∙ h in cc)

  pub above_more : (n i c a : ℕ) → above classes n c ≡ Some a → above classes (n + i) c ≡ above classes i a
  above_more zero i c a h = let z : zero + i ≡ i = omega arith in ap (λ (j : ℕ). above classes j c) z ∙ ap (up i) h
  above_more (suc n) i c a h =
      let (b, q, r) = step_up n c a h in
      let z : suc n + i ≡ suc (n + i) = omega arith in
      ap (λ (j : ℕ). above classes j c) z ∙ ap (up (n + i)) q ∙ above_more n i b a r

  pub above_none : (n i c : ℕ) → above classes n c ≡ None → above classes (n + i) c ≡ None
  above_none zero i c h = cc
  above_none (suc n) i c h =
      let z : suc n + i ≡ suc (n + i) = omega arith in
      ap (λ (j : ℕ). above classes j c) z ∙ some_or_none (above classes (suc (n + i)) c ≡ None) (base_of classes c)
      (λ b q. ap (up (n + i)) q ∙ above_none n i b (sym (ap (up n) q) ∙ h))
      (λ q. ap (up (n + i)) q)

  above_fewer : (m i c a : ℕ) → above classes (m + i) c ≡ Some a → (b : ℕ) × (above classes m c ≡ Some b)
  above_fewer m i c a h = some_or_none ((b : ℕ) × (above classes m c ≡ Some b)) (above classes m c)
      (λ b q. (b, q))
      (λ q. let z : None ≡ Some a = sym (above_none m i c q) ∙ h in cc)

  pub above_base : (n c b : ℕ) → base_of classes c ≡ Some b → above classes (suc n) c ≡ None → above classes n b ≡ None
  above_base n c b q h = sym (ap (up n) q) ∙ h

  -- above a class that is above itself stands one after each number of steps
  back_case : (n c : ℕ) → above classes (suc n) c ≡ Some c → (fuel j : ℕ) → j ≤ suc fuel → above classes j c ≡ None → (b : Bool) → nat_le j (suc n) ≡ b → ((i : ℕ) → i ≤ fuel → above classes i c ≡ None → ⊥) → ⊥
  back_case n c h fuel j near q true r more =
      let le : j ≤ suc n = leb-true j (suc n) r in
      let z : j + (suc n - j) ≡ suc n = omega arith in
      let y : None ≡ Some c = sym (ap (λ (i : ℕ). above classes i c) (sym z) ∙ above_none j (suc n - j) c q) ∙ h in cc
  back_case n c h fuel j near q false r more =
      let gt : suc n < j = leb-false j (suc n) r in
      let z : suc n + (j - suc n) ≡ j = omega arith in
      let less : j - suc n ≤ fuel = omega arith in
      more (j - suc n) less (sym (above_more (suc n) (j - suc n) c c h) ∙ ap (λ (i : ℕ). above classes i c) z ∙ q)

  pub comes_back : (n c : ℕ) → above classes (suc n) c ≡ Some c → (fuel j : ℕ) → j ≤ fuel → above classes j c ≡ None → ⊥
  comes_back n c h zero j near q =
      let z : j ≡ 0 = omega arith in
      let r : Some c ≡ None = ap (λ (i : ℕ). above classes i c) (sym z) ∙ q in cc
  comes_back n c h (suc fuel) j near q = back_case n c h fuel j near q (nat_le j (suc n)) refl (comes_back n c h fuel)

  -- a class and n above it, or as many as there are
  abbrev chain : ℕ → ℕ → List ℕ
  chain zero c = c ∷ []
  chain (suc n) c = c ∷ elim (base_of classes c) [ None ↦ [] | Some b ↦ chain n b ]

  chain_length : (n c a : ℕ) → above classes n c ≡ Some a → length (chain n c) ≡ suc n
  chain_length zero c a h = refl
  chain_length (suc n) c a h =
      let (b, q, r) = step_up n c a h in
      let F : Option ℕ → List ℕ = λ x. elim x [ None ↦ [] | Some b ↦ chain n b ] in
      ap (λ x. suc (length (F x))) q ∙ ap suc (chain_length n b a r)

  chain_at : (n c m a : ℕ) → slice_get (chain n c) m ≡ Some a → (m ≤ n) × (above classes m c ≡ Some a)
  chain_at zero c zero a h = (omega arith, h)
  chain_at zero c (suc m) a h = cc
  chain_at (suc n) c zero a h = (omega arith, h)
  chain_at (suc n) c (suc m) a h =
      let F : Option ℕ → Option ℕ = λ x. slice_get (elim x [ None ↦ [] | Some b ↦ chain n b ]) m in
      some_or_none ((suc m ≤ suc n) × (above classes (suc m) c ≡ Some a)) (base_of classes c)
      (λ b q. let (le, at) = chain_at n b m a (sym (ap F q) ∙ h) in (omega arith, ap (up m) q ∙ at))
      (λ q. let z : None ≡ Some a = sym (ap F q) ∙ h in cc)

  module _ (bases : BasesAreClasses classes) where
    pub above_within : (n c a : ℕ) → c < L → above classes n c ≡ Some a → a < L
    above_within zero c a near h = let z : c ≡ a = same_Some c a h in omega arith
    above_within (suc n) c a near h = let (b, q, r) = step_up n c a h in above_within n b a (bases c b q) r

    -- as many steps as there are classes come to one twice
    comes_twice : (n c a : ℕ) → c < L → L ≤ n → above classes n c ≡ Some a → (i j b : ℕ) × (i < j) × (j ≤ L) × (above classes i c ≡ Some b) × (above classes j c ≡ Some b)
    comes_twice n c a near long h =
        let z : L + (n - L) ≡ n = omega arith in
        let (last, is) = above_fewer L (n - L) c a (ap (λ (k : ℕ). above classes k c) z ∙ h) in
        let many : length (chain L c) ≡ suc L = chain_length L c last is in
        let (i, j, b, less, at_i, at_j) = one_twice (chain L c) L (omega (arith, many)) (λ m x q. let (le, at) = chain_at L c m x q in above_within m c x near at) in
        let (le_i, above_i) = chain_at L c i b at_i in
        let (le_j, above_j) = chain_at L c j b at_j in
        (i, j, b, less, le_j, above_i, above_j)

    -- what so many steps come to, fewer do
    pub above_sooner : (n c a : ℕ) → c < L → L ≤ n → above classes n c ≡ Some a → (m : ℕ) × (m < n) × (above classes m c ≡ Some a)
    above_sooner n c a near long h =
        let (i, j, b, less, le, at_i, at_j) = comes_twice n c a near long h in
        let z : j + (n - j) ≡ n = omega arith in
        (i + (n - j), omega arith, above_more i (n - j) c b at_i ∙ sym (above_more j (n - j) c b at_j) ∙ ap (λ (k : ℕ). above classes k c) z ∙ h)

    pub above_soon : (fuel n c a : ℕ) → n ≤ fuel → c < L → above classes n c ≡ Some a → (m : ℕ) × (m < L) × (above classes m c ≡ Some a)
    above_soon zero n c a enough near h = (n, omega arith, h)
    above_soon (suc fuel) n c a enough near h =
        let fewer = above_soon fuel in
        let go : (b : Bool) → nat_le L n ≡ b → (m : ℕ) × (m < L) × (above classes m c ≡ Some a) =
        λ b. elim b as (λ t. nat_le L n ≡ t → (m : ℕ) × (m < L) × (above classes m c ≡ Some a)) [
          | false ↦ (λ q. (n, leb-false L n q, h))
          | true ↦ (λ q. let (m, less, at) = above_sooner n c a near (leb-true L n q) h in fewer m c a (omega arith) near at)
        ] in
        go (nat_le L n) refl

    pub endless_comes_back : (c : ℕ) → c < L → is_endless classes c ≡ true → ComesBack classes c
    endless_comes_back c near h = some_or_none (ComesBack classes c) (above classes L c)
        (λ a q. let (i, j, b, less, le, at_i, at_j) = comes_twice L c a near (omega arith) q in
        let z : i + suc (j - suc i) ≡ j = omega arith in
        (b, (i, at_i), j - suc i, sym (above_more i (suc (j - suc i)) c b at_i) ∙ ap (λ (k : ℕ). above classes k c) z ∙ at_j))
        (λ q. let z : false ≡ true = sym (ap is_some q) ∙ h in cc)

    pub chain_ends : (c : ℕ) → c < L → (ComesBack classes c → ⊥) → above classes L c ≡ None
    chain_ends c near forward = some_or_none (above classes L c ≡ None) (above classes L c)
        (λ a q. absurd (forward (endless_comes_back c near (ap is_some q))))
        (λ q. q)

  pub back_is_endless : (c : ℕ) → ComesBack classes c → is_endless classes c ≡ true
  back_is_endless c (a, (n, at), m, back) = some_or_none (is_endless classes c ≡ true) (above classes L c)
      (λ b q. ap is_some q)
      (λ q. let z : L + n ≡ n + L = omega arith in
      absurd (comes_back m a back L L (omega arith) (sym (above_more n L c a at) ∙ ap (λ (k : ℕ). above classes k c) (sym z) ∙ above_none L n c q)))
