-- The least table of types is reached in rounds from the empty one.
use Rattle.std.proofs.Common.{◌≡◌, ℕ, zero, suc, ◌+◌, ◌<◌, ◌≤◌, refl, sym, ap, ◌∙◌, subst, Bool, true, false, Option, Some, None, List, [], ◌∷◌, length, arith, inl, inr, ltb-true, ltb-false}
use Rattle.std.specs.Prelude.{nat_lt, ◌⊎◌}
use Rattle.sts_base.specs.declared.tables.Tables.{Tables}
use Rattle.sts_syntax.specs.Programs.{Program}
use Rattle.sts_scope.specs.declared.kinds.StaticType.{StaticType}
use Rattle.sts_scope.specs.Scopes.{all_names}
use Rattle.type_derive.specs.Derived.{at, Less, Within, Solves, IsLeast, known, all_sources, derivation, AreDerived}
use Rattle.type_derive.proofs.ReturnsGrow.{rule_grows}

by_cases : (A : Type 0) (x : Bool) → (x ≡ true → A) → (x ≡ false → A) → A
by_cases A true f g = f refl
by_cases A false f g = g refl

-- a table of so many, from a place on
abbrev table : ℕ → ℕ → (ℕ → Option StaticType) → List (Option StaticType)
table zero j f = []
table (suc n) j f = f j ∷ table n (suc j) f

table_length : (n j : ℕ) (f : ℕ → Option StaticType) → length (table n j f) ≡ n
table_length zero j f = refl
table_length (suc n) j f = ap suc (table_length n (suc j) f)

table_at : (n j : ℕ) (f : ℕ → Option StaticType) (i : ℕ) → i < n → at (table n j f) i ≡ f (j + i)
table_at zero j f i h = absurd (omega arith)
table_at (suc n) j f zero h = ap f (let z : j ≡ j + zero = omega arith in z)
table_at (suc n) j f (suc i) h = table_at n (suc j) f i (omega arith) ∙ ap f (let z : suc j + i ≡ j + suc i = omega arith in z)

at_past : (xs : List (Option StaticType)) (i : ℕ) → length xs ≤ i → at xs i ≡ None
at_past [] i h = refl
at_past (x ∷ xs) zero h = absurd (omega arith)
at_past (x ∷ xs) (suc i) h = at_past xs i (omega arith)

-- how many have a type
abbrev one_if : Option StaticType → ℕ
one_if None = 0
one_if (Some u) = 1

abbrev many : List (Option StaticType) → ℕ
many [] = 0
many (x ∷ xs) = one_if x + many xs

many_le : (xs : List (Option StaticType)) → many xs ≤ length xs
many_le [] = omega arith
many_le (None ∷ xs) = omega (arith, many_le xs)
many_le (Some u ∷ xs) = omega (arith, many_le xs)

rest_within : (x y : Option StaticType) (xs ys : List (Option StaticType)) → Within (x ∷ xs) (y ∷ ys) → Within xs ys
rest_within x y xs ys h = λ d. h (suc d)

-- a table that has more is the same, or has more
grown : (xs ys : List (Option StaticType)) → length xs ≡ length ys → Within xs ys → (xs ≡ ys) ⊎ (many xs < many ys)
grown [] [] l h = inl refl
grown [] (y ∷ ys) l h = absurd (omega arith)
grown (x ∷ xs) [] l h = absurd (omega arith)
grown (None ∷ xs) (None ∷ ys) l h = elim (grown xs ys (omega arith) (rest_within None None xs ys h)) [ inl q ↦ inl (ap (λ (zs : List (Option StaticType)). None ∷ zs) q) | inr q ↦ inr (omega (arith, q)) ]
grown (None ∷ xs) (Some u ∷ ys) l h = elim (grown xs ys (omega arith) (rest_within None (Some u) xs ys h)) [
  | inl q ↦ inr (let z : many xs ≡ many ys = ap many q in omega (arith, z))
  | inr q ↦ inr (omega (arith, q))
]
grown (Some u ∷ xs) (None ∷ ys) l h = let z : None ≡ Some u = h 0 in cc
grown (Some u ∷ xs) (Some v ∷ ys) l h =
    let z : Some v ≡ Some u = h 0 in
    elim (grown xs ys (omega arith) (rest_within (Some u) (Some v) xs ys h)) [
      | inl q ↦ inl (ap (λ (o : Option StaticType). o ∷ xs) (sym z) ∙ ap (λ (zs : List (Option StaticType)). Some v ∷ zs) q)
      | inr q ↦ inr (omega (arith, q))
    ]

-- Rules that give no less where more is known.
module _ (n : ℕ) (f : List (Option StaticType) → ℕ → Option StaticType) (grows : (xs ys : List (Option StaticType)) → Within xs ys → (d : ℕ) → Less (f xs d) (f ys d)) where
  abbrev rounds : ℕ → List (Option StaticType)
  rounds zero = table n 0 (λ d. None)
  rounds (suc i) = table n 0 (f (rounds i))

  rounds_length : (i : ℕ) → length (rounds i) ≡ n
  rounds_length zero = table_length n 0 (λ d. None)
  rounds_length (suc i) = table_length n 0 (f (rounds i))

  none_at : (m j d : ℕ) → at (table m j (λ i. None)) d ≡ None
  none_at zero j d = refl
  none_at (suc m) j zero = refl
  none_at (suc m) j (suc d) = none_at m (suc j) d

  first_at : (d : ℕ) → at (rounds 0) d ≡ None
  first_at d = none_at n 0 d

  round_at : (i d : ℕ) → d < n → at (rounds (suc i)) d ≡ f (rounds i) d
  round_at i d h = table_at n 0 (f (rounds i)) d h ∙ ap (λ (j : ℕ). f (rounds i) j) (let z : 0 + d ≡ d = omega arith in z)

  within_cases : (xs ys : List (Option StaticType)) → length xs ≡ n → ((d : ℕ) → d < n → Less (at xs d) (at ys d)) → Within xs ys
  within_cases xs ys l h d = by_cases (Less (at xs d) (at ys d)) (nat_lt d n) (λ q. h d (ltb-true d n q)) (λ q. subst (λ (o : Option StaticType). Less o (at ys d)) (sym (at_past xs d (let z : n ≤ d = ltb-false d n q in omega (arith, l)))) tt)

  rounds_grow : (i : ℕ) → Within (rounds i) (rounds (suc i))
  rounds_grow zero = within_cases (rounds 0) (rounds 1) (rounds_length 0) (λ d h. subst (λ (o : Option StaticType). Less o (at (rounds 1) d)) (sym (first_at d)) tt)
  rounds_grow (suc i) = within_cases (rounds (suc i)) (rounds (suc (suc i))) (rounds_length (suc i))
      (λ d h. subst (λ (o : Option StaticType). Less o (at (rounds (suc (suc i))) d)) (sym (round_at i d h)) (subst (λ (o : Option StaticType). Less (f (rounds i) d) o) (sym (round_at (suc i) d h)) (grows (rounds i) (rounds (suc i)) (rounds_grow i) d)))

  settled : (fuel i : ℕ) → n ≤ many (rounds i) + fuel → (j : ℕ) × (rounds j ≡ rounds (suc j))
  settled zero i h = elim (grown (rounds i) (rounds (suc i)) (rounds_length i ∙ sym (rounds_length (suc i))) (rounds_grow i)) [
    | inl q ↦ (i, q)
    | inr q ↦ (let z : many (rounds (suc i)) ≤ n = omega (arith, many_le (rounds (suc i)), rounds_length (suc i)) in absurd (omega (arith, q)))
  ]
  settled (suc fuel) i h = elim (grown (rounds i) (rounds (suc i)) (rounds_length i ∙ sym (rounds_length (suc i))) (rounds_grow i)) [
    | inl q ↦ (i, q)
    | inr q ↦ settled fuel (suc i) (omega (arith, q))
  ]

  -- the table in which the rounds settle meets the rules
  settled_solves : (j : ℕ) → rounds j ≡ rounds (suc j) → Solves f (rounds j)
  settled_solves j q d h = ap (λ (xs : List (Option StaticType)). at xs d) q ∙ round_at j d (omega (arith, h, rounds_length j))

  rounds_below : (kinds : List (Option StaticType)) → Solves f kinds → length kinds ≡ n → (i : ℕ) → Within (rounds i) kinds
  rounds_below kinds s l zero = within_cases (rounds 0) kinds (rounds_length 0) (λ d h. subst (λ (o : Option StaticType). Less o (at kinds d)) (sym (first_at d)) tt)
  rounds_below kinds s l (suc i) = within_cases (rounds (suc i)) kinds (rounds_length (suc i))
      (λ d h. subst (λ (o : Option StaticType). Less o (at kinds d)) (sym (round_at i d h)) (subst (λ (o : Option StaticType). Less (f (rounds i) d) o) (sym (s d (omega (arith, h, l)))) (grows (rounds i) kinds (rounds_below kinds s l i) d)))

  -- a property that rules keep holds of the least table
  module _ (Q : StaticType → Type 0) (keeps : (xs : List (Option StaticType)) → ((d : ℕ) (u : StaticType) → at xs d ≡ Some u → Q u) → (d : ℕ) (u : StaticType) → f xs d ≡ Some u → Q u) where
    rounds_have : (i d : ℕ) (u : StaticType) → at (rounds i) d ≡ Some u → Q u
    rounds_have zero d u h = let z : None ≡ Some u = sym (first_at d) ∙ h in cc
    rounds_have (suc i) d u h = by_cases (Q u) (nat_lt d n) (λ q. keeps (rounds i) (rounds_have i) d u (sym (round_at i d (ltb-true d n q)) ∙ h))
        (λ q. let z : n ≤ d = ltb-false d n q in let y : None ≡ Some u = sym (at_past (rounds (suc i)) d (omega (arith, rounds_length (suc i)))) ∙ h in cc)

    pub least_has : (kinds : List (Option StaticType)) → length kinds ≡ n → IsLeast f kinds → (d : ℕ) (u : StaticType) → at kinds d ≡ Some u → Q u
    least_has kinds l least d u h =
        let (j, q) = settled n 0 (omega arith) in
        let below : Within kinds (rounds j) = least.least (rounds j) (rounds_length j ∙ sym l) (settled_solves j q) in
        let same : at (rounds j) d ≡ Some u = subst (λ (o : Option StaticType). Less o (at (rounds j) d)) h (below d) in
        rounds_have j d u same

module _ (tables : Tables) (library text : Program) where
  rules_grow_so : (xs ys : List (Option StaticType)) → Within xs ys → (d : ℕ) → Less (derivation tables library text xs d) (derivation tables library text ys d)
  rules_grow_so xs ys w e = rule_grows tables (all_names library text) (known library text []) (all_sources library text) xs ys w e

  pub types_exist : (kinds : List (Option StaticType)) × AreDerived tables library text kinds
  types_exist =
      let n : ℕ = length (known library text []).entries in
      let f : List (Option StaticType) → ℕ → Option StaticType = derivation tables library text in
      let grows : (xs ys : List (Option StaticType)) → Within xs ys → (d : ℕ) → Less (f xs d) (f ys d) = λ xs ys w e. rule_grows tables (all_names library text) (known library text []) (all_sources library text) xs ys w e in
      let (j, q) = settled n f grows n 0 (omega arith) in
      let kinds : List (Option StaticType) = rounds n f grows j in (
        kinds,
        record {
          each = rounds_length n f grows j;
          least = record { solves = settled_solves n f grows j q; least = λ others l s. rounds_below n f grows others s (l ∙ rounds_length n f grows j) j };
        },
      )
