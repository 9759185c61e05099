-- Places in lists: of the first that passes a test, of a name among names.
use Rattle.std.proofs.Common.{◌≡◌, ℕ, zero, suc, ◌+◌, ◌<◌, ◌==◌, ◌||◌, refl, sym, ap, ◌∙◌, subst, Bool, true, false, cond, not, Option, Some, None, List, [], ◌∷◌, ◌++◌, length, take, arith, eqb-true, eq-eqb, inl, inr}
use Rattle.std.specs.Prelude.{slice_get, is_some, unwrap_or, map, filter, ◌⊎◌}
use Rattle.std.specs.List.{position_from, list_any}
use Rattle.sts_syntax.specs.TypeRules.{entry}
use Rattle.sts_scope.specs.Numbers.{is_listed, added, place_among}
use Rattle.typed_laws.proofs.OneNode.{either_true}

pub entry_get : {A : Type 0} (xs : List A) (i : ℕ) → entry xs i ≡ slice_get xs i
entry_get {A} [] i = refl
entry_get {A} (x ∷ xs) zero = refl
entry_get {A} (x ∷ xs) (suc i) = entry_get xs i

pub get_within : {A : Type 0} (xs : List A) (i : ℕ) (x : A) → slice_get xs i ≡ Some x → i < length xs
get_within {A} [] i x h = cc
get_within {A} (y ∷ xs) zero x h = omega arith
get_within {A} (y ∷ xs) (suc i) x h = omega (arith, get_within xs i x h)

pub get_there : {A : Type 0} (xs : List A) (i : ℕ) → i < length xs → (x : A) × (slice_get xs i ≡ Some x)
get_there {A} [] i h = absurd (omega arith)
get_there {A} (y ∷ xs) zero h = (y, refl)
get_there {A} (y ∷ xs) (suc i) h = let near : i < length xs = omega arith in get_there xs i near

pub get_left : {A : Type 0} (xs ys : List A) (i : ℕ) (x : A) → slice_get xs i ≡ Some x → slice_get (xs ++ ys) i ≡ Some x
get_left {A} [] ys i x h = cc
get_left {A} (y ∷ xs) ys zero x h = h
get_left {A} (y ∷ xs) ys (suc i) x h = get_left xs ys i x h

pub get_map : {A B : Type 0} (f : A → B) (xs : List A) (i : ℕ) (x : A) → slice_get xs i ≡ Some x → slice_get (map f xs) i ≡ Some (f x)
get_map {A} {B} f [] i x h = cc
get_map {A} {B} f (y ∷ xs) zero x h = let q : y ≡ x = cc in ap (λ (z : A). Some (f z)) q
get_map {A} {B} f (y ∷ xs) (suc i) x h = get_map f xs i x h

pub map_get : {A B : Type 0} (f : A → B) (xs : List A) (i : ℕ) (u : B) → slice_get (map f xs) i ≡ Some u → (x : A) × (slice_get xs i ≡ Some x) × (f x ≡ u)
map_get {A} {B} f [] i u h = cc
map_get {A} {B} f (y ∷ xs) zero u h = (y, refl, (let q : f y ≡ u = cc in q))
map_get {A} {B} f (y ∷ xs) (suc i) u h = map_get f xs i u h

pub position_is : {A : Type 0} (p : A → Bool) (n : ℕ) (xs : List A) (d : ℕ) → position_from p n xs ≡ Some d → (i : ℕ) × (d ≡ n + i) × (a : A) × (slice_get xs i ≡ Some a) × (p a ≡ true)
position_is {A} p n [] d h = cc
position_is {A} p n (x ∷ xs) d h =
    let go : (b : Bool) → p x ≡ b → cond b (Some n) (position_from p (n + 1) xs) ≡ Some d → (i : ℕ) × (d ≡ n + i) × (a : A) × (slice_get (x ∷ xs) i ≡ Some a) × (p a ≡ true) =
    λ b. elim b as (λ c. p x ≡ c → cond c (Some n) (position_from p (n + 1) xs) ≡ Some d → (i : ℕ) × (d ≡ n + i) × (a : A) × (slice_get (x ∷ xs) i ≡ Some a) × (p a ≡ true)) [
      | true ↦ (λ q r. (0, (let z : n ≡ d = cc in let y : n ≡ n + 0 = omega arith in sym z ∙ y), x, refl, q))
      | false ↦ (λ q r. let (i, at, a, is, test) = position_is p (n + 1) xs d r in (suc i, (let y : n + 1 + i ≡ n + suc i = omega arith in at ∙ y), a, is, test))
    ] in
    go (p x) refl h

none_before : {A : Type 0} (p : A → Bool) (n : ℕ) (x : A) (o : Option ℕ) (b : Bool) → p x ≡ b → cond b (Some n) o ≡ None → (p x ≡ false) × (o ≡ None)
none_before {A} p n x o true q h = cc
none_before {A} p n x o false q h = (q, h)

-- one that passes, before which none does, is the first
pub position_first : {A : Type 0} (p : A → Bool) (n : ℕ) (xs : List A) (d : ℕ) (a : A) → slice_get xs d ≡ Some a → p a ≡ true → position_from p n (take d xs) ≡ None → position_from p n xs ≡ Some (n + d)
position_first {A} p n [] d a h q r = cc
position_first {A} p n (x ∷ xs) zero a h q r =
    let z : p x ≡ true = ap p (let y : x ≡ a = cc in y) ∙ q in
    let y : n ≡ n + zero = omega arith in
    ap (λ (b : Bool). cond b (Some n) (position_from p (n + 1) xs)) z ∙ ap (λ (i : ℕ). Some i) y
position_first {A} p n (x ∷ xs) (suc d) a h q r =
    let (fails, rest) = none_before p n x (position_from p (n + 1) (take d xs)) (p x) refl r in
    let y : n + 1 + d ≡ n + suc d = omega arith in
    ap (λ (b : Bool). cond b (Some n) (position_from p (n + 1) xs)) fails ∙ position_first p (n + 1) xs d a h q rest ∙ ap (λ (i : ℕ). Some i) y

pub some_or_none : (A : Type 0) {B : Type 0} (x : Option B) → ((y : B) → x ≡ Some y → A) → (x ≡ None → A) → A
some_or_none A {B} None f g = g refl
some_or_none A {B} (Some y) f g = f y refl

pub not_some : {A : Type 0} (o : Option A) → is_some o ≡ false → o ≡ None
not_some {A} None h = refl
not_some {A} (Some a) h = cc

pub or_right : (a b : Bool) → b ≡ true → (a || b) ≡ true
or_right true b h = refl
or_right false b h = h

-- names
pub listed_position : (xs : List ℕ) (n x : ℕ) → is_listed xs x ≡ true → (i : ℕ) × (position_from (λ y. y == x) n xs ≡ Some (n + i)) × (slice_get xs i ≡ Some x)
listed_position [] n x h = cc
listed_position (y ∷ xs) n x h =
    let P : Bool → Type 0 = λ c. (i : ℕ) × (cond c (Some n) (position_from (λ z. z == x) (n + 1) xs) ≡ Some (n + i)) × (slice_get (y ∷ xs) i ≡ Some x) in
    let go : (b : Bool) → (y == x) ≡ b → (b || list_any (λ z. z == x) xs) ≡ true → P b =
    λ b. elim b as (λ c. (y == x) ≡ c → (c || list_any (λ z. z == x) xs) ≡ true → P c) [
      | true ↦ (λ q r. (0, (let z : n ≡ n + 0 = omega arith in ap (λ (i : ℕ). Some i) z), ap (λ (i : ℕ). Some i) (eqb-true y x q)))
      | false ↦ (λ q r. let (i, at, is) = listed_position xs (n + 1) x r in (suc i, (let z : n + 1 + i ≡ n + suc i = omega arith in at ∙ ap (λ (j : ℕ). Some j) z), is))
    ] in
    go (y == x) refl h

pub get_listed : (xs : List ℕ) (i x : ℕ) → slice_get xs i ≡ Some x → is_listed xs x ≡ true
get_listed [] i x h = cc
get_listed (y ∷ xs) zero x h = let q : (y == x) ≡ true = eq-eqb y x (let z : y ≡ x = cc in z) in ap (λ (b : Bool). b || list_any (λ z. z == x) xs) q
get_listed (y ∷ xs) (suc i) x h = or_right (y == x) (list_any (λ z. z == x) xs) (get_listed xs i x h)

-- the place of a name among names
pub place_there : (xs : List ℕ) (x : ℕ) → is_listed xs x ≡ true → slice_get xs (place_among xs x) ≡ Some x
place_there xs x h =
    let (i, at, is) = listed_position xs 0 x h in
    let q : place_among xs x ≡ i = ap (λ (o : Option ℕ). unwrap_or o 0) at ∙ (let z : 0 + i ≡ i = omega arith in z) in
    ap (λ (j : ℕ). slice_get xs j) q ∙ is

pub at_place : {B : Type 0} (f : ℕ → B) (xs : List ℕ) (x : ℕ) → is_listed xs x ≡ true → entry (map f xs) (place_among xs x) ≡ Some (f x)
at_place {B} f xs x h =
    let (i, at, is) = listed_position xs 0 x h in
    let q : place_among xs x ≡ i = ap (λ (o : Option ℕ). unwrap_or o 0) at ∙ (let z : 0 + i ≡ i = omega arith in z) in
    ap (λ (j : ℕ). entry (map f xs) j) q ∙ entry_get (map f xs) i ∙ get_map f xs i x is

pub listed_left : (xs ys : List ℕ) (x : ℕ) → is_listed xs x ≡ true → is_listed (xs ++ ys) x ≡ true
listed_left [] ys x h = cc
listed_left (y ∷ xs) ys x h = elim (either_true (y == x) (list_any (λ z. z == x) xs) h) [
  | inl q ↦ ap (λ (b : Bool). b || list_any (λ z. z == x) (xs ++ ys)) q
  | inr q ↦ or_right (y == x) (list_any (λ z. z == x) (xs ++ ys)) (listed_left xs ys x q)
]

pub listed_right : (xs ys : List ℕ) (x : ℕ) → is_listed ys x ≡ true → is_listed (xs ++ ys) x ≡ true
listed_right [] ys x h = h
listed_right (y ∷ xs) ys x h = or_right (y == x) (list_any (λ z. z == x) (xs ++ ys)) (listed_right xs ys x h)

pub listed_both : (xs ys : List ℕ) (x : ℕ) → is_listed (xs ++ ys) x ≡ true → (is_listed xs x ≡ true) ⊎ (is_listed ys x ≡ true)
listed_both [] ys x h = inr h
listed_both (y ∷ xs) ys x h = elim (either_true (y == x) (list_any (λ z. z == x) (xs ++ ys)) h) [
  | inl q ↦ inl (ap (λ (b : Bool). b || list_any (λ z. z == x) xs) q)
  | inr q ↦ elim (listed_both xs ys x q) [ inl r ↦ inl (or_right (y == x) (list_any (λ z. z == x) xs) r) | inr r ↦ inr r ]
]

listed_kept : (p : ℕ → Bool) (ys : List ℕ) (x : ℕ) → is_listed (filter p ys) x ≡ true → is_listed ys x ≡ true
listed_kept p [] x h = h
listed_kept p (y ∷ ys) x h =
    let go : (b : Bool) → is_listed (cond b (y ∷ filter p ys) (filter p ys)) x ≡ true → is_listed (y ∷ ys) x ≡ true =
    λ b. elim b as (λ c. is_listed (cond c (y ∷ filter p ys) (filter p ys)) x ≡ true → is_listed (y ∷ ys) x ≡ true) [
      | true ↦ (λ q. elim (either_true (y == x) (list_any (λ z. z == x) (filter p ys)) q) [
        | inl r ↦ ap (λ (b : Bool). b || list_any (λ z. z == x) ys) r
        | inr r ↦ or_right (y == x) (list_any (λ z. z == x) ys) (listed_kept p ys x r)
      ])
      | false ↦ (λ q. or_right (y == x) (list_any (λ z. z == x) ys) (listed_kept p ys x q))
    ] in
    go (p y) h

kept_listed : (p : ℕ → Bool) (ys : List ℕ) (x : ℕ) → p x ≡ true → is_listed ys x ≡ true → is_listed (filter p ys) x ≡ true
kept_listed p [] x q h = h
kept_listed p (y ∷ ys) x q h = elim (either_true (y == x) (list_any (λ z. z == x) ys) h) [
  | inl r ↦ (let yx : y ≡ x = eqb-true y x r in
      let py : p y ≡ true = ap p yx ∙ q in
      let here : is_listed (y ∷ filter p ys) x ≡ true = ap (λ (b : Bool). b || list_any (λ z. z == x) (filter p ys)) r in
      subst (λ (b : Bool). is_listed (cond b (y ∷ filter p ys) (filter p ys)) x ≡ true) (sym py) here)
  | inr r ↦ (let later : is_listed (filter p ys) x ≡ true = kept_listed p ys x q r in
      let go : (b : Bool) → is_listed (cond b (y ∷ filter p ys) (filter p ys)) x ≡ true =
      λ b. elim b as (λ c. is_listed (cond c (y ∷ filter p ys) (filter p ys)) x ≡ true) [ true ↦ or_right (y == x) (list_any (λ z. z == x) (filter p ys)) later | false ↦ later ] in
      go (p y))
]

-- what is added to names
pub added_cases : (xs ys : List ℕ) (x : ℕ) → is_listed (added xs ys) x ≡ true → (is_listed xs x ≡ true) ⊎ (is_listed ys x ≡ true)
added_cases xs ys x h = elim (listed_both xs (filter (λ z. not (is_listed xs z)) ys) x h) [ inl q ↦ inl q | inr q ↦ inr (listed_kept (λ z. not (is_listed xs z)) ys x q) ]

pub added_right : (xs ys : List ℕ) (x : ℕ) → is_listed ys x ≡ true → is_listed (added xs ys) x ≡ true
added_right xs ys x h =
    let go : (b : Bool) → is_listed xs x ≡ b → is_listed (added xs ys) x ≡ true =
    λ b. elim b as (λ c. is_listed xs x ≡ c → is_listed (added xs ys) x ≡ true) [
      | true ↦ (λ q. listed_left xs (filter (λ z. not (is_listed xs z)) ys) x q)
      | false ↦ (λ q. listed_right xs (filter (λ z. not (is_listed xs z)) ys) x (kept_listed (λ z. not (is_listed xs z)) ys x (ap not q) h))
    ] in
    go (is_listed xs x) refl

pub added_left : (xs ys : List ℕ) (x : ℕ) → is_listed xs x ≡ true → is_listed (added xs ys) x ≡ true
added_left xs ys x h = listed_left xs (filter (λ z. not (is_listed xs z)) ys) x h
