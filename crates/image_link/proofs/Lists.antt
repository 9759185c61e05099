-- What holds of each element, in lists that are put together, of numbered elements, and of those that are chosen by their numbers.
use Rattle.std.proofs.Common.{◌≡◌, ℕ, zero, suc, ◌+◌, List, [], ◌∷◌, ◌++◌, Bool, true, false, cond, Some, slice_get, refl, ap, ◌∙◌, subst, arith}
use Rattle.std.specs.Prelude.{map}
use Rattle.std.specs.List.{AllByRecursion, enumerate_from, filter}

pub all_more : {X : Type 0} (P Q : X → Type 0) → ((x : X) → P x → Q x) → (xs : List X) → AllByRecursion P xs → AllByRecursion Q xs
all_more P Q more [] h = tt
all_more P Q more (x ∷ xs) h = (more x h.0, all_more P Q more xs h.1)

pub all_split : {X : Type 0} (P : X → Type 0) (xs ys : List X) → AllByRecursion P (xs ++ ys) → AllByRecursion P xs × AllByRecursion P ys
all_split P [] ys h = (tt, h)
all_split P (x ∷ xs) ys h = let r = all_split P xs ys h.1 in ((h.0, r.0), r.1)

pub all_append : {X : Type 0} (P : X → Type 0) (xs ys : List X) → AllByRecursion P xs → AllByRecursion P ys → AllByRecursion P (xs ++ ys)
all_append P [] ys h k = k
all_append P (x ∷ xs) ys h k = (h.0, all_append P xs ys h.1 k)

pub all_of_map : {X : Type 0} {Y : Type 0} (P : Y → Type 0) (g : X → Y) (xs : List X) → AllByRecursion P (map g xs) → AllByRecursion (λ x. P (g x)) xs
all_of_map P g [] h = tt
all_of_map P g (x ∷ xs) h = (h.0, all_of_map P g xs h.1)

pub map_of_all : {X : Type 0} {Y : Type 0} (P : Y → Type 0) (g : X → Y) (xs : List X) → AllByRecursion (λ x. P (g x)) xs → AllByRecursion P (map g xs)
map_of_all P g [] h = tt
map_of_all P g (x ∷ xs) h = (h.0, map_of_all P g xs h.1)

pub all_get : {X : Type 0} (P : X → Type 0) (xs : List X) (i : ℕ) (x : X) → AllByRecursion P xs → slice_get xs i ≡ Some x → P x
all_get P [] i x h e = let bad : ⊥ = cc in absurd bad
all_get P (y ∷ xs) zero x h e = let same : y ≡ x = cc in subst P same h.0
all_get P (y ∷ xs) (suc i) x h e = all_get P xs i x h.1 e

-- of numbered elements
pub numbered_get : {X : Type 0} (P : ℕ × X → Type 0) (n : ℕ) (xs : List X) → AllByRecursion P (enumerate_from n xs) → (i : ℕ) (x : X) → slice_get xs i ≡ Some x → P (n + i, x)
numbered_get P n [] h i x e = let bad : ⊥ = cc in absurd bad
numbered_get {X} P n (y ∷ xs) h zero x e =
    let same : y ≡ x = cc in
    let z : n ≡ n + 0 = omega arith in
    subst (λ m. P (m, x)) z (subst (λ (v : X). P (n, v)) same h.0)
numbered_get P n (y ∷ xs) h (suc i) x e = let z : n + 1 + i ≡ n + suc i = omega arith in subst (λ m. P (m, x)) z (numbered_get P (n + 1) xs h.1 i x e)

pub get_numbered : {X : Type 0} (P : ℕ × X → Type 0) (n : ℕ) (xs : List X) → ((i : ℕ) (x : X) → slice_get xs i ≡ Some x → P (n + i, x)) → AllByRecursion P (enumerate_from n xs)
get_numbered P n [] h = tt
get_numbered P n (y ∷ xs) h =
    let z : n + 0 ≡ n = omega arith in
    (subst (λ m. P (m, y)) z (h 0 y refl), get_numbered P (n + 1) xs (λ i x e. (let w : n + suc i ≡ n + 1 + i = omega arith in subst (λ m. P (m, x)) w (h (suc i) x e))))

-- and of those among them whose numbers pass a test
rest_of : {X : Type 0} (P : X → Type 0) (b : Bool) (x : X) (xs : List X) → AllByRecursion P (cond b (x ∷ xs) xs) → AllByRecursion P xs
rest_of P true x xs h = h.1
rest_of P false x xs h = h

first_of_chosen : {X : Type 0} (P : X → Type 0) (b : Bool) (x : X) (xs : List X) → b ≡ true → AllByRecursion P (cond b (x ∷ xs) xs) → P x
first_of_chosen P true x xs e h = h.0
first_of_chosen P false x xs e h = absurd cc

joined : {X : Type 0} (P : X → Type 0) (b : Bool) (x : X) (xs : List X) → (b ≡ true → P x) → AllByRecursion P xs → AllByRecursion P (cond b (x ∷ xs) xs)
joined P true x xs one rest = (one refl, rest)
joined P false x xs one rest = rest

pub chosen_get : {X : Type 0} (P : ℕ × X → Type 0) (test : ℕ → Bool) (n : ℕ) (xs : List X) → AllByRecursion P (filter (λ p. test p.0) (enumerate_from n xs))
    → (i : ℕ) (x : X) → slice_get xs i ≡ Some x → test (n + i) ≡ true → P (n + i, x)
chosen_get P test n [] h i x e t = let bad : ⊥ = cc in absurd bad
chosen_get {X} P test n (y ∷ xs) h zero x e t =
    let same : y ≡ x = cc in
    let z : n ≡ n + 0 = omega arith in
    subst (λ m. P (m, x)) z (subst (λ (v : X). P (n, v)) same (first_of_chosen P (test n) (n, y) (filter (λ p. test p.0) (enumerate_from (n + 1) xs)) (ap test z ∙ t) h))
chosen_get P test n (y ∷ xs) h (suc i) x e t =
    let z : n + 1 + i ≡ n + suc i = omega arith in
    subst (λ m. P (m, x)) z (chosen_get P test (n + 1) xs (rest_of P (test n) (n, y) (filter (λ p. test p.0) (enumerate_from (n + 1) xs)) h) i x e (ap test z ∙ t))

pub get_chosen : {X : Type 0} (P : ℕ × X → Type 0) (test : ℕ → Bool) (n : ℕ) (xs : List X) → ((i : ℕ) (x : X) → slice_get xs i ≡ Some x → test (n + i) ≡ true → P (n + i, x))
    → AllByRecursion P (filter (λ p. test p.0) (enumerate_from n xs))
get_chosen P test n [] h = tt
get_chosen P test n (y ∷ xs) h =
    let z : n + 0 ≡ n = omega arith in
    joined P (test n) (n, y) (filter (λ p. test p.0) (enumerate_from (n + 1) xs)) (λ t. subst (λ m. P (m, y)) z (h 0 y refl (ap test z ∙ t)))
    (get_chosen P test (n + 1) xs (λ i x e t. (let w : n + suc i ≡ n + 1 + i = omega arith in subst (λ m. P (m, x)) w (h (suc i) x e (ap test w ∙ t)))))
