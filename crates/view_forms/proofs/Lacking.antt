-- Lists that lack a byte, and what stands before and behind one.
use Rattle.std.proofs.Common.{◌≡◌, ℕ, zero, suc, ◌==◌, Bool, true, false, not, List, [], ◌∷◌, ◌++◌, take, drop, replicate, ap, ◌∙◌, refl, inl, inr}
use Rattle.std.specs.List.{flat_map, list_all}
use Rattle.std.proofs.lemmas.Bool.{and_parts, and_from, cases_Bool, false≢true, not_from_false}
use Rattle.view_forms.specs.Reading.{before_byte, behind_byte, has_byte}
use Rattle.view_forms.specs.Parts.{lines_in, before_lines}

abbrev pub lacks : ℕ → List ℕ → Bool
lacks c xs = list_all (λ b. not (b == c)) xs

pub not_true-false : (b : Bool) → not b ≡ true → b ≡ false
not_true-false true h = absurd (false≢true h)
not_true-false false h = refl

pub all-append : {X : Type 0} (p : X → Bool) (xs ys : List X) → list_all p xs ≡ true → list_all p ys ≡ true → list_all p (xs ++ ys) ≡ true
all-append p [] ys h k = k
all-append p (x ∷ xs) ys h k = let q = and_parts (p x) (list_all p xs) h in and_from (p x) (list_all p (xs ++ ys)) q.0 (all-append p xs ys q.1 k)

pub all-flat_map : {X Y : Type 0} (p : Y → Bool) (f : X → List Y) (xs : List X) → ((x : X) → list_all p (f x) ≡ true) → list_all p (flat_map f xs) ≡ true
all-flat_map p f [] h = refl
all-flat_map p f (x ∷ xs) h = all-append p (f x) (flat_map f xs) (h x) (all-flat_map p f xs h)

pub all-take : {X : Type 0} (p : X → Bool) (n : ℕ) (xs : List X) → list_all p xs ≡ true → list_all p (take n xs) ≡ true
all-take p zero xs h = refl
all-take p (suc n) [] h = refl
all-take p (suc n) (x ∷ xs) h = let q = and_parts (p x) (list_all p xs) h in and_from (p x) (list_all p (take n xs)) q.0 (all-take p n xs q.1)

pub all-drop : {X : Type 0} (p : X → Bool) (n : ℕ) (xs : List X) → list_all p xs ≡ true → list_all p (drop n xs) ≡ true
all-drop p zero xs h = h
all-drop p (suc n) [] h = refl
all-drop p (suc n) (x ∷ xs) h = all-drop p n xs (and_parts (p x) (list_all p xs) h).1

pub all-replicate : {X : Type 0} (p : X → Bool) (n : ℕ) (x : X) → p x ≡ true → list_all p (replicate n x) ≡ true
all-replicate p zero x h = refl
all-replicate p (suc n) x h = and_from (p x) (list_all p (replicate n x)) h (all-replicate p n x h)

pub before-none : (c : ℕ) (xs : List ℕ) → lacks c xs ≡ true → before_byte c xs ≡ xs
before-none c [] h = refl
before-none c (x ∷ xs) h =
    let q = and_parts (not (x == c)) (lacks c xs) h in
    rw (not_true-false (x == c) q.0) (ap (λ t. x ∷ t) (before-none c xs q.1))

pub before-at : (c : ℕ) (xs ys : List ℕ) → (c == c) ≡ true → lacks c xs ≡ true → before_byte c (xs ++ c ∷ ys) ≡ xs
before-at c [] ys e h = rw e refl
before-at c (x ∷ xs) ys e h =
    let q = and_parts (not (x == c)) (lacks c xs) h in
    rw (not_true-false (x == c) q.0) (ap (λ t. x ∷ t) (before-at c xs ys e q.1))

pub behind-at : (c : ℕ) (xs ys : List ℕ) → (c == c) ≡ true → lacks c xs ≡ true → behind_byte c (xs ++ c ∷ ys) ≡ ys
behind-at c [] ys e h = rw e refl
behind-at c (x ∷ xs) ys e h =
    let q = and_parts (not (x == c)) (lacks c xs) h in
    rw (not_true-false (x == c) q.0) (behind-at c xs ys e q.1)

pub has-none : (c : ℕ) (xs : List ℕ) → lacks c xs ≡ true → has_byte c xs ≡ false
has-none c [] h = refl
has-none c (x ∷ xs) h =
    let q = and_parts (not (x == c)) (lacks c xs) h in
    rw (not_true-false (x == c) q.0) (has-none c xs q.1)

pub has-at : (c : ℕ) (xs ys : List ℕ) → (c == c) ≡ true → lacks c xs ≡ true → has_byte c (xs ++ c ∷ ys) ≡ true
has-at c [] ys e h = rw e refl
has-at c (x ∷ xs) ys e h =
    let q = and_parts (not (x == c)) (lacks c xs) h in
    rw (not_true-false (x == c) q.0) (has-at c xs ys e q.1)

-- lines
pub line-ends : (xs ys : List ℕ) → lacks 10 xs ≡ true → lines_in (xs ++ 10 ∷ ys) ≡ xs ∷ lines_in ys
line-ends [] ys h = refl
line-ends (x ∷ xs) ys h =
    let q = and_parts (not (x == 10)) (lacks 10 xs) h in
    rw (not_true-false (x == 10) q.0) (ap (before_lines x) (line-ends xs ys q.1))

joined : (r t : List ℕ) → (r ++ 10 ∷ []) ++ t ≡ r ++ 10 ∷ t
joined [] t = refl
joined (x ∷ r) t = ap (λ u. x ∷ u) (joined r t)

pub rows-come_back : (rows : List (List ℕ)) → list_all (lacks 10) rows ≡ true → lines_in (flat_map (λ row. row ++ 10 ∷ []) rows) ≡ rows
rows-come_back [] h = refl
rows-come_back (r ∷ rs) h =
    let q = and_parts (lacks 10 r) (list_all (lacks 10) rs) h in
    ap lines_in (joined r (flat_map (λ row. row ++ 10 ∷ []) rs)) ∙ line-ends r (flat_map (λ row. row ++ 10 ∷ []) rs) q.0 ∙ ap (λ t. r ∷ t) (rows-come_back rs q.1)

onto-lack : (b : ℕ) (ls : List (List ℕ)) → not (b == 10) ≡ true → list_all (lacks 10) ls ≡ true → list_all (lacks 10) (before_lines b ls) ≡ true
onto-lack b [] h k = rw h refl
onto-lack b (l ∷ ls) h k = rw h k

pub lines-lack : (bs : List ℕ) → list_all (lacks 10) (lines_in bs) ≡ true
lines-lack [] = refl
lines-lack (b ∷ bs) =
    elim (cases_Bool (b == 10)) [
      | inl e ↦ rw e (lines-lack bs)
      | inr e ↦ rw e (onto-lack b (lines_in bs) (not_from_false (b == 10) e) (lines-lack bs))
    ]

onto-all : (p : ℕ → Bool) (b : ℕ) (ls : List (List ℕ)) → p b ≡ true → list_all (list_all p) ls ≡ true → list_all (list_all p) (before_lines b ls) ≡ true
onto-all p b [] h k = rw h refl
onto-all p b (l ∷ ls) h k = rw h k

pub lines-all : (p : ℕ → Bool) (bs : List ℕ) → list_all p bs ≡ true → list_all (list_all p) (lines_in bs) ≡ true
lines-all p [] h = refl
lines-all p (b ∷ bs) h =
    let q = and_parts (p b) (list_all p bs) h in
    elim (cases_Bool (b == 10)) [
      | inl e ↦ rw e (lines-all p bs q.1)
      | inr e ↦ rw e (onto-all p b (lines_in bs) q.0 (lines-all p bs q.1))
    ]
