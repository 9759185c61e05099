-- What a list ends with, and where it begins.
use Rattle.std.proofs.Common.{◌≡◌, ℕ, zero, suc, ◌+◌, refl, sym, ap, ◌∙◌, subst, Some, List, [], ◌∷◌, ◌++◌, length, get_or, arith, append_assoc, length-append}
use Rattle.std.specs.Prelude.{slice_get}

abbrev pub Suffix : {A : Type 0} → List A → ℕ → List A → Type 0
Suffix {A} all d rest = (before : List A) × (length before ≡ d) × (all ≡ before ++ rest)

pub suffix_all : {A : Type 0} (all : List A) → Suffix all 0 all
suffix_all {A} all = ([], refl, refl)

pub suffix_step : {A : Type 0} (all : List A) (d : ℕ) (xs ys : List A) → Suffix all d (xs ++ ys) → Suffix all (d + length xs) ys
suffix_step {A} all d xs ys (before, at, is) =
    let at' : length (before ++ xs) ≡ d + length xs = length-append before xs ∙ ap (λ (i : ℕ). i + length xs) at in
    (before ++ xs, at', is ∙ sym (append_assoc before xs ys))

pub suffix_one : {A : Type 0} (all : List A) (d : ℕ) (x : A) (ys : List A) → Suffix all d (x ∷ ys) → Suffix all (suc d) ys
suffix_one {A} all d x ys s = let q : d + 1 ≡ suc d = omega arith in subst (λ (i : ℕ). Suffix all i ys) q (suffix_step all d (x ∷ []) ys s)

pub suffix_at : {A : Type 0} (all : List A) (d j : ℕ) (xs : List A) → d ≡ j → Suffix all d xs → Suffix all j xs
suffix_at {A} all d j xs q s = subst (λ (i : ℕ). Suffix all i xs) q s

get_behind : {A : Type 0} (before rest : List A) (i : ℕ) → slice_get (before ++ rest) (length before + i) ≡ slice_get rest i
get_behind {A} [] rest i = let q : zero + i ≡ i = omega arith in ap (λ (j : ℕ). slice_get rest j) q
get_behind {A} (x ∷ before) rest i = let q : suc (length before) + i ≡ suc (length before + i) = omega arith in ap (λ (j : ℕ). slice_get (x ∷ before ++ rest) j) q ∙ get_behind before rest i

pub suffix_get : {A : Type 0} (all : List A) (d i : ℕ) (rest : List A) → Suffix all d rest → slice_get all (d + i) ≡ slice_get rest i
suffix_get {A} all d i rest (before, at, is) =
    ap (λ (xs : List A). slice_get xs (d + i)) is ∙ ap (λ (j : ℕ). slice_get (before ++ rest) (j + i)) (sym at) ∙ get_behind before rest i

pub suffix_head : {A : Type 0} (all : List A) (d : ℕ) (x : A) (rest : List A) → Suffix all d (x ∷ rest) → slice_get all d ≡ Some x
suffix_head {A} all d x rest s = let q : d ≡ d + 0 = omega arith in ap (λ (j : ℕ). slice_get all j) q ∙ suffix_get all d 0 (x ∷ rest) s

or_behind : {A : Type 0} (before rest : List A) (i : ℕ) (a : A) → get_or (before ++ rest) (length before + i) a ≡ get_or rest i a
or_behind {A} [] rest i a = let q : zero + i ≡ i = omega arith in ap (λ (j : ℕ). get_or rest j a) q
or_behind {A} (x ∷ before) rest i a = let q : suc (length before) + i ≡ suc (length before + i) = omega arith in ap (λ (j : ℕ). get_or (x ∷ before ++ rest) j a) q ∙ or_behind before rest i a

pub suffix_or : {A : Type 0} (all : List A) (d : ℕ) (x : A) (rest : List A) (a : A) → Suffix all d (x ∷ rest) → get_or all d a ≡ x
suffix_or {A} all d x rest a (before, at, is) =
    let q : d ≡ length before + 0 = omega (arith, at) in
    ap (λ (xs : List A). get_or xs d a) is ∙ ap (λ (j : ℕ). get_or (before ++ x ∷ rest) j a) q ∙ or_behind before (x ∷ rest) 0 a
