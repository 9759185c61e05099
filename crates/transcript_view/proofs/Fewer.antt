-- Lines one after the other, and what a short view has of them.
use Rattle.std.proofs.Common.{◌≡◌, ℕ, zero, suc, ◌+◌, ◌-◌, ◌<◌, ◌≤◌, nat_le, true, false, List, [], ◌∷◌, ◌++◌, length, get_or, take, drop, ap, ◌∙◌, sym, refl, arith, add-one}
use Rattle.std.specs.List.{flat_map}
use Rattle.std.proofs.lemmas.Bool.{cond-true, cond-false}
use Rattle.std.proofs.lemmas.Bool.Decides.{nat_tests}
use Rattle.std.proofs.lemmas.List.{append_assoc, append-nil, drop-take}
use Rattle.view_forms.specs.Parts.{lines_in, line_lead}
use Rattle.view_forms.specs.Rows.{text_of_rows}
use Rattle.view_forms.specs.Short.{is_same_moment, moments_from, left_out, short_moment}

-- one line more
nothing : (line : List ℕ) (rest : List (List ℕ)) → [] ≡ line ∷ rest → ⊥
nothing line rest h = omega (arith, ap length h)

rest-suc : (k : ℕ) (L : List (List ℕ)) (line : List ℕ) (rest : List (List ℕ)) → drop k L ≡ line ∷ rest → rest ≡ drop (suc k) L
rest-suc zero [] line rest h = absurd (nothing line rest h)
rest-suc zero (x ∷ L) line rest h = sym (ap (drop 1) h)
rest-suc (suc k) [] line rest h = absurd (nothing line rest h)
rest-suc (suc k) (x ∷ L) line rest h = rest-suc k L line rest h

taken-suc : (k : ℕ) (L : List (List ℕ)) (line : List ℕ) (rest : List (List ℕ)) → drop k L ≡ line ∷ rest → take (suc k) L ≡ take k L ++ line ∷ []
taken-suc zero [] line rest h = absurd (nothing line rest h)
taken-suc zero (x ∷ L) line rest h = ap (λ t. get_or t 0 [] ∷ []) h
taken-suc (suc k) [] line rest h = absurd (nothing line rest h)
taken-suc (suc k) (x ∷ L) line rest h = ap (λ t. x ∷ t) (taken-suc k L line rest h)

pub next-rest : (k : ℕ) (L : List (List ℕ)) (line : List ℕ) (rest : List (List ℕ)) → drop k L ≡ line ∷ rest → rest ≡ drop (k + 1) L
next-rest k L line rest h = rest-suc k L line rest h ∙ ap (λ j. drop j L) (sym (add-one k))

pub next-taken : (k : ℕ) (L : List (List ℕ)) (line : List ℕ) (rest : List (List ℕ)) → drop k L ≡ line ∷ rest → take (k + 1) L ≡ take k L ++ line ∷ []
next-taken k L line rest h = ap (λ j. take j L) (add-one k) ∙ taken-suc k L line rest h

pub next-within : (k : ℕ) (L : List (List ℕ)) (line : List ℕ) (rest : List (List ℕ)) → drop k L ≡ line ∷ rest → k < length L
next-within zero [] line rest h = absurd (nothing line rest h)
next-within zero (x ∷ L) line rest h = omega arith
next-within (suc k) [] line rest h = absurd (nothing line rest h)
next-within (suc k) (x ∷ L) line rest h = omega (arith, next-within k L line rest h)

pub some-left : (text : List ℕ) (k : ℕ) (L : List (List ℕ)) → lines_in text ≡ drop k L → k < length L → 0 < length text
some-left [] k [] h lt = absurd (omega (arith, lt))
some-left [] zero (x ∷ L) h lt = absurd (nothing x L h)
some-left [] (suc k) (x ∷ L) h lt = some-left [] k L h (omega (arith, lt))
some-left (b ∷ bs) k L h lt = omega arith

rows-append : (xs ys : List (List ℕ)) → text_of_rows (xs ++ ys) ≡ text_of_rows xs ++ text_of_rows ys
rows-append [] ys = refl
rows-append (x ∷ xs) ys = ap (λ t. (x ++ 10 ∷ []) ++ t) (rows-append xs ys) ∙ sym (append_assoc (x ++ 10 ∷ []) (text_of_rows xs) (text_of_rows ys))

one-row : (row : List ℕ) → text_of_rows (row ∷ []) ≡ row ++ 10 ∷ []
one-row row = append-nil (row ++ 10 ∷ [])

pub row-more : (old out new row : List ℕ) (rows : List (List ℕ)) → out ≡ old ++ text_of_rows rows → new ≡ out ++ (row ++ 10 ∷ []) → new ≡ old ++ text_of_rows (rows ++ row ∷ [])
row-more old out new row rows h k =
    k ∙ ap (λ t. t ++ (row ++ 10 ∷ [])) h ∙ append_assoc old (text_of_rows rows) (row ++ 10 ∷ [])
    ∙ ap (λ t. old ++ t) (sym (rows-append rows (row ∷ []) ∙ ap (λ t. text_of_rows rows ++ t) (one-row row)))

-- moments
pub first-of : (L : List (List ℕ)) (k : ℕ) → 1 ≤ k → get_or (take k L) 0 [] ≡ get_or L 0 []
first-of L zero h = absurd (omega (arith, h))
first-of [] (suc k) h = refl
first-of (x ∷ L) (suc k) h = refl

pub goes-on : (found : List (List ℕ)) (line : List ℕ) (lines : List (List ℕ)) → is_same_moment (get_or found 0 []) line ≡ true → moments_from found (line ∷ lines) ≡ moments_from (found ++ line ∷ []) lines
goes-on found line lines h = cond-true (is_same_moment (get_or found 0 []) line) (moments_from (found ++ line ∷ []) lines) (found ∷ moments_from (line ∷ []) lines) h

pub ends-before : (found : List (List ℕ)) (line : List ℕ) (lines : List (List ℕ)) → is_same_moment (get_or found 0 []) line ≡ false → moments_from found (line ∷ lines) ≡ found ∷ moments_from (line ∷ []) lines
ends-before found line lines h = cond-false (is_same_moment (get_or found 0 []) line) (moments_from (found ++ line ∷ []) lines) (found ∷ moments_from (line ∷ []) lines) h

-- what stands of a moment
take-twice : (n k : ℕ) (L : List (List ℕ)) → n ≤ k → take n (take k L) ≡ take n L
take-twice zero k L h = refl
take-twice (suc n) zero L h = absurd (omega (arith, h))
take-twice (suc n) (suc k) [] h = refl
take-twice (suc n) (suc k) (x ∷ L) h = ap (λ t. x ∷ t) (take-twice n k L (omega (arith, h)))

drop-twice : (n k : ℕ) (L : List (List ℕ)) → drop n (drop k L) ≡ drop (k + n) L
drop-twice n zero L = let e : n ≡ 0 + n = omega arith in ap (λ j. drop j L) e
drop-twice zero (suc k) [] = let e : suc k ≡ suc k + 0 = omega arith in ap (λ j. drop j []) e
drop-twice (suc n) (suc k) [] = let e : suc (k + suc n) ≡ suc k + suc n = omega arith in ap (λ j. drop j []) e
drop-twice n (suc k) (x ∷ L) = let e : suc (k + n) ≡ suc k + n = omega arith in drop-twice n k L ∙ ap (λ j. drop j (x ∷ L)) e

length-taken : (k : ℕ) (L : List (List ℕ)) → k ≤ length L → length (take k L) ≡ k
length-taken zero L h = refl
length-taken (suc k) [] h = absurd (omega (arith, h))
length-taken (suc k) (x ∷ L) h = omega (arith, length-taken k L (omega (arith, h)))

last-ten : (count : ℕ) (L : List (List ℕ)) → 40 < count → count ≤ length L → take 10 (drop (count - 20) (drop 10 L)) ≡ drop (count - 10) (take count L)
last-ten count L h k =
    let e : 10 + (count - 20) ≡ count - 10 = omega (arith, h) in
    let f : count ≡ (count - 10) + 10 = omega (arith, h) in
    ap (take 10) (drop-twice (count - 20) 10 L ∙ ap (λ j. drop j L) e) ∙ sym (ap (λ j. drop (count - 10) (take j L)) f ∙ drop-take (count - 10) 10 L)

pub short-whole : (count : ℕ) (L : List (List ℕ)) → count ≤ 40 → count ≤ length L → short_moment (take count L) ≡ take count L
short-whole count L h k =
    cond-true (nat_le (length (take count L)) 40) (take count L) (take 10 (take count L) ++ (left_out (line_lead (get_or (take count L) 0 [])) (length (take count L) - 20) ∷ drop (length (take count L) - 10) (take count L)))
    (ap (λ n. nat_le n 40) (length-taken count L k) ∙ grind (arith, nat_tests))

pub short-cut : (count : ℕ) (L : List (List ℕ)) → 40 < count → count ≤ length L
    → short_moment (take count L) ≡ take 10 L ++ (left_out (line_lead (get_or L 0 [])) (count - 20) ∷ take 10 (drop (count - 20) (drop 10 L)))
short-cut count L h k =
    cond-false (nat_le (length (take count L)) 40) (take count L) (take 10 (take count L) ++ (left_out (line_lead (get_or (take count L) 0 [])) (length (take count L) - 20) ∷ drop (length (take count L) - 10) (take count L)))
    (ap (λ n. nat_le n 40) (length-taken count L k) ∙ grind (arith, nat_tests))
    ∙ rw (length-taken count L k, take-twice 10 count L (omega (arith, h)), first-of L count (omega (arith, h)), last-ten count L h k) refl

pub short-parts : (old o1 o2 o3 : List ℕ) (first last : List (List ℕ)) (row : List ℕ) → o1 ≡ old ++ text_of_rows first → o2 ≡ o1 ++ (row ++ 10 ∷ []) → o3 ≡ o2 ++ text_of_rows last → o3 ≡ old ++ text_of_rows (first ++ (row ∷ last))
short-parts old o1 o2 o3 first last row a b c =
    c ∙ ap (λ t. t ++ text_of_rows last) (row-more old o1 o2 row first a b)
    ∙ append_assoc old (text_of_rows (first ++ row ∷ [])) (text_of_rows last)
    ∙ ap (λ t. old ++ t) (sym (rows-append (first ++ row ∷ []) last) ∙ ap text_of_rows (append_assoc first (row ∷ []) last))

-- the rows of a moment before those of the others
pub moment-before : (old out rows rest : List ℕ) → out ≡ old ++ rows → out ++ rest ≡ old ++ (rows ++ rest)
moment-before old out rows rest h = ap (λ t. t ++ rest) h ∙ append_assoc old rows rest

pub first-rows : (m : List (List ℕ)) (ms : List (List (List ℕ))) → text_of_rows (flat_map short_moment (m ∷ ms)) ≡ text_of_rows (short_moment m) ++ text_of_rows (flat_map short_moment ms)
first-rows m ms = rows-append (short_moment m) (flat_map short_moment ms)
