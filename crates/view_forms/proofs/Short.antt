-- Lines of a moment that are left out are counted, and all others stay.
use Rattle.std.proofs.Common.{◌≡◌, ℕ, zero, suc, ◌+◌, ◌-◌, ◌<◌, nat_lt, nat_le, true, false, List, [], ◌∷◌, ◌++◌, length, get_or, take, drop, ap, ◌∙◌, sym, refl, subst, arith, inl, inr}
use Rattle.std.specs.List.{flat_map, AllByRecursion}
use Rattle.std.specs.Str.{bytes_eq}
use Rattle.std.proofs.lemmas.Bool.{and_parts, cases_Bool, cond-true, cond-false}
use Rattle.std.proofs.lemmas.Bool.Decides.{nat_tests}
use Rattle.std.proofs.lemmas.List.{append_assoc, take-append-drop, length-take, length-drop}
use Rattle.std.proofs.lemmas.Slice.Eq.{bytes_eq-Decides}
use Rattle.view_forms.specs.Parts.{lead_size, line_lead}
use Rattle.view_forms.specs.Short.{is_same_moment, moments_from, left_out, short_moment, short_lines}
use Rattle.view_forms.specs.Kept.{IsShortOf, nothing, kept, counted}

-- all lines have one lead
abbrev OfLead : List ℕ → List (List ℕ) → Type 0
OfLead lead lines = AllByRecursion (λ line. line_lead line ≡ lead) lines

lead-take : (lead : List ℕ) (n : ℕ) (lines : List (List ℕ)) → OfLead lead lines → OfLead lead (take n lines)
lead-take lead zero lines h = tt
lead-take lead (suc n) [] h = h
lead-take lead (suc n) (x ∷ lines) h = (h.0, lead-take lead n lines h.1)

lead-drop : (lead : List ℕ) (n : ℕ) (lines : List (List ℕ)) → OfLead lead lines → OfLead lead (drop n lines)
lead-drop lead zero lines h = h
lead-drop lead (suc n) [] h = h
lead-drop lead (suc n) (x ∷ lines) h = lead-drop lead n lines h.1

lead-more : (lead : List ℕ) (lines : List (List ℕ)) (b : List ℕ) → OfLead lead lines → line_lead b ≡ lead → OfLead lead (lines ++ b ∷ [])
lead-more lead [] b h k = (k, tt)
lead-more lead (x ∷ lines) b h k = (h.0, lead-more lead lines b h.1 k)

-- lines that stay before others
all-kept : (lines short whole : List (List ℕ)) → IsShortOf short whole → IsShortOf (lines ++ short) (lines ++ whole)
all-kept [] short whole h = h
all-kept (x ∷ lines) short whole h = kept x (lines ++ short) (lines ++ whole) (all-kept lines short whole h)

drop-twice : (n k : ℕ) (L : List (List ℕ)) → drop n (drop k L) ≡ drop (k + n) L
drop-twice n zero L = let e : n ≡ 0 + n = omega arith in ap (λ j. drop j L) e
drop-twice zero (suc k) [] = let e : suc k ≡ suc k + 0 = omega arith in ap (λ j. drop j []) e
drop-twice (suc n) (suc k) [] = let e : suc (k + suc n) ≡ suc k + suc n = omega arith in ap (λ j. drop j []) e
drop-twice n (suc k) (x ∷ L) = let e : suc (k + n) ≡ suc k + n = omega arith in drop-twice n k L ∙ ap (λ j. drop j (x ∷ L)) e

three-parts : (n : ℕ) (lines whole : List (List ℕ)) → 40 < n → n ≡ length lines
    → lines ++ whole ≡ take 10 lines ++ (take (n - 20) (drop 10 lines) ++ (drop (n - 10) lines ++ whole))
three-parts n lines whole h k =
    let e : 10 + (n - 20) ≡ n - 10 = omega (arith, h) in
    ap (λ t. t ++ whole) (sym (take-append-drop 10 lines)) ∙ append_assoc (take 10 lines) (drop 10 lines) whole
    ∙ ap (λ t. take 10 lines ++ t) (
    ap (λ t. t ++ whole) (sym (take-append-drop (n - 20) (drop 10 lines))) ∙ append_assoc (take (n - 20) (drop 10 lines)) (drop (n - 20) (drop 10 lines)) whole
    ∙ ap (λ t. take (n - 20) (drop 10 lines) ++ (t ++ whole)) (drop-twice (n - 20) 10 lines ∙ ap (λ j. drop j lines) e)
    )

gone-size : (n : ℕ) (lines : List (List ℕ)) → 40 < n → n ≡ length lines → length (take (n - 20) (drop 10 lines)) ≡ n - 20
gone-size n lines h k =
    length-take (n - 20) (drop 10 lines) ∙ omega (arith, length-drop 10 lines, h, k)

above : (n : ℕ) → nat_le n 40 ≡ false → 40 < n
above n h = grind (arith, nat_tests)

moment-cut : (lead : List ℕ) (lines short whole : List (List ℕ)) → 40 < length lines → OfLead lead lines → IsShortOf short whole
    → IsShortOf ((take 10 lines ++ (left_out lead (length lines - 20) ∷ drop (length lines - 10) lines)) ++ short) (lines ++ whole)
moment-cut lead lines short whole h of is =
    let n = length lines in
    let gone = take (n - 20) (drop 10 lines) in
    let ends = drop (n - 10) lines in
    let cut : IsShortOf (take 10 lines ++ (left_out lead (length gone) ∷ (ends ++ short))) (take 10 lines ++ (gone ++ (ends ++ whole))) =
    all-kept (take 10 lines) (left_out lead (length gone) ∷ (ends ++ short)) (gone ++ (ends ++ whole))
    (counted lead gone (ends ++ short) (ends ++ whole) (omega (arith, gone-size n lines h refl, h)) (lead-take lead (n - 20) (drop 10 lines) (lead-drop lead 10 lines of)) (all-kept ends short whole is)) in
    let P : List (List ℕ) → Type 0 = λ s. IsShortOf s (lines ++ whole) in
    let Q : List (List ℕ) → Type 0 = λ w. IsShortOf (take 10 lines ++ (left_out lead (length gone) ∷ (ends ++ short))) w in
    subst P (ap (λ m. take 10 lines ++ (left_out lead m ∷ (ends ++ short))) (gone-size n lines h refl)
    ∙ sym (append_assoc (take 10 lines) (left_out lead (n - 20) ∷ ends) short))
    (subst Q (sym (three-parts n lines whole h refl)) cut)

first-lead : (lead : List ℕ) (f : List ℕ) (fs : List (List ℕ)) → OfLead lead (f ∷ fs) → line_lead (get_or (f ∷ fs) 0 []) ≡ lead
first-lead lead f fs h = h.0

moment-short : (lead : List ℕ) (f : List ℕ) (fs short whole : List (List ℕ)) → OfLead lead (f ∷ fs) → IsShortOf short whole
    → IsShortOf (short_moment (f ∷ fs) ++ short) ((f ∷ fs) ++ whole)
moment-short lead f fs short whole of is =
    let m = f ∷ fs in
    let P : List (List ℕ) → Type 0 = λ s. IsShortOf (s ++ short) (m ++ whole) in
    let cut = take 10 m ++ (left_out (line_lead (get_or m 0 [])) (length m - 20) ∷ drop (length m - 10) m) in
    elim (cases_Bool (nat_le (length m) 40)) [
      | inl e ↦ subst P (sym (cond-true (nat_le (length m) 40) m cut e)) (all-kept m short whole is)
      | inr e ↦
          subst P (ap (λ l. take 10 m ++ (left_out l (length m - 20) ∷ drop (length m - 10) m)) (sym (first-lead lead f fs of)) ∙ sym (cond-false (nat_le (length m) 40) m cut e))
          (moment-cut lead m short whole (above (length m) e) of is)
    ]

same-moment : (a b : List ℕ) → is_same_moment a b ≡ true → line_lead a ≡ line_lead b
same-moment a b h =
    let m = and_parts (nat_lt 0 (lead_size a)) (bytes_eq (line_lead a) (line_lead b)) h in
    (bytes_eq-Decides (line_lead a) (line_lead b)).0 m.1

moments-short : (f : List ℕ) (fs lines : List (List ℕ)) → OfLead (line_lead f) (f ∷ fs) → IsShortOf (flat_map short_moment (moments_from (f ∷ fs) lines)) ((f ∷ fs) ++ lines)
moments-short f fs [] of = moment-short (line_lead f) f fs [] [] of nothing
moments-short f fs (b ∷ lines) of =
    let P : List (List (List ℕ)) → Type 0 = λ ms. IsShortOf (flat_map short_moment ms) ((f ∷ fs) ++ (b ∷ lines)) in
    let Q : List (List ℕ) → Type 0 = λ w. IsShortOf (flat_map short_moment (moments_from (f ∷ (fs ++ b ∷ [])) lines)) w in
    let more = moments_from ((f ∷ fs) ++ b ∷ []) lines in
    let next = (f ∷ fs) ∷ moments_from (b ∷ []) lines in
    elim (cases_Bool (is_same_moment f b)) [
      | inl e ↦
          subst P (sym (cond-true (is_same_moment f b) more next e))
          (subst Q (append_assoc (f ∷ fs) (b ∷ []) lines) (moments-short f (fs ++ b ∷ []) lines (lead-more (line_lead f) (f ∷ fs) b of (sym (same-moment f b e)))))
      | inr e ↦
          subst P (sym (cond-false (is_same_moment f b) more next e))
          (moment-short (line_lead f) f fs (flat_map short_moment (moments_from (b ∷ []) lines)) (b ∷ lines) of (moments-short b [] lines (refl, tt)))
    ]

pub short-of : (lines : List (List ℕ)) → IsShortOf (short_lines lines) lines
short-of [] = nothing
short-of (a ∷ lines) = moments-short a [] lines (refl, tt)
