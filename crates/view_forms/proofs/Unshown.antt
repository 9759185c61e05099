-- Bytes as people see them, read back.
use Rattle.std.proofs.Common.{◌≡◌, ℕ, ◌/◌, ◌%◌, ◌<◌, ◌==◌, true, false, not, List, [], ◌∷◌, ap, ◌∙◌, sym, refl, arith, inl, inr}
use Rattle.std.specs.List.{list_all}
use Rattle.std.specs.Fmt.{digit_glyph}
use Rattle.std.proofs.lemmas.Bool.{and_parts, cases_Bool, cases_eq, ne_eqb, false≢true, not_from_false}
use Rattle.std.proofs.lemmas.Bool.Decides.{nat_tests}
use Rattle.view_forms.specs.Shown.{is_shown_plain, shown_byte, shown_bytes}
use Rattle.view_forms.specs.Reading.{unshown, is_byte}
use Rattle.view_forms.proofs.Digits.{byte-back}
use Rattle.view_forms.proofs.Lacking.{lacks, all-flat_map}

pub unshown-other : (b : ℕ) (rest : List ℕ) → (b == 92) ≡ false → unshown (b ∷ rest) ≡ b ∷ unshown rest
unshown-other b [] e = refl
unshown-other b (x ∷ []) e = refl
unshown-other b (x ∷ (h ∷ [])) e = refl
unshown-other b (x ∷ (h ∷ (l ∷ rest))) e = rw e refl

pub plain-other : (b : ℕ) → is_shown_plain b ≡ true → (b == 92) ≡ false
plain-other b h = grind (arith, nat_tests)

pub byte-below : (b : ℕ) → is_byte b ≡ true → b < 256
byte-below b h = grind (arith, nat_tests)

pub shown-back : (bs : List ℕ) → list_all is_byte bs ≡ true → unshown (shown_bytes bs) ≡ bs
shown-back [] h = refl
shown-back (b ∷ bs) h =
    let q = and_parts (is_byte b) (list_all is_byte bs) h in
    elim (cases_Bool (is_shown_plain b)) [
      | inl e ↦ rw e (unshown-other b (shown_bytes bs) (plain-other b e) ∙ ap (λ t. b ∷ t) (shown-back bs q.1))
      | inr e ↦ rw e (rw (byte-back b (byte-below b q.0)) (ap (λ t. b ∷ t) (shown-back bs q.1)))
    ]

digit-lacks : (c n : ℕ) → c < 48 → not (digit_glyph false n == c) ≡ true
digit-lacks c n h = grind (arith, nat_tests)

plain-lacks : (c b : ℕ) → is_shown_plain c ≡ false → is_shown_plain b ≡ true → not (b == c) ≡ true
plain-lacks c b h k =
    elim (cases_eq b c) [
      | inl e ↦ absurd (false≢true (sym h ∙ ap is_shown_plain (sym e) ∙ k))
      | inr n ↦ not_from_false (b == c) (ne_eqb b c n)
    ]

pub byte-lacks : (c b : ℕ) → is_shown_plain c ≡ false → c < 48 → lacks c (shown_byte b) ≡ true
byte-lacks c b h k =
    elim (cases_Bool (is_shown_plain b)) [
      | inl e ↦ rw e (rw (plain-lacks c b h e) refl)
      | inr e ↦ rw e (rw (
        not_from_false (92 == c) (ne_eqb 92 c (λ same. omega (arith, same, k))),
        not_from_false (120 == c) (ne_eqb 120 c (λ same. omega (arith, same, k))),
        digit-lacks c (b / 16) k,
        digit-lacks c (b % 16) k,
      ) refl)
    ]

pub shown-lacks : (c : ℕ) (bs : List ℕ) → is_shown_plain c ≡ false → c < 48 → lacks c (shown_bytes bs) ≡ true
shown-lacks c bs h k = all-flat_map (λ b. not (b == c)) shown_byte bs (λ b. byte-lacks c b h k)
