-- Pages, read back.
use Rattle.std.proofs.Common.{◌≡◌, ℕ, ◌/◌, ◌%◌, ◌==◌, true, false, not, List, [], ◌∷◌, ◌++◌, length, ap, ◌∙◌, refl, arith, inl, inr}
use Rattle.std.specs.List.{list_all}
use Rattle.std.specs.Fmt.{digit_glyph}
use Rattle.std.proofs.lemmas.Bool.{and_parts, and_from, cases_Bool}
use Rattle.std.proofs.lemmas.Bool.Decides.{nat_tests}
use Rattle.std.proofs.lemmas.List.{drop_at}
use Rattle.view_forms.specs.Page.{is_markup, stays_in_page, page_byte, page_text, page_view, transcript_read}
use Rattle.view_forms.specs.Reading.{is_byte, unshown, before_byte}
use Rattle.view_forms.proofs.Digits.{byte-back}
use Rattle.view_forms.proofs.Lacking.{lacks, all-flat_map, before-at}
use Rattle.view_forms.proofs.Unshown.{unshown-other, byte-below}

stays-other : (b : ℕ) → stays_in_page b ≡ true → (b == 92) ≡ false
stays-other b h = grind (arith, nat_tests)

page-back : (bs : List ℕ) → list_all is_byte bs ≡ true → unshown (page_text bs) ≡ bs
page-back [] h = refl
page-back (b ∷ bs) h =
    let q = and_parts (is_byte b) (list_all is_byte bs) h in
    elim (cases_Bool (stays_in_page b)) [
      | inl e ↦ rw e (unshown-other b (page_text bs) (stays-other b e) ∙ ap (λ t. b ∷ t) (page-back bs q.1))
      | inr e ↦ rw e (rw (byte-back b (byte-below b q.0)) (ap (λ t. b ∷ t) (page-back bs q.1)))
    ]

digit-no_markup : (n : ℕ) → not (is_markup (digit_glyph false n)) ≡ true
digit-no_markup n = grind (arith, nat_tests)

stays-no_markup : (b : ℕ) → stays_in_page b ≡ true → not (is_markup b) ≡ true
stays-no_markup b h = grind (arith, nat_tests)

byte-no_markup : (b : ℕ) → list_all (λ c. not (is_markup c)) (page_byte b) ≡ true
byte-no_markup b =
    elim (cases_Bool (stays_in_page b)) [
      | inl e ↦ rw e (rw (stays-no_markup b e) refl)
      | inr e ↦ rw e (rw (digit-no_markup (b / 16), digit-no_markup (b % 16)) refl)
    ]

pub text-no_markup : (bs : List ℕ) → list_all (λ b. not (is_markup b)) (page_text bs) ≡ true
text-no_markup bs = all-flat_map (λ b. not (is_markup b)) page_byte bs byte-no_markup

one-lacks : (b : ℕ) → not (is_markup b) ≡ true → not (b == 60) ≡ true
one-lacks b h = grind (arith, nat_tests)

all-lack : (xs : List ℕ) → list_all (λ b. not (is_markup b)) xs ≡ true → lacks 60 xs ≡ true
all-lack [] h = refl
all-lack (x ∷ xs) h =
    let q = and_parts (not (is_markup x)) (list_all (λ b. not (is_markup b)) xs) h in
    and_from (not (x == 60)) (lacks 60 xs) (one-lacks x q.0) (all-lack xs q.1)

pub pages-back : (head tail input : List ℕ) → list_all is_byte input ≡ true → transcript_read head (page_view head (60 ∷ tail) input) ≡ input
pages-back head tail input h =
    ap (λ t. unshown (before_byte 60 t)) (drop_at head (page_text input ++ 60 ∷ tail) (length head) refl)
    ∙ ap unshown (before-at 60 (page_text input) tail refl (all-lack (page_text input) (text-no_markup input)))
    ∙ page-back input h
