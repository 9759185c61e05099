-- Texts as people see them, read back: characters of more than one byte stand as they are.
use Rattle.std.proofs.Common.{◌≡◌, ℕ, zero, suc, ◌-◌, ◌<◌, ◌==◌, nat_lt, nat_le, Bool, true, false, not, ◌&&◌, if◌then◌else◌, List, [], ◌∷◌, ◌++◌, get_or, take, ap, ◌∙◌, sym, refl, subst, arith, inl, inr}
use Rattle.std.specs.List.{list_all}
use Rattle.std.proofs.lemmas.Bool.{and_parts, and_from, cases_Bool, cond-true, cond-false, false≢true}
use Rattle.std.proofs.lemmas.Bool.Decides.{nat_tests}
use Rattle.view_forms.specs.Shown.{is_shown_plain, shown_byte, is_tail, is_between, stands_as_digits, value_of_two, value_of_three, value_of_four, is_two_bytes, is_three_bytes, is_four_bytes, seen_size, shown_from, shown_text}
use Rattle.view_forms.specs.Reading.{unshown, is_byte}
use Rattle.view_forms.proofs.Digits.{byte-back}
use Rattle.view_forms.proofs.Lacking.{lacks, all-append}
use Rattle.view_forms.proofs.Unshown.{unshown-other, plain-other, byte-below, byte-lacks}

abbrev pub is_high : ℕ → Bool
is_high b = nat_le 128 b

between-high : (low high b : ℕ) → nat_le 128 low ≡ true → is_between low high b ≡ true → is_high b ≡ true
between-high low high b k h = let q = and_parts (nat_le low b) (nat_le b high) h in grind (arith, nat_tests, k, q.0)

tail-high : (b : ℕ) → is_tail b ≡ true → is_high b ≡ true
tail-high b h = (and_parts (nat_le 128 b) (nat_lt b 192) h).0

one-high : (bs : List ℕ) → is_high (get_or bs 0 0) ≡ true → list_all is_high (take 1 bs) ≡ true
one-high [] a = refl
one-high (x ∷ bs) a = and_from (is_high x) true a refl

two-high : (bs : List ℕ) → is_high (get_or bs 0 0) ≡ true → is_high (get_or bs 1 0) ≡ true → list_all is_high (take 2 bs) ≡ true
two-high [] a b = refl
two-high (x ∷ bs) a b = and_from (is_high x) (list_all is_high (take 1 bs)) a (one-high bs b)

three-high : (bs : List ℕ) → is_high (get_or bs 0 0) ≡ true → is_high (get_or bs 1 0) ≡ true → is_high (get_or bs 2 0) ≡ true → list_all is_high (take 3 bs) ≡ true
three-high [] a b c = refl
three-high (x ∷ bs) a b c = and_from (is_high x) (list_all is_high (take 2 bs)) a (two-high bs b c)

four-high : (bs : List ℕ) → is_high (get_or bs 0 0) ≡ true → is_high (get_or bs 1 0) ≡ true → is_high (get_or bs 2 0) ≡ true → is_high (get_or bs 3 0) ≡ true → list_all is_high (take 4 bs) ≡ true
four-high [] a b c d = refl
four-high (x ∷ bs) a b c d = and_from (is_high x) (list_all is_high (take 3 bs)) a (three-high bs b c d)

two-is : (bs : List ℕ) → is_two_bytes (get_or bs 0 0) (get_or bs 1 0) ≡ true → list_all is_high (take 2 bs) ≡ true
two-is bs h =
    let a = get_or bs 0 0 in
    let b = get_or bs 1 0 in
    let p = and_parts (is_between 192 223 a) (is_tail b && not (stands_as_digits (value_of_two a b))) h in
    let q = and_parts (is_tail b) (not (stands_as_digits (value_of_two a b))) p.1 in
    two-high bs (between-high 192 223 a refl p.0) (tail-high b q.0)

three-is : (bs : List ℕ) → is_three_bytes (get_or bs 0 0) (get_or bs 1 0) (get_or bs 2 0) ≡ true → list_all is_high (take 3 bs) ≡ true
three-is bs h =
    let a = get_or bs 0 0 in
    let b = get_or bs 1 0 in
    let c = get_or bs 2 0 in
    let p = and_parts (is_between 224 239 a) (is_tail b && (is_tail c && (nat_le 2048 (value_of_three a b c) && not (stands_as_digits (value_of_three a b c))))) h in
    let q = and_parts (is_tail b) (is_tail c && (nat_le 2048 (value_of_three a b c) && not (stands_as_digits (value_of_three a b c)))) p.1 in
    let r = and_parts (is_tail c) (nat_le 2048 (value_of_three a b c) && not (stands_as_digits (value_of_three a b c))) q.1 in
    three-high bs (between-high 224 239 a refl p.0) (tail-high b q.0) (tail-high c r.0)

four-is : (bs : List ℕ) → is_four_bytes (get_or bs 0 0) (get_or bs 1 0) (get_or bs 2 0) (get_or bs 3 0) ≡ true → list_all is_high (take 4 bs) ≡ true
four-is bs h =
    let a = get_or bs 0 0 in
    let b = get_or bs 1 0 in
    let c = get_or bs 2 0 in
    let d = get_or bs 3 0 in
    let v = value_of_four a b c d in
    let p = and_parts (is_between 240 247 a) (is_tail b && (is_tail c && (is_tail d && (is_between 65536 1114111 v && not (stands_as_digits v))))) h in
    let q = and_parts (is_tail b) (is_tail c && (is_tail d && (is_between 65536 1114111 v && not (stands_as_digits v)))) p.1 in
    let r = and_parts (is_tail c) (is_tail d && (is_between 65536 1114111 v && not (stands_as_digits v))) q.1 in
    let s = and_parts (is_tail d) (is_between 65536 1114111 v && not (stands_as_digits v)) r.1 in
    four-high bs (between-high 240 247 a refl p.0) (tail-high b q.0) (tail-high c r.0) (tail-high d s.0)

-- the bytes of such a character are none of ASCII
choose-high : (bs : List ℕ) (p q r : Bool) → (p ≡ true → list_all is_high (take 2 bs) ≡ true) → (q ≡ true → list_all is_high (take 3 bs) ≡ true) → (r ≡ true → list_all is_high (take 4 bs) ≡ true)
    → list_all is_high (take (if p then 2 else (if q then 3 else (if r then 4 else 0))) bs) ≡ true
choose-high bs true q r a b c = a refl
choose-high bs false true r a b c = b refl
choose-high bs false false true a b c = c refl
choose-high bs false false false a b c = refl

pub seen-high : (bs : List ℕ) → list_all is_high (take (seen_size bs) bs) ≡ true
seen-high bs =
    choose-high bs (is_two_bytes (get_or bs 0 0) (get_or bs 1 0)) (is_three_bytes (get_or bs 0 0) (get_or bs 1 0) (get_or bs 2 0)) (is_four_bytes (get_or bs 0 0) (get_or bs 1 0) (get_or bs 2 0) (get_or bs 3 0)) (two-is bs) (three-is bs) (four-is bs)

pub rest-high : (n b : ℕ) (bs : List ℕ) → nat_lt 0 n ≡ true → list_all is_high (take n (b ∷ bs)) ≡ true → (is_high b ≡ true) × (list_all is_high (take (n - 1) bs) ≡ true)
rest-high zero b bs e h = absurd (false≢true e)
rest-high (suc n) b bs e h =
    let q = and_parts (is_high b) (list_all is_high (take n bs)) h in
    let same : suc n - 1 ≡ n = omega arith in
    (q.0, ap (λ k. list_all is_high (take k bs)) same ∙ q.1)

high-other : (b : ℕ) → is_high b ≡ true → (b == 92) ≡ false
high-other b h = grind (arith, nat_tests)

high-lacks : (c b : ℕ) → c < 48 → is_high b ≡ true → not (b == c) ≡ true
high-lacks c b k h = grind (arith, nat_tests)

byte-first : (b : ℕ) (rest : List ℕ) → is_byte b ≡ true → unshown (shown_byte b ++ rest) ≡ b ∷ unshown rest
byte-first b rest h =
    elim (cases_Bool (is_shown_plain b)) [
      | inl e ↦ rw e (unshown-other b rest (plain-other b e))
      | inr e ↦ rw e (rw (byte-back b (byte-below b h)) refl)
    ]

from-back : (n : ℕ) (bs : List ℕ) → list_all is_byte bs ≡ true → list_all is_high (take n bs) ≡ true → unshown (shown_from n bs) ≡ bs
from-back zero [] h k = refl
from-back (suc n) [] h k = refl
from-back zero (b ∷ bs) h k =
    let q = and_parts (is_byte b) (list_all is_byte bs) h in
    let size = seen_size (b ∷ bs) in
    let P : List ℕ → Type 0 = λ t. unshown t ≡ b ∷ bs in
    elim (cases_Bool (nat_lt 0 size)) [
      | inl e ↦
          let r = rest-high size b bs e (seen-high (b ∷ bs)) in
          subst P (sym (cond-true (nat_lt 0 size) (b ∷ shown_from (size - 1) bs) (shown_byte b ++ shown_from 0 bs) e))
          (unshown-other b (shown_from (size - 1) bs) (high-other b r.0) ∙ ap (λ t. b ∷ t) (from-back (size - 1) bs q.1 r.1))
      | inr e ↦
          subst P (sym (cond-false (nat_lt 0 size) (b ∷ shown_from (size - 1) bs) (shown_byte b ++ shown_from 0 bs) e))
          (byte-first b (shown_from 0 bs) q.0 ∙ ap (λ t. b ∷ t) (from-back 0 bs q.1 refl))
    ]
from-back (suc n) (b ∷ bs) h k =
    let q = and_parts (is_byte b) (list_all is_byte bs) h in
    let r = and_parts (is_high b) (list_all is_high (take n bs)) k in
    unshown-other b (shown_from n bs) (high-other b r.0) ∙ ap (λ t. b ∷ t) (from-back n bs q.1 r.1)

from-lacks : (c n : ℕ) (bs : List ℕ) → is_shown_plain c ≡ false → c < 48 → list_all is_high (take n bs) ≡ true → lacks c (shown_from n bs) ≡ true
from-lacks c zero [] p l k = refl
from-lacks c (suc n) [] p l k = refl
from-lacks c zero (b ∷ bs) p l k =
    let size = seen_size (b ∷ bs) in
    let P : List ℕ → Type 0 = λ t. lacks c t ≡ true in
    elim (cases_Bool (nat_lt 0 size)) [
      | inl e ↦
          let r = rest-high size b bs e (seen-high (b ∷ bs)) in
          subst P (sym (cond-true (nat_lt 0 size) (b ∷ shown_from (size - 1) bs) (shown_byte b ++ shown_from 0 bs) e))
          (and_from (not (b == c)) (lacks c (shown_from (size - 1) bs)) (high-lacks c b l r.0) (from-lacks c (size - 1) bs p l r.1))
      | inr e ↦
          subst P (sym (cond-false (nat_lt 0 size) (b ∷ shown_from (size - 1) bs) (shown_byte b ++ shown_from 0 bs) e))
          (all-append (λ b. not (b == c)) (shown_byte b) (shown_from 0 bs) (byte-lacks c b p l) (from-lacks c 0 bs p l refl))
    ]
from-lacks c (suc n) (b ∷ bs) p l k =
    let r = and_parts (is_high b) (list_all is_high (take n bs)) k in
    and_from (not (b == c)) (lacks c (shown_from n bs)) (high-lacks c b l r.0) (from-lacks c n bs p l r.1)

pub text_shown-back : (bs : List ℕ) → list_all is_byte bs ≡ true → unshown (shown_text bs) ≡ bs
text_shown-back bs h = from-back 0 bs h refl

pub text_shown-lacks : (c : ℕ) (bs : List ℕ) → is_shown_plain c ≡ false → c < 48 → lacks c (shown_text bs) ≡ true
text_shown-lacks c bs h k = from-lacks c 0 bs h k refl
