-- Serial texts that were joined, taken apart to their bytes: nothing is lost and all stay in order.
use Rattle.std.proofs.Common.{◌≡◌, ℕ, zero, suc, ◌+◌, ◌<◌, ◌≤◌, ◌==◌, nat_lt, nat_le, true, false, ◌&&◌, not, if◌then◌else◌, List, [], ◌∷◌, ◌++◌, length, get_or, take, drop, ap, ◌∙◌, sym, refl, arith, inl, inr}
use Rattle.std.specs.Prelude.{codes}
use Rattle.std.specs.List.{prefix_len}
use Rattle.std.specs.Str.{bytes_eq}
use Rattle.std.specs.Char.{is_ascii_digit}
use Rattle.std.proofs.lemmas.Bool.{and_parts, and_from, cases_Bool, cond-true, cond-false, false≢true}
use Rattle.std.proofs.lemmas.Bool.Decides.{nat_tests}
use Rattle.std.proofs.lemmas.List.{append_assoc, drop-append-le, take-append-le, get_or_append_left, get_or_past}
use Rattle.std.proofs.lemmas.List.Folds.{prefix_len-append}
use Rattle.std.proofs.lemmas.Slice.Eq.{bytes_eq-Decides}
use Rattle.view_forms.specs.Parts.{number_size, lead_size, line_lead, told_of, begins_by, ends_by}
use Rattle.view_forms.specs.Pictures.{is_low_hex, is_hex_text, shows_text}
use Rattle.view_forms.specs.Short.{is_same_moment, text_goes_on, texts_joined_from, texts_joined}
use Rattle.view_forms.specs.Kept.{bytes_apart, line_apart, texts_apart}
use Rattle.view_forms.proofs.Parts.{leads, number-ends, begins-is}

-- a number at the front is the same with more behind it, where the digits end before
abbrev size_by : ℕ → ℕ → ℕ
size_by n c = if nat_le 1 n && (nat_le n 10 && (c == 32)) then n else 0

below-other : (n m : ℕ) → n < m → (n == m) ≡ false
below-other n m h = grind (arith, nat_tests)

prefix-stays : (x d : List ℕ) → prefix_len is_ascii_digit x < length x → prefix_len is_ascii_digit (x ++ d) ≡ prefix_len is_ascii_digit x
prefix-stays x d h =
    prefix_len-append is_ascii_digit x d
    ∙ cond-false (prefix_len is_ascii_digit x == length x) (length x + prefix_len is_ascii_digit d) (prefix_len is_ascii_digit x) (below-other (prefix_len is_ascii_digit x) (length x) h)

number-stays : (x d : List ℕ) → prefix_len is_ascii_digit x < length x → number_size (x ++ d) ≡ number_size x
number-stays x d h =
    ap (λ n. size_by n (get_or (x ++ d) n 0)) (prefix-stays x d h) ∙ ap (size_by (prefix_len is_ascii_digit x)) (get_or_append_left x d 0 (prefix_len is_ascii_digit x) h)

not-below : (n m : ℕ) → nat_lt n m ≡ false → m ≤ n
not-below n m h = grind (arith, nat_tests)

is-below : (n m : ℕ) → nat_lt n m ≡ true → n < m
is-below n m h = grind (arith, nat_tests)

at-space : (x : List ℕ) (n : ℕ) → get_or x n 0 ≡ 32 → n < length x
at-space x n h =
    elim (cases_Bool (nat_lt n (length x))) [
      | inl e ↦ is-below n (length x) e
      | inr e ↦ absurd (omega (arith, sym (get_or_past x n 0 (not-below n (length x) e)) ∙ h))
    ]

number-within : (x : List ℕ) → 0 < number_size x → prefix_len is_ascii_digit x < length x
number-within x h =
    elim (number-ends x) [
      | inl none ↦ absurd (omega (arith, none, h))
      | inr some ↦ at-space x (prefix_len is_ascii_digit x) (ap (λ n. get_or x n 0) (sym some.1.0) ∙ some.0)
    ]

-- and so is the lead
abbrev lead_by : ℕ → ℕ → ℕ
lead_by n m = if n == 1 then (if m == 0 then 1 else m + 2) else n

serial-within : (x : List ℕ) → begins_by (codes "serial ") x ≡ true → prefix_len is_ascii_digit x < length x
serial-within x h =
    let e = begins-is (codes "serial ") x h in
    let n : prefix_len is_ascii_digit x ≡ 0 = ap (prefix_len is_ascii_digit) e in
    let l : length x ≡ length (codes "serial " ++ drop 7 x) = ap length e in
    omega (arith, n, l)

serial-long : (x : List ℕ) → begins_by (codes "serial ") x ≡ true → 7 ≤ length x
serial-long x h = let l : length x ≡ length (codes "serial " ++ drop 7 x) = ap length (begins-is (codes "serial ") x h) in omega (arith, l)

-- what a line that shows a text has
record ShowsText (line : List ℕ) : Type 0 where
  lead : nat_lt 0 (lead_size line) ≡ true
  word : begins_by (codes "serial ") (told_of line) ≡ true
  digits : is_hex_text (drop 7 (told_of line)) ≡ true

text-shown : (line : List ℕ) → shows_text line ≡ true → ShowsText line
text-shown line h =
    let a = and_parts (nat_lt 0 (lead_size line)) (begins_by (codes "serial ") (told_of line) && is_hex_text (drop 7 (told_of line))) h in
    let b = and_parts (begins_by (codes "serial ") (told_of line)) (is_hex_text (drop 7 (told_of line))) a.1 in
    record { lead = a.0; word = b.0; digits = b.1 }

shown-text : (line : List ℕ) → ShowsText line → shows_text line ≡ true
shown-text line h =
    and_from (nat_lt 0 (lead_size line)) (begins_by (codes "serial ") (told_of line) && is_hex_text (drop 7 (told_of line))) h.lead
    (and_from (begins_by (codes "serial ") (told_of line)) (is_hex_text (drop 7 (told_of line))) h.word h.digits)

some-number : (n m : ℕ) → nat_lt 0 (lead_by n m) ≡ true → 0 < n
some-number zero m h = absurd (false≢true h)
some-number (suc n) m h = omega arith

same-number : (a b : ℕ) → (a == b) ≡ true → a ≡ b
same-number a b h = grind (arith, nat_tests)

behind-one : (a : List ℕ) → number_size a ≡ 1 → (number_size (drop 2 a) == 0) ≡ true → told_of a ≡ drop 2 a
behind-one a h k =
    let size : lead_size a ≡ 1 = ap (λ n. lead_by n (number_size (drop 2 a))) h ∙ cond-true (number_size (drop 2 a) == 0) 1 (number_size (drop 2 a) + 2) k in
    ap (λ n. if n == 0 then a else drop (n + 1) a) size

other-positive : (m : ℕ) → (m == 0) ≡ false → 0 < m
other-positive m h = grind (arith, nat_tests)

second-within : (a : List ℕ) → ShowsText a → number_size a ≡ 1 → prefix_len is_ascii_digit (drop 2 a) < length (drop 2 a)
second-within a h one =
    elim (cases_Bool (number_size (drop 2 a) == 0)) [
      | inl e ↦ serial-within (drop 2 a) (ap (begins_by (codes "serial ")) (sym (behind-one a one e)) ∙ h.word)
      | inr e ↦ number-within (drop 2 a) (other-positive (number_size (drop 2 a)) e)
    ]

is-number : (a : List ℕ) → 0 < number_size a → number_size a ≡ prefix_len is_ascii_digit a
is-number a h =
    elim (number-ends a) [
      | inl none ↦ absurd (omega (arith, none, h))
      | inr some ↦ some.1.0
    ]

lead-stays : (a d : List ℕ) → ShowsText a → lead_size (a ++ d) ≡ lead_size a
lead-stays a d h =
    let some : 0 < number_size a = some-number (number_size a) (number_size (drop 2 a)) h.lead in
    let first : number_size (a ++ d) ≡ number_size a = number-stays a d (number-within a some) in
    elim (cases_Bool (number_size a == 1)) [
      | inl e ↦
          let one : number_size a ≡ 1 = same-number (number_size a) 1 e in
          let within : 2 ≤ length a = omega (arith, one, is-number a some, number-within a some) in
          let second : number_size (drop 2 (a ++ d)) ≡ number_size (drop 2 a) =
          ap number_size (drop-append-le 2 a d within) ∙ number-stays (drop 2 a) d (second-within a h one) in
          ap (λ n. lead_by n (number_size (drop 2 (a ++ d)))) first ∙ ap (lead_by (number_size a)) second
      | inr e ↦
          ap (λ n. lead_by n (number_size (drop 2 (a ++ d)))) first
          ∙ cond-false (number_size a == 1) (if number_size (drop 2 (a ++ d)) == 0 then 1 else number_size (drop 2 (a ++ d)) + 2) (number_size a) e
          ∙ sym (cond-false (number_size a == 1) (if number_size (drop 2 a) == 0 then 1 else number_size (drop 2 a) + 2) (number_size a) e)
    ]

positive-other : (n : ℕ) → nat_lt 0 n ≡ true → (n == 0) ≡ false
positive-other n h = grind (arith, nat_tests)

told-by : (a : List ℕ) → nat_lt 0 (lead_size a) ≡ true → told_of a ≡ drop (lead_size a + 1) a
told-by a h = cond-false (lead_size a == 0) a (drop (lead_size a + 1) a) (positive-other (lead_size a) h)

lead-within : (a : List ℕ) → ShowsText a → lead_size a < length a
lead-within a h = at-space a (lead_size a) (leads a h.lead).ends

same-lead : (a d : List ℕ) → ShowsText a → line_lead (a ++ d) ≡ line_lead a
same-lead a d h = ap (λ n. take n (a ++ d)) (lead-stays a d h) ∙ take-append-le (lead_size a) a d (omega (arith, lead-within a h))

more-told : (a d : List ℕ) → ShowsText a → told_of (a ++ d) ≡ told_of a ++ d
more-told a d h =
    told-by (a ++ d) (ap (nat_lt 0) (lead-stays a d h) ∙ h.lead)
    ∙ ap (λ n. drop (n + 1) (a ++ d)) (lead-stays a d h)
    ∙ drop-append-le (lead_size a + 1) a d (omega (arith, lead-within a h))
    ∙ ap (λ t. t ++ d) (sym (told-by a h.lead))

more-digits : (a d : List ℕ) → ShowsText a → drop 7 (told_of (a ++ d)) ≡ drop 7 (told_of a) ++ d
more-digits a d h = ap (drop 7) (more-told a d h) ∙ drop-append-le 7 (told_of a) d (serial-long (told_of a) h.word)

hex-more : (x d : List ℕ) → is_hex_text x ≡ true → is_hex_text d ≡ true → is_hex_text (x ++ d) ≡ true
hex-more [] d h k = k
hex-more (a ∷ []) d h k = absurd (false≢true h)
hex-more (a ∷ (b ∷ x)) d h k =
    let p = and_parts (is_low_hex a) (is_low_hex b && is_hex_text x) h in
    let q = and_parts (is_low_hex b) (is_hex_text x) p.1 in
    and_from (is_low_hex a) (is_low_hex b && is_hex_text (x ++ d)) p.0 (and_from (is_low_hex b) (is_hex_text (x ++ d)) q.0 (hex-more x d q.1 k))

more-shown : (a d : List ℕ) → ShowsText a → is_hex_text d ≡ true → ShowsText (a ++ d)
more-shown a d h k = record {
  lead = ap (nat_lt 0) (lead-stays a d h) ∙ h.lead;
  word = ap (begins_by (codes "serial ")) (more-told a d h)
      ∙ ap (λ t. bytes_eq t (codes "serial ")) (take-append-le 7 (told_of a) d (serial-long (told_of a) h.word)) ∙ h.word;
  digits = ap is_hex_text (more-digits a d h) ∙ hex-more (drop 7 (told_of a)) d h.digits k;
}

apart-append : (lead x d : List ℕ) → is_hex_text x ≡ true → bytes_apart lead (x ++ d) ≡ bytes_apart lead x ++ bytes_apart lead d
apart-append lead [] d h = refl
apart-append lead (a ∷ []) d h = absurd (false≢true h)
apart-append lead (a ∷ (b ∷ x)) d h =
    let p = and_parts (is_low_hex a) (is_low_hex b && is_hex_text x) h in
    let q = and_parts (is_low_hex b) (is_hex_text x) p.1 in
    ap (λ t. (lead ++ (codes " serial " ++ (a ∷ (b ∷ [])))) ∷ t) (apart-append lead x d q.1)

apart-shown : (a : List ℕ) → shows_text a ≡ true → line_apart a ≡ bytes_apart (line_lead a) (drop 7 (told_of a))
apart-shown a h = cond-true (shows_text a) (bytes_apart (line_lead a) (drop 7 (told_of a))) (a ∷ []) h

-- what two lines of one text have
record GoesOn (a b : List ℕ) : Type 0 where
  lead : line_lead a ≡ line_lead b
  first : shows_text a ≡ true
  second : shows_text b ≡ true

goes-on : (a b : List ℕ) → text_goes_on a b ≡ true → GoesOn a b
goes-on a b h =
    let p = and_parts (nat_lt (length a) 500) (is_same_moment a b && (not (ends_by (codes "0a") a) && (shows_text a && shows_text b))) h in
    let q = and_parts (is_same_moment a b) (not (ends_by (codes "0a") a) && (shows_text a && shows_text b)) p.1 in
    let r = and_parts (not (ends_by (codes "0a") a)) (shows_text a && shows_text b) q.1 in
    let s = and_parts (shows_text a) (shows_text b) r.1 in
    let m = and_parts (nat_lt 0 (lead_size a)) (bytes_eq (line_lead a) (line_lead b)) q.0 in
    record { lead = (bytes_eq-Decides (line_lead a) (line_lead b)).0 m.1; first = s.0; second = s.1 }

line-joined : (a b : List ℕ) → text_goes_on a b ≡ true → line_apart (a ++ drop 7 (told_of b)) ≡ line_apart a ++ line_apart b
line-joined a b h =
    let g = goes-on a b h in
    let d = drop 7 (told_of b) in
    let first = text-shown a g.first in
    let second = text-shown b g.second in
    apart-shown (a ++ d) (shown-text (a ++ d) (more-shown a d first second.digits))
    ∙ ap (λ t. bytes_apart t (drop 7 (told_of (a ++ d)))) (same-lead a d first)
    ∙ ap (bytes_apart (line_lead a)) (more-digits a d first)
    ∙ apart-append (line_lead a) (drop 7 (told_of a)) d first.digits
    ∙ ap (λ t. t ++ bytes_apart (line_lead a) d) (sym (apart-shown a g.first))
    ∙ ap (λ t. line_apart a ++ bytes_apart t d) g.lead
    ∙ ap (λ t. line_apart a ++ t) (sym (apart-shown b g.second))

joined-apart : (a : List ℕ) (lines : List (List ℕ)) → texts_apart (texts_joined_from a lines) ≡ line_apart a ++ texts_apart lines
joined-apart a [] = refl
joined-apart a (b ∷ lines) =
    elim (cases_Bool (text_goes_on a b)) [
      | inl e ↦
          ap texts_apart (cond-true (text_goes_on a b) (texts_joined_from (a ++ drop 7 (told_of b)) lines) (a ∷ texts_joined_from b lines) e)
          ∙ joined-apart (a ++ drop 7 (told_of b)) lines
          ∙ ap (λ t. t ++ texts_apart lines) (line-joined a b e)
          ∙ append_assoc (line_apart a) (line_apart b) (texts_apart lines)
      | inr e ↦
          ap texts_apart (cond-false (text_goes_on a b) (texts_joined_from (a ++ drop 7 (told_of b)) lines) (a ∷ texts_joined_from b lines) e)
          ∙ ap (λ t. line_apart a ++ t) (joined-apart b lines)
    ]

pub texts-kept : (lines : List (List ℕ)) → texts_apart (texts_joined lines) ≡ texts_apart lines
texts-kept [] = refl
texts-kept (a ∷ lines) = joined-apart a lines
