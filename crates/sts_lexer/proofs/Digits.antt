-- Numbers and their digits.
use Rattle.std.proofs.Common.{◌≡◌, ◌≢◌, ℕ, suc, ◌+◌, ◌-◌, ◌<◌, ◌≤◌, ◌^◌, ◌%◌, false, List, [], ◌∷◌, length, take, drop, sym, ap, ◌∙◌, subst, inl, inr, arith}
use Rattle.std.specs.Prelude.{Option, Some, None, Result, Ok, Err, SomeIff, OkIff, MatchResult, IsTrue, IfNone, slice_index, ◌==◌}
use Rattle.std.specs.Prelude.{ℤ}
use Rattle.std.specs.Int.{cast_signed, cast_unsigned, w32}
use Rattle.std.specs.Result.{result_ok}
use Rattle.std.specs.Char.{digit_value, is_ascii_digit, is_ascii_hexdigit}
use Rattle.std.specs.Str.{IsUtf8, IsAscii}
use Rattle.std.specs.Str.Parse.{AllDigits, IsNumeral, ParsesUnsigned, digits_value, without_leading_plus}
use Rattle.sts_base.specs.Int32.{to_int32}
use Rattle.sts_lexer.specs.Bytes.{Each, IsRun}
use Rattle.sts_lexer.specs.Lexemes.{ends_number, IsX, IsNumber}
use Rattle.std.proofs.lemmas.Bool.{cases_lt, cases_order, cond-false, ne_eqb, false≢true}
use Rattle.std.proofs.lemmas.Bool.Decides.{nat_tests}
use Rattle.std.proofs.lemmas.List.{get_or_past, get_or-take, get_or-drop, length-take}
use Rattle.std.proofs.lemmas.Option.{same_Some, none-some}
use Rattle.std.proofs.lemmas.Int.{of_z-to_z}
use Rattle.std.proofs.Math.Nat.{mod-eq_of_lt}
use Rattle.std.proofs.lemmas.Str.{IsUtf8-from_ascii}

-- each is a digit of the radix
abbrev pub AreDigits : ℕ → List ℕ → Type 0
AreDigits radix digits = (k : ℕ) → k < length digits → digit_value (slice_index digits k) < radix

pub all_digits : (radix : ℕ) (digits : List ℕ) → AreDigits radix digits → AllDigits radix digits
all_digits radix [] h = tt
all_digits radix (x ∷ xs) h = (h 0 (omega arith), all_digits radix xs (λ k below. h (suc k) (omega arith)))

low : (byte : ℕ) → digit_value byte < 36 → (byte < 128) × (byte ≢ 43)
low byte h = grind (arith, nat_tests)

ascii : (radix : ℕ) (digits : List ℕ) → radix ≤ 16 → AreDigits radix digits → IsAscii digits
ascii radix digits few h k =
    elim (cases_lt k (length digits)) [
      | inl within ↦ (low (slice_index digits k) (omega (arith, h k within))).0
      | inr past ↦ omega (arith, get_or_past digits k 0 past)
    ]

pub digits_utf8 : (radix : ℕ) (digits : List ℕ) → radix ≤ 16 → AreDigits radix digits → IsUtf8 digits
digits_utf8 radix digits few h = IsUtf8-from_ascii digits (ascii radix digits few h)

pub unsigned : (radix : ℕ) (digits : List ℕ) → radix ≤ 16 → 0 < length digits → AreDigits radix digits → without_leading_plus digits ≡ digits
unsigned radix digits few some h =
    ap (λ (n : ℕ). drop n digits) (cond-false (slice_index digits 0 == 43) 1 0 (ne_eqb (slice_index digits 0) 43 (low (slice_index digits 0) (omega (arith, h 0 some))).1))

pub ok_part : {T E : Type 0} (r : Result T E) (P : T → Type 0) (Q : E → Type 0) → MatchResult r P Q → (t : T) → result_ok r ≡ Some t → P t
ok_part (Ok x) P Q h t e = subst P (same_Some x t e) h
ok_part (Err x) P Q h t e = absurd (none-some t e)

pub err_part : {T E : Type 0} (r : Result T E) (P : T → Type 0) (Q : E → Type 0) → MatchResult r P Q → ◌≡◌ {A = Option T} (result_ok r) None → (e : E) × Q e
err_part (Ok x) P Q h e = absurd (none-some x (sym e))
err_part (Err x) P Q h e = (x, h)

parsed_as : {E : Type 0} (radix : ℕ) (digits : List ℕ) (r : Result ℕ E) → OkIff r (IsNumeral radix digits × (digits_value radix digits < 2 ^ 32)) (digits_value radix digits)
    → IsNumeral radix digits → SomeIff (result_ok r) (digits_value radix digits < 2 ^ 32) (digits_value radix digits)
parsed_as radix digits (Ok x) h numeral = (h.0.1, h.1)
parsed_as radix digits (Err x) h numeral = λ fits. h (numeral, fits)

pub parsed : {E : Type 0} (radix : ℕ) (digits : List ℕ) (r : Result ℕ E) → ParsesUnsigned 32 radix digits r → radix ≤ 16 → 0 < length digits → AreDigits radix digits
    → SomeIff (result_ok r) (digits_value radix digits < 2 ^ 32) (digits_value radix digits)
parsed radix digits r h few some are =
    parsed_as radix digits r
    (subst (λ (x : List ℕ). OkIff r (IsNumeral radix x × (digits_value radix x < 2 ^ 32)) (digits_value radix x)) (unsigned radix digits few some are) h)
    (some, all_digits radix digits are)

pub decimal_value : (byte : ℕ) → IsTrue (is_ascii_digit byte) → digit_value byte < 10
decimal_value byte h = grind (arith, nat_tests)

pub hex_value : (byte : ℕ) → IsTrue (is_ascii_hexdigit byte) → digit_value byte < 16
hex_value byte h = grind (arith, nat_tests)

-- digits among the bytes of a text
pub digits_between : (radix : ℕ) (text : List ℕ) (i j : ℕ) → ((k : ℕ) → i ≤ k → k < j → digit_value (slice_index text k) < radix) → AreDigits radix (take (j - i) (drop i text))
digits_between radix text i j each k below =
    let short : k < j - i = omega (arith, length-take (j - i) (drop i text)) in
    let same : slice_index (take (j - i) (drop i text)) k ≡ slice_index text (i + k) = get_or-take (j - i) (drop i text) k 0 short ∙ get_or-drop i text k 0 in
    subst (λ (x : ℕ). digit_value x < radix) (sym same) (each (i + k) (omega arith) (omega arith))

-- a digit of a name goes on a number
pub hex_goes_on : (byte : ℕ) → IsTrue (is_ascii_hexdigit byte) → IsTrue (ends_number byte) → ⊥
hex_goes_on byte h e = grind (arith, nat_tests)

pub x_goes_on : (byte : ℕ) → IsX byte → IsTrue (ends_number byte) → ⊥
x_goes_on byte h e = grind (arith, nat_tests)

-- hexadecimal digits that end a number end where their run does
pub hex_end : (text : List ℕ) (from r end : ℕ) → r ≤ length text → Each is_ascii_hexdigit text from r → (r < length text → is_ascii_hexdigit (slice_index text r) ≡ false)
    → from ≤ r → IsRun is_ascii_hexdigit text from end → IsTrue (ends_number (slice_index text end)) → end ≡ r
hex_end text from r end within each stop le run ends =
    elim (cases_order end r) [
      | inl same ↦ same
      | inr other ↦ elim other [
        | inl short ↦ absurd (hex_goes_on (slice_index text end) (each end (omega (arith, run.0)) short) ends)
        | inr long ↦ absurd (false≢true (sym (stop (omega (arith, run.1))) ∙ run.2 r le long))
      ]
    ]

-- what follows from the one cause of a `None`
pub none_from : {X : Type 0} (r : Option X) (P Q : Type 0) → IfNone r P → (P → Q) → IfNone r Q
none_from None P Q h f = f h
none_from (Some x) P Q h f = tt

pub number_within : (text : List ℕ) (value i j : ℕ) → IsNumber text value i j → (i < j) × (j ≤ length text)
number_within text value i j (inl h) = (h.0.0.0, h.0.0.1)
number_within text value i j (inr h) = (omega (arith, h.0.2.0), h.0.2.1)

pub if_none : {X : Type 0} (r : Option X) (P : Type 0) → P → IfNone r P
if_none None P p = p
if_none (Some x) P p = tt

-- a number that fits in 32 bits, as the code converts it
pub converted : (value : ℕ) (int : ℤ) → value ≤ 4294967295 → int ≡ cast_signed w32 value → cast_signed w32 (cast_unsigned w32 int) ≡ to_int32 value
converted value int fits is =
    let below : value < 2 ^ 32 = omega arith in
    let back : cast_unsigned w32 (cast_signed w32 value) ≡ value = of_z-to_z w32 value below in
    let same : value % 2 ^ 32 ≡ value = mod-eq_of_lt below in
    ap (λ (x : ℤ). cast_signed w32 (cast_unsigned w32 x)) is ∙ (ap (λ (x : ℕ). cast_signed w32 x) back ∙ ap (λ (x : ℕ). cast_signed w32 x) (sym same))

pub number_fits : (text : List ℕ) (value i j : ℕ) → IsNumber text value i j → value ≤ 4294967295
number_fits text value i j (inl h) = h.1.fits
number_fits text value i j (inr h) = h.1.fits
