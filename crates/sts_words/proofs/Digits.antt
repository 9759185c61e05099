-- Numbers that stand in words.
use Rattle.std.proofs.Common.{◌≡◌, ℕ, ◌<◌, ◌≤◌, ◌^◌, List, [], ◌∷◌, length, refl, sym, subst, arith}
use Rattle.std.specs.Prelude.{Bool, true, false, ◌&&◌, nat_le, Result, Ok, Err, OkIff}
use Rattle.std.specs.Char.{is_ascii_digit}
use Rattle.std.specs.List.{list_all}
use Rattle.std.specs.Str.{all_ascii_digits}
use Rattle.std.specs.Str.Parse.{digits_value, ParsesUnsigned}
use Rattle.std.proofs.lemmas.Bool.{false≢true, leb-true}
use Rattle.std.proofs.lemmas.Str.Parse.{IsNumeralModel, numerals_by_value, tells_all_ascii_digits, parse_digits}
use Rattle.sts_words.specs.Words.{is_number}

both : (a b : Bool) → (a && b) ≡ true → (a ≡ true) × (b ≡ true)
both true b h = (refl, h)
both false b h = absurd (false≢true h)

all-digits : (bytes : List ℕ) → list_all is_ascii_digit bytes ≡ true → all_ascii_digits bytes ≡ true
all-digits [] h = refl
all-digits (byte ∷ bytes) h =
    let parts = both (is_ascii_digit byte) (list_all is_ascii_digit bytes) h in
    subst (λ b. (b && all_ascii_digits bytes) ≡ true) (sym parts.0) (all-digits bytes parts.1)

some-digit : (word : List ℕ) → is_number word ≡ true → 0 < length word
some-digit word h =
    let sizes = both (nat_le 1 (length word) && nat_le (length word) 10) (list_all is_ascii_digit word) h in
    let least = both (nat_le 1 (length word)) (nat_le (length word) 10) sizes.0 in
    let some : 1 ≤ length word = leb-true 1 (length word) least.0 in omega arith

own : IsNumeralModel (λ digits. all_ascii_digits digits ≡ true) (digits_value 10)
own = numerals_by_value (λ digits. all_ascii_digits digits ≡ true) tells_all_ascii_digits

plain : {E : Type 0} (word : List ℕ) (r : Result ℕ E) → 0 < length word → OkIff r ((0 < length word) × (digits_value 10 word < 2 ^ 32)) (digits_value 10 word)
    → OkIff r (digits_value 10 word < 2 ^ 32) (digits_value 10 word)
plain word (Ok value) some h = (h.0.1, h.1)
plain word (Err why) some h = λ fits. h (some, fits)

-- what a parse gives of one to ten digits
pub number-parsed : {E : Type 0} (word : List ℕ) (r : Result ℕ E) → is_number word ≡ true → ParsesUnsigned 32 10 word r
    → OkIff r (digits_value 10 word < 2 ^ 32) (digits_value 10 word)
number-parsed word r h parsed =
    let digits = (both (nat_le 1 (length word) && nat_le (length word) 10) (list_all is_ascii_digit word) h).1 in
    plain word r (some-digit word h) (parse_digits own 32 word r parsed (all-digits word digits))
