-- Numbers of at most eight digits.
use Rattle.std.proofs.Common.{◌≡◌, ℕ, ◌<◌, ◌≤◌, ◌^◌, List, [], ◌∷◌, length, refl, sym, subst, arith}
use Rattle.std.specs.Prelude.{Bool, true, false, ◌&&◌, nat_le, Err}
use Rattle.std.specs.Char.{is_ascii_digit}
use Rattle.std.specs.List.{list_all}
use Rattle.std.specs.Str.{all_ascii_digits}
use Rattle.std.specs.Str.Parse.{digits_value, ParsesUnsigned}
use Rattle.std.proofs.lemmas.Bool.{false≢true, leb-true}
use Rattle.std.proofs.lemmas.Str.Parse.{IsNumeralModel, numerals_by_value, tells_all_ascii_digits, parse_digits, digits_value_short}
use Rattle.play_requests.specs.Numbers.{is_path_number}

both : (a b : Bool) → (a && b) ≡ true → (a ≡ true) × (b ≡ true)
both true b h = (refl, h)
both false b h = absurd (false≢true h)

all-digits : (bytes : List ℕ) → list_all is_ascii_digit bytes ≡ true → all_ascii_digits bytes ≡ true
all-digits [] h = refl
all-digits (byte ∷ bytes) h =
    let parts = both (is_ascii_digit byte) (list_all is_ascii_digit bytes) h in
    subst (λ b. (b && all_ascii_digits bytes) ≡ true) (sym parts.0) (all-digits bytes parts.1)

own : IsNumeralModel (λ digits. all_ascii_digits digits ≡ true) (digits_value 10)
own = numerals_by_value (λ digits. all_ascii_digits digits ≡ true) tells_all_ascii_digits

-- one to eight digits can be parsed
pub always-parsed : {E : Type 0} (word : List ℕ) (e : E) → is_path_number word ≡ true → ParsesUnsigned 32 10 word (Err e) → ⊥
always-parsed word e h parsed =
    let parts = both (nat_le 1 (length word) && nat_le (length word) 8) (list_all is_ascii_digit word) h in
    let sizes = both (nat_le 1 (length word)) (nat_le (length word) 8) parts.0 in
    let digits = all-digits word parts.1 in
    let some : 1 ≤ length word = leb-true 1 (length word) sizes.0 in
    let few : length word ≤ 8 = leb-true (length word) 8 sizes.1 in
    let small : digits_value 10 word < 10 ^ 8 = digits_value_short own word 8 digits few in
    parse_digits own 32 word (Err e) parsed digits (omega arith, omega (arith, small))
