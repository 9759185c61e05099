-- Hexadecimal digits there and back.
use Rattle.std.proofs.Common.{◌≡◌, ℕ, ◌+◌, ◌*◌, ◌/◌, ◌%◌, ◌<◌, nat_lt, true, false, ◌&&◌, List, [], ◌∷◌, ◌++◌, ap, ◌∙◌, refl, arith}
use Rattle.std.specs.List.{flat_map, list_all}
use Rattle.std.specs.Fmt.{digit_glyph}
use Rattle.std.proofs.lemmas.Bool.{and_parts, false≢true}
use Rattle.std.proofs.lemmas.Bool.Decides.{nat_tests}
use Rattle.view_forms.specs.Shown.{nibble, hex_pair, bytes_of_hex}
use Rattle.view_forms.specs.Pictures.{is_low_hex, is_hex_text}

pub nibble-digit : (n : ℕ) → n < 16 → nibble (digit_glyph false n) ≡ n
nibble-digit n h = grind (arith, nat_tests)

pub byte-back : (b : ℕ) → b < 256 → 16 * nibble (digit_glyph false (b / 16)) + nibble (digit_glyph false (b % 16)) ≡ b
byte-back b h = rw (nibble-digit (b / 16) (omega arith), nibble-digit (b % 16) (omega arith)) (omega arith)

pub digit-back : (d : ℕ) → is_low_hex d ≡ true → digit_glyph false (nibble d) ≡ d
digit-back d h = grind (arith, nat_tests)

pub nibble-small : (d : ℕ) → is_low_hex d ≡ true → nibble d < 16
nibble-small d h = grind (arith, nat_tests)

high-of : (a c : ℕ) → c < 16 → (16 * a + c) / 16 ≡ a
high-of a c h = omega arith

low-of : (a c : ℕ) → c < 16 → (16 * a + c) % 16 ≡ c
low-of a c h = omega arith

pub pair-back : (h l : ℕ) → is_low_hex h ≡ true → is_low_hex l ≡ true → hex_pair (16 * nibble h + nibble l) ≡ h ∷ (l ∷ [])
pair-back h l p q =
    rw (high-of (nibble h) (nibble l) (nibble-small l q), low-of (nibble h) (nibble l) (nibble-small l q), digit-back h p, digit-back l q) refl

pub hex-back : (xs : List ℕ) → is_hex_text xs ≡ true → flat_map hex_pair (bytes_of_hex xs) ≡ xs
hex-back [] e = refl
hex-back (h ∷ []) e = absurd (false≢true e)
hex-back (h ∷ (l ∷ rest)) e =
    let p = and_parts (is_low_hex h) (is_low_hex l && is_hex_text rest) e in
    let q = and_parts (is_low_hex l) (is_hex_text rest) p.1 in
    ap (λ t. t ++ flat_map hex_pair (bytes_of_hex rest)) (pair-back h l p.0 q.0) ∙ ap (λ t. h ∷ (l ∷ t)) (hex-back rest q.1)

-- such digits are bytes of a byte each
value-small : (a c : ℕ) → a < 16 → c < 16 → nat_lt (16 * a + c) 256 ≡ true
value-small a c h k = grind (arith, nat_tests)

pub hex-bytes : (xs : List ℕ) → is_hex_text xs ≡ true → list_all (λ b. nat_lt b 256) (bytes_of_hex xs) ≡ true
hex-bytes [] e = refl
hex-bytes (h ∷ []) e = refl
hex-bytes (h ∷ (l ∷ rest)) e =
    let p = and_parts (is_low_hex h) (is_low_hex l && is_hex_text rest) e in
    let q = and_parts (is_low_hex l) (is_hex_text rest) p.1 in
    rw (value-small (nibble h) (nibble l) (nibble-small h p.0) (nibble-small l q.0)) (hex-bytes rest q.1)
