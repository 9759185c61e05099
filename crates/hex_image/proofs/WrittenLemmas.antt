-- What a written line says.
use Rattle.std.proofs.Common.{◌≡◌, ℕ, zero, suc, ◌+◌, ◌-◌, ◌*◌, ◌/◌, ◌%◌, ◌<◌, ◌≤◌, ◌==◌, true, false, cond, List, [], ◌∷◌, ◌++◌, length, take, Some, Result, Ok, Err, refl, ap, ◌∙◌, arith}
use Rattle.std.specs.Prelude.{not, sum, slice_index, slice_range}
use Rattle.std.specs.List.{AllByRecursion, slice_split}
use Rattle.std.specs.Result.{result_ok}
use Rattle.std.specs.Str.Lines.{lines, lines_of_parts, strip_carriage_return}
use Rattle.std.proofs.lemmas.Bool.Decides.{nat_tests}
use Rattle.std.proofs.lemmas.List.{append_assoc, length-append, take_at}
use Rattle.std.proofs.lemmas.List.Elements.{All-from_recursion, All-get_or}
use Rattle.std.proofs.lemmas.List.Splits.{slice_split_at, length-slice_split}
use Rattle.std.proofs.lemmas.List.Sums.{sum_by-append}
use Rattle.hex.specs.Hex.{IsBytes, encode_with, encode_upper, upper_digits, hex_digit_value}
use Rattle.hex.proofs.HexLemmas.{IsDigits-upper_digits, decode_of-encode_upper}
use Rattle.hex_image.specs.declared.refused.HexCode.{HexCode}
use Rattle.hex_image.specs.declared.refused.HexCode.TheVariants.{BadLine, BadSum}
use Rattle.hex_image.specs.Records.{Record, colon, full_lines, meaning, record_in, record_in_some, record_of}
use Rattle.hex_image.specs.Spells.{Say}
use Rattle.hex_image.specs.Writing.{check_byte, record_line}
use Rattle.hex_image.proofs.ListLemmas.{all_weaker}
use Rattle.hex_image.proofs.LineLemmas.{is_feed, lines_of_parts-more}
use Rattle.hex_image.proofs.LoopLemmas.{full_lines-more}

-- ---- a line apart from the text around it

-- above the bytes that end lines
abbrev pub IsPlain : List ℕ → Type 0
IsPlain line = AllByRecursion (λ b. 14 ≤ b) line

strip-plain : (line : List ℕ) → IsPlain line → strip_carriage_return line ≡ line
strip-plain [] h = refl
strip-plain (b ∷ line) h =
    let whole : List ℕ = b ∷ line in
    let last = All-get_or (λ b. 14 ≤ b) whole (length whole - 1) 0 (omega arith) (All-from_recursion (λ b. 14 ≤ b) whole h) in
    let other : (slice_index whole (length whole - 1) == 13) ≡ false = grind (arith, nat_tests) in
    ap (λ t. cond t (take (length whole - 1) whole) whole) other

-- the lines of a text that begins with a plain line
lines-plain : (line rest : List ℕ) → IsPlain line → lines (line ++ 10 ∷ rest) ≡ line ∷ lines rest
lines-plain line rest h =
    let no_feed = All-from_recursion (λ b. is_feed b ≡ false) line (all_weaker (λ b. 14 ≤ b) (λ b. is_feed b ≡ false) (λ b k. grind (arith, nat_tests)) line h) in
    let many = length-slice_split is_feed rest in
    ap lines_of_parts (slice_split_at is_feed line 10 rest no_feed refl)
    ∙ lines_of_parts-more line (slice_split is_feed rest) (omega (arith, many))
    ∙ ap (λ l. l ∷ lines rest) (strip-plain line h)

-- ---- digits

plain_digit : (c d : ℕ) → hex_digit_value c ≡ Some d → 14 ≤ c
plain_digit c d h = grind (arith, nat_tests)

IsBytes-tail : (b : ℕ) (bytes : List ℕ) → IsBytes (b ∷ bytes) → IsBytes bytes
IsBytes-tail b bytes h i = h (suc i)

pub IsBytes-cons : (b : ℕ) (bytes : List ℕ) → b < 256 → IsBytes bytes → IsBytes (b ∷ bytes)
IsBytes-cons b bytes h hs zero = h
IsBytes-cons b bytes h hs (suc i) = hs i

IsBytes-push : (bytes : List ℕ) (b : ℕ) → b < 256 → IsBytes bytes → IsBytes (bytes ++ b ∷ [])
IsBytes-push [] b h hs = IsBytes-cons b [] h hs
IsBytes-push (c ∷ bytes) b h hs = IsBytes-cons c (bytes ++ b ∷ []) (hs 0) (IsBytes-push bytes b h (IsBytes-tail c bytes hs))

IsPlain-digits : (bytes : List ℕ) → IsBytes bytes → IsPlain (encode_upper bytes)
unfolding encode_with
IsPlain-digits [] h = tt
IsPlain-digits (b ∷ bytes) h =
    let small : b < 256 = h 0 in (
      plain_digit (slice_index upper_digits (b / 16)) (b / 16) (IsDigits-upper_digits (b / 16) (omega arith)),
      (plain_digit (slice_index upper_digits (b % 16)) (b % 16) (IsDigits-upper_digits (b % 16) (omega arith)), IsPlain-digits bytes (IsBytes-tail b bytes h)),
    )

-- ---- a record

-- a record's bytes before the check byte
abbrev pub body_of : ℕ → ℕ → List ℕ → List ℕ
body_of kind offset payload = length payload ∷ offset / 256 ∷ offset % 256 ∷ kind ∷ payload

balanced : (body : List ℕ) → sum (body ++ check_byte body ∷ []) % 256 ≡ 0
balanced body =
    let whole = sum_by-append (λ x. x) body (check_byte body ∷ []) in
    omega (arith, whole)

-- the whole bytes of a record
abbrev pub bytes_with_check : ℕ → ℕ → List ℕ → List ℕ
bytes_with_check kind offset payload = body_of kind offset payload ++ check_byte (body_of kind offset payload) ∷ []

record_in-body : (kind offset : ℕ) (payload : List ℕ) → record_in (bytes_with_check kind offset payload) ≡ meaning kind offset payload
unfolding record_in
record_in-body kind offset payload =
    let whole : List ℕ = bytes_with_check kind offset payload in
    let check : ℕ = check_byte (body_of kind offset payload) in
    let len = length-append payload (check ∷ []) in
    let stated : (length whole == length payload + 5) ≡ true = grind (arith, nat_tests) in
    let read : Result Record HexCode = meaning kind (256 * (offset / 256) + offset % 256) (slice_range whole 4 (length whole - 1)) in
    let same : 256 * (offset / 256) + offset % 256 ≡ offset = omega arith in
    ap (λ b. cond (not b) (Err BadLine) (cond (not (sum whole % 256 == 0)) (Err BadSum) read)) stated
    ∙ ap (λ n. cond (not (n == 0)) (Err BadSum) read) (balanced (body_of kind offset payload))
    ∙ ap (λ o. meaning kind o (slice_range whole 4 (length whole - 1))) same
    ∙ ap (meaning kind offset) (take_at payload (check ∷ []) (length whole - 1 - 4) (omega (arith, len)))

IsBytes-whole : (kind offset : ℕ) (payload : List ℕ) → kind < 256 → offset < 65536 → length payload < 256 → IsBytes payload → IsBytes (bytes_with_check kind offset payload)
IsBytes-whole kind offset payload k o l h =
    let body : List ℕ = body_of kind offset payload in
    IsBytes-push body (check_byte body) (omega arith)
    (IsBytes-cons (length payload) (offset / 256 ∷ offset % 256 ∷ kind ∷ payload) l
    (IsBytes-cons (offset / 256) (offset % 256 ∷ kind ∷ payload) (omega arith)
    (IsBytes-cons (offset % 256) (kind ∷ payload) (omega arith) (IsBytes-cons kind payload k h))))

-- the line of a record, apart from the line feed
abbrev pub record_digits : ℕ → ℕ → List ℕ → List ℕ
record_digits kind offset payload = colon ∷ encode_upper (bytes_with_check kind offset payload)

record_of-digits : (kind offset : ℕ) (payload : List ℕ) → IsBytes (bytes_with_check kind offset payload) → record_of (record_digits kind offset payload) ≡ meaning kind offset payload
record_of-digits kind offset payload h =
    ap (λ r. record_in_some (result_ok r)) (decode_of-encode_upper (bytes_with_check kind offset payload) h)
    ∙ record_in-body kind offset payload

-- ---- texts whose lines say records, whatever follows

pub record Tells (text : List ℕ) (records : List Record) : Type 0 where
  pub tells : (rest : List ℕ) (more : List Record) → Say (full_lines rest) more → Say (full_lines (text ++ rest)) (records ++ more)

pub Tells-nil : Tells [] []
Tells-nil = record { tells = λ rest more h. h }

pub Tells-append : (a b : List ℕ) (p q : List Record) → Tells a p → Tells b q → Tells (a ++ b) (p ++ q)
Tells-append a b p q f g = record {
  tells = λ rest more h.
      rw (append_assoc a b rest, append_assoc p q more) (f.tells (b ++ rest) (q ++ more) (g.tells rest more h));
}

-- a written line tells its record
pub Tells-record : (kind offset : ℕ) (payload : List ℕ) (r : Record) → kind < 256 → offset < 65536 → length payload < 256 → IsBytes payload → meaning kind offset payload ≡ Ok r → Tells (record_line kind offset payload) (r ∷ [])
unfolding record_line
Tells-record kind offset payload r k o l h said = record {
  tells = λ rest more following.
      let bytes = IsBytes-whole kind offset payload k o l h in
      let line : List ℕ = record_digits kind offset payload in
      let plain : IsPlain line = (omega arith, IsPlain-digits (bytes_with_check kind offset payload) bytes) in
      let cut : lines ((line ++ 10 ∷ []) ++ rest) ≡ line ∷ lines rest = ap lines (append_assoc line (10 ∷ []) rest) ∙ lines-plain line rest plain in
      let all : full_lines ((line ++ 10 ∷ []) ++ rest) ≡ line ∷ full_lines rest =
      full_lines-more ((line ++ 10 ∷ []) ++ rest) line rest cut (grind (arith, nat_tests)) in
      let both : Say (line ∷ full_lines rest) (r ∷ more) = (record_of-digits kind offset payload bytes ∙ said, following) in
      rw all both;
}
