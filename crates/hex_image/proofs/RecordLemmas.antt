-- A record has at most 255 data bytes.
use Rattle.std.proofs.Common.{◌≡◌, ℕ, ◌+◌, ◌-◌, ◌*◌, ◌%◌, ◌≤◌, ◌==◌, ◌||◌, Bool, true, false, cond, List, [], ◌∷◌, length, drop, None, Result, Ok, Err, refl, subst, arith}
use Rattle.std.specs.Prelude.{not, sum, slice_index, slice_range}
use Rattle.std.specs.Result.{result_ok}
use Rattle.std.proofs.lemmas.Bool.{eqb-true}
use Rattle.std.proofs.lemmas.List.{length-take}
use Rattle.hex.specs.Hex.{decode_of, IsBytes}
use Rattle.hex.specs.declared.error.FromHexError.{FromHexError}
use Rattle.hex.proofs.HexLemmas.{decode_of-ok}
use Rattle.hex_image.specs.declared.refused.HexCode.{HexCode}
use Rattle.hex_image.specs.declared.refused.HexCode.TheVariants.{BadLine, BadSum, BadType}
use Rattle.hex_image.specs.declared.flash.Base.{Base}
use Rattle.hex_image.specs.Records.{Record, Bytes, End, Segment, Linear, Start, colon, number, sized, meaning, record_in, record_in_some, record_of}
use Rattle.hex_image.specs.Image.{cells_of}
use Rattle.hex_image.proofs.GivenLemmas.{AreOnce, AreOnce-cells_from}

-- the data bytes of a record
abbrev pub payload_of : Record → List ℕ
payload_of (Bytes offset bytes) = bytes
payload_of End = []
payload_of (Segment n) = []
payload_of (Linear n) = []
payload_of Start = []

-- how many data bytes were read, none where a rule is broken
abbrev payload_len : Result Record HexCode → ℕ
payload_len (Ok r) = length (payload_of r)
payload_len (Err code) = 0

payload_len-cond : (b : Bool) (r s : Result Record HexCode) (n : ℕ) → payload_len r ≤ n → payload_len s ≤ n → payload_len (cond b r s) ≤ n
payload_len-cond true r s n h k = h
payload_len-cond false r s n h k = k

payload_len-sized : (payload : List ℕ) (wanted : ℕ) (meant : Record) (n : ℕ) → length (payload_of meant) ≤ n → payload_len (sized payload wanted meant) ≤ n
payload_len-sized payload wanted meant n h = payload_len-cond (length payload == wanted) (Ok meant) (Err BadLine) n h (omega arith)

payload_len-meaning : (kind offset : ℕ) (payload : List ℕ) → payload_len (meaning kind offset payload) ≤ length payload
unfolding meaning
payload_len-meaning kind offset payload =
    let n : ℕ = length payload in
    payload_len-cond (kind == 0) (Ok (Bytes offset payload)) _ n (omega arith)
    (payload_len-cond (kind == 1) (sized payload 0 End) _ n (payload_len-sized payload 0 End n (omega arith))
    (payload_len-cond (kind == 2) (sized payload 2 (Segment (number payload))) _ n (payload_len-sized payload 2 (Segment (number payload)) n (omega arith))
    (payload_len-cond (kind == 4) (sized payload 2 (Linear (number payload))) _ n (payload_len-sized payload 2 (Linear (number payload)) n (omega arith))
    (payload_len-cond (kind == 3 || kind == 5) (sized payload 4 Start) (Err BadType) n (payload_len-sized payload 4 Start n (omega arith)) (omega arith)))))

payload_len-record_in : (bytes : List ℕ) → IsBytes bytes → payload_len (record_in bytes) ≤ 255
unfolding record_in
payload_len-record_in bytes are_bytes = go (length bytes == slice_index bytes 0 + 5) refl
  where
    payload : List ℕ
    payload = slice_range bytes 4 (length bytes - 1)

    rest : Result Record HexCode
    rest = cond (not (sum bytes % 256 == 0)) (Err BadSum) (meaning (slice_index bytes 3) (256 * slice_index bytes 1 + slice_index bytes 2) payload)

    go : (b : Bool) → (length bytes == slice_index bytes 0 + 5) ≡ b → payload_len (cond (not b) (Err BadLine) rest) ≤ 255
    go false e = omega arith
    go true e =
        let stated = eqb-true (length bytes) (slice_index bytes 0 + 5) e in
        let cut = length-take (length bytes - 1 - 4) (drop 4 bytes) in
        let first = are_bytes 0 in
        let short : length payload ≤ 255 = omega (arith, stated, cut, first) in
        let read = payload_len-meaning (slice_index bytes 3) (256 * slice_index bytes 1 + slice_index bytes 2) payload in
        payload_len-cond (not (sum bytes % 256 == 0)) (Err BadSum) _ 255 (omega arith) (omega (arith, read, short))

payload_len-digits : (digits : List ℕ) (r : Result (List ℕ) FromHexError) → decode_of digits ≡ r → payload_len (record_in_some (result_ok r)) ≤ 255
payload_len-digits digits (Ok bytes) e = payload_len-record_in bytes (decode_of-ok digits bytes e).3
payload_len-digits digits (Err f) e = omega arith

payload_len-record_of : (line : List ℕ) → payload_len (record_of line) ≤ 255
payload_len-record_of [] = omega arith
payload_len-record_of (first ∷ digits) = go (first == colon)
  where
    go : (b : Bool) → payload_len (record_in_some (cond b (result_ok (decode_of digits)) None)) ≤ 255
    go true = payload_len-digits digits (decode_of digits) refl
    go false = omega arith

-- a record gives no address twice
pub AreOnce-record : (line : List ℕ) (r : Record) (base : Base) → record_of line ≡ Ok r → AreOnce (cells_of base r)
AreOnce-record line (Bytes offset bytes) base h =
    let short : length bytes ≤ 255 = subst (λ (x : Result Record HexCode). payload_len x ≤ 255) h (payload_len-record_of line) in
    AreOnce-cells_from base bytes offset (omega arith)
AreOnce-record line End base h = tt
AreOnce-record line (Segment n) base h = tt
AreOnce-record line (Linear n) base h = tt
AreOnce-record line Start base h = tt
