-- The digits and lines of a text that is written.
use Rattle.std.proofs.Common.{◌≡◌, ℕ, ◌+◌, ◌-◌, ◌/◌, ◌%◌, ◌<◌, List, [], ◌∷◌, ◌++◌, length, take, get_or, refl, sym, ap, ◌∙◌, append_assoc, arith}
use Rattle.std.specs.Prelude.{sum, slice_index}
use Rattle.std.proofs.lemmas.List.{take_more}
use Rattle.std.proofs.lemmas.List.{append-nil, map-id}
use Rattle.std.proofs.lemmas.List.Concat.{flat_map-append}
use Rattle.std.proofs.lemmas.List.FromFn.{map-range_with_len_more}
use Rattle.std.proofs.lemmas.List.Sums.{sum_by-append}
use Rattle.std.specs.List.{flat_map, range_with_len}
use Rattle.hex.specs.Hex.{encode_with, encode_upper, upper_digits}
use Rattle.hex_image.specs.Records.{colon}
use Rattle.hex_image.specs.Writing.{check_byte, record_line}

-- the digits of a list are those of its parts
pub encode_upper-append : (a b : List ℕ) → encode_upper (a ++ b) ≡ encode_upper a ++ encode_upper b
unfolding encode_with
encode_upper-append [] b = refl
encode_upper-append (x ∷ a) b = ap (λ rest. slice_index upper_digits (x / 16) ∷ slice_index upper_digits (x % 16) ∷ rest) (encode_upper-append a b)

-- one byte more is written
pub encode_upper-more : (old bytes : List ℕ) (i : ℕ) → i < length bytes
    → ((old ++ encode_upper (take i bytes)) ++ slice_index upper_digits (get_or bytes i 0 / 16) ∷ []) ++ slice_index upper_digits (get_or bytes i 0 % 16) ∷ []
    ≡ old ++ encode_upper (take (i + 1) bytes)
unfolding encode_with
encode_upper-more old bytes i h =
    let more = ap encode_upper (take_more bytes i 0 h) ∙ encode_upper-append (take i bytes) (get_or bytes i 0 ∷ []) in
    rw more (simp append_assoc)

-- the sum of a record's bytes, as it is added up
sum-parts : (header payload : List ℕ) (s t : ℕ) → s ≡ (0 + sum header) % 256 → t ≡ (s + sum payload) % 256 → (256 - t) % 256 ≡ check_byte (header ++ payload)
sum-parts header payload s t e f =
    let whole = sum_by-append (λ x. x) header payload in
    omega (arith, whole, e, f)

-- a line is its parts
pub record_line-parts : (out payload : List ℕ) (kind offset s t : ℕ)
    → s ≡ (0 + sum (length payload ∷ offset / 256 ∷ offset % 256 ∷ kind ∷ [])) % 256 → t ≡ (s + sum payload) % 256
    → ((((out ++ 58 ∷ []) ++ encode_upper (length payload ∷ offset / 256 ∷ offset % 256 ∷ kind ∷ [])) ++ encode_upper payload) ++ encode_upper ((256 - t) % 256 ∷ [])) ++ 10 ∷ []
    ≡ out ++ record_line kind offset payload
unfolding record_line
record_line-parts out payload kind offset s t e f =
    let header : List ℕ = length payload ∷ offset / 256 ∷ offset % 256 ∷ kind ∷ [] in
    let digits : encode_upper ((header ++ payload) ++ check_byte (header ++ payload) ∷ []) ≡ (encode_upper header ++ encode_upper payload) ++ encode_upper ((256 - t) % 256 ∷ []) =
    encode_upper-append (header ++ payload) (check_byte (header ++ payload) ∷ [])
    ∙ ap (λ d. d ++ encode_upper (check_byte (header ++ payload) ∷ [])) (encode_upper-append header payload)
    ∙ ap (λ c. (encode_upper header ++ encode_upper payload) ++ encode_upper (c ∷ [])) (sym (sum-parts header payload s t e f)) in
    sym (ap (λ d. out ++ ((colon ∷ d) ++ 10 ∷ [])) digits
    ∙ regroup out (encode_upper header) (encode_upper payload) (encode_upper ((256 - t) % 256 ∷ [])))
  where
    regroup : (o a b d : List ℕ) → o ++ ((colon ∷ ((a ++ b) ++ d)) ++ 10 ∷ []) ≡ ((((o ++ 58 ∷ []) ++ a) ++ b) ++ d) ++ 10 ∷ []
    regroup o a b d = simp append_assoc

-- one row more
pub rows-more : (f : ℕ → List ℕ) (k : ℕ) → flat_map f (range_with_len 0 (k + 1)) ≡ flat_map f (range_with_len 0 k) ++ f k
rows-more f k =
    let one : range_with_len 0 (k + 1) ≡ range_with_len 0 k ++ k ∷ [] =
    sym (map-id (range_with_len 0 (k + 1))) ∙ map-range_with_len_more (λ x. x) 0 k k (omega arith) ∙ ap (λ xs. xs ++ k ∷ []) (map-id (range_with_len 0 k)) in
    ap (flat_map f) one ∙ flat_map-append f (range_with_len 0 k) (k ∷ []) ∙ ap (λ xs. flat_map f (range_with_len 0 k) ++ xs) (append-nil (f k))
