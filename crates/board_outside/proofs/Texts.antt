-- Pieces of text in a row.
use Rattle.std.proofs.Common.{◌≡◌, ℕ, zero, suc, List, [], ◌∷◌, ◌++◌, ◌/◌, ◌%◌, ◌==◌, if◌then◌else◌, codes, ◌∙◌, ap, append_assoc, sym, take, length, refl, arith}
use Rattle.std.proofs.Common.{get_or, add-one, ◌<◌, ◌≤◌, ◌+◌, ◌-◌, ◌*◌, min, set, drop, length-drop, inl, inr}
use Rattle.std.proofs.lemmas.List.{append-nil}
use Rattle.thumb_code.specs.Map.{flash_byte}
use Rattle.bank_model.specs.Texts.{flash_bytes}
use Rattle.std.proofs.Math.Seq.{take-suc, take-add, drop-cons}
use Rattle.std.proofs.lemmas.List.{take_all, take_more_set, length-set, length-take}
use Rattle.std.proofs.lemmas.Bool.{cases_lt}
use Rattle.board_world.specs.Transcript.{hex_text, hex_digit, lights}

pub three-pieces : (text a b c : List ℕ) → text ++ a ++ b ++ c ≡ text ++ (a ++ (b ++ c))
three-pieces text a b c = append_assoc (text ++ a) b c ∙ append_assoc text a (b ++ c)

pub four-pieces : (text a b c d : List ℕ) → text ++ a ++ b ++ c ++ d ≡ text ++ (a ++ (b ++ (c ++ d)))
four-pieces text a b c d = append_assoc (text ++ a ++ b) c d ∙ three-pieces text a b (c ++ d)

-- the hexadecimal text of bytes in a row
pub hex_text-append : (xs ys : List ℕ) → hex_text (xs ++ ys) ≡ hex_text xs ++ hex_text ys
hex_text-append [] ys = refl
hex_text-append (x ∷ xs) ys = ap (λ rest. hex_digit (x / 16) ∷ hex_digit (x % 16) ∷ rest) (hex_text-append xs ys)

-- two digits more
pub digits-more : (digits bytes : List ℕ) (i b x y : ℕ) → i < length bytes → 2 * i + 1 < length digits → b ≡ get_or bytes i 0 → x ≡ hex_digit (b / 16) → y ≡ hex_digit (b % 16)
    → take (2 * i) digits ≡ hex_text (take i bytes) → take (2 * (i + 1)) (set (set digits (2 * i) x) (2 * i + 1) y) ≡ hex_text (take (i + 1) bytes)
digits-more digits bytes i b x y within room is high low before =
    let first : take (2 * i + 1) (set digits (2 * i) x) ≡ take (2 * i) digits ++ x ∷ [] = take_more_set digits (2 * i) x (omega (arith, room)) in
    let long : length (set digits (2 * i) x) ≡ length digits = length-set digits (2 * i) x in
    let second : take (2 * i + 1 + 1) (set (set digits (2 * i) x) (2 * i + 1) y) ≡ take (2 * i + 1) (set digits (2 * i) x) ++ y ∷ [] = take_more_set (set digits (2 * i) x) (2 * i + 1) y (omega (arith, room, long)) in
    let twice : 2 * (i + 1) ≡ 2 * i + 1 + 1 = omega arith in
    ap (λ n. take n (set (set digits (2 * i) x) (2 * i + 1) y)) twice ∙ second ∙ ap (λ l. l ++ y ∷ []) (first ∙ ap (λ l. l ++ x ∷ []) before)
    ∙ append_assoc (hex_text (take i bytes)) (x ∷ []) (y ∷ [])
    ∙ ap (λ d. hex_text (take i bytes) ++ d ∷ (y ∷ [])) high ∙ ap (λ d. hex_text (take i bytes) ++ hex_digit (b / 16) ∷ (d ∷ [])) low
    ∙ sym (hex_text-append (take i bytes) (b ∷ []))
    ∙ ap (λ d. hex_text (take i bytes ++ d ∷ [])) is
    ∙ ap hex_text (sym (ap (λ n. take n bytes) (add-one i) ∙ take-suc bytes i 0 within))

-- all digits
pub digits-all : (digits bytes : List ℕ) (i : ℕ) → i ≡ length bytes → take (2 * i) digits ≡ hex_text (take i bytes) → take (2 * length bytes) digits ≡ hex_text bytes
digits-all digits bytes i e is = ap (λ n. take (2 * n) digits) (sym e) ∙ is ∙ ap hex_text (take_all i bytes (omega (arith, e)))

-- a few bytes more
pub few-more : (text bytes few : List ℕ) (n m k : ℕ) → few ≡ take (m - n) (drop n bytes) → m ≡ min (length bytes) (n + k)
    → text ++ hex_text (take n bytes) ++ hex_text few ≡ text ++ hex_text (take (n + k) bytes)
few-more text bytes few n m k is end =
    append_assoc text (hex_text (take n bytes)) (hex_text few)
    ∙ ap (λ x. text ++ x) (sym (hex_text-append (take n bytes) few) ∙ ap (λ x. hex_text (take n bytes ++ x)) (is ∙ as_many m end) ∙ ap hex_text (sym (take-add n k bytes)))
  where
    rest : length (drop n bytes) ≡ length bytes - n
    rest = length-drop n bytes

    all_there : (m : ℕ) → m ≡ length bytes → length bytes ≤ n + k → take (m - n) (drop n bytes) ≡ take k (drop n bytes)
    all_there m e h = take_all (m - n) (drop n bytes) (let l = rest in omega (arith, e, l)) ∙ sym (take_all k (drop n bytes) (let l = rest in omega (arith, h, l)))

    some_there : (m : ℕ) → m ≡ n + k → take (m - n) (drop n bytes) ≡ take k (drop n bytes)
    some_there m e = ap (λ j. take j (drop n bytes)) (omega (arith, e))

    as_many : (m : ℕ) → m ≡ min (length bytes) (n + k) → take (m - n) (drop n bytes) ≡ take k (drop n bytes)
    as_many m e = elim (cases_lt (n + k) (length bytes)) [ inl h ↦ some_there m (omega (arith, e, h)) | inr h ↦ all_there m (omega (arith, e, h)) h ]

pub a-piece-more : (text bytes few : List ℕ) (i m : ℕ) → few ≡ take (m - i * 128) (drop (i * 128) bytes) → m ≡ min (length bytes) (i * 128 + 128)
    → text ++ hex_text (take (i * 128) bytes) ++ hex_text few ≡ text ++ hex_text (take ((i + 1) * 128) bytes)
a-piece-more text bytes few i m is end =
    let next : i * 128 + 128 ≡ (i + 1) * 128 = omega arith in
    few-more text bytes few (i * 128) m 128 is end ∙ ap (λ n. text ++ hex_text (take n bytes)) next

-- all bytes
pub hex-all : (text bytes : List ℕ) (i : ℕ) → length bytes ≤ i → text ++ hex_text (take i bytes) ≡ text ++ hex_text bytes
hex-all text bytes i past = ap (λ x. text ++ hex_text x) (take_all i bytes past)

-- bytes of flash behind bytes of flash
pub bytes-append : (flash : List ℕ) (n m at : ℕ) → flash_bytes flash (n + m) at ≡ flash_bytes flash n at ++ flash_bytes flash m (at + n)
bytes-append flash zero m at = let e : zero + m ≡ m = omega arith in let f : at ≡ at + zero = omega arith in ap (λ k. flash_bytes flash k at) e ∙ ap (λ k. flash_bytes flash m k) f
bytes-append flash (suc n) m at =
    let e : suc n + m ≡ suc (n + m) = omega arith in
    let f : at + 1 + n ≡ at + suc n = omega arith in
    ap (λ k. flash_bytes flash k at) e
    ∙ ap (λ l. flash_byte flash at ∷ l) (bytes-append flash n m (at + 1) ∙ ap (λ k. flash_bytes flash n (at + 1) ++ flash_bytes flash m k) f)

-- bytes of flash within the image
pub bytes-within : (flash : List ℕ) (n at : ℕ) → at + n ≤ length flash → take n (drop at flash) ≡ flash_bytes flash n at
bytes-within flash zero at h = refl
bytes-within flash (suc n) at h =
    let next : suc at ≡ at + 1 = omega arith in
    ap (take (suc n)) (drop-cons flash at 0xFF (omega (arith, h)))
    ∙ ap (λ k. get_or flash at 0xFF ∷ take n (drop k flash)) next
    ∙ ap (λ l. get_or flash at 0xFF ∷ l) (bytes-within flash n (at + 1) (omega (arith, h)))

pub five-pieces : (text a b c d e : List ℕ) → text ++ a ++ b ++ c ++ d ++ e ≡ text ++ (a ++ (b ++ (c ++ (d ++ e))))
five-pieces text a b c d e = append_assoc (text ++ a ++ b ++ c) d e ∙ four-pieces text a b c (d ++ e)

pub seven-pieces : (text a b c d e f g : List ℕ) → text ++ a ++ b ++ c ++ d ++ e ++ f ++ g ≡ text ++ (a ++ (b ++ (c ++ (d ++ (e ++ (f ++ g))))))
seven-pieces text a b c d e f g =
    append_assoc (text ++ a ++ b ++ c ++ d ++ e) f g ∙ (append_assoc (text ++ a ++ b ++ c ++ d) e (f ++ g) ∙ five-pieces text a b c d (e ++ (f ++ g)))

pub six-pieces : (text a b c d e f : List ℕ) → text ++ a ++ b ++ c ++ d ++ e ++ f ≡ text ++ (a ++ (b ++ (c ++ (d ++ (e ++ f)))))
six-pieces text a b c d e f = append_assoc (text ++ a ++ b ++ c ++ d) e f ∙ five-pieces text a b c d (e ++ f)

-- rows behind a row, each behind a slash
pub four-rows : (text a s b c d e : List ℕ) → text ++ a ++ (s ++ b) ++ (s ++ c) ++ (s ++ d) ++ (s ++ e) ≡ text ++ (a ++ (s ++ (b ++ (s ++ (c ++ (s ++ (d ++ (s ++ e))))))))
four-rows text a s b c d e =
    five-pieces text a (s ++ b) (s ++ c) (s ++ d) (s ++ e)
    ∙ ap (λ x. text ++ (a ++ x)) (append_assoc s b _ ∙ ap (λ x. s ++ (b ++ x)) (append_assoc s c _ ∙ ap (λ x. s ++ (c ++ x)) (append_assoc s d _)))

-- five lights, one by one
pub five-lights : (frame a b c d e : ℕ) → a ∷ [] ≡ lights 1 frame → b ∷ [] ≡ lights 1 (frame / 2) → c ∷ [] ≡ lights 1 (frame / 2 / 2) → d ∷ [] ≡ lights 1 (frame / 2 / 2 / 2) → e ∷ [] ≡ lights 1 (frame / 2 / 2 / 2 / 2)
    → a ∷ (b ∷ (c ∷ (d ∷ (e ∷ [])))) ≡ lights 5 frame
five-lights frame a b c d e p q r s t =
    let one = λ (x n : ℕ) (xs : List ℕ) (h : x ∷ [] ≡ lights 1 n). ap (λ (l : List ℕ). l ++ xs) h ∙ light_then n xs in
    one a frame _ p ∙ ap (λ l. one_light frame ++ l) (one b (frame / 2) _ q ∙ ap (λ l. one_light (frame / 2) ++ l) (one c (frame / 2 / 2) _ r
    ∙ ap (λ l. one_light (frame / 2 / 2) ++ l) (one d (frame / 2 / 2 / 2) _ s ∙ ap (λ l. one_light (frame / 2 / 2 / 2) ++ l) t)))
  where
    one_light : ℕ → List ℕ
    one_light n = if n % 2 == 1 then codes "#" else codes "."

    light_then : (n : ℕ) (xs : List ℕ) → lights 1 n ++ xs ≡ one_light n ++ xs
    light_then n xs = ap (λ l. l ++ xs) (append-nil (one_light n))

-- bytes of flash, one more
pub bytes-one-more : (flash : List ℕ) (at i : ℕ) → flash_bytes flash (i + 1) at ≡ flash_bytes flash i at ++ flash_byte flash (at + i) ∷ []
bytes-one-more flash at i = ap (λ n. flash_bytes flash n at) (add-one i) ∙ by_count i at
  where
    by_count : (n at : ℕ) → flash_bytes flash (suc n) at ≡ flash_bytes flash n at ++ flash_byte flash (at + n) ∷ []
    by_count zero at = (let e : at ≡ at + zero = omega arith in ap (λ k. flash_byte flash k ∷ []) e)
    by_count (suc n) at = ap (λ l. flash_byte flash at ∷ l) (by_count n (at + 1) ∙ (let e : at + 1 + n ≡ at + suc n = omega arith in ap (λ k. flash_bytes flash n (at + 1) ++ flash_byte flash k ∷ []) e))

-- a part of the image
pub image-part : (flash found : List ℕ) (at from there : ℕ) → from ≡ min (length flash) at → there ≤ length flash - from → found ≡ take (from + there - from) (drop from flash)
    → found ≡ flash_bytes flash (length found) at
image-part flash found at from there start end is = elim (cases_lt at (length flash)) [ inl h ↦ inner h | inr h ↦ outer h ]
  where
    as_long : from + there - from ≡ there
    as_long = omega arith

    part : found ≡ take there (drop from flash)
    part = is ∙ ap (λ n. take n (drop from flash)) as_long

    inner : at < length flash → found ≡ flash_bytes flash (length found) at
    inner h =
        let same : from ≡ at = omega (arith, start, h) in
        let within : at + there ≤ length flash = omega (arith, same, end, h) in
        let bytes : found ≡ flash_bytes flash there at = part ∙ ap (λ k. take there (drop k flash)) same ∙ bytes-within flash there at within in
        let long : length (drop from flash) ≡ length flash - from = length-drop from flash in
        let whole : length found ≡ there = ap length part ∙ length-take there (drop from flash) ∙ omega (arith, long, end) in
        bytes ∙ ap (λ n. flash_bytes flash n at) (sym whole)

    outer : length flash ≤ at → found ≡ flash_bytes flash (length found) at
    outer h =
        let none : there ≡ zero = omega (arith, start, end, h) in
        let empty : found ≡ [] = part ∙ ap (λ n. take n (drop from flash)) none in
        empty ∙ sym (ap (λ l. flash_bytes flash (length l) at) empty)

-- what the image has of some bytes, and what it hasn't
pub bytes-parts : (flash found : List ℕ) (count at : ℕ) → length found ≤ count → found ≡ flash_bytes flash (length found) at
    → found ++ flash_bytes flash (count - length found) (at + length found) ≡ flash_bytes flash count at
bytes-parts flash found count at h is =
    let e : length found + (count - length found) ≡ count = omega (arith, h) in
    ap (λ l. l ++ flash_bytes flash (count - length found) (at + length found)) is
    ∙ sym (bytes-append flash (length found) (count - length found) at)
    ∙ ap (λ k. flash_bytes flash k at) e

-- the same as text
pub flash-parts : (text flash found : List ℕ) (count at : ℕ) → length found ≤ count → found ≡ flash_bytes flash (length found) at
    → text ++ hex_text found ++ hex_text (flash_bytes flash (count - length found) (at + length found)) ≡ text ++ hex_text (flash_bytes flash count at)
flash-parts text flash found count at h is =
    append_assoc text (hex_text found) _
    ∙ ap (λ x. text ++ x) (sym (hex_text-append found _) ∙ ap hex_text (bytes-parts flash found count at h is))

pub flash-one-more : (text flash : List ℕ) (at i : ℕ) → text ++ hex_text (flash_bytes flash i at) ++ hex_text (flash_byte flash (at + i) ∷ []) ≡ text ++ hex_text (flash_bytes flash (i + 1) at)
flash-one-more text flash at i =
    append_assoc text (hex_text (flash_bytes flash i at)) _ ∙ ap (λ x. text ++ x) (sym (hex_text-append (flash_bytes flash i at) _) ∙ ap hex_text (sym (bytes-one-more flash at i)))
