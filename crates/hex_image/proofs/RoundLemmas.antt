-- The written text of an image spells it.
use Rattle.std.proofs.Common.{◌≡◌, ℕ, zero, suc, ◌+◌, ◌*◌, ◌/◌, ◌%◌, ◌^◌, ◌<◌, ◌≤◌, ◌==◌, ◌||◌, Bool, true, false, cond, List, [], ◌∷◌, ◌++◌, length, fold, drop, get_or, Some, None, Ok, refl, sym, ap, ◌∙◌, subst, ⊎_elim, ◌⊎◌, arith, add-zero}
use Rattle.std.specs.Prelude.{unwrap_or}
use Rattle.std.specs.List.{All, AllByRecursion, flat_map, range_with_len}
use Rattle.std.proofs.lemmas.Bool.{cases_lt, false≢true}
use Rattle.std.proofs.lemmas.Bool.Decides.{nat_tests}
use Rattle.std.proofs.lemmas.List.{append-nil, length-take, take-append-drop, drop-drop, drop_all, ext_get_or, get_or_past, get_or-take, get_or-drop}
use Rattle.std.proofs.lemmas.List.FromFn.{length-map-range_with_len, get_or-map-range_with_len}
use Rattle.hex.specs.Hex.{IsBytes}
use Rattle.hex_image.specs.declared.flash.Base.{Base}
use Rattle.hex_image.specs.declared.flash.Base.TheVariants as bases
use Rattle.hex_image.specs.Records.{Record, Bytes, End, Linear, meaning}
use Rattle.hex_image.specs.Image.{Cell, base_behind, cells_from, given, byte_at, extent, image_of}
use Rattle.hex_image.specs.Spells.{flash_size, is_end, has_end, EndsLast, Spells}
use Rattle.hex_image.specs.Writing.{record_line, row, row_count, block_lines, row_lines, hextext}
use Rattle.hex_image.specs.Laws.{IsImage, RoundTrip}
use Rattle.hex_image.proofs.ListLemmas.{or_false, fold-append}
use Rattle.hex_image.proofs.GivenLemmas.{AreOnce, byte_at-none_cons, distinct_from_once}
use Rattle.hex_image.proofs.ProgressLemmas.{has_end-push, given-append}
use Rattle.hex_image.proofs.SoundLemmas.{EndsLast-push}
use Rattle.hex_image.proofs.AnswerLemmas.{one_reading-of}
use Rattle.hex_image.proofs.WrittenLemmas.{IsBytes-cons, Tells, Tells-nil, Tells-append, Tells-record}

-- ---- the records of the rows

-- a base record where 64 KB begin
abbrev block_records : ℕ → List Record
block_records at = cond (at % 65536 == 0) (Linear (at / 65536) ∷ []) []

-- the records of row k
abbrev row_records : List ℕ → ℕ → List Record
row_records image k = block_records (16 * k) ++ Bytes (16 * k % 65536) (row image k) ∷ []

-- the records of the m rows from row k on
abbrev rows_records : List ℕ → ℕ → ℕ → List Record
rows_records image k m = flat_map (row_records image) (range_with_len k m)

-- ---- their lines

IsBytes-from_image : (image : List ℕ) → All (λ b. b < 256) image → IsBytes image
IsBytes-from_image image h i =
    ⊎_elim (λ (lt : i < length image). h i 0 lt)
    (λ (ge : length image ≤ i). subst (λ n. n < 256) (sym (get_or_past image i 0 ge)) (omega arith))
    (cases_lt i (length image))

IsBytes-row : (image : List ℕ) (k : ℕ) → IsBytes image → IsBytes (row image k)
IsBytes-row image k h i =
    ⊎_elim (λ (lt : i < 16). subst (λ n. n < 256) (sym (get_or-take 16 (drop (16 * k) image) i 0 lt ∙ get_or-drop (16 * k) image i 0)) (h (16 * k + i)))
    (λ (ge : 16 ≤ i).
    let len = length-take 16 (drop (16 * k) image) in
    subst (λ n. n < 256) (sym (get_or_past (row image k) i 0 (omega (arith, len)))) (omega arith))
    (cases_lt i 16)

IsBytes-two : (a b : ℕ) → a < 256 → b < 256 → IsBytes (a ∷ b ∷ [])
IsBytes-two a b h k = IsBytes-cons a (b ∷ []) h (IsBytes-cons b [] k (λ i. omega arith))

Tells-block : (at : ℕ) → at < 2 ^ 32 → Tells (block_lines at) (block_records at)
unfolding block_lines meaning
Tells-block at low = go (at % 65536 == 0)
  where
    go : (b : Bool) → Tells (cond b (record_line 4 0 (at / 65536 / 256 ∷ at / 65536 % 256 ∷ [])) []) (cond b (Linear (at / 65536) ∷ []) [])
    go true =
        let same : 256 * (at / 65536 / 256) + at / 65536 % 256 ≡ at / 65536 = omega arith in
        Tells-record 4 0 (at / 65536 / 256 ∷ at / 65536 % 256 ∷ []) (Linear (at / 65536)) (omega arith) (omega arith) (omega arith)
        (IsBytes-two (at / 65536 / 256) (at / 65536 % 256) (omega arith) (omega arith)) (ap (λ n. Ok (Linear n)) same)
    go false = Tells-nil

Tells-row : (image : List ℕ) (k : ℕ) → IsBytes image → 16 * k < 2 ^ 32 → Tells (row_lines image k) (row_records image k)
unfolding row_lines meaning
Tells-row image k h low =
    let len = length-take 16 (drop (16 * k) image) in
    Tells-append (block_lines (16 * k)) (record_line 0 (16 * k % 65536) (row image k)) (block_records (16 * k)) (Bytes (16 * k % 65536) (row image k) ∷ [])
    (Tells-block (16 * k) low)
    (Tells-record 0 (16 * k % 65536) (row image k) (Bytes (16 * k % 65536) (row image k)) (omega arith) (omega arith) (omega (arith, len)) (IsBytes-row image k h) refl)

Tells-rows : (image : List ℕ) (m k : ℕ) → IsBytes image → 16 * (k + m) ≤ 2 ^ 32 → Tells (flat_map (row_lines image) (range_with_len k m)) (rows_records image k m)
Tells-rows image zero k h low = Tells-nil
Tells-rows image (suc m) k h low =
    Tells-append (row_lines image k) (flat_map (row_lines image) (range_with_len (k + 1) m)) (row_records image k) (rows_records image (k + 1) m)
    (Tells-row image k h (omega arith)) (Tells-rows image m (k + 1) h (omega arith))

Tells-end : Tells (record_line 1 0 []) (End ∷ [])
unfolding meaning
Tells-end = Tells-record 1 0 [] End (omega arith) (omega arith) (omega arith) (λ i. omega arith) refl

-- ---- what they give: each byte at its place

-- data bytes by blocks stand where they stand in the image
cells_from-block : (bytes : List ℕ) (q r at : ℕ) → 65536 * q + r ≡ at → at + length bytes ≤ 2 ^ 32 → cells_from (bases.Linear q) r bytes ≡ cells_from bases.Zero at bytes
cells_from-block [] q r at e low = refl
cells_from-block (b ∷ bytes) q r at e low =
    let here : (65536 * q + r) % 2 ^ 32 ≡ at = omega arith in
    let rest : List Cell = cells_from (bases.Linear q) (r + 1) bytes in
    ap (λ a. record { at = a; byte = b } ∷ rest) here
    ∙ ap (λ cells. record { at = at; byte = b } ∷ cells) (cells_from-block bytes q (r + 1) (at + 1) (omega arith) (omega arith))

cells_from-append : (a b : List ℕ) (at : ℕ) → cells_from bases.Zero at (a ++ b) ≡ cells_from bases.Zero at a ++ cells_from bases.Zero (at + length a) b
cells_from-append [] b at = ap (λ n. cells_from bases.Zero n b) (sym (add-zero at))
cells_from-append (x ∷ a) b at =
    let same : at + 1 + length a ≡ at + suc (length a) = omega arith in
    ap (λ cells. record { at = at; byte = x } ∷ cells) (cells_from-append a b (at + 1) ∙ ap (λ n. cells_from bases.Zero (at + 1) a ++ cells_from bases.Zero n b) same)

-- a base behind which row k needs no base record
abbrev IsBaseAt : Base → ℕ → Type 0
IsBaseAt base at = (at % 65536 == 0) ≡ false → base ≡ bases.Linear (at / 65536)

-- the base behind the base record of row k
block_base : (base : Base) (at : ℕ) → IsBaseAt base at → fold base_behind base (block_records at) ≡ bases.Linear (at / 65536)
block_base base at h = go (at % 65536 == 0) h
  where
    go : (b : Bool) → (b ≡ false → base ≡ bases.Linear (at / 65536)) → fold base_behind base (cond b (Linear (at / 65536) ∷ []) []) ≡ bases.Linear (at / 65536)
    go true k = refl
    go false k = k refl

block_given : (base : Base) (at : ℕ) → given base (block_records at) ≡ []
block_given base at = go (at % 65536 == 0)
  where
    go : (b : Bool) → given base (cond b (Linear (at / 65536) ∷ []) []) ≡ []
    go true = refl
    go false = refl

base-next : (k : ℕ) → IsBaseAt (bases.Linear (16 * k / 65536)) (16 * (k + 1))
base-next k h = let same : 16 * k / 65536 ≡ 16 * (k + 1) / 65536 = grind (arith, nat_tests) in ap bases.Linear same

-- what row k gives
row_given : (image : List ℕ) (base : Base) (k : ℕ) → IsBaseAt base (16 * k) → 16 * k + 16 ≤ 2 ^ 32 → given base (row_records image k) ≡ cells_from bases.Zero (16 * k) (row image k)
row_given image base k good low =
    let len = length-take 16 (drop (16 * k) image) in
    given-append base (block_records (16 * k)) (Bytes (16 * k % 65536) (row image k) ∷ [])
    ∙ ap (λ cells. cells ++ given (fold base_behind base (block_records (16 * k))) (Bytes (16 * k % 65536) (row image k) ∷ [])) (block_given base (16 * k))
    ∙ ap (λ b. cells_from b (16 * k % 65536) (row image k) ++ []) (block_base base (16 * k) good)
    ∙ append-nil (cells_from (bases.Linear (16 * k / 65536)) (16 * k % 65536) (row image k))
    ∙ cells_from-block (row image k) (16 * k / 65536) (16 * k % 65536) (16 * k) (omega arith) (omega (arith, len))

-- the base behind row k
row_base : (image : List ℕ) (base : Base) (k : ℕ) → IsBaseAt base (16 * k) → fold base_behind base (row_records image k) ≡ bases.Linear (16 * k / 65536)
row_base image base k good = fold-append base_behind base (block_records (16 * k)) (Bytes (16 * k % 65536) (row image k) ∷ []) ∙ block_base base (16 * k) good

-- a row and what stands behind it
row_joins : (image : List ℕ) (k : ℕ) → cells_from bases.Zero (16 * k) (row image k) ++ cells_from bases.Zero (16 * (k + 1)) (drop (16 * (k + 1)) image) ≡ cells_from bases.Zero (16 * k) (drop (16 * k) image)
row_joins image k =
    let rest : List ℕ = drop (16 * k) image in
    let behind : drop 16 rest ≡ drop (16 * (k + 1)) image = drop-drop 16 (16 * k) image ∙ ap (λ n. drop n image) (omega arith) in
    let whole : cells_from bases.Zero (16 * k) (row image k) ++ cells_from bases.Zero (16 * k + length (row image k)) (drop 16 rest) ≡ cells_from bases.Zero (16 * k) rest =
    sym (cells_from-append (row image k) (drop 16 rest) (16 * k)) ∙ ap (cells_from bases.Zero (16 * k)) (take-append-drop 16 rest) in
    let len = length-take 16 rest in
    ap (λ cells. cells_from bases.Zero (16 * k) (row image k) ++ cells)
    (⊎_elim (λ (full : 16 ≤ length rest).
    let same : 16 * (k + 1) ≡ 16 * k + length (row image k) = omega (arith, len) in
    ap (λ n. cells_from bases.Zero n (drop (16 * (k + 1)) image)) same ∙ ap (cells_from bases.Zero (16 * k + length (row image k))) (sym behind))
    (λ (short : length rest < 16).
    let none : drop 16 rest ≡ [] = drop_all 16 rest (omega arith) in
    ap (cells_from bases.Zero (16 * (k + 1))) (sym behind ∙ none) ∙ ap (cells_from bases.Zero (16 * k + length (row image k))) (sym none))
    (cases_le 16 (length rest)))
    ∙ whole
  where
    cases_le : (m n : ℕ) → (m ≤ n) ⊎ (n < m)
    cases_le m n = grind arith

rows_given : (image : List ℕ) (m k : ℕ) (base : Base) → IsBaseAt base (16 * k) → 16 * (k + m) ≤ 2 ^ 32 → length image ≤ 16 * (k + m) → given base (rows_records image k m) ≡ cells_from bases.Zero (16 * k) (drop (16 * k) image)
rows_given image zero k base good low all = ap (cells_from bases.Zero (16 * k)) (sym (drop_all (16 * k) image (omega arith)))
rows_given image (suc m) k base good low all =
    given-append base (row_records image k) (rows_records image (k + 1) m)
    ∙ ap (λ cells. cells ++ given (fold base_behind base (row_records image k)) (rows_records image (k + 1) m)) (row_given image base k good (omega arith))
    ∙ ap (λ b. cells_from bases.Zero (16 * k) (row image k) ++ given b (rows_records image (k + 1) m)) (row_base image base k good)
    ∙ ap (λ cells. cells_from bases.Zero (16 * k) (row image k) ++ cells) (rows_given image m (k + 1) (bases.Linear (16 * k / 65536)) (base-next k) (omega arith) (omega arith))
    ∙ row_joins image k

-- ---- the image of bytes that stand at their places

extent-cells_from : (b : ℕ) (bytes : List ℕ) (at : ℕ) → extent (cells_from bases.Zero at (b ∷ bytes)) ≡ at + suc (length bytes)
extent-cells_from b [] at = omega arith
extent-cells_from b (c ∷ bytes) at = let rest = extent-cells_from c bytes (at + 1) in omega (arith, rest)

extent-image : (image : List ℕ) → extent (cells_from bases.Zero 0 image) ≡ length image
extent-image [] = refl
extent-image (b ∷ bytes) = extent-cells_from b bytes 0 ∙ omega arith

zero-apart : (bytes : List ℕ) (at before : ℕ) → before < at → byte_at (cells_from bases.Zero at bytes) before ≡ None
zero-apart [] at before h = refl
zero-apart (b ∷ bytes) at before h =
    byte_at-none_cons (record { at = at; byte = b }) (cells_from bases.Zero (at + 1) bytes) before (grind (arith, nat_tests)) (zero-apart bytes (at + 1) before (omega arith))

AreOnce-zero : (bytes : List ℕ) (at : ℕ) → AreOnce (cells_from bases.Zero at bytes)
AreOnce-zero [] at = tt
AreOnce-zero (b ∷ bytes) at = (zero-apart bytes (at + 1) at (omega arith), AreOnce-zero bytes (at + 1))

below : (bytes : List ℕ) (at : ℕ) → at + length bytes ≤ flash_size → AllByRecursion (λ cell. cell.at < flash_size) (cells_from bases.Zero at bytes)
below [] at h = tt
below (b ∷ bytes) at h = (omega arith, below bytes (at + 1) (omega arith))

byte_at-cells_from : (bytes : List ℕ) (at k : ℕ) → k < length bytes → byte_at (cells_from bases.Zero at bytes) (at + k) ≡ Some (get_or bytes k 0)
byte_at-cells_from [] at k h = absurd (omega arith)
byte_at-cells_from (b ∷ bytes) at zero h =
    let same : (at == at + 0) ≡ true = grind (arith, nat_tests) in
    ap (λ t. cond t (Some b) (byte_at (cells_from bases.Zero (at + 1) bytes) (at + 0))) same
byte_at-cells_from (b ∷ bytes) at (suc k) h =
    let other : (at == at + suc k) ≡ false = grind (arith, nat_tests) in
    let same : at + suc k ≡ at + 1 + k = omega arith in
    ap (λ t. cond t (Some b) (byte_at (cells_from bases.Zero (at + 1) bytes) (at + suc k))) other
    ∙ ap (byte_at (cells_from bases.Zero (at + 1) bytes)) same ∙ byte_at-cells_from bytes (at + 1) k (omega arith)

image_of-cells_from : (image : List ℕ) → image_of (cells_from bases.Zero 0 image) ≡ image
image_of-cells_from image =
    let cells : List Cell = cells_from bases.Zero 0 image in
    let len : length (image_of cells) ≡ length image = length-map-range_with_len (λ at. unwrap_or (byte_at cells at) 0xFF) 0 (extent cells) ∙ extent-image image in
    let wide = extent-image image in
    ext_get_or 0 (image_of cells) image len (λ k lt.
    let within : k < length image = omega (arith, lt, len) in
    let zero_up : k ≡ 0 + k = omega arith in
    get_or-map-range_with_len (λ at. unwrap_or (byte_at cells at) 0xFF) 0 (extent cells) k k 0 (omega (arith, within, wide)) (omega arith)
    ∙ ap (λ at. unwrap_or (byte_at cells at) 0xFF) zero_up ∙ ap (λ o. unwrap_or o 0xFF) (byte_at-cells_from image 0 k within))

-- ---- the rules

no_end_in_row : (image : List ℕ) (k : ℕ) → has_end (row_records image k) ≡ false
no_end_in_row image k = go (16 * k % 65536 == 0)
  where
    go : (b : Bool) → has_end (cond b (Linear (16 * k / 65536) ∷ []) [] ++ Bytes (16 * k % 65536) (row image k) ∷ []) ≡ false
    go true = refl
    go false = refl

list_any-append : (a b : List Record) → has_end (a ++ b) ≡ (has_end a || has_end b)
list_any-append [] b = refl
list_any-append (x ∷ a) b = ap (λ t. is_end x || t) (list_any-append a b) ∙ or_assoc (is_end x) (has_end a) (has_end b)
  where
    or_assoc : (p q r : Bool) → (p || (q || r)) ≡ ((p || q) || r)
    or_assoc true q r = refl
    or_assoc false q r = refl

no_end : (image : List ℕ) (m k : ℕ) → has_end (rows_records image k m) ≡ false
no_end image zero k = refl
no_end image (suc m) k =
    list_any-append (row_records image k) (rows_records image (k + 1) m)
    ∙ ap (λ t. t || has_end (rows_records image (k + 1) m)) (no_end_in_row image k) ∙ no_end image m (k + 1)

EndsLast-none : (records : List Record) → has_end records ≡ false → EndsLast records
EndsLast-none [] h = tt
EndsLast-none (r ∷ records) h =
    let parts = or_false (is_end r) (has_end records) h in
    (λ e. absurd (false≢true (sym parts.0 ∙ e)), EndsLast-none records parts.1)

-- ---- the round trip

pub Spells-hextext : (image : List ℕ) → IsImage image → Spells (hextext image) image
unfolding hextext
Spells-hextext image fits =
    let m : ℕ = row_count image in
    let low : length image ≤ 262144 = fits.fits in
    let rows : List Record = rows_records image 0 m in
    let bytes = IsBytes-from_image image fits.bytes in
    let told = Tells-append (flat_map (row_lines image) (range_with_len 0 m)) (record_line 1 0 []) rows (End ∷ []) (Tells-rows image m 0 bytes (omega arith)) Tells-end in
    let said = told.tells [] [] tt in
    let cells : given bases.Zero (rows ++ End ∷ []) ≡ cells_from bases.Zero 0 image =
    given-append bases.Zero rows (End ∷ []) ∙ append-nil (given bases.Zero rows)
    ∙ rows_given image m 0 bases.Zero (λ e. absurd (false≢true (sym e))) (omega arith) (omega arith) in
    record {
      records = rows ++ End ∷ [];
      lines = rw (append-nil, append-nil) at said;
      sound = record {
        ends_last = EndsLast-push rows End (EndsLast-none rows (no_end image m 0)) (no_end image m 0);
        in_flash = rw cells (below image 0 (omega arith));
        once = rw cells (distinct_from_once (cells_from bases.Zero 0 image) (AreOnce-zero image 0));
      };
      ended = has_end-push rows End;
      content = sym (ap image_of cells ∙ image_of-cells_from image);
    }

pub round_trip-of : (image : List ℕ) → IsImage image → RoundTrip image
round_trip-of image fits = record {
  spelled = Spells-hextext image fits;
  only = λ other spelled. (one_reading-of (hextext image)).one_image other image spelled (Spells-hextext image fits);
}
