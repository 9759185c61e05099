-- The flash as cells that may be empty, against the bytes that were given.
use Rattle.std.proofs.Common.{◌≡◌, ◌≢◌, ℕ, ◌+◌, ◌-◌, ◌<◌, ◌≤◌, ◌==◌, max, Bool, true, false, cond, List, [], ◌∷◌, ◌++◌, length, map, fold, get_or, set, replicate, Option, Some, None, Result, Ok, Err, refl, sym, ap, ◌∙◌, ⊎_elim, arith}
use Rattle.std.specs.Prelude.{is_some, nat_le, unwrap_or}
use Rattle.std.specs.List.{list_any, range_with_len}
use Rattle.std.proofs.lemmas.Bool.{cases_lt, cases_eq}
use Rattle.std.proofs.lemmas.Bool.Decides.{nat_tests}
use Rattle.std.proofs.lemmas.List.{ext_get_or, length-set, length-append, length-replicate, get_or-set_same, get_or-set_other, get_or_append_left, get_or-append_right, get_or_past, get_or-replicate, append_assoc, append-nil}
use Rattle.std.proofs.lemmas.List.FromFn.{length-map-range_with_len, get_or-map-range_with_len}
use Rattle.hex_image.specs.declared.refused.HexCode.{HexCode}
use Rattle.hex_image.specs.declared.refused.HexCode.TheVariants.{PastFlash, Overlap}
use Rattle.hex_image.specs.Image.{Cell, byte_at, extent, image_of}
use Rattle.hex_image.specs.Spells.{flash_size, cells_fault}
use Rattle.hex_image.specs.Reading.{Cells, cell_at, put, put_all}
use Rattle.hex_image.proofs.ListLemmas.{list_any-agree, map-map, all_both}
use Rattle.hex_image.proofs.GivenLemmas.{byte_at-past, byte_at-append_none, byte_at-none_cons, AreOnce, LieApart, head_apart}

-- the flash behind these cells
abbrev pub flash_of : List Cell → Cells
flash_of cells = map (byte_at cells) (range_with_len 0 (extent cells))

-- its bytes are the image
pub image_of-flash : (cells : List Cell) → map (λ cell. unwrap_or cell 0xFF) (flash_of cells) ≡ image_of cells
image_of-flash cells = map-map (λ cell. unwrap_or cell 0xFF) (byte_at cells) (range_with_len 0 (extent cells))

-- its cell at an address is what was given there
pub cell_at-flash : (cells : List Cell) (at : ℕ) → cell_at (flash_of cells) at ≡ byte_at cells at
cell_at-flash cells at =
    let len = length-map-range_with_len (byte_at cells) 0 (extent cells) in
    ⊎_elim (λ (lt : at < extent cells). get_or-map-range_with_len (byte_at cells) 0 (extent cells) at at None lt (omega arith))
    (λ (ge : extent cells ≤ at). get_or_past (flash_of cells) at None (omega (arith, len)) ∙ sym (byte_at-past cells at ge))
    (cases_lt at (extent cells))

extent-push : (cells : List Cell) (c : Cell) → extent (cells ++ c ∷ []) ≡ max (extent cells) (c.at + 1)
extent-push [] c = omega arith
extent-push (d ∷ cells) c = let e = extent-push cells c in omega (arith, e)

byte_at-push_other : (cells : List Cell) (c : Cell) (at : ℕ) → (c.at == at) ≡ false → byte_at (cells ++ c ∷ []) at ≡ byte_at cells at
byte_at-push_other [] c at h = byte_at-none_cons c [] at h refl
byte_at-push_other (d ∷ cells) c at h = ap (λ r. cond (d.at == at) (Some d.byte) r) (byte_at-push_other cells c at h)

byte_at-self : (c : Cell) → byte_at (c ∷ []) c.at ≡ Some c.byte
byte_at-self c = let same : (c.at == c.at) ≡ true = grind (arith, nat_tests) in ap (λ b. cond b (Some c.byte) None) same

-- a byte put where none was given is one more cell
pub put-flash : (cells : List Cell) (c : Cell) → byte_at cells c.at ≡ None → put (flash_of cells) c ≡ flash_of (cells ++ c ∷ [])
unfolding put
put-flash cells c free =
    let old : Cells = flash_of cells in
    let grown : Cells = old ++ replicate (c.at + 1 - length old) None in
    let old_len : length old ≡ extent cells = length-map-range_with_len (byte_at cells) 0 (extent cells) in
    let pad_len : length (replicate (c.at + 1 - length old) None) ≡ c.at + 1 - length old = length-replicate {A = Option ℕ} (c.at + 1 - length old) None in
    let grown_len : length grown ≡ max (extent cells) (c.at + 1) =
    length-append old (replicate (c.at + 1 - length old) None) ∙ omega (arith, old_len, pad_len) in
    let new_len = length-map-range_with_len (byte_at (cells ++ c ∷ [])) 0 (extent (cells ++ c ∷ [])) in
    let ext = extent-push cells c in
    let lens : length (set grown c.at (Some c.byte)) ≡ length (flash_of (cells ++ c ∷ [])) =
    length-set grown c.at (Some c.byte) ∙ omega (arith, grown_len, new_len, ext) in
    ext_get_or None (set grown c.at (Some c.byte)) (flash_of (cells ++ c ∷ [])) lens (λ k lt.
    ⊎_elim (λ (same : k ≡ c.at).
    ap (λ i. get_or (set grown c.at (Some c.byte)) i None) same ∙ get_or-set_same grown c.at (Some c.byte) None (omega (arith, grown_len))
    ∙ sym (ap (λ i. get_or (flash_of (cells ++ c ∷ [])) i None) same ∙ cell_at-flash (cells ++ c ∷ []) c.at
    ∙ byte_at-append_none cells (c ∷ []) c.at free ∙ byte_at-self c))
    (λ (other : k ≢ c.at).
    let apart : (c.at == k) ≡ false = grind (arith, nat_tests) in
    get_or-set_other grown c.at k (Some c.byte) None other ∙ padded old (c.at + 1 - length old) k
    ∙ cell_at-flash cells k ∙ sym (cell_at-flash (cells ++ c ∷ []) k ∙ byte_at-push_other cells c k apart))
    (cases_eq k c.at))
  where
    padded : (xs : Cells) (n k : ℕ) → get_or (xs ++ replicate n None) k None ≡ get_or xs k None
    padded xs n k =
        let pad_len = length-replicate {A = Option ℕ} n None in
        ⊎_elim (λ (lt : k < length xs). get_or_append_left xs (replicate n None) None k lt)
        (λ (ge : length xs ≤ k).
        get_or-append_right xs (replicate n None) (length xs) k None refl ge
        ∙ ⊎_elim (λ (in_pad : k - length xs < n). get_or-replicate n (k - length xs) None None in_pad)
        (λ (past : n ≤ k - length xs). get_or_past (replicate n None) (k - length xs) None (omega (arith, pad_len)))
        (cases_lt (k - length xs) n)
        ∙ sym (get_or_past xs k None ge))
        (cases_lt k (length xs))

-- bytes put where none was given are more cells
pub puts-flash : (new before : List Cell) → AreOnce new → LieApart before new → fold put (flash_of before) new ≡ flash_of (before ++ new)
puts-flash [] before once free = ap flash_of (sym (append-nil before))
puts-flash (c ∷ new) before once free =
    let rest = all_both (λ d. byte_at before d.at ≡ None) (λ d. (c.at == d.at) ≡ false) (λ d. byte_at (before ++ c ∷ []) d.at ≡ None)
    (λ d e f. byte_at-push_other before c d.at f ∙ e) new free.1 (head_apart c new once.0) in
    ap (λ f. fold put f new) (put-flash before c free.0) ∙ puts-flash new (before ++ c ∷ []) once.1 rest
    ∙ ap flash_of (append_assoc before (c ∷ []) new)

-- an answer, unless there is a fault
abbrev pub unless : {A : Type 0} → Option HexCode → A → Result A HexCode
unless None a = Ok a
unless (Some code) a = Err code

choose : (s t : Bool) (f : Cells) → cond s (Err PastFlash) (cond t (Err Overlap) (Ok f)) ≡ unless (cond s (Some PastFlash) (cond t (Some Overlap) None)) f
choose true t f = refl
choose false true f = refl
choose false false f = refl

-- new bytes are put unless they break a rule
pub put_all-flash : (before new : List Cell) → put_all (flash_of before) new ≡ unless (cells_fault before new) (fold put (flash_of before) new)
unfolding put_all
put_all-flash before new =
    ap (λ t. cond (list_any (λ c. nat_le flash_size c.at) new) (Err PastFlash) (cond t (Err Overlap) (Ok (fold put (flash_of before) new))))
    (list_any-agree (λ c. is_some (cell_at (flash_of before) c.at)) (λ c. is_some (byte_at before c.at)) (λ c. ap is_some (cell_at-flash before c.at)) new)
    ∙ choose (list_any (λ c. nat_le flash_size c.at) new) (list_any (λ c. is_some (byte_at before c.at)) new) (fold put (flash_of before) new)
