-- What was read so far, against the records that were read: one more record, one more line.
use Rattle.std.proofs.Common.{◌≡◌, ℕ, ◌<◌, ◌||◌, Bool, true, false, cond, List, [], ◌∷◌, ◌++◌, fold, Option, Some, None, Result, Ok, Err, refl, sym, ap, ◌∙◌}
use Rattle.std.specs.Prelude.{is_some, nat_le}
use Rattle.std.specs.List.{list_any, AllByRecursion}
use Rattle.std.proofs.lemmas.Bool.{leb-false, lt-leb}
use Rattle.std.proofs.lemmas.List.{append_assoc, append-nil}
use Rattle.hex_image.specs.declared.refused.HexCode.{HexCode}
use Rattle.hex_image.specs.declared.refused.HexCode.TheVariants.{PastFlash, Overlap}
use Rattle.hex_image.specs.declared.flash.Base.{Base}
use Rattle.hex_image.specs.declared.flash.Base.TheVariants.{Zero}
use Rattle.hex_image.specs.Records.{Record}
use Rattle.hex_image.specs.Image.{Cell, base_behind, cells_of, given, byte_at}
use Rattle.hex_image.specs.Spells.{flash_size, is_end, has_end, base_after, cells_fault}
use Rattle.hex_image.specs.Reading.{Progress, ◌>>=◌, put, put_all, behind_record}
use Rattle.hex_image.proofs.ListLemmas.{all_weaker, none_passes, all_fail, fold-append}
use Rattle.hex_image.proofs.GivenLemmas.{AreOnce, LieApart}
use Rattle.hex_image.proofs.FlashLemmas.{flash_of, unless, put_all-flash, puts-flash}

-- ---- one more record

swap_or : (a b c : Bool) → (a || (b || c)) ≡ (b || (a || c))
swap_or true true c = refl
swap_or true false c = refl
swap_or false b c = refl

pub has_end-push : (records : List Record) (r : Record) → has_end (records ++ r ∷ []) ≡ (is_end r || has_end records)
has_end-push [] r = refl
has_end-push (x ∷ records) r = ap (λ b. is_end x || b) (has_end-push records r) ∙ swap_or (is_end x) (is_end r) (has_end records)

pub base_after-push : (records : List Record) (r : Record) → base_after (records ++ r ∷ []) ≡ base_behind (base_after records) r
base_after-push records r = fold-append base_behind Zero records (r ∷ [])

pub given-append : (base : Base) (a b : List Record) → given base (a ++ b) ≡ given base a ++ given (fold base_behind base a) b
given-append base [] b = refl
given-append base (r ∷ a) b =
    ap (λ cells. cells_of base r ++ cells) (given-append (base_behind base r) a b)
    ∙ sym (append_assoc (cells_of base r) (given (base_behind base r) a) (given (fold base_behind (base_behind base r) a) b))

-- the data bytes of a record behind others
abbrev pub new_cells : List Record → Record → List Cell
new_cells records r = cells_of (base_after records) r

pub given-push : (records : List Record) (r : Record) → given Zero (records ++ r ∷ []) ≡ given Zero records ++ new_cells records r
given-push records r = given-append Zero records (r ∷ []) ∙ ap (λ cells. given Zero records ++ cells) (append-nil (new_cells records r))

-- what was read, by the records
abbrev pub progress_of : List Record → Progress
progress_of records = record { ended = has_end records; base = base_after records; flash = flash_of (given Zero records) }

behind_record-parts : (so_far : Progress) (r : Record) (answer : Result (List (Option ℕ)) HexCode) → put_all so_far.flash (cells_of so_far.base r) ≡ answer
    → behind_record so_far r ≡ (answer >>= λ flash. Ok (record { ended = is_end r || so_far.ended; base = base_behind so_far.base r; flash = flash }))
unfolding behind_record
behind_record-parts so_far r answer e = ap (λ x. x >>= λ flash. Ok (record { ended = is_end r || so_far.ended; base = base_behind so_far.base r; flash = flash })) e

-- a record that breaks a rule
pub behind_record-fault : (records : List Record) (r : Record) (code : HexCode) → cells_fault (given Zero records) (new_cells records r) ≡ Some code → behind_record (progress_of records) r ≡ Err code
behind_record-fault records r code h =
    behind_record-parts (progress_of records) r (Err code)
    (put_all-flash (given Zero records) (new_cells records r) ∙ ap (λ f. unless f (fold put (flash_of (given Zero records)) (new_cells records r))) h)

-- a test that gave no fault
none_of : (s t : Bool) → cond s (Some PastFlash) (cond t (Some Overlap) None) ≡ None → (s ≡ false) × (t ≡ false)
none_of true t h = cc h
none_of false true h = cc h
none_of false false h = (refl, refl)

is_none : {A : Type 0} (o : Option A) → is_some o ≡ false → o ≡ None
is_none None h = refl
is_none (Some x) h = cc h

-- what no fault says of new bytes
pub no_fault : (before new : List Cell) → cells_fault before new ≡ None → AllByRecursion (λ c. c.at < flash_size) new × LieApart before new
no_fault before new h =
    let tests = none_of (list_any (λ c. nat_le flash_size c.at) new) (list_any (λ c. is_some (byte_at before c.at)) new) h in (
      all_weaker (λ (c : Cell). nat_le flash_size c.at ≡ false) (λ c. c.at < flash_size) (λ c e. leb-false flash_size c.at e) new (none_passes (λ (c : Cell). nat_le flash_size c.at) new tests.0),
      all_weaker (λ (c : Cell). is_some (byte_at before c.at) ≡ false) (λ c. byte_at before c.at ≡ None) (λ c e. is_none (byte_at before c.at) e) new (none_passes (λ (c : Cell). is_some (byte_at before c.at)) new tests.1),
    )

pub fault_free : (before new : List Cell) → AllByRecursion (λ c. c.at < flash_size) new → LieApart before new → cells_fault before new ≡ None
fault_free before new low apart =
    let past = all_fail (λ (c : Cell). nat_le flash_size c.at) new (all_weaker (λ (c : Cell). c.at < flash_size) (λ c. nat_le flash_size c.at ≡ false) (λ c e. lt-leb flash_size c.at e) new low) in
    let over = all_fail (λ (c : Cell). is_some (byte_at before c.at)) new (all_weaker (λ (c : Cell). byte_at before c.at ≡ None) (λ c. is_some (byte_at before c.at) ≡ false) (λ c e. ap is_some e) new apart) in
    ap (λ s. cond s (Some PastFlash) (cond (list_any (λ c. is_some (byte_at before c.at)) new) (Some Overlap) None)) past
    ∙ ap (λ t. cond t (Some Overlap) None) over

-- a record that breaks none
pub behind_record-taken : (records : List Record) (r : Record) → cells_fault (given Zero records) (new_cells records r) ≡ None → AreOnce (new_cells records r)
    → behind_record (progress_of records) r ≡ Ok (progress_of (records ++ r ∷ []))
behind_record-taken records r h once =
    let put_flash = put_all-flash (given Zero records) (new_cells records r)
    ∙ ap (λ f. unless f (fold put (flash_of (given Zero records)) (new_cells records r))) h
    ∙ ap (λ f. Ok f) (puts-flash (new_cells records r) (given Zero records) once (no_fault (given Zero records) (new_cells records r) h).1) in
    behind_record-parts (progress_of records) r (Ok (flash_of (given Zero records ++ new_cells records r))) put_flash
    ∙ same (has_end-push records r) (base_after-push records r) (ap flash_of (given-push records r))
  where
    same : {e e' : Bool} {b b' : Base} {f f' : List (Option ℕ)} → e' ≡ e → b' ≡ b → f' ≡ f
        → ◌≡◌ {A = Result Progress HexCode} (Ok (record { ended = e; base = b; flash = f })) (Ok (record { ended = e'; base = b'; flash = f' }))
    same p q s = cc
