-- Which image a text spells, and which rule a text breaks first.
use Rattle.std.specs.Prelude.{◌≡◌, ℕ, ◌<◌, ◌++◌, ◌⊎◌, nat_eq, nat_le, Bool, true, false, is_some, Option, Some, None, Result, Ok, Err, List, [], ◌∷◌, map, fold, if◌then◌else◌}
use Rattle.std.specs.List.{list_any, AllByRecursion, AllZip, IsDistinct}
use Rattle.hex_image.specs.declared.refused.HexCode.{HexCode}
use Rattle.hex_image.specs.declared.refused.HexCode.TheVariants.{AfterEnd, PastFlash, Overlap, NoEnd}
use Rattle.hex_image.specs.declared.flash.Base.{Base}
use Rattle.hex_image.specs.declared.flash.Base.TheVariants.{Zero}
use Rattle.hex_image.specs.Records.{Record, End, full_lines, record_of}
use Rattle.hex_image.specs.Image.{Cell, base_behind, cells_of, given, byte_at, image_of}

-- the board's flash, in bytes
abbrev pub flash_size : ℕ
flash_size = 262144

-- the lines say these records, one each
abbrev pub Say : List (List ℕ) → List Record → Type 0
Say lines records = AllZip (λ line r. record_of line ≡ Ok r) lines records

-- whether a record is the end record
abbrev pub is_end : Record → Bool
is_end End = true
is_end _ = false

-- whether the end record is among them
abbrev pub has_end : List Record → Bool
has_end records = list_any is_end records

-- nothing follows the end record
abbrev pub EndsLast : List Record → Type 0
EndsLast [] = Unit {0}
EndsLast (r ∷ records) = (is_end r ≡ true → records ≡ []) × EndsLast records

-- the records keep the rules: nothing follows the end, all bytes lie in flash, and no address is given twice
pub record AreSound (records : List Record) : Type 0 where
  pub ends_last : EndsLast records
  pub in_flash : AllByRecursion (λ cell. cell.at < flash_size) (given Zero records)
  pub once : IsDistinct nat_eq (map (λ cell. cell.at) (given Zero records))

-- The text spells the image: its lines say records that keep the rules, the end record among them, and the image is
-- what they give.
pub record Spells (text image : List ℕ) : Type 0 where
  pub records : List Record
  pub lines : Say (full_lines text) records
  pub sound : AreSound records
  pub ended : has_end records ≡ true
  pub content : image ≡ image_of (given Zero records)

-- the base behind records
abbrev pub base_after : List Record → Base
base_after records = fold base_behind Zero records

-- the rule that new data bytes break, behind those given before
abbrev pub cells_fault : List Cell → List Cell → Option HexCode
cells_fault before cells =
    if list_any (λ cell. nat_le flash_size cell.at) cells then Some PastFlash
    else if list_any (λ cell. is_some (byte_at before cell.at)) cells then Some Overlap
    else None

-- the rule that a line breaks, by what it says
abbrev pub read_fault : List Record → Result Record HexCode → Option HexCode
read_fault before (Err code) = Some code
read_fault before (Ok r) = cells_fault (given Zero before) (cells_of (base_after before) r)

-- The first rule that a line breaks behind these records: nothing follows the end record; the line is a record, by its
-- form, its sum, its type and the length of its data; its bytes lie in flash; none stands where one was given.
abbrev pub fault_behind : List Record → List ℕ → Option HexCode
fault_behind before line = if has_end before then Some AfterEnd else read_fault before (record_of line)

-- The lines before this line keep the rules, and this rule is the first that it breaks.
pub record BreaksAtLine (text : List ℕ) (code : HexCode) : Type 0 where
  pub front : List (List ℕ)
  pub line : List ℕ
  pub rest : List (List ℕ)
  pub records : List Record
  pub split : full_lines text ≡ front ++ line ∷ rest
  pub said : Say front records
  pub sound : AreSound records
  pub fault : fault_behind records line ≡ Some code

-- No line breaks a rule, and none is the end record.
pub record LacksEnd (text : List ℕ) : Type 0 where
  pub records : List Record
  pub said : Say (full_lines text) records
  pub sound : AreSound records
  pub endless : has_end records ≡ false

-- The text spells no image, and this is the rule that it breaks first.
abbrev pub Breaks : List ℕ → HexCode → Type 0
Breaks text code = BreaksAtLine text code ⊎ ((code ≡ NoEnd) × LacksEnd text)
