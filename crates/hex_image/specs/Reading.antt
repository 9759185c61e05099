-- Reading as a function on lists, line by line, with the flash as cells that may be empty. `Spells` and `Breaks` say
-- what it answers without it.
use Rattle.std.specs.Prelude.{ℕ, ◌+◌, ◌-◌, ◌||◌, nat_le, Bool, false, is_some, Option, Some, None, unwrap_or, Result, Ok, Err, List, [], ◌∷◌, ◌++◌, length, map, replicate, fold, slice_set, if◌then◌else◌}
use Rattle.std.specs.List.{list_any, slice_index_or}
use Rattle.hex_image.specs.declared.refused.HexCode.{HexCode}
use Rattle.hex_image.specs.declared.refused.HexCode.TheVariants.{AfterEnd, PastFlash, Overlap, NoEnd}
use Rattle.hex_image.specs.declared.flash.Base.{Base}
use Rattle.hex_image.specs.declared.flash.Base.TheVariants.{Zero}
use Rattle.hex_image.specs.Records.{Record, full_lines, record_of}
use Rattle.hex_image.specs.Image.{Cell, base_behind, cells_of}
use Rattle.hex_image.specs.Spells.{flash_size, is_end}

-- the ? of the logic: the second step, if the first gave a value
infixl 10 ◌>>=◌
abbrev pub ◌>>=◌ : {A B : Type 0} → Result A HexCode → (A → Result B HexCode) → Result B HexCode
(Ok x) >>= f = f x
(Err e) >>= f = Err e

-- the flash as far as it was reached: at each address a byte or none
abbrev pub Cells : Type 0
Cells = List (Option ℕ)

-- the cell at an address, none past the end
abbrev pub cell_at : Cells → ℕ → Option ℕ
cell_at flash at = slice_index_or flash at None

-- the flash with a byte at an address
unfoldable pub put : Cells → Cell → Cells
put flash cell = slice_set (flash ++ replicate (cell.at + 1 - length flash) None) cell.at (Some cell.byte)

-- the flash with new cells, or the rule that they break
unfoldable pub put_all : Cells → List Cell → Result Cells HexCode
put_all flash cells =
    if list_any (λ cell. nat_le flash_size cell.at) cells then Err PastFlash
    else if list_any (λ cell. is_some (cell_at flash cell.at)) cells then Err Overlap
    else Ok (fold put flash cells)

-- what was read so far
pub record Progress : Type 0 where
  pub ended : Bool
  pub base : Base
  pub flash : Cells

-- behind one more record
unfoldable pub behind_record : Progress → Record → Result Progress HexCode
behind_record so_far r = do
  flash ← put_all so_far.flash (cells_of so_far.base r)
  Ok (record { ended = is_end r || so_far.ended; base = base_behind so_far.base r; flash = flash })

-- behind one more line
unfoldable pub behind_line : Progress → List ℕ → Result Progress HexCode
behind_line so_far line = if so_far.ended then Err AfterEnd else record_of line >>= behind_record so_far

-- behind more lines
unfoldable pub behind_lines : Progress → List (List ℕ) → Result Progress HexCode
behind_lines so_far [] = Ok so_far
behind_lines so_far (line ∷ lines) = behind_line so_far line >>= λ next. behind_lines next lines

-- nothing was read
abbrev pub nothing_read : Progress
nothing_read = record { ended = false; base = Zero; flash = [] }

-- the image that was read
abbrev pub finished : Progress → Result (List ℕ) HexCode
finished so_far = if so_far.ended then Ok (map (λ cell. unwrap_or cell 0xFF) so_far.flash) else Err NoEnd

unfoldable pub reading : List ℕ → Result (List ℕ) HexCode
reading text = behind_lines nothing_read (full_lines text) >>= finished
