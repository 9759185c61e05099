-- What records give: bytes at addresses, and the image that these make.
use Rattle.std.specs.Prelude.{ℕ, ◌+◌, ◌*◌, ◌%◌, ◌^◌, ◌==◌, max, Option, Some, None, unwrap_or, List, [], ◌∷◌, ◌++◌, map, if◌then◌else◌}
use Rattle.std.specs.List.{range_with_len}
use Rattle.hex_image.specs.Records.{Record, Bytes, Segment, Linear}
use Rattle.hex_image.specs.declared.flash.Base.{Base}
use Rattle.hex_image.specs.declared.flash.Base.TheVariants as bases

-- The address of a data byte at an offset. Before any base it is the offset. Behind a base by paragraphs offsets wrap
-- modulo 65536 ("Extended Segment Address Record"), behind one by blocks addresses are taken modulo 2 ^ 32 ("Extended
-- Linear Address Record").
abbrev pub address : Base → ℕ → ℕ
address bases.Zero offset = offset
address (bases.Segment n) offset = 16 * n + offset % 65536
address (bases.Linear n) offset = (65536 * n + offset) % 2 ^ 32

-- the base behind a record
abbrev pub base_behind : Base → Record → Base
base_behind base (Segment n) = bases.Segment n
base_behind base (Linear n) = bases.Linear n
base_behind base _ = base

-- a data byte and its address
pub record Cell : Type 0 where
  pub at : ℕ
  pub byte : ℕ

-- data bytes from an offset on, each with its address
abbrev pub cells_from : Base → ℕ → List ℕ → List Cell
cells_from base offset [] = []
cells_from base offset (b ∷ bytes) = record { at = address base offset; byte = b } ∷ cells_from base (offset + 1) bytes

-- what one record gives
abbrev pub cells_of : Base → Record → List Cell
cells_of base (Bytes offset bytes) = cells_from base offset bytes
cells_of base _ = []

-- what records give, one behind the other
abbrev pub given : Base → List Record → List Cell
given base [] = []
given base (r ∷ records) = cells_of base r ++ given (base_behind base r) records

-- the byte that the cells give at an address, if one does
abbrev pub byte_at : List Cell → ℕ → Option ℕ
byte_at [] at = None
byte_at (cell ∷ cells) at = if cell.at == at then Some cell.byte else byte_at cells at

-- one more than the highest address given
abbrev pub extent : List Cell → ℕ
extent [] = 0
extent (cell ∷ cells) = max (cell.at + 1) (extent cells)

-- the bytes up to the highest address given, with 0xFF where nothing was given
abbrev pub image_of : List Cell → List ℕ
image_of cells = map (λ at. unwrap_or (byte_at cells at) 0xFF) (range_with_len 0 (extent cells))
