-- The one text that is written for an image.
use Rattle.std.specs.Prelude.{ℕ, ◌+◌, ◌-◌, ◌*◌, ◌/◌, ◌%◌, ◌==◌, List, [], ◌∷◌, ◌++◌, length, take, drop, sum, if◌then◌else◌}
use Rattle.std.specs.List.{flat_map, range_with_len}
use Rattle.hex.specs.Hex.{encode_upper}
use Rattle.hex_image.specs.Records.{colon}

-- the byte that makes the sum 0 modulo 256
abbrev pub check_byte : List ℕ → ℕ
check_byte bytes = (256 - sum bytes % 256) % 256

-- a line feed behind a colon and the capital digits of the bytes and their check byte
abbrev pub line_of : List ℕ → List ℕ
line_of bytes = (colon ∷ encode_upper (bytes ++ check_byte bytes ∷ [])) ++ 10 ∷ []

-- the line of a record with this type, offset and data
unfoldable pub record_line : ℕ → ℕ → List ℕ → List ℕ
record_line kind offset payload = line_of (length payload ∷ offset / 256 ∷ offset % 256 ∷ kind ∷ payload)

-- row k of an image: the 16 bytes from 16 k on, or as many as are left
abbrev pub row : List ℕ → ℕ → List ℕ
row image k = take 16 (drop (16 * k) image)

-- how many rows there are
abbrev pub row_count : List ℕ → ℕ
row_count image = (length image + 15) / 16

-- a base by blocks of 65536 where a block begins
unfoldable pub block_lines : ℕ → List ℕ
block_lines at = if at % 65536 == 0 then record_line 4 0 (at / 65536 / 256 ∷ at / 65536 % 256 ∷ []) else []

-- the lines of row k
unfoldable pub row_lines : List ℕ → ℕ → List ℕ
row_lines image k = block_lines (16 * k) ++ record_line 0 (16 * k % 65536) (row image k)

-- the whole text: the rows in order, and the end record
unfoldable pub hextext : List ℕ → List ℕ
hextext image = flat_map (row_lines image) (range_with_len 0 (row_count image)) ++ record_line 1 0 []
