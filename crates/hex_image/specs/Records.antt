-- Lines and records, after Intel's "Hexadecimal Object File Format Specification", revision A of 1988.
use Rattle.std.specs.Prelude.{ℕ, ◌+◌, ◌-◌, ◌*◌, ◌%◌, ◌==◌, ◌||◌, not, Option, Some, None, Result, Ok, Err, List, [], ◌∷◌, length, filter, sum, slice_index, slice_range, if◌then◌else◌}
use Rattle.std.specs.Result.{result_ok}
use Rattle.std.specs.Str.Lines.{lines}
use Rattle.hex.specs.Hex.{decode_of}
use Rattle.hex_image.specs.declared.refused.HexCode.{HexCode}
use Rattle.hex_image.specs.declared.refused.HexCode.TheVariants.{BadLine, BadSum, BadType}

-- the lines of a text that aren't empty: a line ends with LF or CR LF, and the last may lack that
abbrev pub full_lines : List ℕ → List (List ℕ)
full_lines text = filter (λ line. not (length line == 0)) (lines text)

-- What a line says: data bytes from an offset on (type 00), the end (01), the base by paragraphs of 16 bytes (02) or
-- by blocks of 65536 (04), or where a program starts (03 and 05), which has no effect
pub data Record : Type 0 where
  Bytes : ℕ → List ℕ → Record
  End : Record
  Segment : ℕ → Record
  Linear : ℕ → Record
  Start : Record

-- the byte that stands for `:`
abbrev pub colon : ℕ
colon = 58

-- the bytes of a line: a colon, and behind it two digits for each byte, in either case
abbrev pub bytes_of : List ℕ → Option (List ℕ)
bytes_of [] = None
bytes_of (first ∷ digits) = if first == colon then result_ok (decode_of digits) else None

-- the number of two bytes, the high one first
abbrev pub number : List ℕ → ℕ
number bytes = 256 * slice_index bytes 0 + slice_index bytes 1

-- what data of the length that its type wants says, else a bad line
abbrev pub sized : List ℕ → ℕ → Record → Result Record HexCode
sized payload wanted meant = if length payload == wanted then Ok meant else Err BadLine

-- what a type and its data say, or the rule that they break: a type up to 05, and data as long as it wants
unfoldable pub meaning : ℕ → ℕ → List ℕ → Result Record HexCode
meaning kind offset payload =
    if kind == 0 then Ok (Bytes offset payload)
    else if kind == 1 then sized payload 0 End
    else if kind == 2 then sized payload 2 (Segment (number payload))
    else if kind == 4 then sized payload 2 (Linear (number payload))
    else if kind == 3 || kind == 5 then sized payload 4 Start
    else Err BadType

-- A record's bytes ("General Record Format"): how many data bytes, two bytes of offset, the type, the data, and a byte
-- that makes the sum 0 modulo 256.
unfoldable pub record_in : List ℕ → Result Record HexCode
record_in bytes =
    if not (length bytes == slice_index bytes 0 + 5) then Err BadLine
    else if not (sum bytes % 256 == 0) then Err BadSum
    else meaning (slice_index bytes 3) (256 * slice_index bytes 1 + slice_index bytes 2)
    (slice_range bytes 4 (length bytes - 1))

-- the record of the bytes, if there are some
abbrev pub record_in_some : Option (List ℕ) → Result Record HexCode
record_in_some None = Err BadLine
record_in_some (Some bytes) = record_in bytes

-- the record that a line says, or the first rule that the line alone breaks
abbrev pub record_of : List ℕ → Result Record HexCode
record_of line = record_in_some (bytes_of line)
