-- Texts in flash: a word with the length, then the bytes.
use Rattle.std.specs.Prelude.{ℕ, zero, suc, ◌+◌, ◌%◌, ℤ, pos, negsuc, [], ◌∷◌, List, length, Bool, ◌&&◌, ◌==◌, nat_lt, nat_le, if◌then◌else◌, slice_index}
use Rattle.thumb_code.specs.Map.{flash_end, in_flash, flash_byte, flash_word}
use Rattle.board_world.specs.Observations.{ByteList}
use Rattle.board_world.specs.Font.{glyph_of}

-- A text has at most so many bytes.
abbrev pub text_limit : ℕ
text_limit = 16384

-- A text stands there: at a multiple of 4, and whole in flash.
abbrev pub is_text : List ℕ → ℕ → Bool
is_text flash at =
    at % 4 == 0
    && (in_flash at && (nat_le (flash_word flash at) text_limit && nat_le (at + 4 + flash_word flash at) flash_end))

-- So many bytes of flash from an address on.
abbrev pub flash_bytes : List ℕ → ℕ → ℕ → ByteList
flash_bytes flash zero at = []
flash_bytes flash (suc n) at = flash_byte flash at ∷ flash_bytes flash n (at + 1)

-- The bytes of the text that stands there.
abbrev pub text_at : List ℕ → ℕ → ByteList
text_at flash at = flash_bytes flash (flash_word flash at) (at + 4)

-- The glyph of the byte at a place, and -1 where the place isn't below the length.
abbrev pub glyph_at : ByteList → ℕ → ℤ
glyph_at bytes place = if nat_lt place (length bytes) then pos (glyph_of (slice_index bytes place)) else negsuc 0
