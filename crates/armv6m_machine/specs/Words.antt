-- Words by their addresses, as one who isn't the program reads and sets them.
use Rattle.std.specs.Prelude.{ℕ, ◌%◌, Bool, true, ◌&&◌, ◌==◌, if◌then◌else◌, Option, Some, None}
use Rattle.thumb_code.specs.Map.{in_flash, in_ram}
use Rattle.thumb_code.specs.Machine.{Ram, ram_word, ram_store}

-- A word of flash or RAM begins there.
abbrev pub begins_word : ℕ → Bool
begins_word at = at % 4 == 0 && (if in_flash at then true else in_ram at)

-- The word that begins there, if one does.
abbrev pub word_at : Ram → ℕ → Option ℕ
word_at m at = if begins_word at then Some (ram_word m at) else None

-- A word of RAM begins there.
abbrev pub begins_ram_word : ℕ → Bool
begins_ram_word at = at % 4 == 0 && in_ram at

-- RAM with this word there.
abbrev pub with_word : Ram → ℕ → ℕ → Ram
with_word m at w = ram_store m (record { at = at; bytes = 4 }) w
