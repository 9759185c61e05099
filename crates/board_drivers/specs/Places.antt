-- Where the glyph of a byte stands among the 41.
use Rattle.std.specs.Prelude.{ℕ, ◌+◌, ◌-◌, ◌&&◌, if◌then◌else◌, nat_le, ◌==◌}

abbrev pub place_of : ℕ → ℕ
place_of byte =
    if nat_le 48 byte && nat_le byte 57 then byte - 48
    else if nat_le 65 byte && nat_le byte 90 then byte - 65 + 10
    else if nat_le 97 byte && nat_le byte 122 then byte - 97 + 10
    else if byte == 32 then 36
    else if byte == 45 then 37
    else if byte == 33 then 38
    else if byte == 46 then 40
    else 39
