-- What a record in memory says.
use Rattle.std.specs.Prelude.{◌≡◌, Result, Ok, Err}
use Rattle.hex_image.specs.Records as spec
use Rattle.hex_image.specs.declared.refused.HexCode.{HexCode}
use Rattle.hex_image.specs.declared.record.Record.{Record}
use Rattle.hex_image.specs.declared.record.Record.TheVariants.{Bytes, End, Segment, Linear, Start}

-- a record apart from where its bytes lie in memory
abbrev pub meant : Record → spec.Record
meant (Bytes offset bytes) = spec.Bytes offset bytes.now
meant End = spec.End
meant (Segment n) = spec.Segment n
meant (Linear n) = spec.Linear n
meant Start = spec.Start

-- a record in memory says what was meant, or the rule broken is the same
abbrev pub SaysSame : Result Record HexCode → Result spec.Record HexCode → Type 0
SaysSame (Ok r) said = said ≡ Ok (meant r)
SaysSame (Err code) said = said ≡ Err code
