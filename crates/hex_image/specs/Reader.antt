-- What a reader in memory has read.
use Rattle.hex_image.specs.declared.reading.Reader.{Reader}
use Rattle.hex_image.specs.Reading.{Progress}

abbrev pub seen : Reader → Progress
seen r = record { ended = r.ended; base = r.base; flash = r.flash.items }
