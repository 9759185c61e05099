use Rattle.std.proofs.Common.{◌<◌, ◌^◌, drop}
use Rattle.thumb_layout.proofs.Passing.{PlaceLoop}
use Rattle.thumb_layout.proofs.places.places_of.Given as goal

abbrev pub invariant-loop-index : goal.invariant-loop-index
invariant-loop-index l =
    PlaceLoop l.pieces l.forms (drop l.index l.pieces) (drop l.index l.forms) l.places.items l.pools.items l.cursor.at l.cursor.waits
    × (l.cursor.waits.latest_end < 2 ^ 25)
