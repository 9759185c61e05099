-- What is open in laid code is what the pieces name.
use Rattle.std.specs.Prelude.{◌≡◌, ℕ, ◌+◌, ◌%◌, ◌≤◌, List, [], ◌∷◌, if◌then◌else◌}
use Rattle.thumb_layout.specs.declared.pieces.What.{What}
use Rattle.thumb_layout.specs.declared.pieces.What.TheVariants.{Function}
use Rattle.thumb_layout.specs.declared.pieces.Piece.{Piece}
use Rattle.thumb_layout.specs.declared.pieces.Piece.TheVariants.{CallTo, Address}
use Rattle.thumb_layout.specs.declared.laid.Fix.{Fix}

-- What pieces call, in their order.
abbrev pub called : List Piece → List What
called [] = []
called (CallTo function ∷ xs) = Function function ∷ called xs
called (x ∷ xs) = called xs

-- What pieces load the address of, in their order.
abbrev pub named : List Piece → List What
named [] = []
named (Address rd what ∷ xs) = what ∷ named xs
named (x ∷ xs) = named xs

-- What stands at the BLs among fixes, in their order, and what at the others.
abbrev pub callees : List Fix → List What
callees [] = []
callees (f ∷ fs) = if f.call then f.what ∷ callees fs else callees fs

abbrev pub addressed : List Fix → List What
addressed [] = []
addressed (f ∷ fs) = if f.call then addressed fs else f.what ∷ addressed fs

-- Each fix is at an even place, its four bytes are behind those of the one before, and all are within a first and a last place.
abbrev pub StandApart : ℕ → List Fix → ℕ → Type 0
StandApart from [] to = from ≤ to
StandApart from (f ∷ fs) to = (from ≤ f.at) × (f.at % 2 ≡ 0) × StandApart (f.at + 4) fs to
