use Rattle.std.proofs.Common.{◌≡◌, ◌++◌, drop}
use Rattle.thumb_layout.specs.Rounds.{short}
use Rattle.thumb_layout.proofs.rounds.short.Given as goal

abbrev pub invariant-loop : goal.invariant-loop
invariant-loop l = l.forms.items ++ short (drop l.index l.pieces) ≡ short l.pieces
