use Rattle.std.proofs.Common.{◌≡◌, ◌++◌, drop}
use Rattle.register_assign.specs.Sound.{place_of}
use Rattle.thumb_emit.specs.Emit.{function_pieces, ops_pieces}
use Rattle.thumb_emit.proofs.emission.emit.Given as goal

abbrev pub invariant-loop-at : goal.invariant-loop-at
invariant-loop-at l = l.out ++ ops_pieces l.placed.function (place_of l.placed.places) l.at (drop l.at l.placed.function.ops) ≡ function_pieces l.placed
