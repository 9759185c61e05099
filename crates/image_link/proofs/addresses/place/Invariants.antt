use Rattle.std.proofs.Common.{drop}
use Rattle.image_link.proofs.Placing.{Placed}
use Rattle.image_link.proofs.addresses.place.Given as goal

abbrev pub invariant-loop-length : goal.invariant-loop-length
invariant-loop-length l = Placed l.initial.end l.lengths (drop l.length-index l.lengths) l.starts l.end
