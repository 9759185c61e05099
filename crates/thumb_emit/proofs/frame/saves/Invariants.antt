use Rattle.std.proofs.Common.{◌≡◌}
use Rattle.register_assign.specs.Sound.{place_of}
use Rattle.register_assign.specs.Saving.{registers_of_first}
use Rattle.thumb_emit.proofs.frame.saves.Given as goal

abbrev pub invariant-loop-t : goal.invariant-loop-t
invariant-loop-t l = l.most ≡ registers_of_first (place_of l.placed.places) l.t
