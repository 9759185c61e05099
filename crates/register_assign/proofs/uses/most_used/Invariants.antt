use Rattle.std.proofs.Common.{◌≡◌, ◌<◌, length, IfSome}
use Rattle.register_assign.specs.Chosen.{most_to}
use Rattle.register_assign.proofs.uses.most_used.Given as goal

abbrev pub invariant-loop-t : goal.invariant-loop-t
invariant-loop-t l = IfSome l.best (λ t. t < length l.left) × (record { best = l.best; most = l.most } ≡ most_to l.left l.t)
