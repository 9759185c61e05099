use Rattle.std.proofs.Common.{take}
use Rattle.std.specs.List.{AllByRecursion}
use Rattle.register_assign.specs.Sound.{IsWithin}
use Rattle.register_assign.proofs.checks.are_within.Given as goal

abbrev pub invariant-loop-place : goal.invariant-loop-place
invariant-loop-place l = AllByRecursion (IsWithin l.function) (take l.place-index l.places)
