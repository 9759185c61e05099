use Rattle.std.proofs.Common.{◌≡◌, take}
use Rattle.register_assign.proofs.copies.copied_numbers.Given as goal

abbrev pub invariant-loop-x : goal.invariant-loop-x
invariant-loop-x l = l.copy ≡ take l.x-index l.numbers
