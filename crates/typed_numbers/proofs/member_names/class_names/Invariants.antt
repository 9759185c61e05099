use Rattle.std.proofs.Common.{◌≡◌, ◌-◌, length, drop}
use Rattle.typed_numbers.specs.Building.{picks}
use Rattle.typed_numbers.proofs.Chains.{names_along}
use Rattle.typed_numbers.proofs.member_names.class_names.Given as goal

abbrev pub invariant-loop-i : goal.invariant-loop-i
invariant-loop-i l = l.names ≡ names_along (picks l.which) l.known (drop (length l.classes - l.i) l.classes)
