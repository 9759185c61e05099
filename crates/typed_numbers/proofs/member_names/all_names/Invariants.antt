use Rattle.std.proofs.Common.{◌≡◌}
use Rattle.typed_numbers.specs.Building.{picks, names_upto}
use Rattle.typed_numbers.proofs.member_names.all_names.Given as goal

abbrev pub invariant-loop-class : goal.invariant-loop-class
invariant-loop-class l = l.all ≡ names_upto (picks l.which) l.known l.class
