use Rattle.std.proofs.Common.{◌≡◌, ◌++◌, drop}
use Rattle.sts_scope.specs.Numbers as number
use Rattle.typed_numbers.specs.Building.{picks}
use Rattle.typed_numbers.proofs.member_names.own_names.Given as goal

-- what is found, and what is left to find, is the whole
abbrev pub invariant-loop-entry : goal.invariant-loop-entry
invariant-loop-entry l = l.names ++ number.own_names (picks l.which) (drop l.entry-index l.entries) l.class ≡ number.own_names (picks l.which) l.entries l.class
