use Rattle.std.proofs.Common.{◌≡◌, ◌++◌, drop}
use Rattle.std.specs.Prelude.{filter, not}
use Rattle.sts_scope.specs.Numbers as number
use Rattle.typed_numbers.proofs.member_names.with_new.Given as goal

-- what is added, and what is left to add, is the whole
abbrev pub invariant-loop-name : goal.invariant-loop-name
invariant-loop-name l = l.all ++ filter (λ x. not (number.is_listed l.names x)) (drop l.name-index l.more) ≡ number.added l.names l.more
