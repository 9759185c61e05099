use Rattle.std.proofs.Common.{◌≡◌, ◌++◌, ◌-◌, length}
use Rattle.typed_numbers.proofs.Chains.{rest_from}
use Rattle.typed_numbers.proofs.member_names.chain.Given as goal

-- what is found, and what is left to find, is the whole
abbrev pub invariant-loop : goal.invariant-loop
invariant-loop l = l.all ++ rest_from l.known (length l.known.classes - l.counter) l.at ≡ rest_from l.known (length l.known.classes) l.initial.at
