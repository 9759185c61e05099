use Rattle.std.proofs.Common.{◌≡◌, take}
use Rattle.typed_numbers.proofs.member_names.copied.Given as goal

abbrev pub invariant-loop-name : goal.invariant-loop-name
invariant-loop-name l = l.all ≡ take l.name-index l.names
