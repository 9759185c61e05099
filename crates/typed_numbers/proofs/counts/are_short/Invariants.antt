use Rattle.std.proofs.Common.{◌≡◌, drop}
use Rattle.std.specs.List.{list_all}
use Rattle.typed_numbers.specs.Counts.{is_short}
use Rattle.typed_numbers.proofs.counts.are_short.Given as goal

abbrev pub invariant-loop-names : goal.invariant-loop-names
invariant-loop-names l = list_all is_short (drop l.names-index l.lists) ≡ list_all is_short l.lists
