use Rattle.std.proofs.Common.{◌≡◌, drop}
use Rattle.sts_scope.specs.Bases.{chains_failure}
use Rattle.text_headings.proofs.names.check_chains.Given as goal

abbrev pub invariant-loop-c : goal.invariant-loop-c
invariant-loop-c l = chains_failure l.known.classes l.c (drop l.c l.known.classes) ≡ chains_failure l.known.classes l.from (drop l.from l.known.classes)
