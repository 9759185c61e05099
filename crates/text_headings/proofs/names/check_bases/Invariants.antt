use Rattle.std.proofs.Common.{◌≡◌, drop}
use Rattle.sts_scope.specs.Bases.{bases_failure}
use Rattle.text_headings.proofs.names.check_bases.Given as goal

abbrev pub invariant-loop-c : goal.invariant-loop-c
invariant-loop-c l = bases_failure (drop l.c l.classes) ≡ bases_failure (drop l.from l.classes)
