use Rattle.std.proofs.Common.{◌≡◌, drop}
use Rattle.sts_scope.specs.Globals.{names_failure}
use Rattle.text_headings.proofs.SeenNames.{AreSeen}
use Rattle.text_headings.proofs.names.check_names.Given as goal

abbrev pub invariant-loop-d : goal.invariant-loop-d
invariant-loop-d l = record { seen : AreSeen l.seen.values.items l.entries l.d }

abbrev pub invariant-loop-d-2 : goal.invariant-loop-d-2
invariant-loop-d-2 l = record {
  seen : AreSeen l.seen.values.items l.entries l.d;
  found : names_failure l.tables.names l.entries l.d (drop l.d l.entries) ≡ names_failure l.tables.names l.entries l.known.library (drop l.known.library l.entries);
}
