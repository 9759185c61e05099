use Rattle.std.proofs.Common.{◌≡◌, ◌++◌, drop}
use Rattle.sts_syntax.specs.Views.{declarations}
use Rattle.sts_scope.specs.Values.{value_at}
use Rattle.sts_scope.specs.Entries as entry
use Rattle.sts_scope.proofs.collect.add_globals.Given as goal

abbrev pub invariant-loop-i : goal.invariant-loop-i
invariant-loop-i l = record {
  entries : l.known.entries ++ entry.global_entries l.fixed (declarations (drop l.i l.each)) ≡ l.initial.known.entries ++ entry.global_entries l.fixed (declarations l.each);
  kinds : l.known.kinds ++ entry.global_kinds (value_at l.classes.values.items) (declarations (drop l.i l.each)) ≡ l.initial.known.kinds ++ entry.global_kinds (value_at l.classes.values.items) (declarations l.each);
  classes : l.known.classes ≡ l.initial.known.classes;
  library : l.known.library ≡ l.initial.known.library;
}
