use Rattle.std.proofs.Common.{◌≡◌, ◌++◌, drop, length}
use Rattle.sts_syntax.specs.Programs.{top_levels}
use Rattle.sts_scope.specs.Values.{value_at}
use Rattle.sts_scope.specs.Entries as entry
use Rattle.sts_scope.proofs.collect.add_items.Given as goal

abbrev pub invariant-loop-i : goal.invariant-loop-i
invariant-loop-i l = record {
  entries : l.known.entries ++ entry.entries_from (value_at l.classes.values.items) (length l.known.classes) (top_levels (drop l.i l.items))
      ≡ l.initial.known.entries ++ entry.entries_from (value_at l.classes.values.items) (length l.initial.known.classes) (top_levels l.items);
  kinds : l.known.kinds ++ entry.written_kinds (value_at l.classes.values.items) (top_levels (drop l.i l.items)) ≡ l.initial.known.kinds ++ entry.written_kinds (value_at l.classes.values.items) (top_levels l.items);
  classes : l.known.classes ++ entry.heads_of (value_at l.classes.values.items) (top_levels (drop l.i l.items)) ≡ l.initial.known.classes ++ entry.heads_of (value_at l.classes.values.items) (top_levels l.items);
  library : l.known.library ≡ l.initial.known.library;
}
