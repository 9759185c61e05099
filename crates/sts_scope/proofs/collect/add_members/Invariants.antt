use Rattle.std.proofs.Common.{◌≡◌, ◌++◌, drop}
use Rattle.sts_syntax.specs.Programs.{class_members}
use Rattle.sts_scope.specs.Values.{value_at}
use Rattle.sts_scope.specs.Entries as entry
use Rattle.sts_scope.proofs.collect.add_members.Given as goal

abbrev pub invariant-loop-i : goal.invariant-loop-i
invariant-loop-i l = record {
  entries : l.known.entries ++ entry.member_entries (value_at l.classes.values.items) l.class (class_members (drop l.i l.members)) ≡ l.initial.known.entries ++ entry.member_entries (value_at l.classes.values.items) l.class (class_members l.members);
  kinds : l.known.kinds ++ entry.member_kinds (value_at l.classes.values.items) (class_members (drop l.i l.members)) ≡ l.initial.known.kinds ++ entry.member_kinds (value_at l.classes.values.items) (class_members l.members);
  classes : l.known.classes ≡ l.initial.known.classes;
  library : l.known.library ≡ l.initial.known.library;
}
