use Rattle.std.proofs.Common.{◌≡◌, ◌+◌, drop, length}
use Rattle.std.specs.Prelude.{false}
use Rattle.sts_syntax.specs.Programs.{class_members}
use Rattle.sts_scope.specs.Values.{value_at}
use Rattle.sts_scope.specs.Entries as entry
use Rattle.sts_scope.specs.Headings as heading
use Rattle.text_headings.proofs.heading_checks.check_members.Given as goal

abbrev pub invariant-loop-i : goal.invariant-loop-i
invariant-loop-i l = record {
  found : heading.members_failure l.tables.names (value_at l.classes.values.items) l.known.entries l.known.classes l.c l.d l.made (class_members (drop l.i l.members))
      ≡ heading.members_failure l.tables.names (value_at l.classes.values.items) l.known.entries l.known.classes l.c l.first false (class_members l.members);
  count : l.d + length (entry.member_entries (value_at l.classes.values.items) l.c (class_members (drop l.i l.members)))
      ≡ l.first + length (entry.member_entries (value_at l.classes.values.items) l.c (class_members l.members));
}
