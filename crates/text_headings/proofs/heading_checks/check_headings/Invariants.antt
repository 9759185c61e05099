use Rattle.std.proofs.Common.{◌≡◌, drop}
use Rattle.sts_syntax.specs.Programs.{top_levels}
use Rattle.sts_scope.specs.Values.{value_at}
use Rattle.sts_scope.specs.Headings as heading
use Rattle.text_headings.specs.Standing.{classes_before, IsTextAt}
use Rattle.text_headings.proofs.heading_checks.check_headings.Given as goal

abbrev pub invariant-loop-i : goal.invariant-loop-i
invariant-loop-i l = record {
  stands : IsTextAt (value_at l.classes.values.items) l.known.entries l.d (top_levels (drop l.i l.items));
  found : heading.headings_failure l.tables.names (value_at l.classes.values.items) l.known.entries l.known.classes (classes_before l.known.entries l.d) l.d (top_levels (drop l.i l.items))
      ≡ heading.headings_failure l.tables.names (value_at l.classes.values.items) l.known.entries l.known.classes (classes_before l.known.entries l.first) l.first (top_levels l.items);
}
