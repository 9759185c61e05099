use Rattle.std.proofs.Common.{◌≡◌, ◌++◌, ◌+◌, drop, length}
use Rattle.sts_syntax.specs.Programs.{top_levels}
use Rattle.sts_scope.specs.Entries.{class_names}
use Rattle.sts_scope.specs.Values.{value_at}
use Rattle.type_derive.specs.Derived as derived
use Rattle.derived_types.specs.Origins.{sources}
use Rattle.derived_types.proofs.origins.add_items.Given as goal

abbrev pub invariant-loop-i : goal.invariant-loop-i
invariant-loop-i l = record {
  found : sources l.origins.items ++ derived.sources_from (value_at l.classes.values.items) l.count (top_levels (drop l.i l.items))
      ≡ sources l.initial.origins.items ++ derived.sources_from (value_at l.classes.values.items) l.first (top_levels l.items);
  count : l.count + length (class_names (top_levels (drop l.i l.items))) ≡ l.first + length (class_names (top_levels l.items));
}
