use Rattle.std.proofs.Common.{◌≡◌, ℕ, ◌+◌, ◌==◌, drop, length}
use Rattle.std.specs.List.{position_from}
use Rattle.sts_syntax.specs.Programs.{top_levels}
use Rattle.std.specs.Option.{option_or}
use Rattle.sts_scope.specs.Values.{value_at}
use Rattle.sts_scope.specs.Entries as entry
use Rattle.sts_scope.proofs.build.number_classes.Given as goal

abbrev pub invariant-loop-i : goal.invariant-loop-i
invariant-loop-i l = record {
  names : (y : ℕ) → option_or (value_at l.classes.values.items y) (position_from (λ z. z == y) l.count (entry.class_names (top_levels (drop l.i l.items))))
      ≡ option_or (value_at l.initial.classes.values.items y) (position_from (λ z. z == y) l.initial.count (entry.class_names (top_levels l.items)));
  count : l.count + length (entry.class_names (top_levels (drop l.i l.items))) ≡ l.initial.count + length (entry.class_names (top_levels l.items));
}
