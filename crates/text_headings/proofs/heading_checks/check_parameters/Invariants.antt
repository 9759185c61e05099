use Rattle.std.proofs.Common.{◌≡◌, ℕ, take, drop}
use Rattle.std.specs.BTreeSet.{contains}
use Rattle.std.specs.Ordering.{nat_cmp}
use Rattle.sts_syntax.specs.Views.{parameters}
use Rattle.sts_scope.specs.Values.{value_at}
use Rattle.sts_scope.specs.Headings as heading
use Rattle.text_headings.proofs.heading_checks.check_parameters.Given as goal

abbrev pub invariant-loop-i : goal.invariant-loop-i
invariant-loop-i l = record {
  found : heading.parameters_failure (value_at l.classes.values.items) (parameters l.params) l.i (parameters (drop l.i l.params))
      ≡ heading.parameters_failure (value_at l.classes.values.items) (parameters l.params) 0 (parameters l.params);
  seen : (y : ℕ) → contains nat_cmp l.seen y ≡ heading.takes_name (parameters (take l.i l.params)) y;
}
