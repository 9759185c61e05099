use Rattle.std.proofs.Common.{◌≡◌}
use Rattle.sts_syntax.specs.Annotations.{annotation}
use Rattle.sts_scope.specs.Values.{value_at}
use Rattle.sts_scope.specs.Headings as heading
use Rattle.text_headings.proofs.heading_checks.check_type_name.Given as goal

abbrev pub invariant-loop-inner : goal.invariant-loop-inner
invariant-loop-inner l = heading.type_name_failure (value_at l.classes.values.items) (annotation l.inner) ≡ heading.type_name_failure (value_at l.classes.values.items) (annotation l.shape)
