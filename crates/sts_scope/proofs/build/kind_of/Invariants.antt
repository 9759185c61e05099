use Rattle.std.proofs.Common.{◌≡◌}
use Rattle.sts_syntax.specs.Annotations.{annotation}
use Rattle.sts_scope.specs.Values.{value_at}
use Rattle.sts_scope.specs.Entries as entry
use Rattle.sts_scope.proofs.Deeper.{deeper}
use Rattle.sts_scope.proofs.build.kind_of.Given as goal

abbrev pub invariant-loop-at : goal.invariant-loop-at
invariant-loop-at l =
    deeper l.depth (entry.kind_of (value_at l.classes.values.items) (annotation l.at)) ≡ entry.kind_of (value_at l.classes.values.items) (annotation l.shape)
