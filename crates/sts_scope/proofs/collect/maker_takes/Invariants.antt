use Rattle.std.proofs.Common.{◌≡◌, drop}
use Rattle.sts_syntax.specs.Programs.{class_members}
use Rattle.sts_scope.specs.Values.{value_at}
use Rattle.sts_scope.specs.Entries as entry
use Rattle.sts_scope.proofs.collect.maker_takes.Given as goal

abbrev pub invariant-loop-i : goal.invariant-loop-i
invariant-loop-i l = entry.maker_takes (value_at l.classes.values.items) (class_members (drop l.i l.members)) ≡ entry.maker_takes (value_at l.classes.values.items) (class_members l.members)
