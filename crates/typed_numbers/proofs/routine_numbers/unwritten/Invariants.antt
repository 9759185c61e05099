use Rattle.std.proofs.Common.{◌≡◌, drop}
use Rattle.sts_syntax.specs.Programs.{class_members}
use Rattle.sts_scope.specs.Handlers as h
use Rattle.typed_numbers.proofs.routine_numbers.unwritten.Given as goal

abbrev pub invariant-loop-member : goal.invariant-loop-member
invariant-loop-member l = h.unwritten (class_members (drop l.member-index l.members)) ≡ h.unwritten (class_members l.members)
