use Rattle.std.proofs.Common.{◌≡◌, ◌+◌, drop}
use Rattle.sts_syntax.specs.Programs.{class_members}
use Rattle.sts_scope.specs.Handlers as h
use Rattle.sts_scope.specs.Numbers as number
use Rattle.typed_numbers.proofs.routine_numbers.maker_from.Given as goal

-- what is passed, and what is left to pass, is the whole
abbrev pub invariant-loop-member : goal.invariant-loop-member
invariant-loop-member l = record {
  maker : number.maker_from l.first l.at (class_members (drop l.member-index l.members)) ≡ number.maker_from l.first l.from (class_members l.members);
  behind : l.at + h.members_routines (class_members (drop l.member-index l.members)) ≡ l.from + h.members_routines (class_members l.members);
}
