use Rattle.std.proofs.Common.{◌≡◌, ◌+◌, drop, length}
use Rattle.sts_syntax.specs.Programs.{class_members}
use Rattle.sts_scope.specs.Entries as entry
use Rattle.type_derive.specs.Passes as pass
use Rattle.type_derive.specs.Scopes.{naming}
use Rattle.type_check.proofs.passes.check_members.Given as goal

abbrev pub invariant-loop-i : goal.invariant-loop-i
invariant-loop-i l = record {
  found : pass.members_nodes l.context.tables.now (naming l.context) l.context.known.now l.c l.d (class_members (drop l.i l.members))
      ≡ pass.members_nodes l.context.tables.now (naming l.context) l.context.known.now l.c l.first (class_members l.members);
  count : l.d + length (entry.member_entries (naming l.context) l.c (class_members (drop l.i l.members)))
      ≡ l.first + length (entry.member_entries (naming l.context) l.c (class_members l.members));
}
