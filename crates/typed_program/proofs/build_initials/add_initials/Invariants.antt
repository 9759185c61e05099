use Rattle.std.proofs.Common.{◌≡◌, ◌+◌, ◌^◌, ◌<◌, ◌++◌, drop, length}
use Rattle.sts_syntax.specs.Programs.{class_members}
use Rattle.sts_scope.specs.Entries as entry
use Rattle.text_sizes.specs.Numbered as counts
use Rattle.typed_trees.specs.Sites.{naming}
use Rattle.typed_program.specs.Wholes as w
use Rattle.typed_program.proofs.build_initials.add_initials.Given as goal

abbrev pub invariant-loop-member : goal.invariant-loop-member
invariant-loop-member l =
    let rest = class_members (drop l.member-index l.parts.members.now) in
    record {
      made : w.typed_list l.all ++ w.initials l.plan l.parts.class l.next.function l.next.declaration rest ≡ w.typed_list l.fn.all ++ w.initials_of l.plan l.parts;
      counted : l.next.function + counts.members_numbered rest < 2 ^ 32;
      numbered : l.next.declaration + length (entry.member_entries (naming l.plan) l.parts.class rest) < 2 ^ 64;
    }
