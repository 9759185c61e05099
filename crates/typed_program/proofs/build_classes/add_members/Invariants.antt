use Rattle.std.proofs.Common.{◌≡◌, ◌+◌, ◌^◌, ◌<◌, ◌++◌, drop, length}
use Rattle.sts_syntax.specs.Programs.{class_members}
use Rattle.sts_syntax.specs.TypedViews.{typed_routines}
use Rattle.sts_scope.specs.Entries as entry
use Rattle.sts_scope.specs.Handlers as h
use Rattle.text_sizes.specs.Numbered as counts
use Rattle.typed_trees.specs.Sites.{naming}
use Rattle.typed_program.specs.Wholes as w
use Rattle.typed_program.proofs.build_classes.add_members.Given as goal

-- what is added, and what is left to add, is the whole
abbrev pub invariant-loop-member : goal.invariant-loop-member
invariant-loop-member l =
    let inits = w.initials_of l.plan l.parts in
    let c = l.parts.class in
    let first = l.parts.first in
    let rest = class_members (drop l.member-index l.parts.members.now) in
    let all = class_members l.parts.members.now in
    record {
      routines : typed_routines l.routines ++ w.members_made l.plan c inits l.next.function l.next.declaration rest ≡ typed_routines l.initial.routines ++ w.members_made l.plan c inits first.function first.declaration all;
      declaration : l.next.declaration + length (entry.member_entries (naming l.plan) c rest) ≡ first.declaration + length (entry.member_entries (naming l.plan) c all);
      function : l.next.function + h.members_routines rest ≡ first.function + h.members_routines all;
      counted : l.next.function + counts.members_numbered rest < 2 ^ 32;
    }
