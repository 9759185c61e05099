use Rattle.std.proofs.Common.{◌+◌, ◌++◌, ◌<◌, drop, length, arith}
use Rattle.sts_syntax.specs.Programs.{class_member, class_members}
use Rattle.sts_syntax.specs.TypedViews.{typed_routines}
use Rattle.typed_trees.specs.Sites.{naming}
use Rattle.typed_program.specs.Wholes as w
use Rattle.typed_program.proofs.ClassParts.{members_left, declared_left, functions_left, member_counted, members_counted, member_declared, member_functions, step_list}
use Rattle.typed_program.proofs.build_classes.add_members.Goals as goal

pub next_member-next-requires-clause-functions : goal.next_member-next-requires-clause-functions
next_member-next-requires-clause-functions c =
    let xs = c.args.parts.now.members.now in let i = c.loop-member.member-index in
    let lt : i < length xs = omega (arith, c.loop-member-test.true) in
    member_functions c.loop-member.next.function (class_member c.member-item.result) (member_counted c.loop-member.next.function xs i c.member-item.result lt c.member-item.is c.loop-member.invariant.counted)

pub add_member-requires-clause-functions : goal.add_member-requires-clause-functions
add_member-requires-clause-functions c =
    let xs = c.args.parts.now.members.now in let i = c.loop-member.member-index in
    let lt : i < length xs = omega (arith, c.loop-member-test.true) in
    member_counted c.loop-member.next.function xs i c.member-item.result lt c.member-item.is c.loop-member.invariant.counted

pub next_member-next-requires-clause-declarations : goal.next_member-next-requires-clause-declarations
next_member-next-requires-clause-declarations c =
    let l = c.args.plan.now in let parts = c.args.parts.now in let xs = parts.members.now in let i = c.loop-member.member-index in
    let lt : i < length xs = omega (arith, c.loop-member-test.true) in
    member_declared (naming l) parts.class c.loop-member.next.declaration xs i c.member-item.result lt c.member-item.is (omega (arith, c.loop-member.invariant.declaration, c.requires.numbered.declarations))

pub loop-member-preserved : goal.loop-member-preserved
loop-member-preserved c =
    let l = c.args.plan.now in let parts = c.args.parts.now in let k = parts.class in let inits = w.initials_of l parts in
    let xs = parts.members.now in let i = c.loop-member.member-index in let x = c.member-item.result in
    let at = c.loop-member.next in let next = c.next_member-next.result in let h = c.next_member-next.ensures in let inv = c.loop-member.invariant in
    let lt : i < length xs = omega (arith, c.loop-member-test.true) in
    let left = members_left l k inits at.function at.declaration next.function next.declaration xs i x lt c.member-item.is h.function h.declaration in
    record {
      routines = step_list (typed_routines c.loop-member.routines) (typed_routines c.add_member.new.routines) (w.members_made l k inits at.function at.declaration (class_members (drop i xs)))
          (w.member_made l k inits at.function at.declaration (class_member x)) (w.members_made l k inits next.function next.declaration (class_members (drop (i + 1) xs)))
          (typed_routines c.args.routines.now ++ w.members_made l k inits parts.first.function parts.first.declaration (class_members xs)) inv.routines left c.in_ok-add_member.ensures;
      declaration = declared_left (naming l) k at.declaration next.declaration xs i x _ lt c.member-item.is h.declaration inv.declaration;
      function = functions_left at.function next.function xs i x _ lt c.member-item.is h.function inv.function;
      counted = members_counted at.function next.function xs i x lt c.member-item.is h.function inv.counted;
    }
