use Rattle.std.proofs.Common.{◌+◌, ◌<◌, ◌++◌, drop, length, arith}
use Rattle.sts_syntax.specs.Programs.{class_member, class_members}
use Rattle.typed_trees.specs.Sites.{naming}
use Rattle.typed_program.specs.Wholes as w
use Rattle.typed_program.proofs.ClassParts.{member_counted, member_declared, member_functions, members_counted, members_declared, step_list}
use Rattle.typed_program.proofs.Initials.{initials_left}
use Rattle.typed_program.proofs.build_initials.add_initials.Goals as goal

pub next_member-next-requires-clause-functions : goal.next_member-next-requires-clause-functions
next_member-next-requires-clause-functions c =
    let xs = c.args.parts.now.members.now in let i = c.loop-member.member-index in
    let lt : i < length xs = omega (arith, c.loop-member-test.true) in
    member_functions c.loop-member.next.function (class_member c.member-item.result) (member_counted c.loop-member.next.function xs i c.member-item.result lt c.member-item.is c.loop-member.invariant.counted)

pub add_member_initial-requires-clause-functions : goal.add_member_initial-requires-clause-functions
add_member_initial-requires-clause-functions c =
    let xs = c.args.parts.now.members.now in let i = c.loop-member.member-index in
    let lt : i < length xs = omega (arith, c.loop-member-test.true) in
    member_counted c.loop-member.next.function xs i c.member-item.result lt c.member-item.is c.loop-member.invariant.counted

pub next_member-next-requires-clause-declarations : goal.next_member-next-requires-clause-declarations
next_member-next-requires-clause-declarations c =
    let parts = c.args.parts.now in let xs = parts.members.now in let i = c.loop-member.member-index in
    let lt : i < length xs = omega (arith, c.loop-member-test.true) in
    member_declared (naming c.args.plan.now) parts.class c.loop-member.next.declaration xs i c.member-item.result lt c.member-item.is c.loop-member.invariant.numbered

pub loop-member-preserved : goal.loop-member-preserved
loop-member-preserved c =
    let l = c.args.plan.now in let parts = c.args.parts.now in let k = parts.class in
    let xs = parts.members.now in let i = c.loop-member.member-index in let x = c.member-item.result in
    let at = c.loop-member.next in let next = c.next_member-next.result in let h = c.next_member-next.ensures in let inv = c.loop-member.invariant in
    let lt : i < length xs = omega (arith, c.loop-member-test.true) in
    record {
      made = step_list (w.typed_list c.loop-member.all) (w.typed_list c.add_member_initial.new.all) (w.initials l k at.function at.declaration (class_members (drop i xs)))
          (w.member_initials l k at.function at.declaration (class_member x)) (w.initials l k next.function next.declaration (class_members (drop (i + 1) xs)))
          (w.typed_list c.args.all.now ++ w.initials_of l parts) inv.made (initials_left l k at.function at.declaration next.function next.declaration xs i x lt c.member-item.is h.function h.declaration)
          c.in_ok-add_member_initial.ensures;
      counted = members_counted at.function next.function xs i x lt c.member-item.is h.function inv.counted;
      numbered = members_declared (naming l) k at.declaration next.declaration xs i x lt c.member-item.is h.declaration inv.numbered;
    }
