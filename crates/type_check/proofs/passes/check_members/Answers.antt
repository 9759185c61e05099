use Rattle.std.proofs.Common.{◌+◌, ◌<◌, ◌^◌, length, drop, arith}
use Rattle.std.proofs.lemmas.Grind.{common_steps}
use Rattle.sts_syntax.specs.Programs.{class_members}
use Rattle.sts_scope.specs.Entries.{member_entries}
use Rattle.text_headings.proofs.Laws.{member_room}
use Rattle.type_derive.specs.Scopes.{naming}
use Rattle.type_check.proofs.Texts.{members_step}
use Rattle.type_check.proofs.passes.check_members.Goals as goal

pub returns-in_err-check_member-clause-found : goal.returns-in_err-check_member-clause-found
returns-in_err-check_member-clause-found c = grind (arith, common_steps, members_step)

pub behind_member-d-requires : goal.behind_member-d-requires
behind_member-d-requires c =
    let names = naming c.args.context.now in
    let members = c.args.members.now in
    let i = c.loop-i.i in
    let lt : i < length members = omega arith in
    let left : c.loop-i.d + length (member_entries names c.args.c (class_members (drop i members))) < 2 ^ 64 = omega (arith, c.loop-i.invariant.count, c.requires) in
    member_room names c.args.c c.loop-i.d members i c.index-members-i-in-loop-i.result (2 ^ 64) lt c.index-members-i-in-loop-i.is left

pub loop-i-preserved : goal.loop-i-preserved
loop-i-preserved c = grind (arith, common_steps, members_step)

pub returns-clause-found : goal.returns-clause-found
returns-clause-found c = grind (arith, common_steps, members_step)

pub returns-clause-next : goal.returns-clause-next
returns-clause-next c = grind (arith, common_steps, members_step)
