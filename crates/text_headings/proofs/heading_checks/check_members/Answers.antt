use Rattle.std.proofs.Common.{◌+◌, ◌<◌, ◌^◌, length, drop, arith}
use Rattle.sts_syntax.specs.Programs.{class_members}
use Rattle.sts_scope.specs.Values.{value_at}
use Rattle.sts_scope.specs.Entries.{member_entries}
use Rattle.text_headings.proofs.Standing.{member_room}
use Rattle.text_headings.proofs.heading_checks.check_members.Goals as goal

pub check_member-requires : goal.check_member-requires
check_member-requires c =
    let names = value_at c.args.classes.now.values.items in
    let members = c.args.members.now in
    let i = c.loop-i.i in
    let lt : i < length members = omega arith in
    let left : c.loop-i.d + length (member_entries names c.args.c (class_members (drop i members))) < 2 ^ 64 = omega (arith, c.loop-i.invariant.count, c.requires) in
    member_room names c.args.c c.loop-i.d members i c.index-members-i.result (2 ^ 64) lt c.index-members-i.is left
