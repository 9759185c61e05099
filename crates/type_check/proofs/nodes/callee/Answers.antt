use Rattle.std.proofs.Common.{sym, ap, ◌∙◌}
use Rattle.sts_syntax.specs.Views.{tree}
use Rattle.sts_scope.specs.Rules.{part_of}
use Rattle.type_derive.specs.declared.roles.Role.TheVariants.{Free}
use Rattle.type_derive.specs.Scopes.{place}
use Rattle.type_derive.specs.Typing.{type_of, callee_of, named_callee, part_callee}
use Rattle.type_derive.proofs.Laws.{name_is, member_is}
use Rattle.type_check.specs.Seen.{part_at}
use Rattle.type_check.proofs.Parts.{part_through}
use Rattle.type_check.proofs.nodes.callee.Goals as goal

pub returns-in-Name : goal.returns-in-Name
returns-in-Name c =
    let t = c.args.context.now.tables.now in
    let k = c.args.context.now.known.now in
    c.named_callee.ensures k ∙ ap (named_callee k) c.name_found.ensures ∙ sym (ap (callee_of t k (place c.args.scope.now)) (name_is c.args.f.now c.in-Name.x c.in-Name.is))

pub returns-in-Some : goal.returns-in-Some
returns-in-Some c =
    let t = c.args.context.now.tables.now in
    let k = c.args.context.now.known.now in
    let p = place c.args.scope.now in
    let e = member_is c.args.f.now c.in-Member.field-0 c.in-Member.field-1 c.in-Member.is in
    c.part_callee.ensures k
    ∙ part_through (type_of t k p Free (tree c.in-Member.field-0.value)) (λ u. part_of t.names k u c.in-Member.field-1) (part_callee k) c.in-Some.part (sym c.in-Some.is ∙ c.requires ∙ ap (part_at t k p) e)
    ∙ sym (ap (callee_of t k p) e)
