use Rattle.std.proofs.Common.{◌≡◌, sym, ap, ◌∙◌, arith}
use Rattle.std.proofs.lemmas.Grind.{common_steps}
use Rattle.std.specs.Prelude.{Some}
use Rattle.sts_syntax.specs.BoardTable.{call_named}
use Rattle.sts_syntax.specs.Views.{tree}
use Rattle.type_derive.specs.Scopes.{place}
use Rattle.type_derive.specs.Typing.{spelling, space, own_call, board_callee}
use Rattle.type_derive.proofs.Calling.{name_is, member_is, member_called}
use Rattle.type_derive.proofs.callees.board_callee.Goals as goal

pub returns-in-Some : goal.returns-in-Some
returns-in-Some c =
    let t = c.args.tables.now in
    let k = c.args.known.now in
    let p = place c.args.scope.now in
    let f = c.args.f.now in
    let a = tree c.in-Member.a.value in
    let h : Some (spelling t c.in-Some.x) ≡ space t k p a = grind (arith, common_steps) in
    c.board_call.ensures ∙ ap (λ s. call_named s c.spelling-in-Some.result.now) c.spelling.ensures ∙ ap (call_named (spelling t c.in-Some.x)) c.spelling-in-Some.ensures
    ∙ sym (ap (board_callee t k p) (member_is f c.in-Member.a c.in-Member.m c.in-Member.is) ∙ member_called t k p f.at c.in-Member.m c.in-Some.x a h)

pub returns-in-Name : goal.returns-in-Name
returns-in-Name c =
    let t = c.args.tables.now in
    let k = c.args.known.now in
    let p = place c.args.scope.now in
    let f = c.args.f.now in
    let e = name_is f c.in-Name.field-0 c.in-Name.is in
    c.own_call.ensures ∙ ap (own_call p.library) (c.space-in-Name.ensures ∙ ap (space t k p) e) ∙ sym (ap (board_callee t k p) e)
