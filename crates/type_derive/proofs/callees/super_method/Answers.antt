use Rattle.std.proofs.Common.{◌≡◌, sym, ap, ◌∙◌, arith}
use Rattle.std.proofs.lemmas.Grind.{common_steps}
use Rattle.std.specs.Prelude.{Some}
use Rattle.sts_scope.specs.Lookup.{inherited}
use Rattle.type_derive.specs.Typing.{super_method}
use Rattle.type_derive.proofs.Calling.{method_found}
use Rattle.type_derive.proofs.callees.super_method.Goals as goal

pub returns-in-Some : goal.returns-in-Some
returns-in-Some c =
    let k = c.args.known.now in
    let h : inherited k.entries k.classes c.in-Object.c c.args.m ≡ Some c.in-Some.d = grind (arith, common_steps) in
    c.method_of.ensures ∙ sym (ap (λ s. super_method k s c.args.m) c.in-Object.is ∙ method_found k c.in-Object.c c.args.m c.in-Some.d h)
