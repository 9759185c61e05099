use Rattle.std.proofs.Common.{◌+◌, ◌^◌, ◌<◌, suc, ap, subst, arith}
use Rattle.sts_syntax.specs.Programs.{ClassMember, class_member}
use Rattle.sts_syntax.specs.Views.{routine}
use Rattle.text_sizes.specs.Numbered.{member_numbered, routine_numbered}
use Rattle.typed_numbers.specs.Building.{numbering_of}
use Rattle.typed_trees.specs.Sites.{naming}
use Rattle.typed_program.proofs.AtMost.{method_at_most}
use Rattle.typed_program.proofs.build_classes.add_member.Goals as goal

pub add_method-requires-clause-fits : goal.add_method-requires-clause-fits
add_method-requires-clause-fits c =
    let l = c.args.plan.now in
    let n = c.args.next.function in
    let r = routine c.in-Method.body in
    let h : n + suc (suc (routine_numbered r)) < 2 ^ 32 = subst (λ (m : ClassMember). n + member_numbered m < 2 ^ 32) (ap class_member c.in-Method.is) c.requires.functions in
    omega (arith, h, method_at_most l.tables.now (naming l) l.known.now (numbering_of l.numbers.now) c.args.parts.now.class n c.kind_at-gives.result r)
