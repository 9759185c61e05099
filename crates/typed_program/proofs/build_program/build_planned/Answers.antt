use Rattle.std.proofs.Common.{length, ap, ◌∙◌, arith}
use Rattle.std.proofs.Math.Path.{fun_ext}
use Rattle.sts_syntax.specs.Programs.{top_levels}
use Rattle.sts_scope.specs.declared.known.Known.{Known}
use Rattle.sts_scope.specs.Rules.{maker_takes_of}
use Rattle.typed_program.proofs.Few.{classes_append}
use Rattle.typed_program.proofs.Items.{whole_is}
use Rattle.typed_program.proofs.Numbered.{text_declared}
use Rattle.typed_program.proofs.Takes.{makers_take, all_numbered_append}
use Rattle.typed_program.proofs.build_program.build_planned.Goals as goal

pub build_program-requires-clause-declarations : goal.build_program-requires-clause-declarations
build_program-requires-clause-declarations c =
    let l = c.args.plan.now in
    let e = text_declared l c.args.first_class (top_levels c.args.library.now) (top_levels c.args.text.now) l.known.now.kinds (fun_ext c.requires.names) c.requires.known c.requires.first in
    omega (arith, e, c.requires.plan.few)

pub build_program-requires-clause-classes : goal.build_program-requires-clause-classes
build_program-requires-clause-classes c =
    let a = classes_append (top_levels c.args.library.now) (top_levels c.args.text.now) in
    omega (arith, a, c.requires.first, c.requires.both.classes)

pub build_program-requires-clause-functions : goal.build_program-requires-clause-functions
build_program-requires-clause-functions c = omega (arith, c.requires.both.numbers)

pub build_program-requires-clause-takes : goal.build_program-requires-clause-takes
build_program-requires-clause-takes c = λ class.
    let library = top_levels c.args.library.now in
    let text = top_levels c.args.text.now in
    let k = c.args.plan.now.known.now in
    let same = ap (λ (q : Known). length (maker_takes_of q.classes class)) c.requires.known in
    let most = makers_take library text k.kinds class in
    omega (arith, same, most, all_numbered_append library text, c.requires.both.numbers)

pub returns : goal.returns
returns c =
    let l = c.args.plan.now in
    c.in_ok-made.ensures ∙ whole_is l c.args.first_class _ (top_levels c.args.library.now) (top_levels c.args.text.now) _ _ _ (fun_ext c.requires.names) c.requires.known c.requires.numbers c.requires.first
