use Rattle.std.proofs.Common.{◌+◌, ◌^◌, ◌<◌, suc, ap, subst, arith}
use Rattle.std.specs.Prelude.{true}
use Rattle.sts_syntax.specs.Programs.{TopLevel, Function, top_level}
use Rattle.sts_syntax.specs.Views.{routine}
use Rattle.text_sizes.specs.Numbered.{item_numbered, routine_numbered}
use Rattle.text_sizes.proofs.Laws.{item_routines_numbered}
use Rattle.typed_numbers.specs.Building.{numbering_of}
use Rattle.typed_trees.specs.Sites.{naming}
use Rattle.typed_program.proofs.AtMost.{function_at_most}
use Rattle.typed_program.proofs.build_program.add_library_item.Goals as goal

pub add_function-requires-clause-fits : goal.add_function-requires-clause-fits
add_function-requires-clause-fits c =
    let l = c.args.plan.now in
    let n = c.args.next.function in
    let r = routine c.in-Function.body in
    let h : n + suc (routine_numbered r) < 2 ^ 32 = subst (λ (i : TopLevel). n + item_numbered i < 2 ^ 32) (ap top_level c.in-Function.is) c.requires.functions in
    omega (arith, h, function_at_most l.tables.now (naming l) l.known.now (numbering_of l.numbers.now) true n c.kind_at-gives.result r)

pub routine_handlers-requires : goal.routine_handlers-requires
routine_handlers-requires c =
    let n = c.args.next.function in
    let r = routine c.in-Function.body in
    let h : n + suc (routine_numbered r) < 2 ^ 32 = subst (λ (i : TopLevel). n + item_numbered i < 2 ^ 32) (ap top_level c.in-Function.is) c.requires.functions in
    record { few = omega (arith, h, item_routines_numbered (Function 0 r)) }
