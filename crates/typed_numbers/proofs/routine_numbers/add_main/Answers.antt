use Rattle.std.proofs.Common.{◌++◌, List, sym, ap, ◌∙◌}
use Rattle.std.proofs.lemmas.Result.{on_ok_weaker}
use Rattle.sts_syntax.specs.declared.trees.Binding.{Binding}
use Rattle.sts_syntax.specs.Views.{declarations}
use Rattle.sts_scope.specs.Numbers as number
use Rattle.typed_numbers.proofs.Listed.{let_is}
use Rattle.typed_numbers.proofs.routine_numbers.add_main.Goals as goal

pub returns-in-Let : goal.returns-in-Let
returns-in-Let c =
    let old = c.args.routines.now in
    let e = ap number.main_numbers (let_is c.args.s.now c.in-Let.fixed c.in-Let.each c.in-Let.is) in
    let a = ap (λ (xs : List Binding). number.global_places (declarations xs)) c.as_slice.ensures in
    on_ok_weaker c.add_globals.result (λ h. h ∙ ap (λ q. old ++ q) (a ∙ sym e)) c.add_globals.ensures
