use Rattle.std.proofs.Common.{List, ap, arith}
use Rattle.sts_syntax.specs.declared.trees.Stmt.{Stmt}
use Rattle.sts_syntax.specs.Views.{statements}
use Rattle.sts_syntax.proofs.Laws.{routine_parts}
use Rattle.sts_scope.specs.Handlers as h
use Rattle.typed_numbers.proofs.handler_counts.routine_handlers.Goals as goal

pub returns : goal.returns
returns c =
    let b = ap h.routine_handlers (routine_parts c.args.body.now) in
    let a = ap (λ (xs : List Stmt). h.statements_handlers (statements xs)) c.as_slice.ensures in
    omega (arith, b, a, c.requires.few, c.statements_handlers.ensures)
