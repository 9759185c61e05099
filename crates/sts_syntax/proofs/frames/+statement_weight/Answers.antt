use Rattle.std.proofs.Common.{ap, arith}
use Rattle.sts_syntax.specs.TypedViews.{typed_statements}
use Rattle.sts_syntax.specs.Weights.{statement_weight, statements_weight}
use Rattle.sts_syntax.proofs.FrameBounds.{block_is}
use Rattle.sts_syntax.proofs.frames.+statement_weight.Goals as goal

pub statement_weight-statements_weight-requires : goal.statement_weight-statements_weight-requires
statement_weight-statements_weight-requires t c =
    let w = ap statement_weight (block_is c.args.s.now c.in-Block.all c.in-Block.is) in
    let s = ap (λ xs. statements_weight (typed_statements xs)) c.as_slice.ensures in
    omega (arith, w, s, c.decreases)

pub statement_weight-returns-in-Block : goal.statement_weight-returns-in-Block
statement_weight-returns-in-Block t c =
    let w = ap statement_weight (block_is c.args.s.now c.in-Block.all c.in-Block.is) in
    let s = ap (λ xs. statements_weight (typed_statements xs)) c.as_slice.ensures in
    omega (arith, w, s, c.statements_weight.ensures)
