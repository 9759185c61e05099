use Rattle.std.proofs.Common.{ap, arith}
use Rattle.sts_syntax.specs.TypedViews.{typed_statements}
use Rattle.sts_syntax.specs.Weights.{statement_weight, statements_weight}
use Rattle.sts_syntax.proofs.Laws.{block_is}
use Rattle.sts_lower.specs.Sizes as z
use Rattle.sts_lower.proofs.statement_sizes.+statement_size.Goals as goal

pub statement_size-statements_size-requires : goal.statement_size-statements_size-requires
statement_size-statements_size-requires t c =
    let w = ap statement_weight (block_is c.args.s.now c.in-Block.all c.in-Block.is) in
    let v = ap (λ xs. statements_weight (typed_statements xs)) c.as_slice.ensures in
    let n = ap (z.statement_size c.args.maker) (block_is c.args.s.now c.in-Block.all c.in-Block.is) in
    let s = ap (λ xs. z.statements_size c.args.maker (typed_statements xs)) c.as_slice.ensures in
    (omega (arith, w, v, c.decreases), omega (arith, n, s, c.requires.few))

pub statement_size-returns-in-Block : goal.statement_size-returns-in-Block
statement_size-returns-in-Block t c =
    let n = ap (z.statement_size c.args.maker) (block_is c.args.s.now c.in-Block.all c.in-Block.is) in
    let s = ap (λ xs. z.statements_size c.args.maker (typed_statements xs)) c.as_slice.ensures in
    omega (arith, n, s, c.statements_size.ensures)
