use Rattle.std.proofs.Common.{◌≡◌, ◌+◌, ◌*◌, ◌≤◌, drop}
use Rattle.sts_syntax.specs.TypedViews.{typed_statement, typed_statements}
use Rattle.sts_syntax.specs.Weights.{statement_weight, statements_weight}
use Rattle.sts_lower.specs.Sizes as z
use Rattle.sts_lower.proofs.statement_sizes.+statement_size.Given as goal

abbrev pub invariant-statements_size-loop-a : goal.invariant-statements_size-loop-a
invariant-statements_size-loop-a l = record {
  sum : l.sum + z.statements_size l.maker (typed_statements (drop l.a-index l.all)) ≡ z.statements_size l.maker (typed_statements l.all);
  weight : statements_weight (typed_statements (drop l.a-index l.all)) ≤ statements_weight (typed_statements l.all);
}

abbrev pub decreases-statement_size : goal.decreases-statement_size
decreases-statement_size l = 2 * statement_weight (typed_statement l.s.now)

abbrev pub decreases-statements_size : goal.decreases-statements_size
decreases-statements_size l = 2 * statements_weight (typed_statements l.all.now) + 1
