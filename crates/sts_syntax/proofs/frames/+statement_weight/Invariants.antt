use Rattle.std.proofs.Common.{◌≡◌, ◌+◌, ◌-◌, ◌*◌, ◌^◌, ◌≤◌, min, drop}
use Rattle.sts_syntax.specs.TypedViews.{typed_statement, typed_statements}
use Rattle.sts_syntax.specs.Weights.{statement_weight, statements_weight}
use Rattle.sts_syntax.proofs.frames.+statement_weight.Given as goal

abbrev pub invariant-statements_weight-loop-a : goal.invariant-statements_weight-loop-a
invariant-statements_weight-loop-a l = record {
  sum : min (l.weight + statements_weight (typed_statements (drop l.a-index l.all))) (2 ^ 64 - 1) ≡ min (statements_weight (typed_statements l.all)) (2 ^ 64 - 1);
  fits : l.weight ≤ 2 ^ 64 - 1;
  few : statements_weight (typed_statements (drop l.a-index l.all)) ≤ statements_weight (typed_statements l.all);
}

abbrev pub decreases-statement_weight : goal.decreases-statement_weight
decreases-statement_weight l = 2 * statement_weight (typed_statement l.s.now)

abbrev pub decreases-statements_weight : goal.decreases-statements_weight
decreases-statements_weight l = 2 * statements_weight (typed_statements l.all.now) + 1
