use Rattle.std.proofs.Common.{◌≡◌, ◌+◌, ◌*◌, ◌≤◌, ◌++◌, drop}
use Rattle.sts_syntax.specs.TypedViews.{typed_statement, typed_statements}
use Rattle.sts_syntax.specs.Weights.{statement_weight, statements_weight}
use Rattle.sts_lower.specs.Repeated.{repeated_in_all}
use Rattle.sts_lower.proofs.repeats.+statement_repeats.Given as goal

abbrev pub invariant-note_statements-loop-a : goal.invariant-note_statements-loop-a
invariant-note_statements-loop-a l = record {
  all : l.found ++ repeated_in_all (typed_statements (drop l.a-index l.a-items)) ≡ l.initial.found ++ repeated_in_all (typed_statements l.a-items);
  weight : statements_weight (typed_statements (drop l.a-index l.a-items)) ≤ statements_weight (typed_statements l.a-items);
}

abbrev pub decreases-note_statement : goal.decreases-note_statement
decreases-note_statement l = 2 * statement_weight (typed_statement l.s.now)

abbrev pub decreases-note_statements : goal.decreases-note_statements
decreases-note_statements l = 2 * statements_weight (typed_statements l.all.now) + 1
