use Rattle.std.proofs.Common.{◌≤◌, length}
use Rattle.sts_grammar.proofs.Laws.{EndsBy}
use Rattle.sts_grammar.specs.Texts as texts
use Rattle.sts_grammar.specs.Limits.{most_nesting}
use Rattle.parse_expr.proofs.parse.parse_expr.Given as goal

abbrev pub invariant-loop-upto : goal.invariant-loop-upto
invariant-loop-upto l = record {
  all : EndsBy (texts.source l.tokens l.tables) most_nesting l.from l.upto;
  within : l.upto ≤ length l.tokens;
}

abbrev pub decreases-loop-upto : goal.decreases-loop-upto
decreases-loop-upto l = l.upto
