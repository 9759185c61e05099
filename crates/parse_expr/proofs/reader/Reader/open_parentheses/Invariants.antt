use Rattle.std.proofs.Common.{◌≡◌, ◌+◌, length}
use Rattle.sts_grammar.specs.ReadExpressions.{opened}
use Rattle.parse_expr.specs.Gives.{source}
use Rattle.parse_expr.proofs.reader.Reader.open_parentheses.Given as goal

abbrev pub invariant-loop-left : goal.invariant-loop-left
invariant-loop-left l =
    (opened (source l.self) (length l.self.tokens.now) l.at ≡ l.open + opened (source l.self) l.left l.next) × (l.next ≡ l.at + l.open)

abbrev pub decreases-loop-left : goal.decreases-loop-left
decreases-loop-left l = l.left
