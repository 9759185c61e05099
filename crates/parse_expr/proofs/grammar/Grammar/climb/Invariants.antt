use Rattle.std.proofs.Common.{◌≡◌, ◌+◌, ◌≤◌}
use Rattle.sts_syntax.specs.Nesting.{nesting}
use Rattle.sts_syntax.specs.Views.{tree}
use Rattle.sts_grammar.specs.ReadExpressions.{climb}
use Rattle.parse_expr.specs.Gives.{source, nested}
use Rattle.parse_expr.proofs.grammar.Grammar.climb.Given as goal

abbrev pub invariant-loop-left : goal.invariant-loop-left
invariant-loop-left g l = record {
  reads :
      climb (source l.self.reader) l.self.reader.upto l.self.room (nested l.self.reader l.self.room) (l.self.room + 1) l.level l.place (tree l.fn.first.item) l.fn.first.end ≡
      climb (source l.self.reader) l.self.reader.upto l.self.room (nested l.self.reader l.self.room) l.left l.level l.place (tree l.e.item) l.e.end;
  weighed : l.e.nesting ≡ nesting (tree l.e.item);
  fits : l.e.nesting ≤ l.self.room + 1;
}

abbrev pub decreases-loop-left : goal.decreases-loop-left
decreases-loop-left g l = l.left
