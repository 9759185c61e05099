use Rattle.std.proofs.Common.{◌≡◌, ◌≤◌, length}
use Rattle.sts_syntax.specs.Trees.{none}
use Rattle.sts_syntax.specs.Nesting.{deepest_tree}
use Rattle.sts_syntax.specs.Views.{trees}
use Rattle.sts_grammar.specs.ReadExpressions.{read_items}
use Rattle.parse_expr.specs.Gives.{source, nested}
use Rattle.parse_expr.proofs.grammar.Grammar.some_items.Given as goal

abbrev pub invariant-loop-left : goal.invariant-loop-left
invariant-loop-left g l = record {
  reads :
      read_items (source l.self.reader) l.square ((nested l.self.reader l.self.room).expr 1) (length l.self.reader.tokens.now) none l.at ≡
      read_items (source l.self.reader) l.square ((nested l.self.reader l.self.room).expr 1) l.left (trees l.item) l.next;
  weighed : l.nesting ≡ deepest_tree (trees l.item);
  fits : l.nesting ≤ l.self.room;
}

abbrev pub decreases-loop-left : goal.decreases-loop-left
decreases-loop-left g l = l.left
