use Rattle.std.proofs.Common.{◌≡◌, ◌≤◌, length}
use Rattle.sts_syntax.specs.Trees.{done}
use Rattle.sts_syntax.specs.Nesting.{deepest_statement}
use Rattle.sts_syntax.specs.Views.{statements}
use Rattle.sts_grammar.specs.ReadExpressions.{read_statements}
use Rattle.parse_expr.specs.Gives.{source, nested}
use Rattle.parse_expr.proofs.grammar.Grammar.statements.Given as goal

abbrev pub invariant-loop-left : goal.invariant-loop-left
invariant-loop-left g l = record {
  reads :
      read_statements (source l.self.reader) ((nested l.self.reader l.self.room).stmt l.in_function l.in_loop) (length l.self.reader.tokens.now) done l.at ≡
      read_statements (source l.self.reader) ((nested l.self.reader l.self.room).stmt l.in_function l.in_loop) l.left (statements l.item) l.next;
  weighed : l.nesting ≡ deepest_statement (statements l.item);
  fits : l.nesting ≤ l.self.room;
}

abbrev pub decreases-loop-left : goal.decreases-loop-left
decreases-loop-left g l = l.left
