use Rattle.std.proofs.Common.{◌≡◌, ◌+◌, ◌≤◌, length}
use Rattle.sts_syntax.specs.Trees.{ended}
use Rattle.sts_syntax.specs.Nesting.{deepest_declaration}
use Rattle.sts_syntax.specs.Views.{declarations}
use Rattle.sts_grammar.specs.ReadStatements.{read_declarations}
use Rattle.parse_expr.specs.Gives.{source, nested}
use Rattle.parse_expr.proofs.grammar.Grammar.declarations.Given as goal

abbrev pub invariant-loop-left : goal.invariant-loop-left
invariant-loop-left g l = record {
  reads :
      read_declarations (source l.self.reader) ((nested l.self.reader l.self.room).expr 1) l.fixed (length l.self.reader.tokens.now) ended l.at ≡
      read_declarations (source l.self.reader) ((nested l.self.reader l.self.room).expr 1) l.fixed l.left (declarations l.item) l.next;
  weighed : l.nesting ≡ deepest_declaration (declarations l.item);
  fits : l.nesting ≤ l.self.room + 1;
}

abbrev pub decreases-loop-left : goal.decreases-loop-left
decreases-loop-left g l = l.left
