use Rattle.std.proofs.Common.{◌≡◌, [], length}
use Rattle.sts_syntax.specs.Views.{parameters}
use Rattle.sts_grammar.specs.ReadHeadings.{read_more_parameters}
use Rattle.parse_expr.specs.Gives.{source}
use Rattle.parse_expr.proofs.reader.Reader.some_parameters.Given as goal

abbrev pub invariant-loop-left : goal.invariant-loop-left
invariant-loop-left l =
    read_more_parameters (source l.self) (length l.self.tokens.now) [] l.at ≡ read_more_parameters (source l.self) l.left (parameters l.all) l.next

abbrev pub decreases-loop-left : goal.decreases-loop-left
decreases-loop-left l = l.left
