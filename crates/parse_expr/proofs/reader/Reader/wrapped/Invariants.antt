use Rattle.std.proofs.Common.{◌≡◌, length}
use Rattle.sts_syntax.specs.Annotations.{annotation}
use Rattle.sts_grammar.specs.ReadHeadings.{wrap_type}
use Rattle.parse_expr.specs.Gives.{source}
use Rattle.parse_expr.proofs.reader.Reader.wrapped.Given as goal

abbrev pub invariant-loop-left : goal.invariant-loop-left
invariant-loop-left l =
    wrap_type (source l.self) (length l.self.tokens.now) (annotation l.fn.item) l.at ≡ wrap_type (source l.self) l.left (annotation l.shape) l.end

abbrev pub decreases-loop-left : goal.decreases-loop-left
decreases-loop-left l = l.left
