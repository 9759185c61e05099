use Rattle.std.proofs.Common.{◌≡◌, [], length}
use Rattle.sts_syntax.specs.Programs.{top_levels}
use Rattle.parse_expr.specs.Gives.{source}
use Rattle.sts_grammar.specs.ReadUnits as read
use Rattle.parse_unit.proofs.parts.read_parts.Given as goal

abbrev pub invariant-loop-left : goal.invariant-loop-left
invariant-loop-left l =
    read.read_parts (source l.reader) l.room (length l.reader.tokens.now) [] 0 ≡ read.read_parts (source l.reader) l.room l.left (top_levels l.all) l.next

abbrev pub decreases-loop-left : goal.decreases-loop-left
decreases-loop-left l = l.left
