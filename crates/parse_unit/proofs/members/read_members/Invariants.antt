use Rattle.std.proofs.Common.{◌≡◌, [], length}
use Rattle.sts_syntax.specs.Programs.{class_members}
use Rattle.sts_grammar.specs.Reading.{statement_readers}
use Rattle.parse_expr.specs.Gives.{source}
use Rattle.sts_grammar.specs.ReadUnits as read
use Rattle.parse_unit.proofs.members.read_members.Given as goal

abbrev pub invariant-loop-left : goal.invariant-loop-left
invariant-loop-left l =
    read.read_members (source l.reader) (statement_readers (source l.reader) l.room) (length l.reader.tokens.now) [] l.at
    ≡ read.read_members (source l.reader) (statement_readers (source l.reader) l.room) l.left (class_members l.all) l.next

abbrev pub decreases-loop-left : goal.decreases-loop-left
decreases-loop-left l = l.left
