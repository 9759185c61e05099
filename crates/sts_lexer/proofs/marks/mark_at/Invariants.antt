use Rattle.sts_lexer.proofs.LongestMark.{NoneBefore}
use Rattle.sts_lexer.proofs.marks.mark_at.Given as goal

abbrev pub invariant-loop-mark : goal.invariant-loop-mark
invariant-loop-mark l = NoneBefore l.marks l.mark-index l.text l.at
