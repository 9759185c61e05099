use Rattle.std.proofs.Common.{◌-◌, ◌+◌, ◌≤◌, length}
use Rattle.sts_lexer.specs.Lexemes.{IsBody}
use Rattle.sts_lexer.proofs.quotes.quoted_at.Given as goal

abbrev pub invariant-loop-close : goal.invariant-loop-close
invariant-loop-close l = (l.at + 1 ≤ l.close) × IsBody l.text l.quote (l.at + 1) l.value l.close

abbrev pub decreases-loop-close : goal.decreases-loop-close
decreases-loop-close l = length l.text - l.close
