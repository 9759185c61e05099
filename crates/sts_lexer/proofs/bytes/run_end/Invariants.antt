use Rattle.std.proofs.Common.{◌-◌, ◌≤◌, length}
use Rattle.sts_lexer.specs.Bytes.{Each}
use Rattle.sts_lexer.specs.Classes.{in_class}
use Rattle.sts_lexer.proofs.bytes.run_end.Given as goal

abbrev pub invariant-loop-at : goal.invariant-loop-at
invariant-loop-at l = (l.from ≤ l.at) × (l.at ≤ length l.text) × Each (in_class l.class) l.text l.from l.at

abbrev pub decreases-loop-at : goal.decreases-loop-at
decreases-loop-at l = length l.text - l.at
