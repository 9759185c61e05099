use Rattle.std.proofs.Common.{◌≡◌, ◌++◌}
use Rattle.run_tool.specs.Big.{lines_of_numbers, call_line}
use Rattle.run_tool.proofs.big.put_calls.Given as goal

abbrev pub invariant-loop-before : goal.invariant-loop-before
invariant-loop-before l = l.out.items ≡ l.initial.out.items ++ lines_of_numbers call_line l.before
