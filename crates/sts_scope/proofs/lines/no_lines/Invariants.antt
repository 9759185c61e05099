use Rattle.std.proofs.Common.{◌≡◌, ℕ, None}
use Rattle.sts_scope.specs.Lines as lines
use Rattle.sts_scope.proofs.lines.no_lines.Given as goal

abbrev pub invariant-loop : goal.invariant-loop
invariant-loop l = (c : ℕ) → lines.at l.all c ≡ None
