use Rattle.std.proofs.Common.{◌≡◌, false, length}
use Rattle.std.specs.List.{All}
use Rattle.sts_scope.proofs.lines.none_seen.Given as goal

abbrev pub invariant-loop : goal.invariant-loop
invariant-loop l = All (λ b. b ≡ false) l.seen.items × (length l.seen.items ≡ l.counter)
