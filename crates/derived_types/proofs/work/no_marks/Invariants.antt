use Rattle.std.proofs.Common.{◌≡◌, false, length}
use Rattle.std.specs.List.{All}
use Rattle.derived_types.proofs.work.no_marks.Given as goal

abbrev pub invariant-loop : goal.invariant-loop
invariant-loop l = All (λ b. b ≡ false) l.marks.items × (length l.marks.items ≡ l.counter)
