use Rattle.std.proofs.Common.{◌≡◌, ℕ, length}
use Rattle.sts_scope.specs.Values.{value_at}
use Rattle.sts_scope.proofs.by_number.ByNumber.set.Given as goal

abbrev pub invariant-loop : goal.invariant-loop
invariant-loop l = record {
  same : (y : ℕ) → value_at l.self.values.items y ≡ value_at l.initial.self.values.items y;
  long : length l.self.values.items ≡ l.counter;
}
