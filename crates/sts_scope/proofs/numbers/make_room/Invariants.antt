use Rattle.std.proofs.Common.{◌≡◌, ℕ, length}
use Rattle.sts_scope.specs.Symbols.{member_at}
use Rattle.sts_scope.proofs.numbers.make_room.Given as goal

abbrev pub invariant-loop : goal.invariant-loop
invariant-loop l = record {
  same : (b y : ℕ) → member_at l.classes.items b y ≡ member_at l.initial.classes.items b y;
  long : length l.classes.items ≡ l.counter;
}
