use Rattle.std.proofs.Common.{◌≡◌, ◌+◌, drop}
use Rattle.sts_lower.specs.Repeated.{before}
use Rattle.sts_lower.proofs.calls.before.Given as goal

abbrev pub invariant-loop-g : goal.invariant-loop-g
invariant-loop-g l = record {
  count : l.count ≡ l.g-index;
  rest : l.count + before (drop l.g-index l.all) l.f ≡ before l.all l.f;
}
