use Rattle.std.proofs.Common.{◌≡◌, ℕ, length, None}
use Rattle.type_derive.specs.Derived as derived
use Rattle.derived_types.proofs.solving.blank.Given as goal

abbrev pub invariant-loop : goal.invariant-loop
invariant-loop l = record {
  hollow : (d : ℕ) → derived.at l.kinds d ≡ None;
  len : length l.kinds ≡ l.counter;
}
