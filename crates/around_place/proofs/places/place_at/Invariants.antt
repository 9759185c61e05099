use Rattle.std.proofs.Common.{◌<◌, ◌-◌, ℕ}
use Rattle.sts_base.specs.Places.{IsPlace}
use Rattle.around_place.proofs.Located.{IsLatest}
use Rattle.around_place.proofs.places.place_at.Given as goal

abbrev pub invariant-loop-at : goal.invariant-loop-at
invariant-loop-at l = record {
  latest : IsLatest l.text l.lines l.start (l.at - 1);
  none : (other : ℕ) → other < l.at → IsPlace l.text other l.line l.column → ⊥;
}
