use Rattle.std.proofs.Common.{◌≡◌, ◌+◌, ◌≤◌, [], map, drop}
use Rattle.sts_syntax.specs.BoardTable.{placed}
use Rattle.sts_syntax.specs.BoardViews.{service_place}
use Rattle.sts_syntax.specs.Measures.{total}
use Rattle.sts_lower.proofs.arguments.own_numbers.Given as goal

abbrev pub invariant-loop-place : goal.invariant-loop-place
invariant-loop-place l = record {
  sum : l.count + total (placed (λ n. 1) (map service_place (drop l.place-index l.place-items)) []) ≡ total (placed (λ n. 1) (map service_place l.place-items) []);
  few : l.count ≤ l.place-index;
}
