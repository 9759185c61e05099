use Rattle.std.proofs.Common.{◌≡◌, drop}
use Rattle.std.specs.List.{position_from}
use Rattle.std.specs.Prelude.{◌==◌}
use Rattle.typed_numbers.proofs.member_names.place_among.Given as goal

abbrev pub invariant-loop-i : goal.invariant-loop-i
invariant-loop-i l = position_from (λ y. y == l.name) l.i (drop l.i l.names) ≡ position_from (λ y. y == l.name) 0 l.names
