use Rattle.std.proofs.Common.{◌≡◌, ◌-◌, length}
use Rattle.std.specs.Prelude.{is_some}
use Rattle.sts_scope.specs.Bases as base
use Rattle.sts_scope.proofs.lookup.is_endless.Given as goal

abbrev pub invariant-loop : goal.invariant-loop
invariant-loop l = is_some (base.above l.classes (length l.classes - l.counter) l.at) ≡ base.is_endless l.classes l.initial.at
