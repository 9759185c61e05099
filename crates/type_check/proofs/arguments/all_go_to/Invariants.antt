use Rattle.std.proofs.Common.{◌≡◌, drop}
use Rattle.type_check.specs.Seen.{fit_one}
use Rattle.type_check.proofs.arguments.all_go_to.Given as goal

abbrev pub invariant-loop-i : goal.invariant-loop-i
invariant-loop-i l = fit_one l.known.classes l.t (drop l.i l.ss) ≡ fit_one l.known.classes l.t l.ss
