use Rattle.std.proofs.Common.{◌≡◌, drop}
use Rattle.type_check.specs.Seen.{fit_all}
use Rattle.type_check.proofs.arguments.all_go.Given as goal

abbrev pub invariant-loop-i : goal.invariant-loop-i
invariant-loop-i l = fit_all l.known.classes (drop l.i l.ss) (drop l.i l.ts) ≡ fit_all l.known.classes l.ss l.ts
