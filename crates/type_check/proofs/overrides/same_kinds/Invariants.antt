use Rattle.std.proofs.Common.{◌≡◌, drop}
use Rattle.type_derive.specs.Passes as pass
use Rattle.type_check.proofs.overrides.same_kinds.Given as goal

abbrev pub invariant-loop-i : goal.invariant-loop-i
invariant-loop-i l = pass.same_kinds (drop l.i l.ss) (drop l.i l.ts) ≡ pass.same_kinds l.ss l.ts
