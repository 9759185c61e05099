use Rattle.std.specs.Prelude.{take}
use Rattle.derived_types.specs.Work.{Hears}
use Rattle.derived_types.proofs.work.Work.hear.Given as goal

abbrev pub invariant-loop-i : goal.invariant-loop-i
invariant-loop-i l = Hears l.d (take l.i l.noted) l.initial.self l.self
