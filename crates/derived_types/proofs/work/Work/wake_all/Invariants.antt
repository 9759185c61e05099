use Rattle.std.specs.Prelude.{take}
use Rattle.derived_types.specs.Work.{Wakes}
use Rattle.derived_types.proofs.work.Work.wake_all.Given as goal

abbrev pub invariant-loop-i : goal.invariant-loop-i
invariant-loop-i l = Wakes (take l.i l.all) l.initial.self l.self
