use Rattle.std.proofs.Common.{◌-◌}
use Rattle.board_run.proofs.ScriptEntries.{Kept}
use Rattle.board_run.proofs.engine.Engine.arrive.Given as goal

abbrev pub invariant-loop-self : goal.invariant-loop-self
invariant-loop-self g l = Kept g.D.Device.account l.initial.self l.initial.plugs l.count l.self l.plugs

abbrev pub decreases-loop-self : goal.decreases-loop-self
decreases-loop-self g l = l.count - l.self.next
