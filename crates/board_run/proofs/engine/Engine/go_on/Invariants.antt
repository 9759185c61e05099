use Rattle.board_run.specs.Represents.{moves_left, state_of}
use Rattle.board_run.proofs.Settling.{Settling}
use Rattle.board_run.proofs.engine.Engine.go_on.Given as goal

abbrev pub invariant-loop-self : goal.invariant-loop-self
invariant-loop-self g l = Settling g.D.Device.account l.initial.self l.self l.initial.plugs l.plugs

abbrev pub decreases-loop-self : goal.decreases-loop-self
decreases-loop-self g l = moves_left (state_of l.self)
