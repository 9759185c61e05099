use Rattle.board_run.specs.Represents.{moves_left, state_of}
use Rattle.board_run.proofs.Waiting.{Staying}
use Rattle.board_run.proofs.engine.Engine.stay.Given as goal

abbrev pub invariant-loop-self : goal.invariant-loop-self
invariant-loop-self l = Staying l.initial.self l.self

abbrev pub decreases-loop-self : goal.decreases-loop-self
decreases-loop-self l = moves_left (state_of l.self)
