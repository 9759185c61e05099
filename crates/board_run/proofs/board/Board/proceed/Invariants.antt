use Rattle.std.proofs.Common.{◌≡◌, ◌+◌, ◌≤◌}
use Rattle.board_run.specs.Outside.{over_sink}
use Rattle.board_run.specs.Advancing.{IsWhole, Proceeds, Stands, IsStayed}
use Rattle.board_run.proofs.board.Board.proceed.Given as goal

-- as many instructions as the counter says, and nothing is wrong yet
abbrev pub invariant-loop : goal.invariant-loop
invariant-loop g l =
    Proceeds g.D.Device.account l.fn.lead l.counter (over_sink g.K.Sink.taken g.K.Sink.faults l.fn.self l.fn.out) (over_sink g.K.Sink.taken g.K.Sink.faults l.self l.out) × Stands l.fn.self l.self
    × IsWhole l.self.engine l.self.instructions × IsStayed l.self.engine × (l.self.instructions ≡ l.fn.self.instructions + l.counter) × (g.K.Sink.faults l.fn.out ≤ g.K.Sink.faults l.out)
