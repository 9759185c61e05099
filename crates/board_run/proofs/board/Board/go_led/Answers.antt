use Rattle.std.proofs.Common.{rules}
use Rattle.board_run.specs.Outside.{over_sink}
use Rattle.board_run.proofs.BehindClosing.{from_none, went_ended}
use Rattle.board_run.proofs.board.Board.go_led.Goals as goal

pub returns-in-Some-clause-went : goal.returns-in-Some-clause-went
returns-in-Some-clause-went g c =
    let q = c.in-Ok.ensures.goes in
    let old = over_sink g.K.Sink.taken g.K.Sink.faults c.args.self.now c.args.out.now in
    let new = over_sink g.K.Sink.taken g.K.Sink.faults c.pass.new.self c.pass.new.out in
    went_ended g.D.Device.account c.args.lead.now c.args.moment c.args.budget q.0 old new (g.K.Sink.taken c.put_end.new.out) (g.K.Sink.faults c.put_end.new.out) _ (search rules)
    (from_none g.D.Device.account c.args.lead.now c.args.moment c.args.budget q.0 old new c.clear.new.self c.clear.ensures q.1)
    q.2 c.pass.ensures.later c.put_end.ensures.0 c.put_end.ensures.1 c.put_end.result c.put_end.ensures.2
