use Rattle.std.proofs.Common.{OnOk, subst}
use Rattle.thumb_code.specs.Machine.{State}
use Rattle.board_outside.specs.Outputs.{moves_of}
use Rattle.board_run.specs.Outside.{PortsMeet}
use Rattle.board_run.proofs.board.tell.Goals as goal

pub returns-in_default-clause-sends : goal.returns-in_default-clause-sends
returns-in_default-clause-sends g c =
    subst (λ (m : State). OnOk c.show.result (PortsMeet g.D.Device.account (moves_of m.memory.flash c.args.now c.args.output) c.args.plugs.now c.show.new.plugs)) c.machine.ensures.value c.show.ensures.sends
