use Rattle.std.proofs.Common.{subst}
use Rattle.board_ports.specs.History.{FollowsMoves}
use Rattle.board_outside.proofs.Words.{sent-parts}
use Rattle.board_outside.proofs.sending.send_flash.Goals as goal

pub returns : goal.returns
returns g c = λ moves start f.
    subst (λ ms. FollowsMoves g.D.Device.account ms start c.send_each.new.plugs)
    (sent-parts moves c.args.now c.args.machine.now.memory.flash c.image_bytes-bytes.result.now c.args.count c.args.at c.image_bytes-bytes.ensures.within c.image_bytes-bytes.ensures.bytes)
    (c.send_each.ensures _ start (c.send_bytes.ensures.follows moves start f))
