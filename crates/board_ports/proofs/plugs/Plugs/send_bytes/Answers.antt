use Rattle.std.proofs.Common.{rules, arith}
use Rattle.std.proofs.lemmas.Grind.{common_steps}
use Rattle.board_ports.proofs.History.{follows_bytes}
use Rattle.board_ports.proofs.plugs.Plugs.send_bytes.Goals as goal

pub returns-then-port-len-clause-follows : goal.returns-then-port-len-clause-follows
returns-then-port-len-clause-follows g c = λ moves start f.
    follows_bytes g.D.Device.account moves start c.args.self.now _ c.args.port c.args.now c.args.bytes.now
    (omega arith) (grind (arith, common_steps)) (search rules) f

pub returns-clause-follows : goal.returns-clause-follows
returns-clause-follows g c = λ moves start f.
    follows_bytes g.D.Device.account moves start c.args.self.now _ c.args.port c.args.now c.args.bytes.now
    (omega arith) (grind (arith, common_steps)) (search rules) f
