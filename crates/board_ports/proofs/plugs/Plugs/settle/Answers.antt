use Rattle.std.proofs.Common.{rules, arith}
use Rattle.std.proofs.lemmas.Grind.{common_steps}
use Rattle.board_ports.proofs.History.{follows_settle}
use Rattle.board_ports.proofs.plugs.Plugs.settle.Goals as goal

pub returns-clause-follows : goal.returns-clause-follows
returns-clause-follows g c = λ moves start f.
    follows_settle g.D.Device.account g.D.Device.settled moves start c.args.self.now _ c.args.port
    (omega arith) (grind (arith, common_steps)) (search rules) f
