use Rattle.std.proofs.Common.{rules, arith}
use Rattle.std.proofs.lemmas.Grind.{common_steps}
use Rattle.board_ports.proofs.History.{follows_word}
use Rattle.board_ports.proofs.plugs.Plugs.send.Goals as goal

pub returns-clause-follows : goal.returns-clause-follows
returns-clause-follows g c = λ moves start f.
    follows_word g.D.Device.account moves start c.args.self.now _ c.args.port c.args.now c.args.word c.deliver.result
    (omega arith) (grind (arith, common_steps)) (search rules) f
