use Rattle.std.proofs.Common.{◌≡◌, rules, tests}
use Rattle.class_radio.proofs.Turning.{stayed}
use Rattle.class_radio.proofs.turns.go_one.Goals as goal

pub returns-else-due-moment-clause-turned : goal.returns-else-due-moment-clause-turned
returns-else-due-moment-clause-turned g c budget h may =
    stayed budget c.args.moment c.args.number h c.args.player.now may (g.K.Sink.taken c.args.out.now)
    (λ e. (let same : c.in-Some.due ≡ c.args.moment = cc in let test = c.if-due-moment.false in search (rules, tests)))

pub returns-in-None-clause-turned : goal.returns-in-None-clause-turned
returns-in-None-clause-turned g c budget h may =
    stayed budget c.args.moment c.args.number h c.args.player.now may (g.K.Sink.taken c.args.out.now) (λ e. (let none = c.in-None.is in cc))
