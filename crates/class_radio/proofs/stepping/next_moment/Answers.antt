use Rattle.std.proofs.Common.{◌∙◌, ap, subst, arith}
use Rattle.class_radio.specs.Hearing.{IsNextOf, soonest}
use Rattle.class_radio.proofs.Telling.{take_whole}
use Rattle.class_radio.proofs.Moments.{next_turn}
use Rattle.class_radio.proofs.stepping.next_moment.Goals as goal

pub loop-player-preserved : goal.loop-player-preserved
loop-player-preserved c =
    next_turn c.args.end c.args.players.now c.loop-player.player-index c.loop-player.next c.sooner-next.result c.player-item.result c.loop-player-test.true c.player-item.is
    (c.sooner-next.ensures.soonest ∙ ap (soonest c.args.end c.loop-player.next) c.due.ensures) c.loop-player.invariant

pub returns : goal.returns
returns c = record { next = subst (λ ps. IsNextOf c.args.end ps c.loop-player.next) (take_whole c.args.players.now c.loop-player.player-index (omega arith)) c.loop-player.invariant }
