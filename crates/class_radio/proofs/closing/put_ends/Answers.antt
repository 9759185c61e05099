use Rattle.class_radio.proofs.Lining.{goes_at, fails_at, ends_at}
use Rattle.class_radio.proofs.closing.put_ends.Goals as goal

pub returns-in-Err : goal.returns-in-Err
returns-in-Err g c seen led =
    fails_at c.args.end c.args.players.now c.some_waits-by_script.result c.latest-latest.result c.loop-player.player-index c.player-item.result c.loop-player-test.true c.player-item.is c.put_end.result (c.loop-player.invariant led)
    c.put_end.ensures led seen c.some_waits-by_script.ensures c.latest-latest.ensures c.in-Err.failed c.in-Err.is

pub loop-player-preserved : goal.loop-player-preserved
loop-player-preserved g c led =
    goes_at c.args.end c.args.players.now c.some_waits-by_script.result c.latest-latest.result c.loop-player.player-index c.player-item.result c.loop-player-test.true c.player-item.is c.put_end.result (c.loop-player.invariant led)
    c.put_end.ensures led c.in-Ok.field-0 c.in-Ok.is

pub returns : goal.returns
returns g c seen led =
    ends_at c.args.end c.args.players.now c.some_waits-by_script.result c.latest-latest.result c.loop-player.player-index c.loop-player-test.false (c.loop-player.invariant led) seen c.some_waits-by_script.ensures c.latest-latest.ensures led
