use Rattle.std.proofs.Common.{arith}
use Rattle.class_radio.proofs.Lining.{count_step}
use Rattle.class_radio.proofs.closing.how_many.Goals as goal

pub loop-player-preserved : goal.loop-player-preserved
loop-player-preserved c =
    (let v = c.loop-player.invariant in
    let s = count_step c.args.standing c.args.players.now c.loop-player.player-index c.player-item.result c.loop-player.count c.one_of-count.result c.loop-player-test.true c.player-item.is v.counted v.few c.one_of-count.ensures in
    record { counted = s.0; few = s.1 })

pub overflow_add-count : goal.overflow_add-count
overflow_add-count c =
    (let v = c.loop-player.invariant in
    let s = count_step c.args.standing c.args.players.now c.loop-player.player-index c.player-item.result c.loop-player.count c.one_of-count.result c.loop-player-test.true c.player-item.is v.counted v.few c.one_of-count.ensures in
    let low = s.1 in
    let more = c.loop-player-test.true in
    let few = c.requires in
    omega (arith, low, more, few))
