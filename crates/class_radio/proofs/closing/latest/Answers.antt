use Rattle.std.proofs.Common.{ap, sym, ◌∙◌, max, take}
use Rattle.class_radio.specs.Closing.{latest_clock}
use Rattle.class_radio.proofs.Lining.{latest_more}
use Rattle.class_radio.proofs.closing.latest.Goals as goal

pub loop-player-preserved : goal.loop-player-preserved
loop-player-preserved c =
    (let all = c.args.players.now in
    let i = c.loop-player.player-index in
    c.later-latest.ensures ∙ ap (λ n. max n c.clock.result) c.loop-player.invariant ∙ ap (max (latest_clock (take i all))) c.clock.ensures ∙ sym (latest_more all i c.player-item.result c.loop-player-test.true c.player-item.is))
