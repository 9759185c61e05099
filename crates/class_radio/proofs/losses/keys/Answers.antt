use Rattle.class_radio.proofs.Indexing.{one_step}
use Rattle.class_radio.proofs.losses.keys.Goals as goal

pub loop-loss-preserved : goal.loop-loss-preserved
loop-loss-preserved c =
    (let e = c.key_of_loss.ensures in
    one_step c.args.list.now c.loop-loss.loss-index (record { at = 0; from = 0; to = 0 }) c.loop-loss.keys.items c.push.new.self.items c.key_of_loss.result c.loop-loss-test.true e.from e.to e.key c.in-Ok.ensures.items
    c.loop-loss.invariant)
