use Rattle.tool_io.proofs.Laws.{puts-as}
use Rattle.class_radio.proofs.Lining.{led_line}
use Rattle.class_radio.proofs.closing.put_budget.Goals as goal

pub returns : goal.returns
returns g c number lead =
    puts-as c.then_put_budget.result _ _ (led_line number c.args.player.now.lead c.lead.result.now _ c.lead.ensures lead)
    (c.then_put_budget.ensures (g.K.Sink.taken c.args.out.now) (g.K.Sink.faults c.args.out.now) c.lead.result.now c.put-put.ensures)
