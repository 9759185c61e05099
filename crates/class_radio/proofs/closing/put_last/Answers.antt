use Rattle.std.proofs.Common.{ap, sym, ◌∙◌}
use Rattle.tool_io.proofs.Laws.{puts-as}
use Rattle.class_world.specs.Lines.{numbered}
use Rattle.class_radio.specs.Closing.{last_line_of}
use Rattle.class_radio.proofs.Lining.{led_line}
use Rattle.class_radio.proofs.closing.put_last.Goals as goal

pub returns-then-by_script : goal.returns-then-by_script
returns-then-by_script g c number lead =
    puts-as c.then_put_script.result _ _ (led_line number c.args.player.now.lead c.lead.result.now _ c.lead.ensures lead ∙ ap (λ b. numbered number (last_line_of b c.args.end c.args.latest)) (sym c.if-by_script.true))
    (c.then_put_script.ensures (g.K.Sink.taken c.args.out.now) (g.K.Sink.faults c.args.out.now) c.lead.result.now c.put-put.ensures)

pub returns-else-by_script : goal.returns-else-by_script
returns-else-by_script g c number lead =
    puts-as c.then_put_quiet.result _ _ (led_line number c.args.player.now.lead c.lead.result.now _ c.lead.ensures lead ∙ ap (λ b. numbered number (last_line_of b c.args.end c.args.latest)) (sym c.if-by_script.false))
    (c.then_put_quiet.ensures (g.K.Sink.taken c.args.out.now) (g.K.Sink.faults c.args.out.now) c.lead.result.now c.put-put.ensures)
