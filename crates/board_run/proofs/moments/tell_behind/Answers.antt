use Rattle.tool_io.proofs.Laws.{puts-as, puts-then, puts-more}
use Rattle.board_run.proofs.LedLines.{led_told}
use Rattle.board_run.proofs.moments.tell_behind.Goals as goal

pub returns-in-Ok-clause-puts : goal.returns-in-Ok-clause-puts
returns-in-Ok-clause-puts g c =
    puts-as c.tell.result _ _ (led_told c.args.lead.now c.args.engine.now.runtime.machine.memory.flash c.args.now c.args.output)
    (puts-then _ c.tell.result _ _ (puts-as _ _ _ c.lead_of.ensures c.in-Ok.ensures) c.tell.ensures.puts)

pub returns-in-Err-clause-puts : goal.returns-in-Err-clause-puts
returns-in-Err-clause-puts g c =
    puts-as _ _ _ (led_told c.args.lead.now c.args.engine.now.runtime.machine.memory.flash c.args.now c.args.output)
    (puts-more _ _ _ (puts-as _ _ _ c.lead_of.ensures c.in-Err.ensures))
