use Rattle.run_tool.specs.Big.{call_line}
use Rattle.run_tool.proofs.BigTexts.{no-lines, next-line}
use Rattle.run_tool.proofs.big.put_calls.Goals as goal

pub loop-before-init : goal.loop-before-init
loop-before-init c = no-lines call_line c.args.out.now.items

pub loop-before-preserved : goal.loop-before-preserved
loop-before-preserved c =
    next-line call_line c.loop-before.before c.args.out.now.items c.loop-before.out.items c.put_call.new.out.items c.loop-before.invariant c.in_ok-put_call.ensures
