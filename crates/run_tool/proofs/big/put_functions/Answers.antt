use Rattle.run_tool.specs.Big.{function_line}
use Rattle.run_tool.proofs.BigTexts.{no-lines, next-line}
use Rattle.run_tool.proofs.big.put_functions.Goals as goal

pub loop-before-init : goal.loop-before-init
loop-before-init c = no-lines function_line c.args.out.now.items

pub loop-before-preserved : goal.loop-before-preserved
loop-before-preserved c =
    next-line function_line c.loop-before.before c.args.out.now.items c.loop-before.out.items c.put_function.new.out.items c.loop-before.invariant c.in_ok-put_function.ensures
