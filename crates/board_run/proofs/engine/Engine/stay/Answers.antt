use Rattle.board_run.proofs.Waiting.{staying_start, staying_dispatched, staying_begun}
use Rattle.board_run.proofs.engine.Engine.stay.Goals as goal

pub loop-self-init : goal.loop-self-init
loop-self-init c = staying_start c.args.self.now c.requires.shown

pub loop-self-preserved : goal.loop-self-preserved
loop-self-preserved c =
    let begun = staying_begun c.args.self.now c.loop-self.self c.begin.new.self c.loop-self.invariant c.begin.ensures.comes c.begin.ensures.stays in
    staying_dispatched c.args.self.now c.begin.new.self c.dispatch.new.self begun c.if-not-dispatch.ensures.comes c.if-not-dispatch.ensures.stays

pub returns-then-begin-clause-comes : goal.returns-then-begin-clause-comes
returns-then-begin-clause-comes c = (staying_begun c.args.self.now c.loop-self.self c.begin.new.self c.loop-self.invariant c.begin.ensures.comes c.begin.ensures.stays).comes
