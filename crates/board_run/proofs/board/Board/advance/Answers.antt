use Rattle.std.proofs.Common.{sym, subst, ◌<◌, ◌≤◌, All, length}
use Rattle.thumb_code.specs.Map.{flash_end}
use Rattle.board_run.specs.Outside.{over_sink}
use Rattle.board_run.proofs.Executing.{same_flash, step_goes, step_fails, step_whole, step_shown}
use Rattle.board_run.proofs.board.Board.advance.Goals as goal

pub tell-requires-clause-size : goal.tell-requires-clause-size
tell-requires-clause-size g c =
    let flash = same_flash g.D.Device.account c.args.self.now.engine c.instruct-output.new.self c.instruct-output.result c.requires.whole.shown c.instruct-output.ensures.comes in
    subst (λ l. length l ≤ flash_end) (sym flash) c.requires.whole.size

pub tell-requires-clause-bytes : goal.tell-requires-clause-bytes
tell-requires-clause-bytes g c =
    let flash = same_flash g.D.Device.account c.args.self.now.engine c.instruct-output.new.self c.instruct-output.result c.requires.whole.shown c.instruct-output.ensures.comes in
    subst (λ l. All (λ b. b < 256) l) (sym flash) c.requires.whole.bytes

pub settle-requires-clause-shown : goal.settle-requires-clause-shown
settle-requires-clause-shown g c =
    step_shown g.D.Device.account c.args.self.now.engine c.instruct-output.new.self c.instruct-output.result c.requires.whole.shown c.instruct-output.ensures.comes c.tell.new.engine c.tell.ensures.same

pub returns-in-Ok-clause-goes : goal.returns-in-Ok-clause-goes
returns-in-Ok-clause-goes g c =
    step_goes g.D.Device.account (over_sink g.K.Sink.taken g.K.Sink.faults c.args.self.now c.args.out.now) c.instruct-output.new.self c.instruct-output.result c.requires.whole.shown c.instruct-output.ensures.comes
    c.tell.new.engine c.tell.new.plugs _ c.requires.going (c.requires.settled c.requires.going) c.tell.ensures.same c.in-Ok.ensures.sends c.in-Ok.ensures.puts.took c.settle.ensures.idles

pub returns-in-Ok-clause-whole : goal.returns-in-Ok-clause-whole
returns-in-Ok-clause-whole g c =
    step_whole g.D.Device.account c.args.self.now.engine c.instruct-output.new.self c.instruct-output.result c.requires.whole.shown c.instruct-output.ensures.comes
    c.args.self.now.instructions c.tell.new.engine c.settle.new.self c.tell.new.plugs c.settle.new.plugs c.requires.whole c.instruct-output.ensures.steps c.tell.ensures.same
    c.settle.ensures.idles c.settle.ensures.script c.settle.ensures.within c.settle.ensures.counts c.settle.ensures.early

pub returns-in-Err-clause-cut : goal.returns-in-Err-clause-cut
returns-in-Err-clause-cut g c =
    step_fails g.D.Device.account (over_sink g.K.Sink.taken g.K.Sink.faults c.args.self.now c.args.out.now) c.instruct-output.new.self c.instruct-output.result c.requires.whole.shown c.instruct-output.ensures.comes
    _ c.requires.going (c.requires.settled c.requires.going)
    c.in-Err.ensures.seen c.in-Err.ensures.stays c.in-Err.ensures.puts.part
