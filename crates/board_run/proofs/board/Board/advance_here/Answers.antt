use Rattle.std.proofs.Common.{sym, subst, refl, ◌<◌, ◌≤◌, All, length}
use Rattle.thumb_code.specs.Map.{flash_end}
use Rattle.board_run.specs.Outside.{over_sink}
use Rattle.board_run.proofs.Executing.{same_flash, step_shown}
use Rattle.board_run.proofs.Proceeding.{step_proceeds, step_stops, step_stays_whole, step_stands}
use Rattle.board_run.proofs.board.Board.advance_here.Goals as goal

pub tell_led-requires-clause-size : goal.tell_led-requires-clause-size
tell_led-requires-clause-size g c =
    let flash = same_flash g.D.Device.account c.args.self.now.engine c.instruct-output.new.self c.instruct-output.result c.requires.whole.shown c.instruct-output.ensures.comes in
    subst (λ l. length l ≤ flash_end) (sym flash) c.requires.whole.size

pub tell_led-requires-clause-bytes : goal.tell_led-requires-clause-bytes
tell_led-requires-clause-bytes g c =
    let flash = same_flash g.D.Device.account c.args.self.now.engine c.instruct-output.new.self c.instruct-output.result c.requires.whole.shown c.instruct-output.ensures.comes in
    subst (λ l. All (λ b. b < 256) l) (sym flash) c.requires.whole.bytes

pub stay-requires : goal.stay-requires
stay-requires g c = record {
  shown = step_shown g.D.Device.account c.args.self.now.engine c.instruct-output.new.self c.instruct-output.result c.requires.whole.shown c.instruct-output.ensures.comes c.tell_led.new.engine c.tell_led.ensures.same;
}

pub returns-in-Ok-clause-goes : goal.returns-in-Ok-clause-goes
returns-in-Ok-clause-goes g c =
    step_proceeds g.D.Device.account c.args.lead.now (over_sink g.K.Sink.taken g.K.Sink.faults c.args.self.now c.args.out.now) c.instruct-output.new.self c.instruct-output.result c.requires.whole.shown c.instruct-output.ensures.comes
    c.tell_led.new.engine _ c.requires.going c.requires.runs c.tell_led.ensures.same c.in-Ok.ensures.sends c.in-Ok.ensures.puts.took c.note.ensures c.stay.ensures.comes

pub returns-in-Ok-clause-whole : goal.returns-in-Ok-clause-whole
returns-in-Ok-clause-whole g c =
    step_stays_whole g.D.Device.account c.args.lead.now (over_sink g.K.Sink.taken g.K.Sink.faults c.args.self.now c.args.out.now) c.instruct-output.new.self c.instruct-output.result c.requires.whole.shown c.instruct-output.ensures.comes
    c.args.self.now.instructions c.tell_led.new.engine c.stay.new.self c.requires.whole c.instruct-output.ensures.steps c.tell_led.ensures.same c.stay.ensures.comes c.stay.ensures.stays

pub returns-in-Ok-clause-stands : goal.returns-in-Ok-clause-stands
returns-in-Ok-clause-stands g c =
    step_stands c.args.self.now _ c.instruct-output.new.self c.tell_led.new.engine c.instruct-output.ensures.steps c.tell_led.ensures.same c.stay.ensures.stays refl

pub returns-in-Err-clause-cut : goal.returns-in-Err-clause-cut
returns-in-Err-clause-cut g c =
    step_stops g.D.Device.account c.args.lead.now (over_sink g.K.Sink.taken g.K.Sink.faults c.args.self.now c.args.out.now) c.instruct-output.new.self c.instruct-output.result c.requires.whole.shown c.instruct-output.ensures.comes
    _ c.requires.going c.requires.runs c.in-Err.ensures.seen c.in-Err.ensures.stays c.in-Err.ensures.puts.part
