use Rattle.std.proofs.Common.{◌<◌, All, sym, ap, subst}
use Rattle.thumb_code.specs.declared.register_file.Registers.{Registers}
use Rattle.board_run.proofs.Stepping.{some_turning, step_went, asked_shown, asked_inside, flash_stays, step_goes, step_stops, step_faults}
use Rattle.board_run.proofs.engine.Engine.instruct.Goals as goal

pub returns-in-Went-clause-comes : goal.returns-in-Went-clause-comes
returns-in-Went-clause-comes c =
    let r = some_turning c.args.self.now.runtime.running c.requires.runs in
    step_went c.args.self.now c.step.new.self c.step.result c.step.ensures.rest c.step.ensures.step r.0 r.1 c.requires.going c.in-Went.is

pub serve-requires-clause-shown : goal.serve-requires-clause-shown
serve-requires-clause-shown c =
    let r = some_turning c.args.self.now.runtime.running c.requires.runs in
    asked_shown c.args.self.now c.step.new.self c.step.result c.step.ensures.rest c.step.ensures.step c.in-Service.number c.in-Service.is r.0 r.1 c.requires.going c.requires.shown

pub serve-requires-clause-inside : goal.serve-requires-clause-inside
serve-requires-clause-inside c =
    let r = some_turning c.args.self.now.runtime.running c.requires.runs in
    asked_inside c.args.self.now c.step.new.self c.step.result c.step.ensures.rest c.step.ensures.step c.in-Service.number c.in-Service.is r.0 r.1 c.requires.going c.requires.shown

pub serve-requires-clause-bytes : goal.serve-requires-clause-bytes
serve-requires-clause-bytes c = subst (λ l. All (λ b. b < 256) l) (sym (flash_stays c.args.self.now c.step.new.self c.step.result c.step.ensures.rest c.step.ensures.step c.in-Service.number c.in-Service.is)) c.requires.bytes

pub returns-in-Goes-clause-comes : goal.returns-in-Goes-clause-comes
returns-in-Goes-clause-comes c =
    let r = some_turning c.args.self.now.runtime.running c.requires.runs in
    step_goes c.args.self.now c.step.new.self c.step.result c.step.ensures.rest c.step.ensures.step c.in-Service.number c.in-Service.is r.0 r.1 c.requires.going c.registers-at.result.pc
    (ap (λ (x : Registers). x.pc) c.registers-at.ensures) c.in-Goes.output c.serve.new.self c.in-Goes.ensures.served

pub returns-in-Stops-clause-comes : goal.returns-in-Stops-clause-comes
returns-in-Stops-clause-comes c =
    let r = some_turning c.args.self.now.runtime.running c.requires.runs in
    step_stops c.args.self.now c.step.new.self c.step.result c.step.ensures.rest c.step.ensures.step c.in-Service.number c.in-Service.is r.0 r.1 c.requires.going c.registers-at.result.pc
    (ap (λ (x : Registers). x.pc) c.registers-at.ensures) c.in-Stops.stop c.serve.new.self c.put_back.new.runtime c.in-Stops.ensures.served c.put_back.ensures

pub returns-in-Fault-clause-comes : goal.returns-in-Fault-clause-comes
returns-in-Fault-clause-comes c =
    let r = some_turning c.args.self.now.runtime.running c.requires.runs in
    step_faults c.args.self.now c.step.new.self c.step.result c.step.ensures.rest c.step.ensures.step c.in-Fault.fault c.in-Fault.address c.in-Fault.is r.0 r.1 c.requires.going
