use Rattle.std.proofs.Common.{subst, refl, [], rules, All, ◌<◌, ◌≤◌, length}
use Rattle.hex_image.specs.Spells.{flash_size}
use Rattle.run_tool.specs.Answers.{Concludes, of_devices, of_sink}
use Rattle.run_tool.specs.Big.{big_line}
use Rattle.run_tool.specs.Run.{RunsProgram}
use Rattle.run_tool.specs.Scripts.{default_script}
use Rattle.run_tool.proofs.Endings.{concludes-behind, lead-concludes}
use Rattle.run_tool.proofs.ProgramRuns.{some-run}
use Rattle.run_tool.proofs.big.run_big.Goals as goal

pub returns-in-Ok : goal.returns-in-Ok
returns-in-Ok g c = λ P texts implements.
    let m = c.args.options in
    concludes-behind g.K.Sink.taken g.K.Sink.faults c.args.out.now c.put_big_line.new.out c.run_program.new.out (big_line c.args.size) (RunsProgram P texts default_script m.budget m.behind.stats m.behind.image) c.run_program.result
    c.in-Ok.ensures.took c.in-Ok.ensures.later
    (subst (λ s. Concludes (of_sink g.K.Sink.taken g.K.Sink.faults c.put_big_line.new.out c.run_program.new.out) (of_devices g.D.Device.account c.args.places.now.items c.run_program.new.places.items) []
    (RunsProgram P texts s m.budget m.behind.stats m.behind.image) c.run_program.result) c.default_script.ensures.script (c.run_program.ensures P texts implements))

pub returns-in-Err : goal.returns-in-Err
returns-in-Err g c = λ P texts implements.
    let m = c.args.options in
    let fits : length c.args.image.items ≤ flash_size = search rules in
    let bytes : All (λ b. b < 256) c.args.image.items = search rules in
    let due = some-run P texts c.args.image.items (record { fits = fits; bytes = bytes }) implements default_script m.budget m.behind.stats m.behind.image in
    lead-concludes g.D.Device.account c.args.places.now.items c.args.places.now.items refl (of_sink g.K.Sink.taken g.K.Sink.faults c.args.out.now c.put_big_line.new.out) (big_line c.args.size) (RunsProgram P texts default_script m.budget m.behind.stats m.behind.image) due.0 due.1
    c.in-Err.ensures.part c.in-Err.ensures.later c.in-Err.ensures.failed
