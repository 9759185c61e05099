use Rattle.std.proofs.Common.{◌∙◌, ap, inl, rules, All, ◌<◌, ◌≤◌, length}
use Rattle.hex_image.specs.Spells.{flash_size}
use Rattle.hex_image.specs.Writing.{hextext}
use Rattle.run_tool.proofs.ProgramRuns.{finished}
use Rattle.run_tool.proofs.run.run_program.Goals as goal

pub returns-in-Ok-run_image : goal.returns-in-Ok-run_image
returns-in-Ok-run_image g c = λ P texts implements.
    let m = c.args.options in
    let fits : length c.args.image.items ≤ flash_size = search rules in
    let bytes : All (λ b. b < 256) c.args.image.items = search rules in
    finished P texts c.args.image.items (record { fits = fits; bytes = bytes }) implements c.args.script m.budget m.behind.stats m.behind.image g.K.Sink.taken g.K.Sink.faults c.args.out.now c.run_image.new.out c.finish.new.out g.D.Device.account
    c.args.places.now.items c.run_image.new.places.items c.in-Ok-run_image.end c.in-Ok-run_image.stats c.deref-in-Ok-run_image.result.now c.finish.result
    (λ e. c.deref-in-Ok-run_image.ensures.value ∙ c.in-Ok.ensures e ∙ ap hextext c.deref.ensures.value) c.in-Ok-run_image.ensures.ran c.in-Ok-run_image.ensures.later c.finish.ensures

pub returns-in-Ok : goal.returns-in-Ok
returns-in-Ok g c = λ P texts implements.
    record { ends = (inl c.in-Err-run_image.ensures.nothing, c.in-Err-run_image.ensures.unchanged); later = c.in-Err-run_image.ensures.later; cut = λ e. absurd (cc) }
