use Rattle.std.proofs.Common.{subst, sym, inl, [], rules, ◌≤◌, length}
use Rattle.hex_image.specs.Spells.{flash_size}
use Rattle.run_tool.specs.Answers.{Concludes, of_devices, of_sink}
use Rattle.run_tool.specs.RunAt.{RunsProgramAt}
use Rattle.run_tool.proofs.RunsAt.{at-ends}
use Rattle.run_tool.proofs.run_at.run_board_at.Goals as goal

pub returns-in-Ok : goal.returns-in-Ok
returns-in-Ok g c = λ P texts implements.
    let size = c.requires.size in
    let fits : length c.args.setup.image.items ≤ flash_size = search rules in
    subst (λ e. Concludes (of_sink g.K.Sink.taken g.K.Sink.faults c.args.out.now c.run_image_at.new.out) (of_devices g.D.Device.account c.args.places.now.items c.run_image_at.new.places.items) []
    (RunsProgramAt P texts c.args.setup.script c.args.arrivals.now c.args.budget) e) (sym c.ending_of.ensures)
    (at-ends g.K.Sink.taken g.K.Sink.faults c.args.out.now c.run_image_at.new.out g.D.Device.account c.args.places.now.items c.run_image_at.new.places.items P texts c.args.setup.image.items (record { fits = fits; bytes = c.requires.bytes }) implements
    c.args.setup.script c.args.arrivals.now c.args.budget c.in-Ok.ensures.later c.in-Ok.end (c.in-Ok.ensures.source P texts implements.implements))

pub returns-in-Err : goal.returns-in-Err
returns-in-Err g c = λ P texts implements. record { ends = (inl c.in-Err.ensures.nothing, c.in-Err.ensures.unchanged); later = c.in-Err.ensures.later; cut = λ e. absurd (cc) }
