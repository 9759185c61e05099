use Rattle.std.proofs.Common.{subst, sym, inl, []}
use Rattle.run_tool.specs.Answers.{Concludes, of_devices, of_sink}
use Rattle.run_tool.specs.Runs.{RunsBoard}
use Rattle.run_tool.proofs.ImageRuns.{run-ends}
use Rattle.run_tool.proofs.run_hex.run_board.Goals as goal

pub returns-in-Ok : goal.returns-in-Ok
returns-in-Ok g c =
    subst (λ e. Concludes (of_sink g.K.Sink.taken g.K.Sink.faults c.args.out.now c.run_image.new.out) (of_devices g.D.Device.account c.args.places.now.items c.run_image.new.places.items) [] (RunsBoard c.args.image.items c.args.script c.args.budget) e)
    (sym c.ending_of.ensures)
    (run-ends g.K.Sink.taken g.K.Sink.faults c.args.out.now c.run_image.new.out g.D.Device.account c.args.places.now.items c.run_image.new.places.items c.args.image.items c.args.script c.args.budget
    c.in-Ok.ensures.later c.in-Ok.end c.in-Ok.field-0-1 c.in-Ok.ensures.ran)

pub returns-in-Err : goal.returns-in-Err
returns-in-Err g c = record { ends = (inl c.in-Err.ensures.nothing, c.in-Err.ensures.unchanged); later = c.in-Err.ensures.later; cut = λ e. absurd (cc) }
