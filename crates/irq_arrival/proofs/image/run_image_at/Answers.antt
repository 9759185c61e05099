use Rattle.std.proofs.Common.{◌≡◌, List, Option, ap, subst, arith}
use Rattle.std.specs.declared.vec.Vec.{Vec}
use Rattle.std.specs.declared.alloc.Global.{Global}
use Rattle.arrival_file.specs.World.{world_arrivals}
use Rattle.board_run.specs.Outside.{outside_of, over_sink}
use Rattle.board_run.specs.Ran.{Ran}
use Rattle.irq_arrival.specs.ImageRuns.{world_at}
use Rattle.irq_arrival.proofs.Images.{runs_image, runs_source}
use Rattle.irq_arrival.proofs.Listed.{rises_below}
use Rattle.irq_arrival.proofs.image.run_image_at.Goals as goal

pub returns-in-Ok-clause-ran : goal.returns-in-Ok-clause-ran
returns-in-Ok-clause-ran g c =
    let given = c.replace-given.result.items in
    let had : given ≡ c.args.places.now.items = ap (λ (v : Vec (Option g.row.D.Denot) Global). v.items) c.replace-given.ensures.value in
    let last = over_sink g.K.Sink.taken g.K.Sink.faults c.run_arrivals-end.new.board c.run_arrivals-end.new.out in
    let come = world_arrivals c.args.arrivals.now in
    let course = world_at c.args.image.items c.args.script come in
    let ran : Ran g.D.Device.account c.args.image.items course c.args.budget (outside_of g.K.Sink.taken g.K.Sink.faults c.args.out.now given) last c.run_arrivals-end.result =
    c.run_arrivals-end.ensures.ran c.args.image.items c.args.script given c.in-Ok.ensures.mounted c.in-Ok.ensures.plugged.1 in
    let before = outside_of g.K.Sink.taken g.K.Sink.faults c.args.out.now c.args.places.now.items in
    runs_image g.D.Device.account c.args.image.items c.args.script come c.args.budget before last g.D.Device.settled c.close.result.items c.close.ensures c.run_arrivals-end.result
    (subst (λ (l : List (Option g.row.D.Denot)). Ran g.D.Device.account c.args.image.items course c.args.budget (outside_of g.K.Sink.taken g.K.Sink.faults c.args.out.now l) last c.run_arrivals-end.result) had ran)

pub returns-in-Ok-clause-source : goal.returns-in-Ok-clause-source
returns-in-Ok-clause-source g c = λ P texts implements.
    runs_source g.D.Device.account c.args.image.items c.args.script (world_arrivals c.args.arrivals.now) c.args.budget (outside_of g.K.Sink.taken g.K.Sink.faults c.args.out.now c.args.places.now.items)
    (outside_of g.K.Sink.taken g.K.Sink.faults c.run_arrivals-end.new.out c.close.result.items) P texts implements
    (rises_below 0 1 (world_arrivals c.args.arrivals.now) (omega arith) c.requires.arrivals.order) c.run_arrivals-end.result (returns-in-Ok-clause-ran g c)
