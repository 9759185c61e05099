use Rattle.std.proofs.Common.{◌≡◌, List, Option, ap, subst}
use Rattle.std.specs.declared.vec.Vec.{Vec}
use Rattle.std.specs.declared.alloc.Global.{Global}
use Rattle.board_run.specs.Outside.{outside_of, over_sink}
use Rattle.board_run.specs.Ran.{world_after, Ran}
use Rattle.sts_whole.proofs.Boards.{runs_image}
use Rattle.sts_whole.proofs.board.run_image.Goals as goal

pub returns-in-Ok-clause-ran : goal.returns-in-Ok-clause-ran
returns-in-Ok-clause-ran g c =
    let given = c.replace-given.result.items in
    let had : given ≡ c.args.places.now.items = ap (λ (v : Vec (Option g.row.D.Denot) Global). v.items) c.replace-given.ensures.value in
    let last = over_sink g.K.Sink.taken g.K.Sink.faults c.run-end.new.self c.run-end.new.out in
    let ran : Ran g.D.Device.account c.args.image.items (world_after c.args.image.items c.args.script) c.args.budget (outside_of g.K.Sink.taken g.K.Sink.faults c.args.out.now given) last c.run-end.result =
    c.run-end.ensures.ran c.args.image.items c.args.script given c.in-Ok.ensures.mounted c.in-Ok.ensures.plugged.1 in
    let before = outside_of g.K.Sink.taken g.K.Sink.faults c.args.out.now c.args.places.now.items in
    runs_image g.D.Device.account c.args.image.items c.args.script c.args.budget before last c.stats-stats.result c.stats-stats.ensures g.D.Device.settled c.close.result.items c.close.ensures c.run-end.result
    (subst (λ (l : List (Option g.row.D.Denot)). Ran g.D.Device.account c.args.image.items (world_after c.args.image.items c.args.script) c.args.budget (outside_of g.K.Sink.taken g.K.Sink.faults c.args.out.now l) last c.run-end.result) had ran)
