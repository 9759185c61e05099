use Rattle.std.proofs.Common.{◌∙◌}
use Rattle.register_assign.proofs.Choosing.{served_next}
use Rattle.register_assign.proofs.assignment.give_registers.Goals as goal

pub loop-preserved : goal.loop-preserved
loop-preserved c =
    let i = c.loop.invariant in
    let e = c.give_next.ensures in
    (e.long ∙ i.0, e.left ∙ i.1, λ f a. e.assigned f (i.2 f a), served_next c.args.intervals.now c.args.places.now c.args.left.now c.loop.places c.loop.left c.give_next.new.places c.give_next.new.left c.loop.counter i.3 e.chosen)
