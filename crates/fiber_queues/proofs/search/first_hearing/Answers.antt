use Rattle.std.proofs.Common.{arith, ◌∙◌, sym, pos}
use Rattle.board_world.specs.Waiting.{hears}
use Rattle.fiber_queues.proofs.Chosen.{chosen-none_more}
use Rattle.fiber_queues.proofs.search.first_hearing.Goals as goal

pub loop-at-preserved : goal.loop-at-preserved
loop-at-preserved c = chosen-none_more (hears c.args.event) c.args.waiters.now c.loop-at.at (record { source = pos 0; value = pos 0 }, 0) (omega arith) c.loop-at.invariant (sym c.is_heard.ensures ∙ c.if-is_heard.false)
