use Rattle.std.proofs.Common.{◌≡◌, ◌∙◌, sym, ap}
use Rattle.board_world.specs.Waiting.{least}
use Rattle.fiber_queues.proofs.Calls.{least-iff}
use Rattle.fiber_queues.proofs.queues.Queues.next_wake.Goals as goal

pub returns-clause-none : goal.returns-clause-none
returns-clause-none c =
    let now : c.as_slice.result.now ≡ c.args.self.now.sleepers = c.as_slice.ensures.value ∙ ap (λ q. q.sleepers) c.self.view_is in
    let found : least c.args.self.now.sleepers ≡ c.least_of.result = sym (c.least_of.ensures ∙ ap least now) in
    rw (← found) (least-iff c.args.self.now.sleepers)
