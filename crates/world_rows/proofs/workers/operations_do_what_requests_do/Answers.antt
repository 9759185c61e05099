use Rattle.world_rows.proofs.Linked.{target_does}
use Rattle.world_rows.proofs.workers.operations_do_what_requests_do.Goals as goal

pub returns : goal.returns
returns c = target_does
