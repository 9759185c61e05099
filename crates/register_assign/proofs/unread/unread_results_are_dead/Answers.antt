use Rattle.register_assign.proofs.Unreading.{unread_dead}
use Rattle.register_assign.proofs.unread.unread_results_are_dead.Goals as goal

pub returns : goal.returns
returns c f at = unread_dead f at
