use Rattle.fiber_queues.proofs.ChosenKeys.{chosen-keyed, left-keyed}
use Rattle.fiber_queues.proofs.meanings.keys_are_chosen_alike.Goals as goal

pub returns-clause-chosen : goal.returns-clause-chosen
returns-clause-chosen g c test f ps = chosen-keyed test f ps

pub returns-clause-left : goal.returns-clause-left
returns-clause-left g c test f ps = left-keyed test f ps
