use Rattle.fiber_queues.proofs.Calls.{woken-all}
use Rattle.fiber_queues.proofs.meanings.wakings_add_up.Goals as goal

pub returns : goal.returns
returns g c e n q h = woken-all e n q h
