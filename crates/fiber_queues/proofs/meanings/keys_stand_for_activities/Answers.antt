use Rattle.fiber_queues.proofs.Calls.{meant-after, least-keyed}
use Rattle.fiber_queues.proofs.meanings.keys_stand_for_activities.Goals as goal

pub returns-clause-calls : goal.returns-clause-calls
returns-clause-calls g c f cs q = meant-after f cs q

pub returns-clause-next_wake : goal.returns-clause-next_wake
returns-clause-next_wake g c f q = least-keyed f q.sleepers
