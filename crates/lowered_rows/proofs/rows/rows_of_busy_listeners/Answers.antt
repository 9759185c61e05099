use Rattle.lowered_rows.proofs.Computed.{rows_of_busy_listeners-queues, rows_of_busy_listeners-drops, rows_of_busy_listeners-begins_each}
use Rattle.lowered_rows.proofs.rows.rows_of_busy_listeners.Goals as goal

pub returns-clause-queues : goal.returns-clause-queues
returns-clause-queues c = rows_of_busy_listeners-queues

pub returns-clause-drops : goal.returns-clause-drops
returns-clause-drops c = rows_of_busy_listeners-drops

pub returns-clause-begins_each : goal.returns-clause-begins_each
returns-clause-begins_each c = rows_of_busy_listeners-begins_each
