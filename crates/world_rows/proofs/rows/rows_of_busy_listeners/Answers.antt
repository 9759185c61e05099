use Rattle.world_rows.proofs.Computed.{row_queues, row_queues_counted, row_drops, row_holds_ten, row_reentrant, row_drops_counted, row_holds_ten_counted, row_reentrant_counted}
use Rattle.world_rows.proofs.rows.rows_of_busy_listeners.Goals as goal

pub returns-clause-queues : goal.returns-clause-queues
returns-clause-queues c = row_queues

pub returns-clause-queues_counted : goal.returns-clause-queues_counted
returns-clause-queues_counted c = row_queues_counted

pub returns-clause-drops : goal.returns-clause-drops
returns-clause-drops c = row_drops

pub returns-clause-holds_ten : goal.returns-clause-holds_ten
returns-clause-holds_ten c = row_holds_ten

pub returns-clause-reentrant : goal.returns-clause-reentrant
returns-clause-reentrant c = row_reentrant

pub returns-clause-drops_counted : goal.returns-clause-drops_counted
returns-clause-drops_counted c = row_drops_counted

pub returns-clause-holds_ten_counted : goal.returns-clause-holds_ten_counted
returns-clause-holds_ten_counted c = row_holds_ten_counted

pub returns-clause-reentrant_counted : goal.returns-clause-reentrant_counted
returns-clause-reentrant_counted c = row_reentrant_counted
