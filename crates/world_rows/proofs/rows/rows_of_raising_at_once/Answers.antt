use Rattle.world_rows.proofs.Computed.{row_raises_now, row_raises_now_counted, row_raises_twice, row_raises_twice_counted, row_too_many_raisers, row_waiter_at_once}
use Rattle.world_rows.proofs.rows.rows_of_raising_at_once.Goals as goal

pub returns-clause-raises_now : goal.returns-clause-raises_now
returns-clause-raises_now c = row_raises_now

pub returns-clause-raises_now_counted : goal.returns-clause-raises_now_counted
returns-clause-raises_now_counted c = row_raises_now_counted

pub returns-clause-raises_twice : goal.returns-clause-raises_twice
returns-clause-raises_twice c = row_raises_twice

pub returns-clause-raises_twice_counted : goal.returns-clause-raises_twice_counted
returns-clause-raises_twice_counted c = row_raises_twice_counted

pub returns-clause-too_many_raisers : goal.returns-clause-too_many_raisers
returns-clause-too_many_raisers c = row_too_many_raisers

pub returns-clause-waiter_at_once : goal.returns-clause-waiter_at_once
returns-clause-waiter_at_once c = row_waiter_at_once
