use Rattle.world_rows.proofs.Computed.{row_two_handlers, row_shortest_pause, row_sleepers, row_waiter, row_pause_of_one, row_pause_of_less, row_no_event, row_any_event, row_too_late}
use Rattle.world_rows.proofs.rows.rows_of_activities.Goals as goal

pub returns-clause-two_handlers : goal.returns-clause-two_handlers
returns-clause-two_handlers c = row_two_handlers

pub returns-clause-shortest_pause : goal.returns-clause-shortest_pause
returns-clause-shortest_pause c = row_shortest_pause

pub returns-clause-sleepers : goal.returns-clause-sleepers
returns-clause-sleepers c = row_sleepers

pub returns-clause-waiter : goal.returns-clause-waiter
returns-clause-waiter c = row_waiter

pub returns-clause-pause_of_one : goal.returns-clause-pause_of_one
returns-clause-pause_of_one c = row_pause_of_one

pub returns-clause-pause_of_less : goal.returns-clause-pause_of_less
returns-clause-pause_of_less c = row_pause_of_less

pub returns-clause-no_event : goal.returns-clause-no_event
returns-clause-no_event c = row_no_event

pub returns-clause-any_event : goal.returns-clause-any_event
returns-clause-any_event c = row_any_event

pub returns-clause-too_late : goal.returns-clause-too_late
returns-clause-too_late c = row_too_late
