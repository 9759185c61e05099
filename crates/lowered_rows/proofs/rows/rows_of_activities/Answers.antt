use Rattle.lowered_rows.proofs.Computed.{rows_of_activities-blinking, rows_of_activities-deep_handlers, rows_of_activities-two_handlers, rows_of_activities-click, rows_of_activities-long_press, rows_of_activities-seats, rows_of_activities-no_seat}
use Rattle.lowered_rows.proofs.rows.rows_of_activities.Goals as goal

pub returns-clause-blinking : goal.returns-clause-blinking
returns-clause-blinking c = rows_of_activities-blinking

pub returns-clause-deep_handlers : goal.returns-clause-deep_handlers
returns-clause-deep_handlers c = rows_of_activities-deep_handlers

pub returns-clause-two_handlers : goal.returns-clause-two_handlers
returns-clause-two_handlers c = rows_of_activities-two_handlers

pub returns-clause-click : goal.returns-clause-click
returns-clause-click c = rows_of_activities-click

pub returns-clause-long_press : goal.returns-clause-long_press
returns-clause-long_press c = rows_of_activities-long_press

pub returns-clause-seats : goal.returns-clause-seats
returns-clause-seats c = rows_of_activities-seats

pub returns-clause-no_seat : goal.returns-clause-no_seat
returns-clause-no_seat c = rows_of_activities-no_seat
