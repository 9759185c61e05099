use Rattle.sts_meaning.proofs.Computed.{rows_of_measures-deep, rows_of_measures-mid, rows_of_measures-handler, rows_of_measures-four_names, rows_of_measures-caller, rows_of_measures-called, rows_of_measures-waiter, rows_of_measures-raiser, rows_of_measures-raised, rows_of_measures-presses, rows_of_measures-items, rows_of_measures-worker, rows_of_measures-repeated, rows_of_measures-weight_deep, rows_of_measures-weight_seats, rows_of_measures-weight_methods, rows_of_measures-weight_text}
use Rattle.sts_meaning.proofs.rows.rows_of_measures.Goals as goal

pub returns-clause-deep : goal.returns-clause-deep
returns-clause-deep c = rows_of_measures-deep

pub returns-clause-mid : goal.returns-clause-mid
returns-clause-mid c = rows_of_measures-mid

pub returns-clause-handler : goal.returns-clause-handler
returns-clause-handler c = rows_of_measures-handler

pub returns-clause-four_names : goal.returns-clause-four_names
returns-clause-four_names c = rows_of_measures-four_names

pub returns-clause-caller : goal.returns-clause-caller
returns-clause-caller c = rows_of_measures-caller

pub returns-clause-called : goal.returns-clause-called
returns-clause-called c = rows_of_measures-called

pub returns-clause-waiter : goal.returns-clause-waiter
returns-clause-waiter c = rows_of_measures-waiter

pub returns-clause-raiser : goal.returns-clause-raiser
returns-clause-raiser c = rows_of_measures-raiser

pub returns-clause-raised : goal.returns-clause-raised
returns-clause-raised c = rows_of_measures-raised

pub returns-clause-presses : goal.returns-clause-presses
returns-clause-presses c = rows_of_measures-presses

pub returns-clause-items : goal.returns-clause-items
returns-clause-items c = rows_of_measures-items

pub returns-clause-worker : goal.returns-clause-worker
returns-clause-worker c = rows_of_measures-worker

pub returns-clause-repeated : goal.returns-clause-repeated
returns-clause-repeated c = rows_of_measures-repeated

pub returns-clause-weight_deep : goal.returns-clause-weight_deep
returns-clause-weight_deep c = rows_of_measures-weight_deep

pub returns-clause-weight_seats : goal.returns-clause-weight_seats
returns-clause-weight_seats c = rows_of_measures-weight_seats

pub returns-clause-weight_methods : goal.returns-clause-weight_methods
returns-clause-weight_methods c = rows_of_measures-weight_methods

pub returns-clause-weight_text : goal.returns-clause-weight_text
returns-clause-weight_text c = rows_of_measures-weight_text
