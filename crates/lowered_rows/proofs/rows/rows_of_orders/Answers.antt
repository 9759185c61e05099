use Rattle.lowered_rows.proofs.Computed.{rows_of_orders-growing, rows_of_orders-once, rows_of_orders-methods, rows_of_orders-constructors, rows_of_orders-each_time, rows_of_orders-early}
use Rattle.lowered_rows.proofs.rows.rows_of_orders.Goals as goal

pub returns-clause-growing : goal.returns-clause-growing
returns-clause-growing c = rows_of_orders-growing

pub returns-clause-once : goal.returns-clause-once
returns-clause-once c = rows_of_orders-once

pub returns-clause-methods : goal.returns-clause-methods
returns-clause-methods c = rows_of_orders-methods

pub returns-clause-constructors : goal.returns-clause-constructors
returns-clause-constructors c = rows_of_orders-constructors

pub returns-clause-each_time : goal.returns-clause-each_time
returns-clause-each_time c = rows_of_orders-each_time

pub returns-clause-early : goal.returns-clause-early
returns-clause-early c = rows_of_orders-early
