use Rattle.lowered_rows.proofs.Computed.{rows_of_raising_at_once-once, rows_of_raising_at_once-twice, rows_of_raising_at_once-raisers, rows_of_raising_at_once-depth}
use Rattle.lowered_rows.proofs.rows.rows_of_raising_at_once.Goals as goal

pub returns-clause-once : goal.returns-clause-once
returns-clause-once c = rows_of_raising_at_once-once

pub returns-clause-twice : goal.returns-clause-twice
returns-clause-twice c = rows_of_raising_at_once-twice

pub returns-clause-raisers : goal.returns-clause-raisers
returns-clause-raisers c = rows_of_raising_at_once-raisers

pub returns-clause-depth : goal.returns-clause-depth
returns-clause-depth c = rows_of_raising_at_once-depth
