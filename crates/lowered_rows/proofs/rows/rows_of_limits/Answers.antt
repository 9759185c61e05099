use Rattle.lowered_rows.proofs.Computed.{rows_of_limits-deepest, rows_of_limits-objects, rows_of_limits-arrays, rows_of_limits-growths, rows_of_limits-frames, rows_of_limits-past_the_end, rows_of_limits-through_null}
use Rattle.lowered_rows.proofs.rows.rows_of_limits.Goals as goal

pub returns-clause-deepest : goal.returns-clause-deepest
returns-clause-deepest c = rows_of_limits-deepest

pub returns-clause-objects : goal.returns-clause-objects
returns-clause-objects c = rows_of_limits-objects

pub returns-clause-arrays : goal.returns-clause-arrays
returns-clause-arrays c = rows_of_limits-arrays

pub returns-clause-growths : goal.returns-clause-growths
returns-clause-growths c = rows_of_limits-growths

pub returns-clause-frames : goal.returns-clause-frames
returns-clause-frames c = rows_of_limits-frames

pub returns-clause-past_the_end : goal.returns-clause-past_the_end
returns-clause-past_the_end c = rows_of_limits-past_the_end

pub returns-clause-through_null : goal.returns-clause-through_null
returns-clause-through_null c = rows_of_limits-through_null
