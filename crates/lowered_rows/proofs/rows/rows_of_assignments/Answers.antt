use Rattle.lowered_rows.proofs.Computed.{rows_of_assignments-item, rows_of_assignments-item_at_store, rows_of_assignments-item_at_read, rows_of_assignments-item_at_both, rows_of_assignments-field_at_store, rows_of_assignments-field_at_read}
use Rattle.lowered_rows.proofs.rows.rows_of_assignments.Goals as goal

pub returns-clause-item : goal.returns-clause-item
returns-clause-item c = rows_of_assignments-item

pub returns-clause-item_at_store : goal.returns-clause-item_at_store
returns-clause-item_at_store c = rows_of_assignments-item_at_store

pub returns-clause-item_at_read : goal.returns-clause-item_at_read
returns-clause-item_at_read c = rows_of_assignments-item_at_read

pub returns-clause-item_at_both : goal.returns-clause-item_at_both
returns-clause-item_at_both c = rows_of_assignments-item_at_both

pub returns-clause-field_at_store : goal.returns-clause-field_at_store
returns-clause-field_at_store c = rows_of_assignments-field_at_store

pub returns-clause-field_at_read : goal.returns-clause-field_at_read
returns-clause-field_at_read c = rows_of_assignments-field_at_read
