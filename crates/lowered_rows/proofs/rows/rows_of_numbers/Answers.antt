use Rattle.lowered_rows.proofs.Computed.{rows_of_numbers-division, rows_of_numbers-bits, rows_of_numbers-names, rows_of_numbers-unset}
use Rattle.lowered_rows.proofs.rows.rows_of_numbers.Goals as goal

pub returns-clause-division : goal.returns-clause-division
returns-clause-division c = rows_of_numbers-division

pub returns-clause-bits : goal.returns-clause-bits
returns-clause-bits c = rows_of_numbers-bits

pub returns-clause-names : goal.returns-clause-names
returns-clause-names c = rows_of_numbers-names

pub returns-clause-unset : goal.returns-clause-unset
returns-clause-unset c = rows_of_numbers-unset
