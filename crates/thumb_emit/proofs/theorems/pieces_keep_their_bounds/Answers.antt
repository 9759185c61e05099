use Rattle.thumb_emit.proofs.Within.{op_takes, op_fills, entry_takes, entry_fills, function_fills, op_some, entry_some}
use Rattle.thumb_emit.proofs.theorems.pieces_keep_their_bounds.Goals as goal

pub returns-clause-instructions : goal.returns-clause-instructions
returns-clause-instructions c = op_takes

pub returns-clause-bytes : goal.returns-clause-bytes
returns-clause-bytes c = op_fills

pub returns-clause-entry_instructions : goal.returns-clause-entry_instructions
returns-clause-entry_instructions c = entry_takes

pub returns-clause-entry_bytes : goal.returns-clause-entry_bytes
returns-clause-entry_bytes c = entry_fills

pub returns-clause-function_bytes : goal.returns-clause-function_bytes
returns-clause-function_bytes c = function_fills

pub returns-clause-some : goal.returns-clause-some
returns-clause-some c = op_some

pub returns-clause-some_at_entry : goal.returns-clause-some_at_entry
returns-clause-some_at_entry c = entry_some
