use Rattle.thumb_emit.proofs.Naming.{function_named, function_called}
use Rattle.thumb_emit.proofs.theorems.pieces_name_what_ops_name.Goals as goal

pub returns-clause-named : goal.returns-clause-named
returns-clause-named c = function_named

pub returns-clause-called : goal.returns-clause-called
returns-clause-called c = function_called
