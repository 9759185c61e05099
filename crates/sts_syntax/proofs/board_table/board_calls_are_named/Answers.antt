use Rattle.std.proofs.Common.{refl}
use Rattle.sts_syntax.proofs.BoardNames.{call_is_found}
use Rattle.sts_syntax.proofs.board_table.board_calls_are_named.Goals as goal

pub returns-clause-calls : goal.returns-clause-calls
returns-clause-calls c = call_is_found

pub returns-clause-constants : goal.returns-clause-constants
returns-clause-constants c = refl
