use Rattle.std.proofs.Common.{◌≡◌, drop}
use Rattle.sts_syntax.specs.BoardTable.{call_among, call_named}
use Rattle.sts_syntax.proofs.board_rows.board_call.Given as goal

abbrev pub invariant-loop-call : goal.invariant-loop-call
invariant-loop-call l = call_among (drop l.call-index l.call-items) l.space l.name ≡ call_named l.space l.name
