use Rattle.std.proofs.Common.{◌<◌, ◌∙◌, sym, length, arith}
use Rattle.sts_syntax.specs.declared.board_calls.BoardCall.TheVariants.{Pause}
use Rattle.sts_syntax.specs.declared.board_rows.TheConstants.{CALLS}
use Rattle.sts_syntax.proofs.BoardLookup.{first_call, further_call}
use Rattle.sts_syntax.proofs.board_rows.board_call.Goals as goal

pub returns-then-is_call : goal.returns-then-is_call
returns-then-is_call c =
    let at = c.loop-call.call-index in
    let lt : at < length CALLS = omega arith in
    sym (first_call CALLS at Pause c.args.space.now c.args.name.now lt (sym c.is_call.ensures ∙ c.if-is_call.true)) ∙ c.loop-call.invariant

pub loop-call-preserved : goal.loop-call-preserved
loop-call-preserved c =
    let at = c.loop-call.call-index in
    let lt : at < length CALLS = omega arith in
    sym (further_call CALLS at Pause c.args.space.now c.args.name.now lt (sym c.is_call.ensures ∙ c.if-is_call.false)) ∙ c.loop-call.invariant
