use Rattle.std.proofs.Common.{◌≡◌, ◌<◌, ◌∙◌, sym, ap, length, arith, rules}
use Rattle.std.specs.Prelude.{Some}
use Rattle.sts_syntax.specs.declared.board_rows.BoardConstant.TheVariants.{ButtonA}
use Rattle.sts_syntax.specs.declared.board_rows.TheConstants.{CONSTANTS}
use Rattle.sts_syntax.specs.BoardTable.{constant_named}
use Rattle.sts_syntax.proofs.BoardLookup.{first_constant, further_constant}
use Rattle.sts_syntax.proofs.board_rows.board_constant.Goals as goal

pub returns-then-is_constant : goal.returns-then-is_constant
returns-then-is_constant c =
    let at = c.loop-constant.constant-index in
    let lt : at < length CONSTANTS = omega arith in
    let found : Some c.value.result ≡ constant_named c.args.space.now c.args.name.now = ap Some c.value.ensures
    ∙ sym (first_constant CONSTANTS at ButtonA c.args.space.now c.args.name.now lt (sym c.is_constant.ensures ∙ c.if-is_constant.true)) ∙ c.loop-constant.invariant in
    search (rules, found)

pub loop-constant-preserved : goal.loop-constant-preserved
loop-constant-preserved c =
    let at = c.loop-constant.constant-index in
    let lt : at < length CONSTANTS = omega arith in
    sym (further_constant CONSTANTS at ButtonA c.args.space.now c.args.name.now lt (sym c.is_constant.ensures ∙ c.if-is_constant.false)) ∙ c.loop-constant.invariant
