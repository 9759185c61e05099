use Rattle.std.proofs.Common.{rules, refl}
use Rattle.board_outside.proofs.Texts.{digits-all, digits-more}
use Rattle.board_outside.proofs.lines.write_digits.Goals as goal

pub loop-i-init : goal.loop-i-init
loop-i-init c = refl

pub loop-i-preserved : goal.loop-i-preserved
loop-i-preserved c =
    digits-more c.loop-i.digits c.args.bytes.now c.loop-i.i _ _ _ (search rules) (search rules) (search rules) c.hex_digit.ensures c.hex_digit-in-loop-i.ensures c.loop-i.invariant

pub returns : goal.returns
returns c = digits-all c.loop-i.digits c.args.bytes.now c.loop-i.i (search rules) c.loop-i.invariant
