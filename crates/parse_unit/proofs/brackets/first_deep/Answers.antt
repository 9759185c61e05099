use Rattle.sts_lexer.specs.declared.token.TokenKind.TheVariants.{Num}
use Rattle.std.specs.Prelude.{pos, false}
use Rattle.parse_unit.proofs.OpenBrackets.{at_first, first_many, still_few, all_few}
use Rattle.parse_unit.proofs.brackets.first_deep.Goals as goal

pub loop-token-init : goal.loop-token-init
loop-token-init c = at_first c.args.tokens.now

pub open_behind-count-requires : goal.open_behind-count-requires
open_behind-count-requires c = c.loop-token.invariant.small

pub returns-then-count-gt-MOST_OPEN-clause-some : goal.returns-then-count-gt-MOST_OPEN-clause-some
returns-then-count-gt-MOST_OPEN-clause-some c =
    first_many c.args.tokens.now c.as_slice-token-items.result.now c.loop-token.count c.open_behind-count.result c.loop-token.token-index
    (record { kind = Num (pos 0); span = record { from = 0; upto = 0 }; broken = false })
    c.as_slice-token-items.ensures c.loop-token.invariant c.loop-token-test.true c.open_behind-count.ensures c.if-count-gt-MOST_OPEN.true

pub loop-token-preserved : goal.loop-token-preserved
loop-token-preserved c =
    still_few c.args.tokens.now c.as_slice-token-items.result.now c.loop-token.count c.open_behind-count.result c.loop-token.token-index
    (record { kind = Num (pos 0); span = record { from = 0; upto = 0 }; broken = false })
    c.as_slice-token-items.ensures c.loop-token.invariant c.loop-token-test.true c.open_behind-count.ensures c.if-count-gt-MOST_OPEN.false

pub returns-clause-none : goal.returns-clause-none
returns-clause-none c = all_few c.args.tokens.now c.as_slice-token-items.result.now c.loop-token.count c.loop-token.token-index c.as_slice-token-items.ensures c.loop-token.invariant c.loop-token-test.false
