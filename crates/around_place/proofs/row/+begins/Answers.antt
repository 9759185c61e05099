use Rattle.std.proofs.Common.{refl, arith}
use Rattle.around_place.proofs.Beginning.{begins-empty, begins-more, begins-other, begins-blank, cons-of}
use Rattle.around_place.proofs.row.+begins.Goals as goal

pub returns-else-not-whole : goal.returns-else-not-whole
returns-else-not-whole t c = begins-empty c.args.tests.now c.args.whole c.args.text.now c.is_blank.result (omega arith) c.if-not-whole.false c.is_blank.ensures

pub returns-then-holds : goal.returns-then-holds
returns-then-holds t c =
    begins-more c.args.tests.now _ _ c.args.whole c.args.text.now c.in-Some.word.now c.in-Some.after.now c.begins.result (cons-of _ c.args.tests.now (omega arith)) c.in-Some.ensures.some
    (c.if-holds.ensures.0 refl) c.begins.ensures

pub returns-else-holds : goal.returns-else-holds
returns-else-holds t c =
    begins-other c.args.tests.now _ _ c.args.whole c.args.text.now c.in-Some.word.now c.in-Some.after.now c.holds.result (cons-of _ c.args.tests.now (omega arith)) c.in-Some.ensures.some
    c.if-holds.false (λ h. cc (c.if-holds.ensures.1 h))

pub returns-in-None : goal.returns-in-None
returns-in-None t c = begins-blank c.args.tests.now c.args.whole c.args.text.now (omega arith) c.in-None.ensures.none
