use Rattle.std.proofs.Common.{arith}
use Rattle.around_place.proofs.Open.{counted-next, counted-end}
use Rattle.around_place.proofs.brackets.open_count.Goals as goal

pub loop-word-preserved : goal.loop-word-preserved
loop-word-preserved c = (
  counted-next _ c.loop-word.rest.now c.in-Some.word.now c.in-Some.after.now c.loop-word.count _ c.loop-word.invariant.0 c.in-Some.ensures.some c.open_behind-count.ensures.count,
  omega (arith, c.loop-word.invariant.1, c.in-Some.ensures.shorter, c.open_behind-count.ensures.most),
)

pub returns : goal.returns
returns c = counted-end _ c.loop-word.rest.now c.loop-word.count c.loop-word.invariant.0 c.in_default.ensures.none
