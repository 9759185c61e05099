use Rattle.std.proofs.Common.{◌++◌, ◌∷◌, [], arith}
use Rattle.sts_lexer.proofs.Gaps.{gap_more}
use Rattle.sts_lexer.proofs.spaces.gap_end.Goals as goal

pub loop-at-preserved : goal.loop-at-preserved
loop-at-preserved c =
    let here = c.in-Some.ensures in
    let gap = c.loop-at.invariant.2 in (
      omega (arith, here.within.0, c.loop-at.invariant.0),
      here.within.1,
      (gap.0 ++ c.in-Some.end ∷ [], gap_more c.args.text.now c.args.from c.loop-at.at c.in-Some.end gap.0 gap.1 here.some),
    )
