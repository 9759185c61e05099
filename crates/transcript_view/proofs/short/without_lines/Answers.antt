use Rattle.std.proofs.Common.{◌∙◌, sym, arith}
use Rattle.view_forms.specs.Parts.{lines_in}
use Rattle.transcript_view.proofs.Fewer.{some-left, next-rest}
use Rattle.transcript_view.proofs.short.without_lines.Goals as goal

pub first_line-requires : goal.first_line-requires
first_line-requires c = some-left c.loop.left.now c.loop.counter (lines_in c.args.text.now) c.loop.invariant (omega (arith, c.loop-test.true, c.requires))

pub loop-preserved : goal.loop-preserved
loop-preserved c = next-rest c.loop.counter (lines_in c.args.text.now) c.first_line.result.0.now (lines_in c.first_line.result.1.now) (sym c.loop.invariant ∙ c.first_line.ensures.parts)
