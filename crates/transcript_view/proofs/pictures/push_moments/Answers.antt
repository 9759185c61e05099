use Rattle.std.proofs.Common.{arith}
use Rattle.transcript_view.proofs.Pieces.{all-pieces}
use Rattle.view_forms.specs.Parts.{line_lead}
use Rattle.view_forms.specs.Pictures.{at_right}
use Rattle.transcript_view.proofs.pictures.push_moments.Goals as goal

pub returns : goal.returns
returns c = all-pieces (λ line. line.now) (λ line. at_right (line_lead line)) c.args.out.now.items c.loop-line.out.items c.args.lines.now c.loop-line.line-index (omega arith) c.loop-line.invariant
