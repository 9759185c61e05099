use Rattle.std.proofs.Common.{arith}
use Rattle.transcript_view.proofs.Pieces.{all-pieces}
use Rattle.view_forms.specs.Pictures.{squares_cell}
use Rattle.transcript_view.proofs.pictures.push_squares_row.Goals as goal

pub returns : goal.returns
returns c = all-pieces (λ line. line.now) (squares_cell c.args.r) c.args.out.now.items c.loop-line.out.items c.args.lines.now c.loop-line.line-index (omega arith) c.loop-line.invariant
