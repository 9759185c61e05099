use Rattle.transcript_view.proofs.Cuts.{spaces-left}
use Rattle.transcript_view.proofs.pictures.spaces_before.Goals as goal

pub returns : goal.returns
returns c = rw c.min.ensures (spaces-left c.args.length)
