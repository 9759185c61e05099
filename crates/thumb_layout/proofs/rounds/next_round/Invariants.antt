use Rattle.thumb_layout.specs.Layout.{chunks, label_at}
use Rattle.thumb_layout.proofs.Growing.{RoundLoop}
use Rattle.thumb_layout.proofs.rounds.next_round.Given as goal

abbrev pub invariant-loop-index : goal.invariant-loop-index
invariant-loop-index l = RoundLoop (label_at l.pieces (chunks l.pieces l.forms)) l.pieces (chunks l.pieces l.forms) l.forms l.index l.longer.items l.grown
