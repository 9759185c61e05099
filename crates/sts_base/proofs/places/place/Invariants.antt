use Rattle.sts_base.proofs.Lines.{Kept}
use Rattle.sts_base.proofs.places.place.Given as goal

abbrev pub invariant-loop-here : goal.invariant-loop-here
invariant-loop-here l = Kept l.text l.line l.start l.here
