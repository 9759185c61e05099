use Rattle.std.proofs.Common.{◌*◌, ◌-◌, length}
use Rattle.thumb_layout.specs.Rounds.{total}
use Rattle.thumb_layout.proofs.Growing.{Settling}
use Rattle.thumb_layout.proofs.rounds.settle.Given as goal

abbrev pub invariant-loop-forms : goal.invariant-loop-forms
invariant-loop-forms l = Settling l.pieces l.forms.items

abbrev pub decreases-loop-forms : goal.decreases-loop-forms
decreases-loop-forms l = 2 * length l.pieces - total l.forms.items
