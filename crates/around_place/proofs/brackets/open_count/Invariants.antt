use Rattle.std.proofs.Common.{◌≤◌, ◌+◌, length}
use Rattle.around_place.proofs.Open.{Counted}
use Rattle.around_place.proofs.brackets.open_count.Given as goal

abbrev pub invariant-loop-word : goal.invariant-loop-word
invariant-loop-word l = Counted l.fn.text l.rest l.count × (l.count + length l.rest ≤ length l.fn.text)

abbrev pub decreases-loop-word : goal.decreases-loop-word
decreases-loop-word l = length l.rest
