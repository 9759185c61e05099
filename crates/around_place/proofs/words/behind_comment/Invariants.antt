use Rattle.std.proofs.Common.{◌≡◌, ◌≤◌, length, false}
use Rattle.around_place.specs.Words as spec
use Rattle.around_place.proofs.words.behind_comment.Given as goal

abbrev pub invariant-loop-rest : goal.invariant-loop-rest
invariant-loop-rest l = (spec.behind_comment l.starred l.rest ≡ spec.behind_comment false l.fn.text) × (length l.rest ≤ length l.fn.text)

abbrev pub decreases-loop-rest : goal.decreases-loop-rest
decreases-loop-rest l = length l.rest
