use Rattle.std.proofs.Common.{◌≤◌, ◌+◌, length}
use Rattle.std.specs.Option.{option_map}
use Rattle.around_place.proofs.Open.{Found}
use Rattle.around_place.proofs.brackets.innermost.Given as goal

abbrev pub invariant-loop-word : goal.invariant-loop-word
invariant-loop-word l = Found l.fn.text l.rest l.all l.count (option_map (λ rest. rest.now) l.found) × (l.count + length l.rest ≤ length l.fn.text)

abbrev pub decreases-loop-word : goal.decreases-loop-word
decreases-loop-word l = length l.rest
