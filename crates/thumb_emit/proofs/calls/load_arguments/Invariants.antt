use Rattle.std.proofs.Common.{◌≡◌, ◌++◌, drop}
use Rattle.register_assign.specs.Sound.{place_of}
use Rattle.thumb_emit.specs.Emit.{loads}
use Rattle.thumb_emit.proofs.calls.load_arguments.Given as goal

abbrev pub invariant-loop-at : goal.invariant-loop-at
invariant-loop-at l = l.out ++ loads l.placed.function (place_of l.placed.places) l.at (drop l.at l.args) ≡ l.fn.out ++ loads l.placed.function (place_of l.placed.places) 0 l.args
