use Rattle.std.proofs.Common.{◌≡◌, ◌-◌, ◌++◌}
use Rattle.register_assign.specs.Sound.{place_of}
use Rattle.thumb_emit.specs.Emit.{moves_pieces}
use Rattle.thumb_emit.proofs.entry.move_parameters.Given as goal

abbrev pub invariant-loop-t : goal.invariant-loop-t
invariant-loop-t l =
    l.out ++ moves_pieces l.placed.function (place_of l.placed.places) l.t (l.placed.function.params - l.t)
    ≡ l.fn.out ++ moves_pieces l.placed.function (place_of l.placed.places) 0 l.placed.function.params
