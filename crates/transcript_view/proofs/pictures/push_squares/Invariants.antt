use Rattle.std.proofs.Common.{◌≡◌, ◌++◌, take}
use Rattle.std.specs.List.{flat_map}
use Rattle.view_forms.specs.Pictures.{squares}
use Rattle.transcript_view.proofs.pictures.push_squares.Given as goal

abbrev pub invariant-loop-light : goal.invariant-loop-light
invariant-loop-light l = l.out.items ≡ l.fn.out.items ++ flat_map squares (take l.light-index l.lights)
