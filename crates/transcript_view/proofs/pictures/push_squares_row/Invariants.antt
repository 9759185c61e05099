use Rattle.std.proofs.Common.{◌≡◌, ◌++◌, take}
use Rattle.std.specs.List.{flat_map}
use Rattle.view_forms.specs.Pictures.{squares_cell}
use Rattle.transcript_view.proofs.pictures.push_squares_row.Given as goal

abbrev pub invariant-loop-line : goal.invariant-loop-line
invariant-loop-line l = l.out.items ≡ l.fn.out.items ++ flat_map (λ line. squares_cell l.r line.now) (take l.line-index l.lines)
