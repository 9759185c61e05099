use Rattle.std.proofs.Common.{◌≡◌, ◌++◌, take}
use Rattle.std.specs.List.{flat_map}
use Rattle.view_forms.specs.Parts.{line_lead}
use Rattle.view_forms.specs.Pictures.{at_right}
use Rattle.transcript_view.proofs.pictures.push_moments.Given as goal

abbrev pub invariant-loop-line : goal.invariant-loop-line
invariant-loop-line l = l.out.items ≡ l.fn.out.items ++ flat_map (λ line. at_right (line_lead line.now)) (take l.line-index l.lines)
