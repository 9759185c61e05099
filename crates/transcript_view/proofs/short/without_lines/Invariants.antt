use Rattle.std.proofs.Common.{◌≡◌, drop}
use Rattle.view_forms.specs.Parts.{lines_in}
use Rattle.transcript_view.proofs.short.without_lines.Given as goal

abbrev pub invariant-loop : goal.invariant-loop
invariant-loop l = lines_in l.left ≡ drop l.counter (lines_in l.text)
