use Rattle.std.proofs.Common.{◌≡◌, drop}
use Rattle.view_forms.specs.Below.{explanation_of}
use Rattle.transcript_view.proofs.below.explanation_of.Given as goal

abbrev pub invariant-loop-it : goal.invariant-loop-it
invariant-loop-it l = explanation_of (drop l.it-index l.below) l.line ≡ explanation_of l.below l.line
