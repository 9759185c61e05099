use Rattle.std.proofs.Common.{◌≡◌, ◌+◌, ◌≤◌, [], length, get_or, take, drop}
use Rattle.view_forms.specs.Parts.{lines_in}
use Rattle.view_forms.specs.Short.{moments, moments_from}
use Rattle.transcript_view.proofs.short.first_moment.Given as goal

abbrev pub invariant-loop-first : goal.invariant-loop-first
invariant-loop-first l = record {
  moment : moments (lines_in l.text) ≡ moments_from (take l.count (lines_in l.text)) (lines_in l.left);
  rest : lines_in l.left ≡ drop l.count (lines_in l.text);
  within : l.count ≤ length (lines_in l.text);
  first : get_or (lines_in l.text) 0 [] ≡ l.first;
  some : 1 ≤ l.count;
  small : l.count + length l.left ≤ length l.text;
}

abbrev pub decreases-loop-first : goal.decreases-loop-first
decreases-loop-first l = length l.left
