use Rattle.std.proofs.Common.{◌≡◌, ◌++◌, drop}
use Rattle.sts_scope.specs.Scopes as scope
use Rattle.text_headings.specs.Lists.{is_one}
use Rattle.text_headings.proofs.resolution.names_of.Given as goal

abbrev pub invariant-loop-i : goal.invariant-loop-i
invariant-loop-i l = l.names ++ scope.names_of (is_one l.which) (drop l.i l.entries) ≡ scope.names_of (is_one l.which) l.entries
